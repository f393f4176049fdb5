use Rattle.std.proofs.Common.{ap, sym, ◌∙◌, nat_eq}
use Rattle.std.specs.List.{starts_with}
use Rattle.iceoryx2_postgres_log.proofs.Told.{told_more, rows_more}
use Rattle.iceoryx2_postgres_log.proofs.reply.read_reply.Goals as goal

pub loop-round-preserved : goal.loop-round-preserved
loop-round-preserved g c =
    let old = c.loop-round.rows.items in
    record {
      bytes = told_more _ _ _ old c.push.new.self.items c.in_ok-line.line c.loop-round.invariant.bytes c.in_ok-line.ensures.all c.in-Ok.ensures.items;
      rows = rows_more c.args.mark.now old c.push.new.self.items c.in_ok-line.line c.loop-round.invariant.rows c.in_ok-line.ensures.one
          (ap (λ l. starts_with nat_eq l c.args.mark.now) (sym c.as_slice.ensures) ∙ sym c.starts_with.ensures.value ∙ c.if-starts_with.false)
          c.in-Ok.ensures.items;
    }
