use Rattle.std.proofs.Common.{sym, ◌∙◌}
use Rattle.iceoryx2_table.proofs.Views.{when_err}
use Rattle.iceoryx2_table.proofs.Changes.{read_starves, reads}
use Rattle.iceoryx2_table.proofs.services.Services.read.Goals as goal

pub returns-then-is_err : goal.returns-then-is_err
returns-then-is_err c =
    read_starves c.args.participant c.args.hash.now c.self.view_is c.position_of-position.ensures (sym c.begins.ensures ∙ c.if-not-begins.false) c.args.number c.requires
    (when_err c.reserve_at.result (sym c.is_err.ensures.value ∙ c.if-is_err.true) c.reserve_at.ensures.absent) c.reserve_at.ensures.same

pub returns : goal.returns
returns c = reads c.args.participant c.args.hash.now c.self.view_is c.position_of-position.ensures (sym c.begins.ensures ∙ c.if-not-begins.false) c.args.number c.requires c.insert_at.ensures.effect c.reserve_at.ensures.same
