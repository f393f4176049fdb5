use Rattle.std.proofs.Common.{ℕ, List, Ok, Err, subst, string_bytes}
use Rattle.negotiate_serve.specs.Outputs.{Writes}
use Rattle.wulameron_trail.proofs.Shown.{line_shown, line_cut, line_unmade}
use Rattle.wulameron_trail.proofs.printing.show_entry.Goals as goal

pub returns-in-Ok-write_out : goal.returns-in-Ok-write_out
returns-in-Ok-write_out g c =
    let before = g.W.Write.contents c.args.output.now in
    let after = g.W.Write.contents c.write_out.new.output in
    line_shown g.P.Shows.shows c.args.entry.now c.args.shown.now c.show.new.self (string_bytes c.show.new.text) (string_bytes c.clear.new.self) before after
    c.clear.ensures.bytes c.in-Ok.ensures (subst (λ (l : List ℕ). Writes l (Ok tt) before after) c.as_bytes.ensures.value c.in-Ok-write_out.ensures)

pub returns-in-Err-write_out : goal.returns-in-Err-write_out
returns-in-Err-write_out g c =
    let before = g.W.Write.contents c.args.output.now in
    let after = g.W.Write.contents c.write_out.new.output in
    line_cut g.P.Shows.shows c.args.entry.now c.args.shown.now c.show.new.self (string_bytes c.show.new.text) (string_bytes c.clear.new.self) c.in-Err-write_out.fault before after
    c.clear.ensures.bytes c.in-Ok.ensures (subst (λ (l : List ℕ). Writes l (Err c.in-Err-write_out.fault) before after) c.as_bytes.ensures.value c.in-Err-write_out.ensures)

pub returns-in-Err : goal.returns-in-Err
returns-in-Err g c =
    line_unmade g.P.Shows.shows c.args.entry.now c.args.shown.now c.show.new.self c.in-Err.error c.stop_at.result (g.W.Write.contents c.args.output.now) c.stop_at.ensures
