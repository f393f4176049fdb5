use Rattle.std.proofs.Common.{sym, ◌∙◌, string_bytes}
use Rattle.wulameron_view.proofs.Columns.{no_part}
use Rattle.wulameron_view.proofs.table.write_red.Goals as goal

pub returns-then-is_empty : goal.returns-then-is_empty
returns-then-is_empty c = no_part c.args.is_red (string_bytes c.args.text.now) c.args.part.now (sym c.is_empty.ensures ∙ c.if-is_empty.true)
