use Rattle.std.proofs.Common.{◌≡◌, ◌∙◌, max, take, ap}
use Rattle.wulameron_view.specs.ListTexts.{cell_of}
use Rattle.wulameron_view.specs.Tables.{columns, width_of}
use Rattle.wulameron_view.proofs.Columns.{no_width, width_more}
use Rattle.wulameron_view.proofs.list_text.widest.Goals as goal

pub loop-line-init : goal.loop-line-init
loop-line-init c = no_width (cell_of c.args.column)

pub loop-line-preserved : goal.loop-line-preserved
loop-line-preserved c =
    let more = width_more (cell_of c.args.column) c.args.lines.now c.loop-line.line-index c.line-item.result c.loop-line-test.true c.line-item.is in
    let so_far = c.loop-line.invariant in
    let cell : c.columns.result ≡ columns (cell_of c.args.column c.line-item.result) = c.columns.ensures ∙ ap columns c.cell.ensures in
    c.max-widest.ensures ∙ ap (λ n. max n c.columns.result) so_far ∙ ap (λ n. max (width_of (cell_of c.args.column) (take c.loop-line.line-index c.args.lines.now)) n) cell ∙ more
