use Rattle.std.proofs.Common.{[], map}
use Rattle.negotiate_lines.proofs.wrong_text.nearest_setting.Goals as goal

pub returns : goal.returns
returns c =
    let names = map (λ row. row.0.now) c.args.settings.now in
    c.nearer_if-2.ensures _ (c.in_ok-found-3.ensures _ (c.in_ok-found-2.ensures names (c.in_ok-found.ensures [] tt)))
