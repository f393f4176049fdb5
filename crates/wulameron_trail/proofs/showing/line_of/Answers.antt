use Rattle.std.proofs.Common.{string_bytes}
use Rattle.wulameron_trail.proofs.Showings.{entry_line_shown}
use Rattle.wulameron_trail.proofs.showing.line_of.Goals as goal

pub returns : goal.returns
returns c =
    entry_line_shown c.args.place c.args.entry.now (string_bytes c.args.text.now) (string_bytes c.entry_line.new.text) c.entry_line.result c.entry_line.ensures
