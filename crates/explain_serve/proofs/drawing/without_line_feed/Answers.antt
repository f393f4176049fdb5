use Rattle.std.proofs.Common.{None, arith}
use Rattle.std.proofs.lemmas.Str.Pattern.{strip_suffix_char}
use Rattle.explain_serve.proofs.LineFeeds.{without_none}
use Rattle.explain_serve.proofs.drawing.without_line_feed.Goals as goal

pub returns-in-None : goal.returns-in-None
returns-in-None c = without_none c.args.text.now (strip_suffix_char 10 c.args.text.now None c.in-None.ensures.cases (omega arith))
