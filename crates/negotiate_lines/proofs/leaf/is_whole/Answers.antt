use Rattle.std.proofs.Common.{◌∙◌, sym}
use Rattle.negotiate_lines.proofs.LeavesWhole.{one_more, none_more, at_end}
use Rattle.negotiate_lines.proofs.leaf.is_whole.Goals as goal

pub returns-in-None : goal.returns-in-None
returns-in-None c =
    sym (c.loop-byte.invariant ∙ none_more c.args.leaf.now _ _ c.loop-byte-test.true c.in-None.ensures)

pub loop-byte-preserved : goal.loop-byte-preserved
loop-byte-preserved c =
    c.loop-byte.invariant ∙ one_more c.args.leaf.now _ _ _ c.loop-byte-test.true c.in-Some.ensures

pub returns : goal.returns
returns c = sym (c.loop-byte.invariant ∙ at_end c.args.leaf.now _ _ c.loop-byte-test.false)
