use Rattle.std.proofs.Common.{inl, inr, refl}
use Rattle.iceoryx2_journal.proofs.follow.fetch.Goals as goal

pub returns-then-counts : goal.returns-then-counts
returns-then-counts c = inl refl

pub returns : goal.returns
returns c = inr (_, c.fetch.ensures)
