use Rattle.iceoryx2_access.specs.Run.{Run}
use Rattle.iceoryx2_rounds.specs.Segments.{clearings}
use Rattle.iceoryx2_rounds.proofs.create.make_own_segment.Given as goal

abbrev pub invariant-loop-removed : goal.invariant-loop-removed
invariant-loop-removed g l = Run g.S.Storage.step l.fn.storage (clearings l.node l.hash l.number l.max_nodes l._removed) l.storage
