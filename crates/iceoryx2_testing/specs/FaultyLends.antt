-- What a faulty storage ends as, where the storage inside is lent for writing.
use Rattle.std.specs.Borrow.{Lends, Fml, RattleType, MutBor}
use Rattle.iceoryx2_testing.specs.Faults.{FaultyState}
use Rattle.iceoryx2_testing.specs.contracts.script.faults.Faulty.{the_row}

-- once the borrow r ends, the storage inside is what was last written through r, and nothing else has changed
abbrev pub lends_inner : (S : RattleType) → MutBor (FaultyState S.Denot) → MutBor S.Denot → Fml
lends_inner S s r = Lends (the_row S) S s r (λ inner. record s.now { inner = inner })
