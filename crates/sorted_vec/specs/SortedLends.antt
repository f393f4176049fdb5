-- What a `SortedVec` ends as, where a `&mut` to one of its values is returned.
use Rattle.std.specs.Prelude.{◌≡◌, Bool, Option}
use Rattle.std.specs.Option.{OnSome}
use Rattle.std.specs.Borrow.{LendsSo, Fml, RattleType, MutBor}
use Rattle.std.specs.FinMap as map
use Rattle.std.specs.declared.cmp.Ordering.{Ordering}
use Rattle.sorted_vec.specs.Sorted.{Stored, map_of}
use Rattle.sorted_vec.specs.contracts.sorted.SortedVec.{the_row}

-- what a clause has as K.Ord
abbrev pub OrdMembers : Type 0 → Type 0
OrdMembers K = record { partial_cmp : K → K → Option Ordering; eq : K → K → Bool; cmp : K → K → Ordering }

module _ (K V : RattleType) (ord : OrdMembers K.Denot) (s : MutBor (Stored K.Denot V.Denot)) (key : K.Denot) where
  -- it, as the logic names its type
  abbrev pub map_row : RattleType
  map_row = the_row K V (record { cmp = ord.cmp }) (record { eq = ord.eq }) (record { partial_cmp = ord.partial_cmp })

  -- once the borrow r ends, the key has the last value written through r; at `None` the map stays as it is
  abbrev pub lends_get : Option (MutBor V.Denot) → Fml
  lends_get r = LendsSo map_row V s r
      (λ m v. OnSome r (map_of ord.cmp m ≡ map.insert (map_of ord.cmp s.now) key v))
      (λ m. map_of ord.cmp m ≡ map_of ord.cmp s.now)
