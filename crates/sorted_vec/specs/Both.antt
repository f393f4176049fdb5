-- Two maps, walked side by side.
use Rattle.std.specs.Prelude.{◌≡◌, T, List, [], ◌∷◌, Option, Some, None}
use Rattle.std.specs.Borrow.{Bor}
use Rattle.std.specs.Option.{option_copied}
use Rattle.std.specs.FinMap as map
use Rattle.std.specs.FinMap.{FinMap}
use Rattle.std.specs.FinMap.Entries.{find, is_sorted}
use Rattle.std.specs.Ordering.{match_ordering}
use Rattle.std.specs.declared.cmp.Ordering.{Ordering}

-- an entry that was read, before those that are left
abbrev pub ahead : {E : Type 0} → Option E → List E → List E
ahead None es = es
ahead (Some e) es = e ∷ es

-- what an item of the walk shows
abbrev pub shown : {K V W : Type 0} → (Bor K × Option (Bor V) × Option (Bor W)) → K × (Option V × Option W)
shown x = (x.0.now, (option_copied x.1, option_copied x.2))

-- what two maps have at a key, where one has it
abbrev pub pair_at : {V W : Type 0} → Option V → Option W → Option (Option V × Option W)
pair_at None None = None
pair_at None (Some w) = Some (None, Some w)
pair_at (Some v) w = Some (Some v, w)

-- The entries of two lists by key: the lesser key goes first, and equal ones go together.
unfoldable pub both : {K V W : Type 0} → (K → K → Ordering) → List (K × V) → List (K × W)
    → List (K × (Option V × Option W))
both R [] [] = []
both R [] (w ∷ ws) = (w.0, (None, Some w.1)) ∷ both R [] ws
both R (v ∷ vs) [] = (v.0, (Some v.1, None)) ∷ both R vs []
both R (v ∷ vs) (w ∷ ws) =
    match_ordering (R v.0 w.0)
    ((v.0, (Some v.1, None)) ∷ both R vs (w ∷ ws))
    ((v.0, (Some v.1, Some w.1)) ∷ both R vs ws)
    ((w.0, (None, Some w.1)) ∷ both R (v ∷ vs) ws)

-- Each key of either map comes once, by rising key, with what both have at it, and no other key comes.
pub record IsBoth {K V W : Type 0} (R : K → K → Ordering) (m : FinMap R V) (n : FinMap R W)
    (es : List (K × (Option V × Option W))) : Type 0 where
  pub ascends : T (is_sorted R es)
  pub each : (k : K) → find R k es ≡ pair_at (map.get m k) (map.get n k)
