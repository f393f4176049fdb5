-- What stands at a position.
use Rattle.std.proofs.Common.{◌≡◌, ◌≤◌, ℕ, List, length, subst, refl}
use Rattle.std.specs.Prelude.{◌↔◌, Result, Ok}
use Rattle.iceoryx2_log.specs.declared.entry.Entry.{Entry}
use Rattle.iceoryx2_log.specs.Form.{Begins}
use Rattle.iceoryx2_file_log.specs.declared.remainder.Front.{Front}
use Rattle.iceoryx2_file_log.specs.declared.remainder.Front.TheVariants.{Whole, Unfinished, Torn, Damaged}
use Rattle.iceoryx2_file_log.specs.Remainder.{IsTorn}
use Rattle.iceoryx2_file_log.specs.Place.{Place, left}
use Rattle.iceoryx2_file_log.specs.Handle.{IsFront}

abbrev given : {E : Type 0} → Front → Result Front E
given f = Ok f

-- what front_of promises where it answers
pub record Answered (E : Type 0) (bytes : List ℕ) (all : ℕ) (f : Front) : Type 0 where
  pub whole : (e : Entry) (count : ℕ) → f ≡ Whole e count → Begins bytes e count
  pub only : (e : Entry) (count : ℕ) → Begins bytes e count → f ≡ Whole e count
  pub torn : (given {E = E} f ≡ given Torn) ↔ (IsTorn bytes × (all ≤ length bytes))

not_whole : (e : Entry) (count : ℕ) → Damaged ≡ Whole e count → ⊥
not_whole e count same = absurd cc

front_here : (E : Type 0) (p : Place) (f : Front) → Answered E p.ahead (left p) f → (f ≡ Unfinished → ⊥) → IsFront f p
front_here E p (Whole e count) a more = a.whole e count refl
front_here E p Unfinished a more = absurd (more refl)
front_here E p Torn a more = a.torn.0 refl
front_here E p Damaged a more = λ e count b. not_whole e count (a.only e count b)

pub front_is : (E : Type 0) (p : Place) (bytes : List ℕ) (all : ℕ) (f : Front) → bytes ≡ p.ahead → all ≡ left p
    → Answered E bytes all f → (f ≡ Unfinished → ⊥) → IsFront f p
front_is E p bytes all f same rest a more =
    front_here E p f (subst (λ (xs : List ℕ). Answered E xs (left p) f) same (subst (λ (n : ℕ). Answered E bytes n f) rest a)) more
