-- Lists of slots, where one of them changes.
use Rattle.std.proofs.Common.{◌≡◌, ◌≢◌, ◌<◌, ℕ, zero, suc, true, false, List, [], ◌∷◌, Option, Some, None, length, replicate, ◌⊎◌, inl, inr, refl, ap, subst, arith}
use Rattle.std.specs.Prelude.{is_some, slice_get, slice_set}
use Rattle.iceoryx2_access.specs.Registered.{Registered}
use Rattle.iceoryx2_session.specs.Slots.{FreeAt, HoldsAt, held_at}

is_value : {X : Type 0} (x y : X) (a b : Option X) → a ≡ Some x → b ≡ Some y → a ≡ b → x ≡ y
is_value x y a b e f g = cc

pub same_factory : (f g : Registered) → Some f ≡ Some g → f ≡ g
same_factory f g e = cc

pub no_factory : (f : Registered) → let free : Option Registered = None in free ≡ Some f → ⊥
no_factory f e = absurd cc

-- what a place holds after one was set
pub set_cases : {X : Type 0} (xs : List X) (i j : ℕ) (v x : X) → slice_get (slice_set xs i v) j ≡ Some x
    → ((j ≡ i) × (x ≡ v)) ⊎ ((j ≢ i) × (slice_get xs j ≡ Some x))
set_cases [] i j v x e = absurd cc
set_cases (y ∷ xs) zero zero v x e = inl (refl, cc)
set_cases (y ∷ xs) zero (suc j) v x e = inr ((λ k. omega (arith, k)), e)
set_cases (y ∷ xs) (suc i) zero v x e = inr ((λ k. omega (arith, k)), e)
set_cases (y ∷ xs) (suc i) (suc j) v x e = elim (set_cases xs i j v x e) [
  | inl p ↦ inl (ap suc p.0, p.1)
  | inr p ↦ inr ((λ k. p.0 (omega (arith, k))), p.1)
]

pub set_here : {X : Type 0} (xs : List X) (i : ℕ) (v x : X) → slice_get xs i ≡ Some x
    → slice_get (slice_set xs i v) i ≡ Some v
set_here [] i v x e = absurd cc
set_here (y ∷ xs) zero v x e = refl
set_here (y ∷ xs) (suc i) v x e = set_here xs i v x e

-- a slot that holds nothing, or isn't there, stays as it is where nothing is put into it
pub set_free : (slots : List (Option Registered)) (k : ℕ) → is_some (held_at slots k) ≡ false → slice_set slots k None ≡ slots
set_free [] k free = refl
set_free (None ∷ slots) zero free = refl
set_free (Some f ∷ slots) zero free = absurd cc
set_free (o ∷ slots) (suc k) free = ap (λ (l : List (Option Registered)). o ∷ l) (set_free slots k free)

-- one that holds something is there
pub held_below : (slots : List (Option Registered)) (k : ℕ) → is_some (held_at slots k) ≡ true → k < length slots
held_below [] k held = absurd cc
held_below (o ∷ slots) zero held = omega arith
held_below (o ∷ slots) (suc k) held = omega (arith, held_below slots k held)

pub set_there : {X : Type 0} (xs : List X) (i j : ℕ) (v : X) → j ≢ i
    → slice_get (slice_set xs i v) j ≡ slice_get xs j
set_there [] i j v d = refl
set_there (y ∷ xs) zero zero v d = absurd (d refl)
set_there (y ∷ xs) zero (suc j) v d = refl
set_there (y ∷ xs) (suc i) zero v d = refl
set_there (y ∷ xs) (suc i) (suc j) v d = set_there xs i j v (λ e. d (ap suc e))

-- a slot that holds a factory isn't free
pub not_free : (slots : List (Option Registered)) (k j : ℕ) (f : Registered) → FreeAt slots k → HoldsAt slots j f → j ≢ k
not_free slots k j f free at e =
    no_factory f (is_value None (Some f) (slice_get slots k) (slice_get slots k) free (subst (λ i. HoldsAt slots i f) e at) refl)

-- one slot holds one factory
pub same_slot : (slots : List (Option Registered)) (j k : ℕ) (f g : Registered) → HoldsAt slots j f → HoldsAt slots k g → j ≡ k → f ≡ g
same_slot slots j k f g at_f at_g e =
    same_factory f g (is_value (Some f) (Some g) (slice_get slots j) (slice_get slots k) at_f at_g (ap (λ i. slice_get slots i) e))

-- slots that are all free hold nothing
pub none_held : (n k : ℕ) (f : Registered) → let free : List (Option Registered) = replicate n None in HoldsAt free k f → ⊥
none_held zero k f at = absurd cc
none_held (suc n) zero f at = absurd cc
none_held (suc n) (suc k) f at = none_held n k f at
