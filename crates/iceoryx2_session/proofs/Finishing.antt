-- Slot after slot is closed, by the steps of any storage.
use Rattle.std.proofs.Common.{◌≡◌, ℕ, zero, suc, ◌+◌, ◌<◌, ◌≤◌, List, [], ◌∷◌, ◌++◌, Option, Some, None, length, take, refl, sym, ap, subst, ◌∙◌, arith}
use Rattle.std.specs.Prelude.{slice_get, slice_set}
use Rattle.iceoryx2_access.specs.Letter.{Letter}
use Rattle.iceoryx2_access.specs.Run.{done}
use Rattle.iceoryx2_access.proofs.Run.{one, both}
use Rattle.iceoryx2_access.specs.Registered.{Registered}
use Rattle.iceoryx2_builder.specs.Commands.{slot_count}
use Rattle.iceoryx2_session.specs.Sessions.{ClosesSlotBy, ClosesSlotsBy}

-- the first k slots are closed, the others are as they were
pub record Finishing {S : Type 0} (step : S → Letter → S → Type 0) (from : S) (slots : List (Option Registered)) (k : ℕ) (w : S) (now : List (Option Registered)) : Type 0 where
  pub so_far : ClosesSlotsBy step from (take k slots) w
  pub others : (j : ℕ) → k ≤ j → slice_get now j ≡ slice_get slots j
  pub long : length now ≡ length slots

pub begins : {S : Type 0} (step : S → Letter → S → Type 0) (w : S) (slots : List (Option Registered)) → Finishing step w slots 0 w slots
begins step w slots = record { so_far = done; others = λ j h. refl; long = refl }

take_next : {X : Type 0} (xs : List X) (k : ℕ) (x : X) → slice_get xs k ≡ Some x → take (suc k) xs ≡ take k xs ++ x ∷ []
take_next [] k x e = absurd cc
take_next (y ∷ xs) zero x e = let is : y ≡ x = cc in ap (λ u. u ∷ []) is
take_next {X} (y ∷ xs) (suc k) x e = ap (λ (l : List X). y ∷ l) (take_next xs k x e)

elsewhere : {X : Type 0} (xs : List X) (i j : ℕ) (v : X) → i < j → slice_get (slice_set xs i v) j ≡ slice_get xs j
elsewhere [] i j v h = refl
elsewhere (y ∷ xs) zero zero v h = absurd (omega (arith, h))
elsewhere (y ∷ xs) zero (suc j) v h = refl
elsewhere (y ∷ xs) (suc i) zero v h = absurd (omega (arith, h))
elsewhere (y ∷ xs) (suc i) (suc j) v h = elsewhere xs i j v (omega (arith, h))

length_set : {X : Type 0} (xs : List X) (i : ℕ) (v : X) → length (slice_set xs i v) ≡ length xs
length_set [] i v = refl
length_set (y ∷ xs) zero v = refl
length_set (y ∷ xs) (suc i) v = ap suc (length_set xs i v)

take_all : {X : Type 0} (xs : List X) (n : ℕ) → length xs ≡ n → take n xs ≡ xs
take_all [] zero e = refl
take_all [] (suc n) e = refl
take_all (y ∷ xs) zero e = absurd (omega (arith, e))
take_all {X} (y ∷ xs) (suc n) e = ap (λ (l : List X). y ∷ l) (take_all xs n (omega (arith, e)))

pub goes_on : {S : Type 0} (step : S → Letter → S → Type 0) (u v w : S) (slots now after : List (Option Registered)) (k : ℕ) → Finishing step u slots k v now
    → ClosesSlotBy step v now k w → after ≡ slice_set now k None → Finishing step u slots (k + 1) w after
goes_on step u v w slots now after k f closed is =
    let here : slice_get slots k ≡ Some closed.0 = sym (f.others k (omega arith)) ∙ closed.1 in
    let n : k + 1 ≡ suc k = omega arith in
    record {
      so_far = subst (λ m. ClosesSlotsBy step u (take m slots) w) (sym n) (subst (λ (l : List (Option Registered)). ClosesSlotsBy step u l w) (sym (take_next slots k closed.0 here)) (both f.so_far (one closed.2)));
      others = λ j h. ap (λ (l : List (Option Registered)). slice_get l j) is ∙ elsewhere now k j None (omega (arith, h)) ∙ f.others j (omega (arith, h));
      long = ap (λ (l : List (Option Registered)). length l) is ∙ length_set now k None ∙ f.long;
    }

pub finished : {S : Type 0} (step : S → Letter → S → Type 0) (u w : S) (slots now : List (Option Registered)) (k : ℕ) → Finishing step u slots k w now → k ≡ slot_count
    → length now ≡ slot_count → ClosesSlotsBy step u slots w
finished step u w slots now k f all long = subst (λ (l : List (Option Registered)). ClosesSlotsBy step u l w) (ap (λ m. take m slots) all ∙ take_all slots slot_count (sym f.long ∙ long)) f.so_far
