-- A function of participants that changes at one.
use Rattle.std.proofs.Common.{◌≡◌, ◌≢◌, ℕ, ◌+◌, ◌≤◌, Bool, true, false, cond, not, ◌||◌, ◌&&◌, Option, Some, ◌⊎◌, inl, inr, refl, sym, ap, subst, ◌∙◌, arith}
use mathlib.Core.Bool.{true≢false}
use Rattle.std.specs.Ordering.{eq_by_cmp, is_eq}
use Rattle.iceoryx2_world.specs.Sets as set
use Rattle.iceoryx2_world.specs.Steps.{alone}
use Rattle.std.specs.Cmp.{tied_itself, Equal-is}
use Rattle.iceoryx2_world.specs.declared.world.Participant.{Participant}
use Rattle.iceoryx2_world.specs.declared.world.Phase.{Phase}
use Rattle.iceoryx2_world.specs.declared.world.Phase.TheVariants as at
use Rattle.iceoryx2_description.specs.declared.description.ServiceHash.{ServiceHash}
use Rattle.iceoryx2_world.specs.declared.world.Row.{Row}
use Rattle.iceoryx2_world.specs.World.{Segment, is_last}
use Rattle.iceoryx2_world.specs.ServiceAgreement.{AgreesAt}
use Rattle.iceoryx2_world.specs.Orders.{participant_cmp, participant_total, participant_exact}

abbrev pub same : Participant → Participant → Bool
same q p = eq_by_cmp participant_cmp q p

-- the phases where p's is this now
unfoldable pub moved : (Participant → Phase) → Participant → Phase → Participant → Phase
moved f p x q = cond (same q p) x (f q)

pub same_is : (q p : Participant) → same q p ≡ true → q ≡ p
same_is q p e = participant_exact q p ((Equal-is (participant_cmp q p)).0 e)

pub same_self : (p : Participant) → same p p ≡ true
same_self p = ap is_eq (tied_itself participant_total p)

or_false : (b : Bool) → (b || false) ≡ b
or_false true = refl
or_false false = refl

or_true : (b : Bool) → (b || true) ≡ true
or_true true = refl
or_true false = refl

pub different : (q p : Participant) → same q p ≡ false → q ≢ p
different q p e is = true≢false (sym (subst (λ r. same r p ≡ true) (sym is) (same_self p)) ∙ e)

pub moved_here : (f : Participant → Phase) (p : Participant) (x : Phase) → moved f p x p ≡ x
unfolding moved
moved_here f p x = ap (λ b. cond b x (f p)) (same_self p)

-- either it is p, or its phase is as before
pub at_each : (f : Participant → Phase) (p : Participant) (x : Phase) (q : Participant) → ((q ≡ p) × (moved f p x q ≡ x)) ⊎ ((q ≢ p) × (moved f p x q ≡ f q))
unfolding moved
at_each f p x q = elim (same q p) as (λ b. same q p ≡ b → ((q ≡ p) × (cond b x (f q) ≡ x)) ⊎ ((q ≢ p) × (cond b x (f q) ≡ f q))) [
  | true ↦ λ e. inl (same_is q p e, refl)
  | false ↦ λ e. inr (λ is. different q p e is, refl)
] refl

pub contains_insert : (t : set.FinSet participant_cmp) (p q : Participant) → set.contains (set.insert t p) q ≡ true → (q ≡ p) ⊎ (set.contains t q ≡ true)
contains_insert t p q e = let here = sym (set.contains-insert participant_total t p q) ∙ e in
    elim (same q p) as (λ b. same q p ≡ b → (b || set.contains t q) ≡ true → (q ≡ p) ⊎ (set.contains t q ≡ true)) [
      | true ↦ λ i _. inl (same_is q p i)
      | false ↦ λ _ i. inr i
    ] refl here

pub contains_inserted : (t : set.FinSet participant_cmp) (p : Participant) → set.contains (set.insert t p) p ≡ true
contains_inserted t p = set.contains-insert participant_total t p p ∙ ap (λ b. b || set.contains t p) (same_self p)

pub contains_alone : (p q : Participant) → set.contains (alone p) q ≡ same q p
contains_alone p q = set.contains-insert participant_total set.empty p q ∙ ap (λ b. same q p || b) (set.contains-empty participant_cmp q) ∙ or_false (same q p)

pub contains_remove : (t : set.FinSet participant_cmp) (p q : Participant) → set.contains (set.remove t p) q ≡ true → (q ≢ p) × (set.contains t q ≡ true)
contains_remove t p q e = let here = sym (set.contains-remove participant_total t p q) ∙ e in
    elim (same q p) as (λ b. same q p ≡ b → (not b && set.contains t q) ≡ true → (q ≢ p) × (set.contains t q ≡ true)) [
      | true ↦ λ i j. absurd (true≢false (sym j))
      | false ↦ λ i j. (different q p i, j)
    ] refl here

pub len_alone : (p : Participant) → set.len (alone p) ≡ 1
len_alone p = set.len-insert participant_total set.empty p ∙ grind (arith, set.contains-empty participant_cmp p, set.len-empty participant_cmp)

pub len_insert_le : (t : set.FinSet participant_cmp) (p : Participant) → set.len (set.insert t p) ≤ set.len t + 1
len_insert_le t p = grind (arith, set.len-insert participant_total t p)

pub len_remove_le : (t : set.FinSet participant_cmp) (p : Participant) → set.len (set.remove t p) ≤ set.len t
len_remove_le t p = grind (arith, set.len-remove participant_total t p)

pub contains_insert_other : (t : set.FinSet participant_cmp) (p q : Participant) → set.contains t q ≡ true → set.contains (set.insert t p) q ≡ true
contains_insert_other t p q e = set.contains-insert participant_total t p q ∙ ap (λ b. same q p || b) e ∙ or_true (same q p)

pub contains_remove_other : (t : set.FinSet participant_cmp) (p q : Participant) → q ≢ p → set.contains t q ≡ true → set.contains (set.remove t p) q ≡ true
contains_remove_other t p q ne e = set.contains-remove participant_total t p q ∙ elim (same q p) as (λ b. same q p ≡ b → (not b && set.contains t q) ≡ true) [ true ↦ λ i. absurd (ne (same_is q p i)) | false ↦ λ _. e ] refl

-- all of a set that has p and no other size is p
pub only_one : (t : set.FinSet participant_cmp) (p q : Participant) → set.contains t p ≡ true → set.len t ≤ 1 → set.contains t q ≡ true → q ≡ p
only_one t p q has le e =
    let removed = set.len-remove participant_total t p in
    let none : set.len (set.remove t p) ≡ 0 = grind (arith, removed) in
    let empty = set.empty_of_len (set.remove t p) none in
    elim (same q p) as (λ b. same q p ≡ b → q ≡ p) [
      | true ↦ λ i. same_is q p i
      | false ↦ λ i. absurd (true≢false (sym (contains_remove_other t p q (different q p i) e) ∙ ap (λ u. set.contains u q) empty ∙ set.contains-empty participant_cmp q))
    ] refl

pub last_cases : (x : Phase) → is_last x ≡ true → ((n : ℕ) × (x ≡ at.Leaving n)) ⊎ ((n : ℕ) × (x ≡ at.Cleared n))
last_cases (at.Leaving n) e = inl (n, refl)
last_cases (at.Cleared n) e = inr (n, refl)
last_cases _ e = absurd (true≢false (sym e))

-- with an unmarked segment no one is the last
pub not_last : (c : ℕ) (h : ServiceHash) (r : Option Row) (s : Segment) (f : Participant → Phase) → AgreesAt c h r (Some s) f → s.marked ≡ false → (q : Participant) → is_last (f q) ≡ true → ⊥
not_last c h r s f a unmarked q e = elim (last_cases (f q) e) [
  | inl w ↦ grind (arith, a.leaving q w.0 w.1)
  | inr w ↦ grind (arith, a.cleared q w.0 w.1)
]

-- under a published row no one joined where the segment is marked or gone
