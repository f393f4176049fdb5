-- From what one node sees back to the whole world and the machine's state.
use Rattle.std.proofs.Common.{◌≡◌, ◌≢◌, ℕ, Bool, true, false, cond, ◌&&◌, Option, ◌⊎◌, inl, inr, refl, sym, ap, subst, ◌∙◌, arith}
use Rattle.std.specs.Prelude.{◌==◌}
use mathlib.Core.Bool.{true≢false}
use Rattle.std.specs.Ordering.{is_eq, eq_by_cmp, nat_cmp}
use Rattle.std.specs.Cmp.{Equal-is, tied_itself}
use Rattle.std.proofs.lemmas.Bool.Decides.{nat_tests}
use Rattle.std.proofs.lemmas.Cmp.{nat_cmp_total}
use Rattle.std.proofs.lemmas.Map.Lookups.{exact_unsigned}
use Rattle.iceoryx2_description.specs.declared.description.ServiceHash.{ServiceHash}
use Rattle.iceoryx2_world.specs.declared.world.Participant.{Participant}
use Rattle.iceoryx2_world.specs.declared.world.Participant.TheVariants.{Node, Peer}
use Rattle.iceoryx2_world.specs.Orders.{hash_cmp, tag_cmp, tag_exact}
use Rattle.iceoryx2_world.specs.World.{World, phase_of, tag_of}
use Rattle.iceoryx2_world.proofs.agreement.Moved.{same, same_is}
use Rattle.iceoryx2_world.proofs.agreement.Whole.{own_hash, same_hash}
use Rattle.iceoryx2_call_laws.specs.Quiet.{QuietService, Quiet, service_at, ShowsAt, ShowsService, Shows}
use Rattle.iceoryx2_call_laws.proofs.quiet.NodeViews.{OthersStay, at_tag}

and_false : (b : Bool) → (b && false) ≡ false
and_false true = refl
and_false false = refl

tied_tag : (j i : ℕ) (g h : ServiceHash) → at_tag j g i h ≡ true → (j ≡ i) × (g ≡ h)
tied_tag j i g h e = let both = tag_exact (j, g) (i, h) ((Equal-is (tag_cmp (j, g) (i, h))).0 e) in (ap (λ (p : ℕ × ServiceHash). p.0) both, ap (λ (p : ℕ × ServiceHash). p.1) both)

pub false_unless : (b : Bool) → (b ≡ true → ⊥) → b ≡ false
false_unless true never = absurd (never refl)
false_unless false never = refl

pub not_same : (p q : Participant) → p ≢ q → same p q ≡ false
not_same p q other = false_unless _ (λ e. other (same_is p q e))

pub other_node : (j i : ℕ) → j ≢ i → Node j ≢ Node i
other_node j i other e = other (cc)

pub no_node : (j i : ℕ) → Peer j ≢ Node i
no_node j i e = cc

pub own_number : (t : ℕ) → eq_by_cmp nat_cmp t t ≡ true
own_number t = ap is_eq (tied_itself nat_cmp_total t)

pub number_apart : (j i : ℕ) → j ≢ i → eq_by_cmp nat_cmp j i ≡ false
number_apart j i other = false_unless _ (λ e. other (exact_unsigned j i ((Equal-is (nat_cmp j i)).0 e)))

pub equal_or_not : (j i : ℕ) → (j ≡ i) ⊎ (j ≢ i)
equal_or_not j i = elim (j == i) as (λ b. (j == i) ≡ b → (j ≡ i) ⊎ (j ≢ i)) [ true ↦ λ e. inl (grind (arith, nat_tests, e)) | false ↦ λ e. inr (grind (arith, nat_tests, e)) ] refl

pub different_hash : (g h : ServiceHash) → is_eq (hash_cmp g h) ≡ false → g ≢ h
different_hash g h apart is = true≢false (sym (own_hash h) ∙ ap (λ k. is_eq (hash_cmp k h)) (sym is) ∙ apart)

-- at another hash
pub tag_elsewhere : {i : ℕ} {h : ServiceHash} {w v : World} → OthersStay i h w v → (j : ℕ) (g : ServiceHash) → is_eq (hash_cmp g h) ≡ false → tag_of v j g ≡ tag_of w j g
tag_elsewhere {i = i} {h = h} a j g apart = a.tags j g (false_unless _ (λ e. different_hash g h apart (tied_tag j i g h e).1))

pub phase_elsewhere : {i : ℕ} {h : ServiceHash} {w v : World} → OthersStay i h w v → (j : ℕ) (g : ServiceHash) → is_eq (hash_cmp g h) ≡ false → phase_of v (Node j) g ≡ phase_of w (Node j) g
phase_elsewhere {i = i} {h = h} a j g apart = a.phases (Node j) g (ap (λ b. same (Node j) (Node i) && b) apart ∙ and_false _)

-- another node at the same hash
pub phase_beside : {i : ℕ} {h : ServiceHash} {w v : World} → OthersStay i h w v → (j : ℕ) → j ≢ i → phase_of v (Node j) h ≡ phase_of w (Node j) h
phase_beside {i = i} {h = h} a j other = a.phases (Node j) h (ap (λ b. b && is_eq (hash_cmp h h)) (not_same (Node j) (Node i) (other_node j i other)))

pub tag_beside : {i : ℕ} {h : ServiceHash} {w v : World} → OthersStay i h w v → (j : ℕ) → j ≢ i → tag_of v j h ≡ tag_of w j h
tag_beside {i = i} {h = h} a j other = a.tags j h (false_unless _ (λ e. other (tied_tag j i h h e).0))

elsewhere : {i : ℕ} {h : ServiceHash} {w v : World} → OthersStay i h w v → (o : Option QuietService) (g : ServiceHash) → is_eq (hash_cmp g h) ≡ false → ShowsService w g o → ShowsService v g o
elsewhere {w = w} {v = v} a o g apart s =
    let rows = sym (a.rows g apart) in
    let segments = sym (a.segments g apart) in
    let phases : (j : ℕ) → phase_of w (Node j) g ≡ phase_of v (Node j) g = λ j. sym (phase_elsewhere a j g apart) in
    let tags : (j : ℕ) → tag_of w j g ≡ tag_of v j g = λ j. sym (tag_elsewhere a j g apart) in
    let along : ◌≡◌ {A = Type 0} (ShowsService w g o) (ShowsService v g o) = λ k. ShowsAt g o (rows k) (segments k) (λ j. phases j k) (λ j. tags j k) in
    subst (λ (X : Type 0). X) along s

-- Every hash by itself: at its own the service is this one now, and elsewhere all is as before.
pub services_after : {i : ℕ} {h : ServiceHash} {w v : World} (q p : Quiet) (o : Option QuietService) → OthersStay i h w v → Shows w q
    → ((g : ServiceHash) → service_at p g ≡ cond (is_eq (hash_cmp g h)) o (service_at q g))
    → ShowsService v h o
    → (g : ServiceHash) → ShowsService v g (service_at p g)
services_after {i = i} {h = h} {w = w} {v = v} q p o a s sets here g = elim (is_eq (hash_cmp g h)) as (λ b. is_eq (hash_cmp g h) ≡ b → ShowsService v g (service_at p g)) [
  | true ↦ λ e. subst (λ o. ShowsService v g o) (sym (sets g ∙ ap (λ b. cond b o (service_at q g)) e)) (subst (λ k. ShowsService v k o) (sym (same_hash g h e)) here)
  | false ↦ λ e. subst (λ o. ShowsService v g o) (sym (sets g ∙ ap (λ b. cond b o (service_at q g)) e)) (elsewhere a (service_at q g) g e (s.services g))
] refl

-- where the service under a hash is as it was
pub same_services : (q : Quiet) (h : ServiceHash) (o : Option QuietService) → service_at q h ≡ o → (g : ServiceHash) → service_at q g ≡ cond (is_eq (hash_cmp g h)) o (service_at q g)
same_services q h o is g = elim (is_eq (hash_cmp g h)) as (λ b. is_eq (hash_cmp g h) ≡ b → service_at q g ≡ cond b o (service_at q g)) [
  | true ↦ λ e. ap (service_at q) (same_hash g h e) ∙ is
  | false ↦ λ e. refl
] refl
