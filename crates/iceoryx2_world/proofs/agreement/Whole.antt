-- Each step keeps what is true at every hash.
use Rattle.std.proofs.Common.{◌≡◌, ℕ, ◌≤◌, Bool, true, false, cond, Option, Some, None, refl, sym, ap, subst, ◌∙◌, arith}
use Rattle.std.specs.Prelude.{◌&&◌}
use Rattle.std.specs.Option.{option_map}
use Rattle.std.specs.FinMap as map
use Rattle.std.specs.Ordering.{is_eq, eq_by_cmp, ordering_then}
use Rattle.std.specs.declared.cmp.Ordering.{Ordering}
use Rattle.std.specs.declared.cmp.Ordering.TheVariants.{Less, Equal, Greater}
use Rattle.std.specs.Cmp.{IsTotalOrder, Equal-is, tied_itself}
use Rattle.iceoryx2_world.specs.declared.world.Participant.{Participant}
use Rattle.iceoryx2_description.specs.declared.description.ServiceHash.{ServiceHash}
use Rattle.iceoryx2_world.specs.declared.world.Phase.{Phase}
use Rattle.iceoryx2_world.specs.declared.world.Phase.TheVariants as at
use Rattle.iceoryx2_world.specs.declared.world.Row.{Row}
use Rattle.iceoryx2_world.specs.Orders.{hash_cmp, hash_exact, hash_total, place_cmp, place_total, participant_cmp}
use Rattle.iceoryx2_world.specs.World.{World, Segment, row_of, segment_of, phase_of, or_idle, unless_idle, set_to}
use Rattle.iceoryx2_world.specs.Acts.{Act, IsAct}
use Rattle.iceoryx2_world.specs.Steps.{ServiceView, view_after, put, world_after}
use Rattle.iceoryx2_world.specs.ServiceAgreement.{AgreesAt, AgreesEverywhere, LaterAt, Later}
use Rattle.iceoryx2_world.proofs.agreement.Moved.{moved, same}
use Rattle.iceoryx2_world.proofs.agreement.Step.{step_keeps, later_same}

pub get-set_to : {K X : Type 0} {R : K → K → Ordering} → IsTotalOrder R → (m : map.FinMap R X) (k : K) (o : Option X) (q : K) → map.get (set_to m k o) q ≡ cond (eq_by_cmp R q k) o (map.get m q)
get-set_to o m k None q = map.get-remove o m k q
get-set_to o m k (Some v) q = map.get-insert o m k v q

pub stored : (x : Phase) → or_idle (unless_idle x) ≡ x
stored at.Idle = refl
stored _ = refl

pub both_tied : (a b : Ordering) → is_eq (ordering_then a b) ≡ (is_eq a && is_eq b)
both_tied Less b = refl
both_tied Equal b = refl
both_tied Greater b = refl

idle_cond : (b : Bool) (x y : Option Phase) → or_idle (cond b x y) ≡ cond b (or_idle x) (or_idle y)
idle_cond true x y = refl
idle_cond false x y = refl

-- the phases of a world with a view of one participant put into it
pub phase_put : (w : World) (p : Participant) (h : ServiceHash) (s : ServiceView) (q : Participant) (g : ServiceHash) → phase_of (put w p h s) q g ≡ cond (same q p && is_eq (hash_cmp g h)) s.phase (phase_of w q g)
phase_put w p h s q g =
    ap or_idle (get-set_to place_total w.phases (p, h) (unless_idle s.phase) (q, g))
    ∙ idle_cond (eq_by_cmp place_cmp (q, g) (p, h)) (unless_idle s.phase) (map.get w.phases (q, g))
    ∙ ap (λ b. cond b (or_idle (unless_idle s.phase)) (phase_of w q g)) (both_tied (participant_cmp q p) (hash_cmp g h))
    ∙ ap (λ x. cond (same q p && is_eq (hash_cmp g h)) x (phase_of w q g)) (stored s.phase)

pub row_put : (w : World) (p : Participant) (h : ServiceHash) (s : ServiceView) (g : ServiceHash) → row_of (put w p h s) g ≡ cond (is_eq (hash_cmp g h)) s.row (row_of w g)
row_put w p h s g = get-set_to hash_total w.rows h s.row g

pub segment_put : (w : World) (p : Participant) (h : ServiceHash) (s : ServiceView) (g : ServiceHash) → segment_of (put w p h s) g ≡ cond (is_eq (hash_cmp g h)) s.segment (segment_of w g)
segment_put w p h s g = get-set_to hash_total w.segments h s.segment g

and_true : (b : Bool) → (b && true) ≡ b
and_true true = refl
and_true false = refl

and_false : (b : Bool) → (b && false) ≡ false
and_false true = refl
and_false false = refl

-- the counter only rises
pub AgreesAt-later : (c d : ℕ) (h : ServiceHash) (r : Option Row) (s : Option Segment) (f : Participant → Phase) → c ≤ d → AgreesAt c h r s f → AgreesAt d h r s f
AgreesAt-later c d h r s f le a = record {
  row_below = λ x e. grind (arith, a.row_below x e);
  segment_below = λ x e. grind (arith, a.segment_below x e);
  phase_below = λ p n e. grind (arith, a.phase_below p n e);
  locked = a.locked;
  holder = a.holder;
  one_holder = a.one_holder;
  made = a.made;
  joined = a.joined;
  leaving = a.leaving;
  cleared = a.cleared;
  one_last = a.one_last;
  read_row = a.read_row;
  read_segment = a.read_segment;
  published = a.published;
}

pub same_hash : (g h : ServiceHash) → is_eq (hash_cmp g h) ≡ true → g ≡ h
same_hash g h e = hash_exact g h ((Equal-is (hash_cmp g h)).0 e)

pub own_hash : (h : ServiceHash) → is_eq (hash_cmp h h) ≡ true
own_hash h = ap is_eq (tied_itself hash_total h)

-- at another hash nothing changes
other_hash : (w : World) (p : Participant) (h : ServiceHash) (s : ServiceView) (g : ServiceHash) → is_eq (hash_cmp g h) ≡ false → w.counter ≤ s.counter → AgreesAt w.counter g (row_of w g) (segment_of w g) (λ q. phase_of w q g) → AgreesAt s.counter g (row_of (put w p h s) g) (segment_of (put w p h s) g) (λ q. phase_of (put w p h s) q g)
other_hash w p h s g apart le a =
    let rows : row_of w g ≡ row_of (put w p h s) g = sym (row_put w p h s g ∙ ap (λ b. cond b s.row (row_of w g)) apart) in
    let segments : segment_of w g ≡ segment_of (put w p h s) g = sym (segment_put w p h s g ∙ ap (λ b. cond b s.segment (segment_of w g)) apart) in
    let phases : (q : Participant) → phase_of w q g ≡ phase_of (put w p h s) q g = λ q. sym (phase_put w p h s q g ∙ ap (λ b. cond (same q p && b) s.phase (phase_of w q g)) apart ∙ ap (λ b. cond b s.phase (phase_of w q g)) (and_false (same q p))) in
    let moved_along : ◌≡◌ {A = Type 0} (AgreesAt s.counter g (row_of w g) (segment_of w g) (λ q. phase_of w q g)) (AgreesAt s.counter g (row_of (put w p h s) g) (segment_of (put w p h s) g) (λ q. phase_of (put w p h s) q g)) = λ i. AgreesAt s.counter g (rows i) (segments i) (λ q. phases q i) in
    subst (λ (X : Type 0). X) moved_along (AgreesAt-later _ _ g _ _ _ le a)

-- at its own hash the view stands
own_place : (w : World) (p : Participant) (h : ServiceHash) (s : ServiceView) → AgreesAt s.counter h s.row s.segment (moved (λ q. phase_of w q h) p s.phase) → AgreesAt s.counter h (row_of (put w p h s) h) (segment_of (put w p h s) h) (λ q. phase_of (put w p h s) q h)
unfolding moved
own_place w p h s a =
    let rows : s.row ≡ row_of (put w p h s) h = sym (row_put w p h s h ∙ ap (λ b. cond b s.row (row_of w h)) (own_hash h)) in
    let segments : s.segment ≡ segment_of (put w p h s) h = sym (segment_put w p h s h ∙ ap (λ b. cond b s.segment (segment_of w h)) (own_hash h)) in
    let phases : (q : Participant) → cond (same q p) s.phase (phase_of w q h) ≡ phase_of (put w p h s) q h = λ q. sym (phase_put w p h s q h ∙ ap (λ b. cond (same q p && b) s.phase (phase_of w q h)) (own_hash h) ∙ ap (λ b. cond b s.phase (phase_of w q h)) (and_true (same q p))) in
    let moved_along : ◌≡◌ {A = Type 0} (AgreesAt s.counter h s.row s.segment (λ q. cond (same q p) s.phase (phase_of w q h))) (AgreesAt s.counter h (row_of (put w p h s) h) (segment_of (put w p h s) h) (λ q. phase_of (put w p h s) q h)) = λ i. AgreesAt s.counter h (rows i) (segments i) (λ q. phases q i) in
    subst (λ (X : Type 0). X) moved_along a

later_from : (w : World) (p : Participant) (h : ServiceHash) (s : ServiceView) → LaterAt w.counter (row_of w h) s.row → (g : ServiceHash) → LaterAt w.counter (row_of w g) (row_of (put w p h s) g)
later_from w p h s l g = elim (is_eq (hash_cmp g h)) as (λ b. is_eq (hash_cmp g h) ≡ b → LaterAt w.counter (row_of w g) (row_of (put w p h s) g)) [
  | true ↦ λ t. let own : g ≡ h = same_hash g h t in subst (λ (k : ServiceHash). LaterAt w.counter (row_of w k) (row_of (put w p h s) k)) (sym own) (rw (row_put w p h s h, own_hash h) l)
  | false ↦ λ t. rw (row_put w p h s g, t) (later_same _ _)
] refl

everywhere : (w : World) (p : Participant) (h : ServiceHash) (act : Act) (o : Option ServiceView) (w' : World) → IsAct act → view_after p h act (phase_of w p h) (row_of w h) (segment_of w h) w.counter ≡ o → option_map (put w p h) o ≡ Some w' → AgreesEverywhere w → AgreesEverywhere w' × Later w w'
everywhere w p h act None w' ok is e a = absurd (cc)
everywhere w p h act (Some s) w' ok is e a =
    let kept = step_keeps p h act (phase_of w p h) (row_of w h) (segment_of w h) w.counter s (λ q. phase_of w q h) refl ok is (a h) in
    let world : put w p h s ≡ w' = cc in
    subst (λ (v : World). AgreesEverywhere v × Later w v) world (
      λ g. elim (is_eq (hash_cmp g h)) as (λ b. is_eq (hash_cmp g h) ≡ b → AgreesAt s.counter g (row_of (put w p h s) g) (segment_of (put w p h s) g) (λ q. phase_of (put w p h s) q g)) [
        | true ↦ λ t. let own : g ≡ h = same_hash g h t in subst (λ (k : ServiceHash). AgreesAt s.counter k (row_of (put w p h s) k) (segment_of (put w p h s) k) (λ q. phase_of (put w p h s) q k)) (sym own) (own_place w p h s kept.agrees)
        | false ↦ λ t. other_hash w p h s g t kept.rises (a g)
      ] refl,
      record { counter = kept.rises; rows = later_from w p h s kept.later },
    )

-- an allowed step keeps the agreement, and the world is a later one
pub after_keeps : (w w' : World) (p : Participant) (h : ServiceHash) (act : Act) → IsAct act → world_after w p h act ≡ Some w' → AgreesEverywhere w → AgreesEverywhere w' × Later w w'
after_keeps w w' p h act ok e a = everywhere w p h act _ w' ok refl e a
