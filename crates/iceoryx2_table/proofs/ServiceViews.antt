-- Changes of the services' state, map by map.
use Rattle.std.specs.Prelude.{nat_lt, ◌==◌, if◌then◌else◌}
use Rattle.iceoryx2_world.specs.declared.world.Phase.TheVariants as at
use Rattle.iceoryx2_world.specs.declared.world.Row.{Row}
use Rattle.std.proofs.Common.{◌≡◌, ℕ, ◌+◌, List, Bool, true, false, Option, Some, None, refl, sym, ap, subst, ◌∙◌}
use Rattle.std.specs.FinMap as map
use Rattle.iceoryx2_world.specs.declared.world.Participant.{Participant}
use Rattle.iceoryx2_description.specs.declared.description.ServiceHash.{ServiceHash}
use Rattle.iceoryx2_world.specs.declared.world.Phase.{Phase}
use Rattle.iceoryx2_world.specs.World.{Segment, or_idle, begins}
use Rattle.iceoryx2_world.specs.Acts.{Act}
use Rattle.iceoryx2_world.specs.Acts as act
use Rattle.iceoryx2_world.specs.declared.world.Row.TheVariants as row
use Rattle.iceoryx2_description.specs.Description.{Description}
use Rattle.iceoryx2_world.specs.Steps.{ServiceView, view_after, to_view, fits, has_room, last_number, with_one, row_for}
use Rattle.iceoryx2_world.specs.Batches.{needs_room}
use Rattle.iceoryx2_table.specs.ServicesState.{ServicesState, step_at, with_view, StepsTo, Starves, TakesLeave, published_number, segment_fits}
use Rattle.iceoryx2_access.specs.declared.storage.OpenSegmentError.TheVariants as Opening
use Rattle.iceoryx2_access.specs.declared.storage.Release.{Release as Released}
use Rattle.iceoryx2_world.specs.Access.{release_answer, open_refusal}
use Rattle.iceoryx2_world.proofs.AccessCases.{same_number}
use Rattle.iceoryx2_world.proofs.agreement.Parts.{not_refused, refused_else}

-- by the phase that was read
pub by_phase : (b : ServicesState) (p : Participant) (h : ServiceHash) (a : Act) (x : Phase) → or_idle (map.get b.phases (p, h)) ≡ x → step_at b p h a ≡ view_after p h a x (map.get b.rows h) (map.get b.segments h) b.counter
by_phase b p h a x e = ap (λ y. view_after p h a y (map.get b.rows h) (map.get b.segments h) b.counter) e

pub by_both : (b : ServicesState) (p : Participant) (h : ServiceHash) (a : Act) (x : Phase) (s : Option Segment) → or_idle (map.get b.phases (p, h)) ≡ x → map.get b.segments h ≡ s → step_at b p h a ≡ view_after p h a x (map.get b.rows h) s b.counter
by_both b p h a x s e f = by_phase b p h a x e ∙ ap (λ t. view_after p h a x (map.get b.rows h) t b.counter) f

-- what was shown of the fields, of the value
pub did : {a b new : ServicesState} (p : Participant) (h : ServiceHash) (t : Act) (s : ServiceView) → a ≡ b → step_at a p h t ≡ Some s → new ≡ with_view a p h s → StepsTo b p h t new
did {a} {b} {new} p h t s is e f = subst (λ (x : ServicesState). StepsTo x p h t new) is (s, e, f)

pub refused : {a b new : ServicesState} (p : Participant) (h : ServiceHash) (t : Act) → a ≡ b → step_at a p h t ≡ None → new ≡ a → (step_at b p h t ≡ None) × (new ≡ b)
refused p h t is e f = (ap (λ (x : ServicesState). step_at x p h t) (sym is) ∙ e, f ∙ is)

pub starved : {a b new : ServicesState} (p : Participant) (h : ServiceHash) (t : Act) (s : ServiceView) → a ≡ b → step_at a p h t ≡ Some s → needs_room t (or_idle (map.get a.phases (p, h))) ≡ true → new ≡ a → Starves b p h t new
starved {a} {b} {new} p h t s is e room f = subst (λ (x : ServicesState). Starves x p h t new) is (s, e, room, f)

pub left : {a b new : ServicesState} (p : Participant) (h : ServiceHash) (r : Released) (s : ServiceView) → a ≡ b → step_at a p h act.Leave ≡ Some s → r ≡ release_answer s.phase → new ≡ with_view a p h s → TakesLeave b p h (Some r) new
left {a} {b} {new} p h r s is e l f = subst (λ (x : ServicesState). TakesLeave x p h (Some r) new) is (s, e, l, f)

failed : (s : Segment) (n : ℕ) → (if s.number == n then if s.marked then Some Opening.Marked else Some Opening.Failed else Some Opening.Failed) ≡ None → ⊥
failed s n e = let a = not_refused (s.number == n) _ _ e in let b = refused_else s.marked _ _ a.1 in absurd (cc)

-- who isn't refused may join, and a number is left
pub may_join : (p : Participant) (h : ServiceHash) (n c : ℕ) (r : Option Row) (s : Option Segment) (x : Phase) → open_refusal n s c x ≡ None → (nat_lt c last_number ≡ true) × ((t : ServiceView) × (view_after p h act.Join x r s c ≡ Some t))
may_join p h n c r None x e = absurd (cc)
may_join p h n c r (Some s) (at.Read m) e =
    let a = not_refused (s.number == n) _ _ e in
    let b = refused_else s.marked _ _ a.1 in
    let d = not_refused (m == n) _ _ b.1 in
    let f = not_refused (has_room n s) _ _ d.1 in
    let g = not_refused (nat_lt c last_number) _ _ f.1 in
    let room : has_room m s ≡ true = subst (λ (k : ℕ). has_room k s ≡ true) (sym (same_number m n d.0)) f.0 in
    (g.0, (_, ap (λ (y : Bool). if y then to_view (at.Joined m 1) r (Some (with_one p s)) c else None) room))
may_join p h n c r (Some s) (at.Joined m k) e =
    let a = not_refused (s.number == n) _ _ e in
    let b = refused_else s.marked _ _ a.1 in
    let d = not_refused (m == n) _ _ b.1 in
    let g = not_refused (nat_lt c last_number) _ _ d.1 in
    let f = not_refused (nat_lt k last_number) _ _ g.1 in
    (g.0, (_, ap (λ (y : Bool). if y then to_view (at.Joined m (k + 1)) r (Some s) c else None) f.0))
may_join p h n c r (Some s) x e = absurd (failed s n e)

-- who holds nothing locks what is absent, while a number is left
locks : (p : Participant) (h : ServiceHash) (x : Phase) (s : Option Segment) (c : ℕ) → begins x ≡ true → view_after p h act.Lock x None s c ≡ (if nat_lt c last_number then to_view (at.Locked c) (Some (row.Locked c)) s (c + 1) else None)
locks p h at.Idle s c e = refl
locks p h (at.Read n) s c e = refl
locks p h x s c e = absurd (cc)

pub lock_tried : (b : ServicesState) (p : Participant) (h : ServiceHash) (x : Phase) → or_idle (map.get b.phases (p, h)) ≡ x → begins x ≡ true → map.get b.rows h ≡ None → nat_lt b.counter last_number ≡ true
    → step_at b p h act.Lock ≡ to_view (at.Locked b.counter) (Some (row.Locked b.counter)) (map.get b.segments h) (b.counter + 1)
lock_tried b p h x e free none left =
    by_phase b p h act.Lock x e
    ∙ ap (λ r. view_after p h act.Lock x r (map.get b.segments h) b.counter) none
    ∙ locks p h x (map.get b.segments h) b.counter free
    ∙ ap (λ (t : Bool). if t then to_view (at.Locked b.counter) (Some (row.Locked b.counter)) (map.get b.segments h) (b.counter + 1) else None) left

-- who holds nothing reads what is published
pub read_tried : (b : ServicesState) (p : Participant) (h : ServiceHash) (x : Phase) (n : ℕ) (d : List ℕ) → or_idle (map.get b.phases (p, h)) ≡ x → begins x ≡ true → map.get b.rows h ≡ Some (row.Published n d)
    → step_at b p h act.Read ≡ to_view (at.Read n) (map.get b.rows h) (map.get b.segments h) b.counter
read_tried b p h x n d e free there =
    by_phase b p h act.Read x e
    ∙ ap (λ r. view_after p h act.Read x r (map.get b.segments h) b.counter) there
    ∙ reads x free
    ∙ ap (λ r. to_view (at.Read n) r (map.get b.segments h) b.counter) (sym there)
  where
    reads : (x : Phase) → begins x ≡ true → view_after p h act.Read x (Some (row.Published n d)) (map.get b.segments h) b.counter ≡ to_view (at.Read n) (Some (row.Published n d)) (map.get b.segments h) b.counter
    reads at.Idle f = refl
    reads (at.Read m) f = refl
    reads y f = absurd (cc)

-- who made a segment publishes what fits it
pub publish_tried : (b : ServicesState) (p : Participant) (h : ServiceHash) (d : Description) (n : ℕ) (s : Segment) → or_idle (map.get b.phases (p, h)) ≡ at.Made n → map.get b.segments h ≡ Some s → fits h s d ≡ true
    → step_at b p h (act.Publish d) ≡ to_view (at.Joined n 1) (Some (row_for n d)) (map.get b.segments h) b.counter
publish_tried b p h d n s e there fit =
    by_both b p h (act.Publish d) (at.Made n) (Some s) e there
    ∙ ap (λ (t : Bool). if t then to_view (at.Joined n 1) (Some (row_for n d)) (Some s) b.counter else None) fit
    ∙ ap (λ x. to_view (at.Joined n 1) (Some (row_for n d)) x b.counter) (sym there)

-- what has a number that is published
pub published_row : (o : Option Row) (n : ℕ) → published_number o ≡ Some n → (d : List ℕ) × (o ≡ Some (row.Published n d))
published_row None n e = absurd (cc)
published_row (Some (row.Locked m)) n e = absurd (cc)
published_row (Some (row.Published m d)) n e = let same : m ≡ n = cc in (d, ap (λ k. Some (row.Published k d)) same)

-- a segment that the description fits
pub fitting : (h : ServiceHash) (o : Option Segment) (d : Description) → segment_fits h o d ≡ true → (s : Segment) × (o ≡ Some s) × (fits h s d ≡ true)
fitting h None d e = absurd (cc)
fitting h (Some s) d e = (s, refl, e)

some_if : (b : Bool) (x y : ServiceView) → (if b then Some x else None) ≡ Some y → x ≡ y
some_if true x y e = cc
some_if false x y e = absurd (cc)

-- a join hands out no number
pub join_counter : (p : Participant) (h : ServiceHash) (x : Phase) (r : Option Row) (s : Option Segment) (c : ℕ) (t : ServiceView) → view_after p h act.Join x r s c ≡ Some t → t.counter ≡ c
join_counter p h (at.Read m) r None c t e = absurd (cc)
join_counter p h (at.Read m) r (Some s) c t e = ap (λ (y : ServiceView). y.counter) (sym (some_if (has_room m s) _ t e))
join_counter p h (at.Joined m k) r s c t e = ap (λ (y : ServiceView). y.counter) (sym (some_if (nat_lt k last_number) _ t e))
join_counter p h x r s c t e = absurd (cc)
