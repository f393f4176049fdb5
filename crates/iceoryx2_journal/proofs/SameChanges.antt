-- An entry's access changes the same, whoever has only read.
use Rattle.std.proofs.Common.{◌≡◌, ◌⊎◌, inl, inr, ℕ, Bool, true, false, Option, Some, None, Result, Ok, Err, refl, sym, ap, subst, ◌∙◌}
use Rattle.std.specs.Prelude.{◌&&◌, ◌==◌, nat_lt, if◌then◌else◌}
use Rattle.std.specs.FinMap as map
use Rattle.iceoryx2_description.specs.declared.description.ServiceHash.{ServiceHash}
use Rattle.iceoryx2_description.specs.Description.{Description}
use Rattle.iceoryx2_data.proofs.Fields.{one_description}
use Rattle.iceoryx2_access.specs.declared.storage.Tag.TheVariants.{Made}
use Rattle.iceoryx2_access.specs.declared.storage.TagError.TheVariants as Tagging
use Rattle.iceoryx2_access.specs.declared.storage.LockError.TheVariants as Locking
use Rattle.iceoryx2_access.specs.declared.storage.MakeSegmentError.TheVariants as Making
use Rattle.iceoryx2_access.specs.declared.storage.RemoveError.TheVariants as Removing
use Rattle.iceoryx2_access.specs.declared.storage.PublishError.TheVariants as Publishing
use Rattle.iceoryx2_access.specs.declared.storage.OpenSegmentError.{OpenSegmentError}
use Rattle.iceoryx2_access.specs.declared.storage.OpenSegmentError.TheVariants as Opening
use Rattle.iceoryx2_access.specs.declared.storage.ReleaseError.TheVariants.{NoSuchTicket}
use Rattle.iceoryx2_access.specs.Letter.{Letter}
use Rattle.iceoryx2_world.specs.declared.world.Participant.{Participant}
use Rattle.iceoryx2_world.specs.declared.world.Participant.TheVariants.{Node}
use Rattle.iceoryx2_world.specs.declared.world.Phase.{Phase}
use Rattle.iceoryx2_world.specs.declared.world.Phase.TheVariants as at
use Rattle.iceoryx2_world.specs.declared.world.Row.{Row}
use Rattle.iceoryx2_world.specs.declared.world.Row.TheVariants as row
use Rattle.iceoryx2_world.specs.World.{Segment, Tickets}
use Rattle.iceoryx2_world.specs.Acts.{Act}
use Rattle.iceoryx2_world.specs.Acts as act
use Rattle.iceoryx2_world.specs.Steps.{view_after}
use Rattle.iceoryx2_world.specs.Access.{NodeView, Change, IsAnswer, IsSureAnswer, MakesTag, IsNodeAnswer, own_step, or_refused, tag_becomes}
use Rattle.iceoryx2_world.specs.Access.{has_lock, has_made, lock_of, make_of, make_answer, remove_answer, publishing_of, publish_answer}
use Rattle.iceoryx2_world.specs.Access.{need, open_refusal, join_refusal, opening_of, open_answer, is_ticket, release_of, release_with}
use Rattle.iceoryx2_world.proofs.AccessCases.{same_number}
use Rattle.iceoryx2_log.specs.declared.entry.Operation.{Operation}
use Rattle.iceoryx2_log.specs.declared.entry.Operation.TheVariants as operation
use Rattle.iceoryx2_journal.specs.Follow.{Grants}
use Rattle.iceoryx2_table.specs.Same.{settled}

-- ---- phases

abbrev has_nothing : Phase → Bool
has_nothing at.Idle = true
has_nothing (at.Read n) = true
has_nothing x = false

same_phase : (x y : Phase) → settled x ≡ settled y → (x ≡ y) ⊎ ((has_nothing x ≡ true) × (has_nothing y ≡ true))
same_phase (at.Read n) (at.Read m) e = inr (refl, refl)
same_phase (at.Read n) at.Idle e = inr (refl, refl)
same_phase at.Idle (at.Read m) e = inr (refl, refl)
same_phase (at.Read n) y e = absurd (cc)
same_phase x (at.Read m) e = absurd (cc)
same_phase x y e = inl e

-- what reads the number that was read
abbrev reads : Act → Bool
reads act.Read = true
reads act.Join = true
reads a = false

module _ (p : Participant) (h : ServiceHash) where
  nothing_to : (a : Act) (x : Phase) → reads a ≡ false → has_nothing x ≡ true → (r : Option Row) (s : Option Segment) (c : ℕ) → view_after p h a x r s c ≡ view_after p h a at.Idle r s c
  nothing_to act.Read x q e r s c = absurd (cc)
  nothing_to act.Join x q e r s c = absurd (cc)
  nothing_to a at.Idle q e r s c = refl
  nothing_to act.Lock (at.Read n) q e None s c = refl
  nothing_to act.Lock (at.Read n) q e (Some (row.Locked m)) s c = refl
  nothing_to act.Lock (at.Read n) q e (Some (row.Published m b)) s c = refl
  nothing_to a (at.Read n) q e r s c = refl
  nothing_to a x q e r s c = absurd (cc)

  same_view : (a : Act) (x y : Phase) → reads a ≡ false → settled x ≡ settled y → (r : Option Row) (s : Option Segment) (c : ℕ) → view_after p h a x r s c ≡ view_after p h a y r s c
  same_view a x y q e r s c = elim (same_phase x y e) [
    | inl same ↦ ap (λ z. view_after p h a z r s c) same
    | inr none ↦ nothing_to a x q none.0 r s c ∙ sym (nothing_to a y q none.1 r s c)
  ]

same_lock : (n : ℕ) (x y : Phase) → settled x ≡ settled y → has_lock n x ≡ has_lock n y
same_lock n x y e = elim (same_phase x y e) [
  | inl same ↦ ap (has_lock n) same
  | inr none ↦ unlocked x none.0 ∙ sym (unlocked y none.1)
] where
  unlocked : (z : Phase) → has_nothing z ≡ true → has_lock n z ≡ false
  unlocked at.Idle is = refl
  unlocked (at.Read m) is = refl
  unlocked z is = absurd (cc)

same_made : (n : ℕ) (x y : Phase) → settled x ≡ settled y → has_made n x ≡ has_made n y
same_made n x y e = elim (same_phase x y e) [
  | inl same ↦ ap (has_made n) same
  | inr none ↦ unmade x none.0 ∙ sym (unmade y none.1)
] where
  unmade : (z : Phase) → has_nothing z ≡ true → has_made n z ≡ false
  unmade at.Idle is = refl
  unmade (at.Read m) is = refl
  unmade z is = absurd (cc)

-- ---- answers

module _ {A E : Type 0} where
  one_answer : (m : E) (x y : Result (A × Change) E) (v u : A) (c d : Change) → x ≡ y → IsAnswer m x (Ok v) c → IsAnswer m y (Ok u) d → c ≡ d
  one_answer m x y v u c d e p q = both x p (subst (λ z. IsAnswer m z (Ok u) d) (sym e) q) where
    both : (z : Result (A × Change) E) → IsAnswer m z (Ok v) c → IsAnswer m z (Ok u) d → c ≡ d
    both (Ok z) (inl f) (inl g) = f.1 ∙ sym g.1
    both (Ok z) (inr f) g = let k = f.0 in absurd (cc)
    both (Ok z) (inl f) (inr g) = let k = g.0 in absurd (cc)
    both (Err z) f g = let k = f.0 in absurd (cc)

  one_sure_answer : (x y : Result (A × Change) E) (v u : A) (c d : Change) → x ≡ y → IsSureAnswer x (Ok v) c → IsSureAnswer y (Ok u) d → c ≡ d
  one_sure_answer x y v u c d e p q = both x p (subst (λ z. IsSureAnswer z (Ok u) d) (sym e) q) where
    both : (z : Result (A × Change) E) → IsSureAnswer z (Ok v) c → IsSureAnswer z (Ok u) d → c ≡ d
    both (Ok z) f g = f.1 ∙ sym g.1
    both (Err z) f g = let k = f.0 in absurd (cc)

  refused_not : (m e : E) (v : A) (c : Change) → IsAnswer {A = A} m (Err e) (Ok v) c → ⊥
  refused_not m e v c p = let k = p.0 in absurd (cc)

-- ---- who opens a segment of a number without having joined it has read that number

needed : {E : Type 0} (b : Bool) (e : E) (rest : Option E) → need b e rest ≡ None → (b ≡ true) × (rest ≡ None)
needed true e rest is = (refl, is)
needed false e rest is = absurd (cc)

not_marked : {E : Type 0} (b : Bool) (e : E) (rest : Option E) → (if b then Some e else rest) ≡ None → rest ≡ None
not_marked true e rest is = absurd (cc)
not_marked false e rest is = is

has_read : (n k : ℕ) (s : Segment) (x : Phase) → has_nothing x ≡ true → join_refusal n s k x ≡ None → x ≡ at.Read n
has_read n k s at.Idle e is = absurd (cc)
has_read n k s (at.Read m) e is = ap at.Read (same_number m n (needed (m == n) _ _ is).0)
has_read n k s x e is = absurd (cc)

may_open : (n k : ℕ) (o : Option Segment) (x : Phase) → has_nothing x ≡ true → open_refusal n o k x ≡ None → x ≡ at.Read n
may_open n k None x e is = absurd (cc)
may_open n k (Some s) x e is =
    has_read n k s x e (not_marked s.marked Opening.Marked (join_refusal n s k x) (needed (s.number == n) Opening.Failed _ is).1)

-- ---- what an entry's access changes, at one service whose number and tickets are the same

module _ (i : ℕ) (h : ServiceHash) (r : Option Row) (g : Option Segment) (k : ℕ) (t : Bool) (m : Tickets) where
  abbrev pub view_at : Phase → NodeView
  view_at x = record { view = record { phase = x; row = r; segment = g; counter = k }; tag = t; tickets = m }

  same_step : (a : Act) (x y : Phase) → reads a ≡ false → settled x ≡ settled y → own_step i h a (view_at x).view ≡ own_step i h a (view_at y).view
  same_step a x y q e = same_view (Node i) h a x y q e r g k

  same_lock_of : (o : Option Row) (x y : Phase) → settled x ≡ settled y → lock_of i h (view_at x).view o ≡ lock_of i h (view_at y).view o
  same_lock_of None x y e = ap (or_refused Locking.Other k) (same_step act.Lock x y refl e)
  same_lock_of (Some (row.Locked n)) x y e = refl
  same_lock_of (Some (row.Published n b)) x y e = refl

  same_make_of : (a : ℕ) (o : Option Segment) (x y : Phase) → settled x ≡ settled y → make_of i h a (view_at x).view o ≡ make_of i h a (view_at y).view o
  same_make_of a None x y e = ap (or_refused Making.Other tt) (same_step (act.Make a) x y refl e)
  same_make_of a (Some s) x y e = refl

  same_make : (n a : ℕ) (x y : Phase) → settled x ≡ settled y → make_answer i h (view_at x) n a ≡ make_answer i h (view_at y) n a
  same_make n a x y e =
      ap (λ z. if z && nat_lt 0 a then make_of i h a (view_at x).view g else Err Making.Other) (same_lock n x y e)
      ∙ ap (λ z. if has_lock n y && nat_lt 0 a then z else Err Making.Other) (same_make_of a g x y e)

  same_publish : (n : ℕ) (d : Description) (x y : Phase) → settled x ≡ settled y → publish_answer i h (view_at x) n d ≡ publish_answer i h (view_at y) n d
  same_publish n d x y e =
      ap (λ z. if z then publishing_of i h n m (own_step i h (act.Publish d) (view_at x).view) else Err Publishing.Other) (same_made n x y e)
      ∙ ap (λ z. if has_made n y then publishing_of i h n m z else Err Publishing.Other) (same_step (act.Publish d) x y refl e)

  same_release : (u n : ℕ) (x y : Phase) → settled x ≡ settled y → release_with i h (view_at x) u n ≡ release_with i h (view_at y) u n
  same_release u n x y e =
      ap (λ z. if is_ticket i h n (map.get m u) then release_of i h u m z else Err NoSuchTicket) (same_step act.Leave x y refl e)

  opened_by : (n v : ℕ) (c : Change) (x : Phase) (q : Option OpenSegmentError) → IsAnswer Opening.OutOfMemory (opening_of i h n (view_at x) q (own_step i h act.Join (view_at x).view)) (Ok v) c → q ≡ None
  opened_by n v c x None p = refl
  opened_by n v c x (Some e) p = absurd (refused_not {A = ℕ} Opening.OutOfMemory e v c p)

  same_open : (n v u : ℕ) (x y : Phase) (c d : Change) → settled x ≡ settled y → IsAnswer Opening.OutOfMemory (open_answer i h (view_at x) n) (Ok v) c → IsAnswer Opening.OutOfMemory (open_answer i h (view_at y) n) (Ok u) d → c ≡ d
  same_open n v u x y c d e p q =
      let by : x ≡ y → c ≡ d = λ is. one_answer Opening.OutOfMemory (open_answer i h (view_at x) n) (open_answer i h (view_at y) n) v u c d (ap (λ z. open_answer i h (view_at z) n) is) p q in
      elim (same_phase x y e) [
        | inl same ↦ by same
        | inr none ↦ by (may_open n k g x none.0 (opened_by n v c x _ p) ∙ sym (may_open n k g y none.1 (opened_by n u d y _ q)))
      ]

  same_tag : (b : Bool) (c d : Change) → MakesTag i h b (Ok Made) c → MakesTag i h b (Ok Made) d → c ≡ d
  same_tag true c d p q = let f = p.0 in absurd (cc)
  same_tag false c d p q = one_answer Tagging.OutOfMemory (Ok (Made, tag_becomes true)) (Ok (Made, tag_becomes true)) Made Made c d refl p q

  -- the change of an entry's access, granted
  pub one_change : (x y : Phase) → settled x ≡ settled y → (a : Operation) (l o : Letter) (c d : Change) → Grants i h a l → Grants i h a o → IsNodeAnswer i h (view_at x) l c → IsNodeAnswer i h (view_at y) o d → c ≡ d
  one_change x y e operation.MakeTag l o c d f w p q =
      same_tag t c d (subst (λ z. IsNodeAnswer i h (view_at x) z c) f p) (subst (λ z. IsNodeAnswer i h (view_at y) z d) w q)
  one_change x y e operation.RemoveTag l o c d f w p q =
      let a = subst (λ z. IsNodeAnswer i h (view_at x) z c) f p in
      let b = subst (λ z. IsNodeAnswer i h (view_at y) z d) w q in a.1 ∙ sym b.1
  one_change x y e (operation.Lock n) l o c d f w p q =
      one_answer Locking.OutOfMemory (lock_of i h (view_at x).view r) (lock_of i h (view_at y).view r) n n c d (same_lock_of r x y e)
      (subst (λ z. IsNodeAnswer i h (view_at x) z c) f p) (subst (λ z. IsNodeAnswer i h (view_at y) z d) w q)
  one_change x y e (operation.MakeSegment n s) l o c d f w p q =
      one_answer Making.OutOfMemory (make_answer i h (view_at x) n s) (make_answer i h (view_at y) n s) tt tt c d (same_make n s x y e)
      (subst (λ z. IsNodeAnswer i h (view_at x) z c) f p) (subst (λ z. IsNodeAnswer i h (view_at y) z d) w q)
  one_change x y e operation.RemoveSegment l o c d f w p q =
      one_sure_answer (remove_answer i h (view_at x) act.RemoveSegment) (remove_answer i h (view_at y) act.RemoveSegment) tt tt c d (ap (or_refused Removing.Other tt) (same_step act.RemoveSegment x y refl e))
      (subst (λ z. IsNodeAnswer i h (view_at x) z c) f p) (subst (λ z. IsNodeAnswer i h (view_at y) z d) w q)
  one_change x y e operation.RemoveDescription l o c d f w p q =
      one_sure_answer (remove_answer i h (view_at x) act.RemoveDescription) (remove_answer i h (view_at y) act.RemoveDescription) tt tt c d (ap (or_refused Removing.Other tt) (same_step act.RemoveDescription x y refl e))
      (subst (λ z. IsNodeAnswer i h (view_at x) z c) f p) (subst (λ z. IsNodeAnswer i h (view_at y) z d) w q)
  one_change x y e (operation.Publish n bytes) l o c d f w p q =
      let a = subst (λ z. IsNodeAnswer i h (view_at x) z c) f.2 p in
      let b = subst (λ z. IsNodeAnswer i h (view_at y) z d) w.2 q in
      let same : f.0 ≡ w.0 = one_description bytes f.0 w.0 f.1 w.1 in
      one_answer Publishing.OutOfMemory (publish_answer i h (view_at x) n f.0) (publish_answer i h (view_at y) n w.0) n n c d
      (same_publish n f.0 x y e ∙ ap (publish_answer i h (view_at y) n) same) a.1 b.1
  one_change x y e (operation.OpenSegment n u) l o c d f w p q =
      same_open n u u x y c d e (subst (λ z. IsNodeAnswer i h (view_at x) z c) f p) (subst (λ z. IsNodeAnswer i h (view_at y) z d) w q)
  one_change x y e (operation.Release u n) l o c d f w p q =
      one_sure_answer (release_with i h (view_at x) u n) (release_with i h (view_at y) u n) f.0 w.0 c d (same_release u n x y e)
      (subst (λ z. IsNodeAnswer i h (view_at x) z c) f.1 p) (subst (λ z. IsNodeAnswer i h (view_at y) z d) w.1 q)
  one_change x y e (operation.Spend n) l o c d f w p q = absurd f
  one_change x y e operation.Moved l o c d f w p q = absurd f
