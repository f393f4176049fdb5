-- Create where there is no service, as one node sees it.
use Rattle.std.proofs.Common.{◌≡◌, ℕ, zero, suc, ◌+◌, Bool, true, false, cond, List, [], ◌∷◌, ◌++◌, Option, Some, None, Result, Ok, Err, ◌⊎◌, inl, inr, refl, sym, ap, subst, ◌∙◌, arith}
use Rattle.std.specs.Prelude.{nat_lt, ◌==◌}
use mathlib.Core.Bool.{true≢false}
use Rattle.std.specs.FinMap as map
use Rattle.std.specs.Ordering.{eq_by_cmp}
use Rattle.std.proofs.lemmas.Bool.Decides.{nat_tests}
use Rattle.iceoryx2_description.specs.declared.description.ServiceHash.{ServiceHash}
use Rattle.iceoryx2_description.specs.Description.{Description, IsDescription, max_nodes_of}
use Rattle.iceoryx2_data.specs.Form as form
use Rattle.iceoryx2_world.specs.declared.world.Participant.TheVariants.{Node}
use Rattle.iceoryx2_world.specs.declared.world.Phase.{Phase}
use Rattle.iceoryx2_world.specs.declared.world.Phase.TheVariants as at
use Rattle.iceoryx2_access.specs.declared.storage.Tag.{Tag}
use Rattle.iceoryx2_access.specs.declared.storage.Tag.TheVariants.{Made, Found}
use Rattle.iceoryx2_access.specs.declared.storage.TagError.{TagError}
use Rattle.iceoryx2_access.specs.declared.storage.TagError.TheVariants as Tagging
use Rattle.iceoryx2_access.specs.declared.storage.RemoveError.{RemoveError}
use Rattle.iceoryx2_access.specs.declared.storage.LockError.{LockError}
use Rattle.iceoryx2_access.specs.declared.storage.LockError.TheVariants as Locking
use Rattle.iceoryx2_access.specs.declared.storage.MakeSegmentError.{MakeSegmentError}
use Rattle.iceoryx2_access.specs.declared.storage.MakeSegmentError.TheVariants as Making
use Rattle.iceoryx2_access.specs.declared.storage.PublishError.{PublishError}
use Rattle.iceoryx2_access.specs.declared.storage.PublishError.TheVariants as Publishing
use Rattle.iceoryx2_world.specs.Orders.{hash_cmp}
use Rattle.iceoryx2_world.specs.declared.world.Row.{Row}
use Rattle.iceoryx2_world.specs.declared.world.Row.TheVariants as row
use Rattle.iceoryx2_world.specs.World.{Segment, begins, Tickets}
use Rattle.iceoryx2_world.specs.Steps.{new_segment, last_number}
use Rattle.iceoryx2_access.specs.Letter.{Letter}
use Rattle.iceoryx2_access.specs.Letter as letter
use Rattle.iceoryx2_access.specs.Run.{Run, done}
use Rattle.iceoryx2_world.specs.Access.{NodeView, Change, node_view_after, or_refused, IsAnswer}
use Rattle.iceoryx2_access.proofs.Run.{head, split, last}
use Rattle.iceoryx2_rounds.specs.declared.look.Outcome.{Outcome}
use Rattle.iceoryx2_rounds.specs.declared.look.Outcome.TheVariants as outcome
use Rattle.iceoryx2_rounds.specs.declared.pattern.CreateRefusal.{CreateRefusal}
use Rattle.iceoryx2_rounds.specs.declared.pattern.CreateRefusal.TheVariants as refusal
use Rattle.iceoryx2_rounds.specs.PatternRules.{PatternRules}
use Rattle.iceoryx2_access.specs.Registered.{Registered}
use Rattle.iceoryx2_rounds.specs.Refusals.{of_tag, of_lock, of_publish}
use Rattle.iceoryx2_rounds.proofs.MakeSteps.{without_memory}
use Rattle.iceoryx2_rounds.specs.Looks.{IsLookWord}
use Rattle.iceoryx2_rounds.specs.Looks as look
use Rattle.iceoryx2_rounds.specs.GivesBack.{GivesBack, OwnTag, OwnLock, OwnSegment, own_tag}
use Rattle.iceoryx2_rounds.specs.GivesBack as back
use Rattle.iceoryx2_rounds.specs.Segments.{IsSegmentWord, clearings}
use Rattle.iceoryx2_rounds.specs.Segments as segment
use Rattle.iceoryx2_rounds.specs.Creates.{IsEntryWord, IsServiceWord, IsCreating}
use Rattle.iceoryx2_rounds.specs.Creates as create
use Rattle.iceoryx2_call_laws.proofs.quiet.NodeViews.{AtNode}

pub into : {A B : Type 0} (P : A → B → Type 0) {a b : A} {c d : B} → a ≡ b → c ≡ d → P b d → P a c
into P {b = b} {c = c} e f p = subst (λ x. P x c) (sym e) (subst (λ y. P b y) (sym f) p)

-- no letter changes nothing
pub ended : {S L : Type 0} {step : S → L → S → Type 0} {a b : S} → Run step a [] b → b ≡ a
ended (done {s = s}) = refl

pub from : {S L : Type 0} {step : S → L → S → Type 0} {a b c : S} {w : List L} → a ≡ c → Run step a w b → Run step c w b
from {step = step} {b = b} {w = w} e r = subst (λ x. Run step x w b) e r

pub same_number : (n : ℕ) → (n == n) ≡ true
same_number n = grind (arith, nat_tests)

-- a view by its parts
abbrev pub at_node : Phase → Option Row → Option Segment → ℕ → Bool → Tickets → NodeView
at_node x r s c g k = record { view = record { phase = x; row = r; segment = s; counter = c }; tag = g; tickets = k }

-- without a row, where a segment may have been left; and with nothing
abbrev pub over : Phase → Option Segment → ℕ → Bool → Tickets → NodeView
over x s c g k = at_node x None s c g k

abbrev pub bare : Phase → ℕ → Bool → Tickets → NodeView
bare x c g k = over x None c g k

-- with the lock
abbrev pub at_lock : ℕ → Option Segment → ℕ → Tickets → NodeView
at_lock n s c k = at_node (at.Locked n) (Some (row.Locked n)) s c true k

abbrev pub locked : ℕ → ℕ → Tickets → NodeView
locked n c k = at_lock n None c k

module _ (i : ℕ) (h : ServiceHash) where
  abbrev pub with_segment : ℕ → ℕ → ℕ → Tickets → NodeView
  with_segment n m c k = at_node (at.Made n) (Some (row.Locked n)) (Some (new_segment (Node i) n m)) c true k

  abbrev pub joined : ℕ → ℕ → List ℕ → ℕ → Tickets → NodeView
  joined n m b c k = at_node (at.Joined n 1) (Some (row.Published n b)) (Some (new_segment (Node i) n m)) c true (map.insert k n (record { node = i; hash = h; number = n }))

  pub counts_over : (x : Phase) (s : Option Segment) (c : ℕ) (g : Bool) (k : Tickets) {a : Bool} {t : NodeView} → begins x ≡ true → AtNode i h (over x s c g k) (letter.Counts i h a) t → (a ≡ false) × (t ≡ over x s c g k)
  counts_over at.Idle s c g k b r = (r.own.0, r.is ∙ ap (node_view_after _) r.own.1)
  counts_over (at.Read n) s c g k b r = (r.own.0, r.is ∙ ap (node_view_after _) r.own.1)
  counts_over _ s c g k b r = absurd (cc)

  -- the tag is made, or there
  any_tag : (x : Phase) (s : Option Segment) (c : ℕ) (g : Bool) (k : Tickets) {a : Result Tag TagError} {t : NodeView} → AtNode i h (over x s c g k) (letter.MakeTag i h a) t
      → ((tag : Tag) × (a ≡ Ok tag) × (t ≡ over x s c true k) × (g ≡ false → tag ≡ Made)) ⊎ ((a ≡ Err Tagging.OutOfMemory) × (t ≡ over x s c g k))
  any_tag x s c true k r = inl (Found, r.own.0, r.is ∙ ap (node_view_after _) r.own.1, λ e. absurd (true≢false e))
  any_tag x s c false k r = elim (r.own) [ inl y ↦ inl (Made, y.0, r.is ∙ ap (node_view_after _) y.1, λ e. refl) | inr y ↦ inr (y.0, r.is ∙ ap (node_view_after _) y.1) ]

  pub data Locks (x : Phase) (s : Option Segment) (c : ℕ) (k : Tickets) : Result ℕ LockError → NodeView → Type 0 where
    locks : nat_lt c last_number ≡ true → Locks x s c k (Ok c) (at_lock c s (c + 1) k)
    starved : nat_lt c last_number ≡ true → Locks x s c k (Err Locking.OutOfMemory) (over x s c true k)
    at_end : nat_lt c last_number ≡ false → Locks x s c k (Err Locking.Other) (over x s c true k)

  lock_by : (x : Phase) (s : Option Segment) (c : ℕ) (k : Tickets) (b : Bool) (a : Result ℕ LockError) (o : Change) (t : NodeView) → nat_lt c last_number ≡ b → IsAnswer Locking.OutOfMemory (or_refused Locking.Other c (cond b (Some (record { phase = at.Locked c; row = Some (row.Locked c); segment = s; counter = c + 1 })) None)) a o → t ≡ node_view_after (over x s c true k) o → Locks x s c k a t
  lock_by x s c k true a o t e (inl y) is = into (Locks x s c k) y.0 (is ∙ ap (node_view_after _) y.1) (locks e)
  lock_by x s c k true a o t e (inr y) is = into (Locks x s c k) y.0 (is ∙ ap (node_view_after _) y.1) (starved e)
  lock_by x s c k false a o t e y is = into (Locks x s c k) y.0 (is ∙ ap (node_view_after _) y.1) (at_end e)

  pub lock_over : (x : Phase) (s : Option Segment) (c : ℕ) (k : Tickets) (a : Result ℕ LockError) (t : NodeView) → begins x ≡ true → AtNode i h (over x s c true k) (letter.Lock i h a) t → Locks x s c k a t
  lock_over at.Idle s c k a t b r = lock_by at.Idle s c k _ a r.change t refl r.own r.is
  lock_over (at.Read n) s c k a t b r = lock_by (at.Read n) s c k _ a r.change t refl r.own r.is
  lock_over _ s c k a t b r = absurd (cc)

  make_locked : (n m c : ℕ) (k : Tickets) (a : Result (Unit {0}) MakeSegmentError) (t : NodeView) → nat_lt 0 m ≡ true → AtNode i h (locked n c k) (letter.MakeSegment i h n m a) t → ((a ≡ Ok tt) × (t ≡ with_segment n m c k)) ⊎ ((a ≡ Err Making.OutOfMemory) × (t ≡ locked n c k))
  make_locked n m c k a t positive r = elim (rw (same_number n, positive) at r.own) [ inl y ↦ inl (y.0, r.is ∙ ap (node_view_after _) y.1) | inr y ↦ inr (y.0, r.is ∙ ap (node_view_after _) y.1) ]

  pub publish_made : (d : Description) (n c : ℕ) (k : Tickets) (a : Result ℕ PublishError) (t : NodeView) → eq_by_cmp hash_cmp d.hash h ≡ true → AtNode i h (with_segment n (max_nodes_of d.pattern) c k) (letter.Publish i h n d a) t
      → ((a ≡ Ok n) × (t ≡ joined n (max_nodes_of d.pattern) (form.description d) c k)) ⊎ ((a ≡ Err Publishing.OutOfMemory) × (t ≡ with_segment n (max_nodes_of d.pattern) c k))
  publish_made d n c k a t own r = elim (rw (same_number n, own, same_number (max_nodes_of d.pattern)) at r.own.1) [ inl y ↦ inl (y.0, r.is ∙ ap (node_view_after _) y.1) | inr y ↦ inr (y.0, r.is ∙ ap (node_view_after _) y.1) ]

  -- the removals of a give-back
  untag : (x : Phase) (c : ℕ) (k : Tickets) {a : Result (Unit {0}) RemoveError} {t : NodeView} → AtNode i h (bare x c true k) (letter.RemoveTag i h a) t → t ≡ bare x c false k
  untag x c k r = r.is ∙ ap (node_view_after _) r.own.1

  unlock : (n c : ℕ) (k : Tickets) {a : Result (Unit {0}) RemoveError} {t : NodeView} → AtNode i h (locked n c k) (letter.RemoveDescription i h a) t → t ≡ bare at.Idle c true k
  unlock n c k r = r.is ∙ ap (node_view_after _) r.own.1

  unmake : (n m c : ℕ) (k : Tickets) {a : Result (Unit {0}) RemoveError} {t : NodeView} → AtNode i h (with_segment n m c k) (letter.RemoveSegment i h a) t → t ≡ locked n c k
  unmake n m c k r = r.is ∙ ap (node_view_after _) r.own.1

  back_tag : (x : Phase) (c : ℕ) (k : Tickets) {w : List Letter} {t : NodeView} → GivesBack i h (OwnTag ∷ []) w → Run (AtNode i h) (bare x c true k) w t → t ≡ bare x c false k
  back_tag x c k (back.tag_back a back.nothing_left) r = untag x c k (last r)

  back_lock : (n c : ℕ) (k : Tickets) {w : List Letter} {t : NodeView} → GivesBack i h (OwnLock ∷ OwnTag ∷ []) w → Run (AtNode i h) (locked n c k) w t → t ≡ bare at.Idle c false k
  back_lock n c k (back.lock_back a g) r = let f = head r in back_tag at.Idle c k g (from (unlock n c k f.first) f.rest)

  back_segment : (n m c : ℕ) (k : Tickets) {w : List Letter} {t : NodeView} → GivesBack i h (OwnSegment ∷ OwnLock ∷ OwnTag ∷ []) w → Run (AtNode i h) (with_segment n m c k) w t → t ≡ bare at.Idle c false k
  back_segment n m c k (back.segment_back a g) r = let f = head r in back_lock n c k g (from (unmake n m c k f.first) f.rest)

  pub make_and : (n m c : ℕ) (k : Tickets) {a : Result (Unit {0}) MakeSegmentError} {w : List Letter} {t : NodeView} → nat_lt 0 m ≡ true → Run (AtNode i h) (locked n c k) (letter.MakeSegment i h n m a ∷ w) t → ((a ≡ Ok tt) × Run (AtNode i h) (with_segment n m c k) w t) ⊎ ((a ≡ Err Making.OutOfMemory) × Run (AtNode i h) (locked n c k) w t)
  make_and n m c k {a = a} positive r = let f = head r in elim (make_locked n m c k a f.mid positive f.first) [ inl y ↦ inl (y.0, from y.1 f.rest) | inr y ↦ inr (y.0, from y.1 f.rest) ]

  -- the segment is made at the first try
  none_clearings : (n m c : ℕ) (k : Tickets) (j : ℕ) {t : NodeView} → nat_lt 0 m ≡ true → Run (AtNode i h) (locked n c k) (clearings i h n m j) t → t ≡ locked n c k
  none_clearings n m c k zero positive r = ended r
  none_clearings n m c k (suc j) positive r =
      let s = split (clearings i h n m j) _ r in
      elim (make_and n m c k positive (from (none_clearings n m c k j positive s.first) s.second)) [ inl y ↦ absurd (grind (arith, y.0)) | inr y ↦ absurd (grind (arith, y.0)) ]

  make_after : (n m c : ℕ) (k : Tickets) (j : ℕ) {a : Result (Unit {0}) MakeSegmentError} {w : List Letter} {t : NodeView} → nat_lt 0 m ≡ true → Run (AtNode i h) (locked n c k) (clearings i h n m j ++ letter.MakeSegment i h n m a ∷ w) t → ((a ≡ Ok tt) × Run (AtNode i h) (with_segment n m c k) w t) ⊎ ((a ≡ Err Making.OutOfMemory) × Run (AtNode i h) (locked n c k) w t)
  make_after n m c k j positive r = let s = split (clearings i h n m j) _ r in make_and n m c k positive (from (none_clearings n m c k j positive s.first) s.second)

  pub data Makes (n m c : ℕ) (k : Tickets) : Result (Unit {0}) CreateRefusal → NodeView → Type 0 where
    makes : Makes n m c k (Ok tt) (with_segment n m c k)
    makes_none : Makes n m c k (Err refusal.OutOfMemory) (locked n c k)

  pub segment_part : (n m c : ℕ) (k : Tickets) {a : Result (Unit {0}) CreateRefusal} {w : List Letter} {t : NodeView} → nat_lt 0 m ≡ true → IsSegmentWord i h n m w a → Run (AtNode i h) (locked n c k) w t → Makes n m c k a t
  segment_part n m c k positive (segment.made j le) r = elim (make_after n m c k j positive r) [ inl y ↦ into (Makes n m c k) refl (ended y.1) makes | inr y ↦ absurd (grind (arith, y.0)) ]
  segment_part n m c k positive (segment.not_made j e le other) r = elim (make_after n m c k j positive r) [ inl y ↦ absurd (grind (arith, y.0)) | inr y ↦ let is : e ≡ Making.OutOfMemory = cc in into (Makes n m c k) (ap Err (without_memory other is)) (ended y.1) makes_none ]
  segment_part n m c k positive (segment.not_removed j e lt) r = elim (make_after n m c k j positive r) [ inl y ↦ absurd (grind (arith, y.0)) | inr y ↦ absurd (grind (arith, y.0)) ]
  segment_part n m c k positive segment.still_there r = elim (make_after n m c k 5 positive r) [ inl y ↦ absurd (grind (arith, y.0)) | inr y ↦ absurd (grind (arith, y.0)) ]

  pub segment_refused : {n m c : ℕ} {k : Tickets} {e : CreateRefusal} {t : NodeView} → Makes n m c k (Err e) t → (e ≡ refusal.OutOfMemory) × (t ≡ locked n c k)
  segment_refused makes_none = (refl, refl)

  pub segment_there : {n m c : ℕ} {k : Tickets} {t : NodeView} → Makes n m c k (Ok tt) t → t ≡ with_segment n m c k
  segment_there makes = refl

  pub lock_refused : {x : Phase} {s : Option Segment} {c : ℕ} {k : Tickets} {z : LockError} {t : NodeView} → Locks x s c k (Err z) t → ((z ≡ Locking.OutOfMemory) × (t ≡ over x s c true k)) ⊎ ((z ≡ Locking.Other) × (t ≡ over x s c true k) × (nat_lt c last_number ≡ false))
  lock_refused (starved e) = inl (refl, refl)
  lock_refused (at_end e) = inr (refl, refl, e)

  pub lock_given : {x : Phase} {s : Option Segment} {c n : ℕ} {k : Tickets} {t : NodeView} → Locks x s c k (Ok n) t → (n ≡ c) × (t ≡ at_lock n s (c + 1) k) × (nat_lt c last_number ≡ true)
  lock_given (locks e) = (refl, refl, e)

  -- after the lock
  pub record Begun (s : Option Segment) (c : ℕ) (k : Tickets) (n : ℕ) (w : List Letter) (t : NodeView) : Type 0 where
    pub number : n ≡ c
    pub counter : nat_lt c last_number ≡ true
    pub rest : Run (AtNode i h) (at_lock n s (c + 1) k) w t

  pub begun : (x : Phase) (s : Option Segment) (c : ℕ) (k : Tickets) {w : List Letter} {n : ℕ} {t : NodeView} → begins x ≡ true → Run (AtNode i h) (over x s c true k) (letter.Lock i h (Ok n) ∷ w) t → Begun s c k n w t
  begun x s c k {n = n} b r =
      let f = head r in
      let y = lock_given (lock_over x s c k (Ok n) f.mid b f.first) in
      record { number = y.0; counter = y.2; rest = from y.1 f.rest }

  own_tag_back : {tag : Tag} {w : List Letter} → tag ≡ Made → GivesBack i h (own_tag tag) w → GivesBack i h (OwnTag ∷ []) w
  own_tag_back {w = w} e g = subst (λ z. GivesBack i h (own_tag z) w) e g

  own_lock_back : {tag : Tag} {w : List Letter} → tag ≡ Made → GivesBack i h (OwnLock ∷ own_tag tag) w → GivesBack i h (OwnLock ∷ OwnTag ∷ []) w
  own_lock_back {w = w} e g = subst (λ z. GivesBack i h (OwnLock ∷ own_tag z) w) e g

  own_segment_back : {tag : Tag} {w : List Letter} → tag ≡ Made → GivesBack i h (OwnSegment ∷ OwnLock ∷ own_tag tag) w → GivesBack i h (OwnSegment ∷ OwnLock ∷ OwnTag ∷ []) w
  own_segment_back {w = w} e g = subst (λ z. GivesBack i h (OwnSegment ∷ OwnLock ∷ own_tag z) w) e g

module _ {E C : Type 0} (m : PatternRules E C) (i : ℕ) (h : ServiceHash) where
  pub look_over : (x : Phase) (s : Option Segment) (c : ℕ) (g : Bool) (k : Tickets) {o : Outcome E} {w : List Letter} {t : NodeView} → IsLookWord m i h w o → Run (AtNode i h) (over x s c g k) w t → (o ≡ outcome.Nothing) × (t ≡ over x s c g k)
  look_over x s c g k look.absent r = let l = last r in (refl, l.is ∙ ap (node_view_after _) l.own.1)
  look_over x s c g k look.broken r = let l = last r in absurd (grind (arith, l.own.0))
  look_over x s c g k (look.fetched look.yes leads) r = let l = (head r).first in absurd (grind (arith, l.own.0))
  look_over x s c g k (look.fetched look.being_set_up leads) r = let l = (head r).first in absurd (grind (arith, l.own.0))

  pub look_bare : (x : Phase) (c : ℕ) (g : Bool) (k : Tickets) {o : Outcome E} {w : List Letter} {t : NodeView} → IsLookWord m i h w o → Run (AtNode i h) (bare x c g k) w t → (o ≡ outcome.Nothing) × (t ≡ bare x c g k)
  look_bare x c g k l r = look_over x None c g k l r

  pub data Enters (x : Phase) (s : Option Segment) (c : ℕ) (g : Bool) (k : Tickets) : Result Tag C → NodeView → Type 0 where
    enters : {tag : Tag} → (g ≡ false → tag ≡ Made) → Enters x s c g k (Ok tag) (over x s c true k)
    enters_not : Enters x s c g k (Err (m.create_refusal refusal.OutOfMemory)) (over x s c g k)

  pub entry : (x : Phase) (s : Option Segment) (c : ℕ) (g : Bool) (k : Tickets) {a : Result Tag C} {w : List Letter} {t : NodeView} → begins x ≡ true → IsEntryWord m i h w a → Run (AtNode i h) (over x s c g k) w t → Enters x s c g k a t
  entry x s c g k b (create.look_faulty l) r = let y = look_over x s c g k l r in absurd (cc)
  entry x s c g k b (create.look_found l) r = let y = look_over x s c g k l r in absurd (cc)
  entry x s c g k b (create.counted {u = u} l) r =
      let p = split u _ r in
      absurd (true≢false (counts_over i h x s c g k b (last (from (look_over x s c g k l p.first).1 p.second))).0)
  entry x s c g k b (create.no_copies {u = u} l) r =
      let p = split u _ r in
      into (Enters x s c g k) refl (counts_over i h x s c g k b (last (from (look_over x s c g k l p.first).1 p.second))).1 enters_not
  entry x s c g k b (create.no_tag {u = u} e l) r =
      let p = split u _ r in
      let f = head (from (look_over x s c g k l p.first).1 p.second) in
      elim (any_tag i h x s c g k (last (from (counts_over i h x s c g k b f.first).1 f.rest))) [
        | inl y ↦ absurd (grind (arith, y.1))
        | inr y ↦ let is : e ≡ Tagging.OutOfMemory = cc in into (Enters x s c g k) (ap (λ z. Err (m.create_refusal (of_tag z))) is) y.1 enters_not
      ]
  entry x s c g k b (create.entered {u = u} tag l) r =
      let p = split u _ r in
      let f = head (from (look_over x s c g k l p.first).1 p.second) in
      elim (any_tag i h x s c g k (last (from (counts_over i h x s c g k b f.first).1 f.rest))) [
        | inl y ↦ let is : tag ≡ y.0 = cc in into (Enters x s c g k) (ap Ok is) y.2 (enters y.3)
        | inr y ↦ absurd (grind (arith, y.0))
      ]

  pub entry_refused : {x : Phase} {s : Option Segment} {c : ℕ} {g : Bool} {k : Tickets} {e : C} {t : NodeView} → Enters x s c g k (Err e) t → (e ≡ m.create_refusal refusal.OutOfMemory) × (t ≡ over x s c g k)
  entry_refused enters_not = (refl, refl)

  pub entry_made : {x : Phase} {s : Option Segment} {c : ℕ} {g : Bool} {k : Tickets} {tag : Tag} {t : NodeView} → Enters x s c g k (Ok tag) t → (g ≡ false → tag ≡ Made) × (t ≡ over x s c true k)
  entry_made (enters own) = (own, refl)

  module _ (stops : Bool) (d : Description) where
    abbrev pub registered : ℕ → Registered
    registered c = record { node = i; number = c; ticket = c; description = d }

    -- What create does where a node sees no service.
    pub data Founds (c : ℕ) (k : Tickets) : Result Registered C → NodeView → Type 0 where
      forbids : {y : Phase} {error : C} → begins y ≡ true → m.settings_refusal ≡ Some error → Founds c k (Err error) (bare y c false k)
      no_time : {y : Phase} → begins y ≡ true → m.settings_refusal ≡ None → stops ≡ true → Founds c k (Err (m.create_refusal refusal.InternalFailure)) (bare y c false k)
      no_number : {y : Phase} → begins y ≡ true → m.settings_refusal ≡ None → stops ≡ false → nat_lt c last_number ≡ false → Founds c k (Err (m.create_refusal refusal.InternalFailure)) (bare y c false k)
      forgets : {y : Phase} → begins y ≡ true → m.settings_refusal ≡ None → Founds c k (Err (m.create_refusal refusal.OutOfMemory)) (bare y c false k)
      forgets_locked : {y : Phase} → begins y ≡ true → m.settings_refusal ≡ None → stops ≡ false → nat_lt c last_number ≡ true → Founds c k (Err (m.create_refusal refusal.OutOfMemory)) (bare y (c + 1) false k)
      founds : IsDescription d → m.settings_refusal ≡ None → stops ≡ false → nat_lt c last_number ≡ true → Founds c k (Ok (registered c)) (joined i h c (max_nodes_of d.pattern) (form.description d) (c + 1) k)

    module _ (x : Phase) (c : ℕ) (k : Tickets) (b : begins x ≡ true) (positive : nat_lt 0 (max_nodes_of d.pattern) ≡ true) (own_hash : eq_by_cmp hash_cmp d.hash h ≡ true) where
      abbrev FoundsHere : Result Registered C → NodeView → Type 0
      FoundsHere a t = Founds c k a t

      serving : {tag : Tag} {a : Result Registered C} {w : List Letter} {t : NodeView} → m.settings_refusal ≡ None → stops ≡ false → tag ≡ Made → IsServiceWord m i h d tag w a → Run (AtNode i h) (bare x c true k) w t → Founds c k a t
      serving fits runs own (create.not_locked z g) r =
          let f = head r in
          elim (lock_refused i h (lock_over i h x None c k _ _ b f.first)) [
            | inl y ↦ into FoundsHere (ap (λ q. Err (m.create_refusal (of_lock q))) y.0) (back_tag i h x c k (own_tag_back i h own g) (from y.1 f.rest)) (forgets b fits)
            | inr y ↦ into FoundsHere (ap (λ q. Err (m.create_refusal (of_lock q))) y.0) (back_tag i h x c k (own_tag_back i h own g) (from y.1 f.rest)) (no_number b fits runs y.2)
          ]
      serving fits runs own (create.no_segment {v = v} {n = n} s g) r =
          let f = begun i h x None c k b r in
          let p = split v _ f.rest in
          let made_none = segment_refused i h (segment_part i h n (max_nodes_of d.pattern) (c + 1) k positive s p.first) in
          into FoundsHere (ap (λ q. Err (m.create_refusal q)) made_none.0) (back_lock i h n (c + 1) k (own_lock_back i h own g) (from made_none.1 p.second)) (forgets_locked refl fits runs f.counter)
      serving fits runs own (create.not_published {v = v} {n = n} z s g) r =
          let f = begun i h x None c k b r in
          let p = split v _ f.rest in
          let q = head (from (segment_there i h (segment_part i h n (max_nodes_of d.pattern) (c + 1) k positive s p.first)) p.second) in
          elim (publish_made i h d n (c + 1) k _ _ own_hash q.first) [
            | inl y ↦ absurd (grind (arith, y.0))
            | inr y ↦ let is : z ≡ Publishing.OutOfMemory = cc in into FoundsHere (ap (λ e. Err (m.create_refusal (of_publish e))) is) (back_segment i h n (max_nodes_of d.pattern) (c + 1) k (own_segment_back i h own g) (from y.1 q.rest)) (forgets_locked refl fits runs f.counter)
          ]
      serving fits runs own (create.published {v = v} n j s) r =
          let f = begun i h x None c k b r in
          let p = split v _ f.rest in
          let q = last (from (segment_there i h (segment_part i h n (max_nodes_of d.pattern) (c + 1) k positive s p.first)) p.second) in
          elim (publish_made i h d n (c + 1) k _ _ own_hash q) [
            | inl y ↦ let is : j ≡ n = cc in into FoundsHere (λ z. Ok (record { node = i; number = f.number z; ticket = (is ∙ f.number) z; description = d })) (y.1 ∙ ap (λ z. joined i h z (max_nodes_of d.pattern) (form.description d) (c + 1) k) f.number) (founds q.own.0 fits runs f.counter)
            | inr y ↦ absurd (grind (arith, y.0))
          ]

      pub founding : {a : Result Registered C} {w : List Letter} {t : NodeView} → IsCreating m i h stops d w a → Run (AtNode i h) (bare x c false k) w t → Founds c k a t
      founding (create.forbidden bad) r = into FoundsHere refl (ended r) (forbids b bad)
      founding (create.not_entered fits e) r = let en = entry_refused (entry x None c false k b e r) in into FoundsHere (ap Err en.0) en.1 (forgets b fits)
      founding (create.clock_fault {tag = tag} {u = u} fits stopped e g) r =
          let s = split u _ r in
          let en = entry_made (entry x None c false k b e s.first) in
          into FoundsHere refl (back_tag i h x c k (own_tag_back i h (en.0 refl) g) (from en.1 s.second)) (no_time b fits stopped)
      founding (create.made {u = u} fits runs e made) r =
          let s = split u _ r in
          let en = entry_made (entry x None c false k b e s.first) in
          serving fits runs (en.0 refl) made (from en.1 s.second)
