-- A granted access is that of its entry.
use Rattle.std.proofs.Common.{◌≡◌, inl, inr, ℕ, Bool, true, false, cond, Option, Some, None, Result, Ok, Err, refl, ap, ◌∙◌}
use Rattle.std.specs.Prelude.{◌&&◌, not, is_ok}
use Rattle.iceoryx2_description.specs.declared.description.ServiceHash.{ServiceHash}
use Rattle.iceoryx2_description.specs.Description.{Description}
use Rattle.iceoryx2_access.specs.declared.storage.Tag.{Tag}
use Rattle.iceoryx2_access.specs.declared.storage.Tag.TheVariants.{Made}
use Rattle.iceoryx2_access.specs.declared.storage.TagError.{TagError}
use Rattle.iceoryx2_access.specs.declared.storage.LockError.{LockError}
use Rattle.iceoryx2_access.specs.declared.storage.LockError.TheVariants as Locking
use Rattle.iceoryx2_access.specs.declared.storage.PublishError.{PublishError}
use Rattle.iceoryx2_access.specs.declared.storage.PublishError.TheVariants as Publishing
use Rattle.iceoryx2_access.specs.declared.storage.OpenSegmentError.{OpenSegmentError}
use Rattle.iceoryx2_access.specs.declared.storage.OpenSegmentError.TheVariants as Opening
use Rattle.iceoryx2_access.specs.Letter as letter
use Rattle.iceoryx2_world.specs.declared.world.Row.{Row}
use Rattle.iceoryx2_world.specs.declared.world.Row.TheVariants as row
use Rattle.iceoryx2_world.specs.World.{World, Tickets, tag_of}
use Rattle.iceoryx2_world.specs.Acts as act
use Rattle.iceoryx2_world.specs.Steps.{ServiceView}
use Rattle.iceoryx2_world.specs.Access.{NodeView, Change, node_view, IsAnswer, IsOwnPart, MakesTag, or_refused, lock_of}
use Rattle.iceoryx2_world.specs.Access.{publishing_of, publish_answer, opening_of, open_answer, open_refusal, own_step, has_made}
use Rattle.iceoryx2_table.specs.Recorded.{is_written}

-- What is granted has the answer that its tests come to.
pub record Granted {A E : Type 0} (f : Result (A × Change) E) (a : Result A E) : Type 0 where
  pub comes : A × Change
  pub tests : f ≡ Ok comes
  pub answer : a ≡ Ok comes.0

granted : {A E : Type 0} (m : E) (f : Result (A × Change) E) (a : Result A E) (c : Change) → IsAnswer m f a c → is_ok a ≡ true → Granted f a
granted m (Ok x) a c (inl p) e = record { comes = x; tests = refl; answer = p.0 }
granted m (Ok x) (Ok y) c (inr p) e = let q = p.0 in absurd (cc)
granted m (Ok x) (Err y) c (inr p) e = absurd (cc)
granted m (Err x) (Ok y) c p e = let q = p.0 in absurd (cc)
granted m (Err x) (Err y) c p e = absurd (cc)

made_tag : (i : ℕ) (h : ServiceHash) (there : Bool) (a : Result Tag TagError) (c : Change) → MakesTag i h there a c → (is_ok a && not there) ≡ true → a ≡ Ok Made
made_tag i h true (Ok x) c p e = absurd (cc)
made_tag i h true (Err x) c p e = absurd (cc)
made_tag i h false a c (inl p) e = p.0
made_tag i h false (Ok x) c (inr p) e = let q = p.0 in absurd (cc)
made_tag i h false (Err x) c (inr p) e = absurd (cc)

pub tag_entry : {w v : World} (i : ℕ) (h : ServiceHash) (a : Result Tag TagError) → IsOwnPart w (letter.MakeTag i h a) v → is_written w (letter.MakeTag i h a) ≡ true → a ≡ Ok Made
tag_entry {w} i h a p e = made_tag i h (tag_of w i h) a p.change p.own e

pub unit_granted : {E : Type 0} (a : Result (Unit {0}) E) → is_ok a ≡ true → a ≡ Ok tt
unit_granted (Ok tt) e = refl
unit_granted (Err x) e = absurd (cc)

pub removal_granted : {E : Type 0} (a : Result (Unit {0}) E) (b : Bool) → (is_ok a && b) ≡ true → a ≡ Ok tt
removal_granted (Ok tt) b e = refl
removal_granted (Err x) b e = absurd (cc)

refused_or : {A E : Type 0} (e : E) (n : A) (o : Option ServiceView) (x : A × Change) → or_refused e n o ≡ Ok x → x.0 ≡ n
refused_or e n None x q = absurd (cc)
refused_or e n (Some y) x q = cc

lock_number : (i : ℕ) (h : ServiceHash) (s : ServiceView) (o : Option Row) (x : ℕ × Change) → lock_of i h s o ≡ Ok x → x.0 ≡ s.counter
lock_number i h s None x q = refused_or Locking.Other s.counter (own_step i h act.Lock s) x q
lock_number i h s (Some (row.Locked n)) x q = absurd (cc)
lock_number i h s (Some (row.Published n b)) x q = absurd (cc)

-- A lock's number is the counter before.
pub lock_entry : {w v : World} (i : ℕ) (h : ServiceHash) (a : Result ℕ LockError) → IsOwnPart w (letter.Lock i h a) v → is_ok a ≡ true → a ≡ Ok w.counter
lock_entry {w} i h a p e =
    let s = node_view w i h in
    let g : Granted (lock_of i h s.view s.view.row) a = granted Locking.OutOfMemory (lock_of i h s.view s.view.row) a p.change p.own e in
    g.answer ∙ ap Ok (lock_number i h s.view s.view.row g.comes g.tests)

publishing_number : (i : ℕ) (h : ServiceHash) (n : ℕ) (k : Tickets) (o : Option ServiceView) (x : ℕ × Change) → publishing_of i h n k o ≡ Ok x → x.0 ≡ n
publishing_number i h n k None x q = absurd (cc)
publishing_number i h n k (Some y) x q = cc

tested_number : (i : ℕ) (h : ServiceHash) (n : ℕ) (k : Tickets) (o : Option ServiceView) (b : Bool) (x : ℕ × Change) → cond b (publishing_of i h n k o) (Err Publishing.Other) ≡ Ok x → x.0 ≡ n
tested_number i h n k o true x q = publishing_number i h n k o x q
tested_number i h n k o false x q = absurd (cc)

-- A publishing's ticket is its number.
pub publish_entry : {w v : World} (i : ℕ) (h : ServiceHash) (n : ℕ) (d : Description) (a : Result ℕ PublishError) → IsOwnPart w (letter.Publish i h n d a) v → is_ok a ≡ true → a ≡ Ok n
publish_entry {w} i h n d a p e =
    let s = node_view w i h in
    let g : Granted (publish_answer i h s n d) a = granted Publishing.OutOfMemory (publish_answer i h s n d) a p.change p.own.1 e in
    g.answer ∙ ap Ok (tested_number i h n s.tickets (own_step i h (act.Publish d) s.view) (has_made n s.view.phase) g.comes g.tests)

opening_ticket : (i : ℕ) (h : ServiceHash) (n : ℕ) (s : NodeView) (r : Option OpenSegmentError) (o : Option ServiceView) (x : ℕ × Change) → opening_of i h n s r o ≡ Ok x → x.0 ≡ s.view.counter
opening_ticket i h n s (Some e) o x q = absurd (cc)
opening_ticket i h n s None None x q = absurd (cc)
opening_ticket i h n s None (Some y) x q = cc

-- An opening's ticket is the counter before.
pub open_entry : {w v : World} (i : ℕ) (h : ServiceHash) (n : ℕ) (a : Result ℕ OpenSegmentError) → IsOwnPart w (letter.OpenSegment i h n a) v → is_ok a ≡ true → a ≡ Ok w.counter
open_entry {w} i h n a p e =
    let s = node_view w i h in
    let g : Granted (open_answer i h s n) a = granted Opening.OutOfMemory (open_answer i h s n) a p.change p.own e in
    g.answer ∙ ap Ok (opening_ticket i h n s (open_refusal n s.view.segment s.view.counter s.view.phase) (own_step i h act.Join s.view) g.comes g.tests)
