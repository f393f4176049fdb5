-- The own parts of accesses, from what was tested and done.
use Rattle.std.proofs.Common.{◌≡◌, ℕ, ◌+◌, Bool, true, false, Option, Some, None, refl, sym, ap, subst, ◌∙◌}
use Rattle.std.specs.Prelude.{Result, Ok, Err, is_some, ◌&&◌, ◌==◌, if◌then◌else◌}
use Rattle.iceoryx2_description.specs.declared.description.ServiceHash.{ServiceHash}
use Rattle.iceoryx2_description.specs.Description.{Description}
use Rattle.iceoryx2_world.specs.Sets as set
use Rattle.iceoryx2_world.specs.declared.world.Row.{Row}
use Rattle.iceoryx2_world.specs.declared.world.Participant.TheVariants.{Node}
use Rattle.iceoryx2_world.specs.declared.world.Phase.{Phase}
use Rattle.iceoryx2_world.specs.declared.world.Phase.TheVariants as at
use Rattle.iceoryx2_access.specs.declared.storage.PublishError.{PublishError}
use Rattle.iceoryx2_access.specs.declared.storage.PublishError.TheVariants as Publishing
use Rattle.iceoryx2_access.specs.declared.storage.MakeSegmentError.TheVariants as Making
use Rattle.iceoryx2_world.specs.Orders.{tag_cmp}
use Rattle.iceoryx2_world.specs.World.{World, Segment, Tickets}
use Rattle.iceoryx2_world.specs.Acts as act
use Rattle.iceoryx2_world.specs.Steps.{ServiceView, view_after, to_view, row_for}
use Rattle.iceoryx2_access.specs.Letter.{Letter, acting_node, service_of}
use Rattle.iceoryx2_access.specs.declared.storage.OpenSegmentError.{OpenSegmentError}
use Rattle.iceoryx2_world.specs.Access.{NodeView, Change, view_becomes_with, with_ticket, opening_of, read_change, publishing_of, has_made, make_of, view_becomes, or_refused, IsNodeAnswer, IsOwnPart, node_view, write}
use Rattle.iceoryx2_table.proofs.Views.{both_true}
use Rattle.iceoryx2_table.specs.ServicesState.{ServicesState, StepsOrStays, step_at, world_with, segment_fits}

-- what was shown of the fields, of the value
pub part : {a w v : World} (l : Letter) (c : Change) → a ≡ w → IsNodeAnswer (acting_node l) (service_of l) (node_view a (acting_node l) (service_of l)) l c → v ≡ write a (acting_node l) (service_of l) c → IsOwnPart w l v
part {a} {w} {v} l c e own is = subst (λ (x : World). IsOwnPart x l v) e (record { change = c; own = own; is = is })

pub record There {A : Type 0} (o : Option A) : Type 0 where
  pub it : A
  pub is : o ≡ Some it

-- the step Read was made, or it was forbidden and nothing changed
pub read_or_not : (i : ℕ) (h : ServiceHash) (b c : ServicesState) (t : set.FinSet tag_cmp) (k : Tickets) (done : Bool) → StepsOrStays b (Node i) h act.Read done c → world_with c t k ≡ write (world_with b t k) i h (read_change (step_at b (Node i) h act.Read))
read_or_not i h b c t k true s = ap (λ x. world_with x t k) s.2 ∙ ap (λ o. write (world_with b t k) i h (read_change o)) (sym s.1)
read_or_not i h b c t k false s = ap (λ x. world_with x t k) s.1 ∙ ap (λ o. write (world_with b t k) i h (read_change o)) (sym s.0)

module _ (i : ℕ) (h : ServiceHash) (n : ℕ) (d : Description) (k : Tickets) (r : Option Row) (c : ℕ) where
  -- what a node publishes that made the segment, or why it doesn't
  abbrev pub publishes : Phase → Option Segment → Result (ℕ × Change) PublishError
  publishes x s = if has_made n x then publishing_of i h n k (view_after (Node i) h (act.Publish d) x r s c) else Err Publishing.Other

  unfit : (m : ℕ) (s : Option Segment) → segment_fits h s d ≡ false → view_after (Node i) h (act.Publish d) (at.Made m) r s c ≡ None
  unfit m None e = refl
  unfit m (Some s) e = ap (λ (b : Bool). if b then to_view (at.Joined m 1) (Some (row_for m d)) (Some s) c else None) e

  fit : (m : ℕ) (s : Option Segment) → segment_fits h s d ≡ true → There (view_after (Node i) h (act.Publish d) (at.Made m) r s c)
  fit m None e = absurd (cc)
  fit m (Some s) e = record { it = _; is = ap (λ (b : Bool). if b then to_view (at.Joined m 1) (Some (row_for m d)) (Some s) c else None) e }

  unmade : (b : Bool) (m : ℕ) (s : Option Segment) → (b && segment_fits h s d) ≡ false → (if b then publishing_of i h n k (view_after (Node i) h (act.Publish d) (at.Made m) r s c) else Err Publishing.Other) ≡ Err Publishing.Other
  unmade true m s e = ap (publishing_of i h n k) (unfit m s e)
  unmade false m s e = refl

  pub no_publish : (x : Phase) (s : Option Segment) → (has_made n x && segment_fits h s d) ≡ false → publishes x s ≡ Err Publishing.Other
  no_publish (at.Made m) s e = unmade (m == n) m s e
  no_publish x s e = refl

  pub may_publish : (x : Phase) (s : Option Segment) → (has_made n x && segment_fits h s d) ≡ true → (has_made n x ≡ true) × There (view_after (Node i) h (act.Publish d) x r s c)
  may_publish (at.Made m) s e = let p = both_true _ _ e in (p.0, fit m s p.1)
  may_publish x s e = absurd (cc)

  pub publishes_by : (x : Phase) (s : Option Segment) (o : Option ServiceView) → has_made n x ≡ true → view_after (Node i) h (act.Publish d) x r s c ≡ o → publishes x s ≡ publishing_of i h n k o
  publishes_by x s o made e = ap (λ (b : Bool). if b then publishing_of i h n k (view_after (Node i) h (act.Publish d) x r s c) else Err Publishing.Other) made ∙ ap (publishing_of i h n k) e

-- an opening that isn't refused
pub opens_by : (i : ℕ) (h : ServiceHash) (n : ℕ) (s : NodeView) (r : Option OpenSegmentError) (o : Option ServiceView) (x : ServiceView) → r ≡ None → o ≡ Some x
    → opening_of i h n s r o ≡ Ok (s.view.counter, view_becomes_with (record x { counter = s.view.counter + 1 }) (with_ticket i h s.tickets s.view.counter n))
opens_by i h n s r o x e f = ap (λ (q : Option OpenSegmentError). opening_of i h n s q o) e ∙ ap (opening_of i h n s None) f

-- where there is a segment none is made
pub make_refused : (i : ℕ) (h : ServiceHash) (m : ℕ) (x : ServiceView) (o : Option Segment) → is_some o ≡ true → make_of i h m x o ≡ Err Making.AlreadyExists
make_refused i h m x (Some s) e = refl
make_refused i h m x None e = absurd (cc)

-- a segment is made only where there is none
pub make_done : (i : ℕ) (h : ServiceHash) (m : ℕ) (x : Phase) (r : Option Row) (s : Option Segment) (c : ℕ) (y : ServiceView) → view_after (Node i) h (act.Make m) x r s c ≡ Some y
    → make_of i h m (record { phase = x; row = r; segment = s; counter = c }) s ≡ Ok (tt, view_becomes y)
make_done i h m x r None c y e = ap (or_refused Making.Other tt) e
make_done i h m (at.Locked k) r (Some s) c y e = absurd (cc)
make_done i h m x r (Some s) c y e = absurd (cc)
