-- What is written down before it changes anything: what it comes to, and what each access of a node is then.
use Rattle.std.proofs.Common.{◌≡◌, ℕ, ◌+◌, Bool, true, false, not, ◌⊎◌, inl, inr, Option, Some, None, refl, sym, ap, subst, ◌∙◌}
use Rattle.std.specs.Prelude.{◌&&◌, is_err, is_some, nat_lt, Result, Ok, Err}
use Rattle.std.specs.FinMap as map
use Rattle.std.specs.declared.alloc.AllocError.{AllocError}
use Rattle.iceoryx2_description.specs.declared.description.ServiceHash.{ServiceHash}
use Rattle.iceoryx2_description.specs.Description.{Description, IsDescription}
use Rattle.iceoryx2_access.specs.Letter.{Letter, acting_node, service_of}
use Rattle.iceoryx2_access.specs.Letter as letter
use Rattle.iceoryx2_access.specs.MayRefuse.{IsFault, MayRefuse}
use Rattle.iceoryx2_access.specs.declared.storage.LockError.TheVariants as Locking
use Rattle.iceoryx2_access.specs.declared.storage.MakeSegmentError.TheVariants as Making
use Rattle.iceoryx2_access.specs.declared.storage.OpenSegmentError.{OpenSegmentError}
use Rattle.iceoryx2_access.specs.declared.storage.OpenSegmentError.TheVariants as Opening
use Rattle.iceoryx2_access.specs.declared.storage.PublishError.TheVariants as Publishing
use Rattle.iceoryx2_access.specs.declared.storage.Release.{Release as Released}
use Rattle.iceoryx2_access.specs.declared.storage.ReleaseError.TheVariants.{NoSuchTicket}
use Rattle.iceoryx2_access.specs.declared.storage.Tag.{Tag}
use Rattle.iceoryx2_access.specs.declared.storage.Tag.TheVariants.{Made, Found}
use Rattle.iceoryx2_access.specs.declared.storage.TagError.{TagError}
use Rattle.iceoryx2_access.specs.declared.storage.TagError.TheVariants as Tagging
use Rattle.iceoryx2_world.specs.declared.world.Participant.{Participant}
use Rattle.iceoryx2_world.specs.declared.world.Participant.TheVariants.{Node}
use Rattle.iceoryx2_world.specs.declared.world.Ticket.{Ticket}
use Rattle.iceoryx2_world.specs.Access.{Change, node_view, lock_of, make_answer, remove_answer, publish_answer, open_answer, release_with, nothing, tag_becomes, write, IsAnswer, IsSureAnswer, MakesTag, IsOwnPart, has_lock, has_made, is_ticket, open_refusal}
use Rattle.iceoryx2_world.specs.Acts.{Act}
use Rattle.iceoryx2_world.specs.Acts as act
use Rattle.iceoryx2_world.specs.Orders.{tag_cmp, tag_total, tag_exact}
use Rattle.iceoryx2_world.specs.Sets as set
use Rattle.iceoryx2_world.specs.World.{World, Tickets, tag_of, set_to}
use Rattle.iceoryx2_table.specs.declared.services.Position.{Position}
use Rattle.iceoryx2_table.specs.ServicesState.{ServicesState, position_in, world_with}
use Rattle.iceoryx2_table.specs.Recorded.{is_written, IsRecordedPart, untouched, recorded, declined, RecordsStep, RecordsLeave}
use Rattle.iceoryx2_table.proofs.Accesses.{part}
use Rattle.iceoryx2_table.proofs.OwnParts.{services_of, removal, tag_part, tag_made, lock_forbidden, locked, segment_removed, description_removed, make_forbidden, makes, publish_forbidden, published, open_forbidden, opened, not_released, released}
use Rattle.iceoryx2_table.proofs.Views.{kept, none_of}

-- what is refused changes nothing
module _ {A E : Type 0} where
  no_change : (m : E) (x : Result (A × Change) E) (e : E) (c : Change) → IsAnswer m x (Err e) c → c ≡ nothing
  no_change m (Ok x) e c (inl p) = let q = p.0 in absurd (cc)
  no_change m (Ok x) e c (inr p) = p.1
  no_change m (Err x) e c p = p.1

  surely_no_change : (x : Result (A × Change) E) (e : E) (c : Change) → IsSureAnswer x (Err e) c → c ≡ nothing
  surely_no_change (Ok x) e c p = let q = p.0 in absurd (cc)
  surely_no_change (Err x) e c p = p.1

tag_no_change : (i : ℕ) (h : ServiceHash) (there : Bool) (e : TagError) (c : Change) → MakesTag i h there (Err e) c → c ≡ nothing
tag_no_change i h true e c p = p.1
tag_no_change i h false e c p = no_change {A = Tag} Tagging.OutOfMemory (Ok (Made, tag_becomes true)) e c p

unchanged : {w v : World} (l : Letter) (p : IsOwnPart w l v) → p.change ≡ nothing → v ≡ w
unchanged {w} l p e = p.is ∙ ap (write w (acting_node l) (service_of l)) e

abbrev pub is_refused : Letter → Bool
is_refused (letter.MakeTag i h a) = is_err a
is_refused (letter.Lock i h a) = is_err a
is_refused (letter.MakeSegment i h n m a) = is_err a
is_refused (letter.RemoveSegment i h a) = is_err a
is_refused (letter.RemoveDescription i h a) = is_err a
is_refused (letter.Publish i h n d a) = is_err a
is_refused (letter.OpenSegment i h n a) = is_err a
is_refused (letter.Release t i h n a) = is_err a
is_refused _ = false

stays : {w v : World} (l : Letter) → is_refused l ≡ true → IsOwnPart w l v → v ≡ w
stays {w} (letter.MakeTag i h (Err e)) r p = unchanged _ p (tag_no_change i h (tag_of w i h) e p.change p.own)
stays {w} (letter.Lock i h (Err e)) r p = let s = node_view w i h in unchanged _ p (no_change {A = ℕ} Locking.OutOfMemory (lock_of i h s.view s.view.row) e p.change p.own)
stays {w} (letter.MakeSegment i h n m (Err e)) r p = let s = node_view w i h in unchanged _ p (no_change {A = Unit {0}} Making.OutOfMemory (make_answer i h s n m) e p.change p.own)
stays {w} (letter.RemoveSegment i h (Err e)) r p = let s = node_view w i h in unchanged _ p (surely_no_change {A = Unit {0}} (remove_answer i h s act.RemoveSegment) e p.change p.own)
stays {w} (letter.RemoveDescription i h (Err e)) r p = let s = node_view w i h in unchanged _ p (surely_no_change {A = Unit {0}} (remove_answer i h s act.RemoveDescription) e p.change p.own)
stays {w} (letter.Publish i h n d (Err e)) r p = let s = node_view w i h in unchanged _ p (no_change {A = ℕ} Publishing.OutOfMemory (publish_answer i h s n d) e p.change p.own.1)
stays {w} (letter.OpenSegment i h n (Err e)) r p = let s = node_view w i h in unchanged _ p (no_change {A = ℕ} Opening.OutOfMemory (open_answer i h s n) e p.change p.own)
stays {w} (letter.Release t i h n (Err e)) r p = let s = node_view w i h in unchanged _ p (surely_no_change {A = Released} (release_with i h s t n) e p.change p.own)
stays l r p = absurd (cc)

module _ {R : Type 0} (written refused : R → R → Type 0) (before after : R) where
  -- by what is known of whether it was done
  tell : (b : ServicesState) (p : Participant) (h : ServiceHash) (t : Act) (c : ServicesState) {done : Bool} (y : Bool) → done ≡ y → RecordsStep written refused b p h t done c before after → RecordsStep written refused b p h t y c before after
  tell b p h t c y e s = subst (λ (z : Bool). RecordsStep written refused b p h t z c before after) e s

-- a is the world as it is read in the fields, and w is its value
module _ {a w : World} (i : ℕ) (h : ServiceHash) (is : a ≡ w) where
  tag_is : {y : Bool} → tag_of a i h ≡ y → tag_of w i h ≡ y
  tag_is e = ap (λ (x : World). tag_of x i h) (sym is) ∙ e

  pub tags_same : {t : set.FinSet tag_cmp} → t ≡ a.tags → record a { tags = t } ≡ w
  tags_same same = (λ j. record a { tags = same j }) ∙ is

  services_same : {b : ServicesState} → b ≡ services_of a → world_with b a.tags a.tickets ≡ w
  services_same e = ap (λ (x : ServicesState). world_with x a.tags a.tickets) e ∙ is

  tickets_same : {b : ServicesState} {k : Tickets} → k ≡ a.tickets → b ≡ services_of a → world_with b a.tags k ≡ w
  tickets_same same e = (λ j. world_with (e j) a.tags (same j)) ∙ is

module _ {R : Type 0} {written refused : R → R → Type 0} {before after : R} where
  -- At what never refuses it is the node's own part.
  pub is_own_part : {w v : World} {l : Letter} → ((x y : R) → refused x y → ⊥) → IsRecordedPart written refused w l v before after → IsOwnPart w l v
  is_own_part never (untouched e own same still) = own
  is_own_part never (recorded e own wrote) = own
  is_own_part never (declined fault same declines) = absurd (never _ _ declines)

  -- It is the node's own part, or a refusal.
  pub may_refuse : {w v : World} {l : Letter} → IsRecordedPart written refused w l v before after → MayRefuse IsOwnPart w l v
  may_refuse (untouched e own same still) = inl own
  may_refuse (recorded e own wrote) = inl own
  may_refuse (declined fault same declines) = inr (fault, same)

  -- what is refused isn't written
  pub barred : {w v : World} {l : Letter} → is_written w l ≡ false → is_refused l ≡ true → IsOwnPart w l v → after ≡ before → IsRecordedPart written refused w l v before after
  barred {l = l} e r own same = untouched e own (stays l r own) same

  -- what isn't done was forbidden, or refused an entry
  pub not_done : {P Q : Type 0} {w v : World} {l : Letter} → is_written w l ≡ false → is_refused l ≡ true → IsFault l → (P → IsOwnPart w l v) → (Q → v ≡ w) → (P × (after ≡ before)) ⊎ (Q × refused before after) → IsRecordedPart written refused w l v before after
  not_done e r fault own same (inl x) = barred e r (own x.0) x.1
  not_done e r fault own same (inr x) = declined fault (same x.0) x.1

  -- a is the world as it is read in the fields, and w is its value
  module _ {a w : World} (i : ℕ) (h : ServiceHash) (is : a ≡ w) where
    pub tag_found : tag_of a i h ≡ true → after ≡ before → IsRecordedPart written refused w (letter.MakeTag i h (Ok Found)) w before after
    tag_found there same = untouched (ap not (tag_is i h is there)) (tag_part i h is _ _ nothing there (refl, refl) (sym is)) refl same

    pub tag_kept : {s t : set.FinSet tag_cmp} → tag_of a i h ≡ false → s ≡ set.insert t (i, h) → t ≡ a.tags → written before after → IsRecordedPart written refused w (letter.MakeTag i h (Ok Made)) (record a { tags = s }) before after
    tag_kept absent kept same wrote = recorded (ap not (tag_is i h is absent)) (tag_made i h is absent kept same) wrote

    pub no_tag : tag_of a i h ≡ false → after ≡ before → IsRecordedPart written refused w (letter.RemoveTag i h (Ok tt)) w before after
    no_tag absent same =
        let gone : a.tags ≡ set.remove a.tags (i, h) = kept tag_total tag_exact a.tags (i, h) ∙ ap (λ (o : Option (Unit {0})). set_to a.tags (i, h) o) (none_of _ absent) in
        untouched (tag_is i h is absent) (part (letter.RemoveTag i h (Ok tt)) (tag_becomes false) is (refl, refl) (sym is ∙ (λ j. record a { tags = gone j }))) refl same

    pub tag_gone : {t : set.FinSet tag_cmp} → tag_of a i h ≡ true → t ≡ set.remove a.tags (i, h) → written before after → IsRecordedPart written refused w (letter.RemoveTag i h (Ok tt)) (record a { tags = t }) before after
    tag_gone there gone wrote = recorded (tag_is i h is there) (part (letter.RemoveTag i h (Ok tt)) (tag_becomes false) is (refl, refl) (λ j. record a { tags = gone j })) wrote

    pub lock_not_done : (b : ServicesState) {done : Bool} → map.get a.rows h ≡ None → done ≡ false → RecordsStep written refused (services_of a) (Node i) h act.Lock done b before after → IsRecordedPart written refused w (letter.Lock i h (Err Locking.Other)) (world_with b a.tags a.tickets) before after
    lock_not_done b absent told s = not_done refl refl refl (λ x. lock_forbidden i h is b absent refl x) (services_same i h is) (tell written refused before after (services_of a) (Node i) h act.Lock b false told s)

    pub lock_done : (b : ServicesState) {done : Bool} {n : ℕ} → map.get a.rows h ≡ None → done ≡ true → RecordsStep written refused (services_of a) (Node i) h act.Lock done b before after → n ≡ a.counter → IsRecordedPart written refused w (letter.Lock i h (Ok n)) (world_with b a.tags a.tickets) before after
    lock_done b absent told s e = let x = tell written refused before after (services_of a) (Node i) h act.Lock b true told s in recorded refl (locked i h is b absent refl x.0 e) x.1

    pub segment_removal : (b : ServicesState) (done : Bool) {told : Bool} → told ≡ done → RecordsStep written refused (services_of a) (Node i) h act.RemoveSegment told b before after → IsRecordedPart written refused w (letter.RemoveSegment i h (removal done)) (world_with b a.tags a.tickets) before after
    segment_removal b true e s = let x = tell written refused before after (services_of a) (Node i) h act.RemoveSegment b true e s in recorded refl (segment_removed i h is b true refl x.0) x.1
    segment_removal b false e s = not_done refl refl refl (λ x. segment_removed i h is b false refl x) (services_same i h is) (tell written refused before after (services_of a) (Node i) h act.RemoveSegment b false e s)

    pub description_removal : (b : ServicesState) (done : Bool) {told : Bool} → told ≡ done → RecordsStep written refused (services_of a) (Node i) h act.RemoveDescription told b before after → IsRecordedPart written refused w (letter.RemoveDescription i h (removal done)) (world_with b a.tags a.tickets) before after
    description_removal b true e s = let x = tell written refused before after (services_of a) (Node i) h act.RemoveDescription b true e s in recorded refl (description_removed i h is b true refl x.0) x.1
    description_removal b false e s = not_done refl refl refl (λ x. description_removed i h is b false refl x) (services_same i h is) (tell written refused before after (services_of a) (Node i) h act.RemoveDescription b false e s)

  -- by whether the node holds the lock of this number, for at least one node
  module _ {a w : World} (i : ℕ) (h : ServiceHash) (is : a ≡ w) (n m : ℕ) {q : Position} (found : q ≡ position_in a.phases (Node i, h)) {may : Bool} (test : may ≡ (has_lock n q.phase && nat_lt 0 m)) where
    pub make_not_done : (b : ServicesState) {done : Bool} → may ≡ true → is_some (map.get a.segments h) ≡ false → done ≡ false → RecordsStep written refused (services_of a) (Node i) h (act.Make m) done b before after → IsRecordedPart written refused w (letter.MakeSegment i h n m (Err Making.Other)) (world_with b a.tags a.tickets) before after
    make_not_done b e absent told s = not_done refl refl refl (λ x. make_forbidden i h is n m found test e absent x) (services_same i h is) (tell written refused before after (services_of a) (Node i) h (act.Make m) b false told s)

    pub make_is_done : (b : ServicesState) {done : Bool} → may ≡ true → done ≡ true → RecordsStep written refused (services_of a) (Node i) h (act.Make m) done b before after → IsRecordedPart written refused w (letter.MakeSegment i h n m (Ok tt)) (world_with b a.tags a.tickets) before after
    make_is_done b e told s = let x = tell written refused before after (services_of a) (Node i) h (act.Make m) b true told s in recorded refl (makes i h is n m found test b e x.0) x.1

  -- by whether the node has made a segment under the lock of this number
  module _ {a w : World} (i : ℕ) (h : ServiceHash) (is : a ≡ w) (n : ℕ) (d : Description) {q : Position} (found : q ≡ position_in a.phases (Node i, h)) {made : Bool} (test : made ≡ has_made n q.phase) where
    pub publish_not_done : (b : ServicesState) {done : Bool} {k : Tickets} → made ≡ true → done ≡ false → RecordsStep written refused (services_of a) (Node i) h (act.Publish d) done b before after → k ≡ a.tickets → IsRecordedPart written refused w (letter.Publish i h n d (Err Publishing.Other)) (world_with b a.tags k) before after
    publish_not_done b e told s same = not_done refl refl refl (λ x. publish_forbidden i h is n d found test b e x same) (tickets_same i h is same) (tell written refused before after (services_of a) (Node i) h (act.Publish d) b false told s)

    pub publish_done : (b : ServicesState) {done : Bool} {k m : Tickets} {x : Ticket} → made ≡ true → done ≡ true → RecordsStep written refused (services_of a) (Node i) h (act.Publish d) done b before after → (◌≡◌ {A = Result Bool AllocError} (Ok done) (Ok true) → IsDescription d) → k ≡ map.insert m n x → x ≡ record { node = i; hash = h; number = n } → m ≡ a.tickets
        → IsRecordedPart written refused w (letter.Publish i h n d (Ok n)) (world_with b a.tags k) before after
    publish_done b e told s limits kept held same =
        let x = tell written refused before after (services_of a) (Node i) h (act.Publish d) b true told s in
        recorded refl (published i h is n d found test b e refl x.0 (λ _. limits (ap Ok told)) kept held same) x.1

  -- by what was found against it
  module _ {a w : World} (i : ℕ) (h : ServiceHash) (is : a ≡ w) (n : ℕ) {q : Position} (found : q ≡ position_in a.phases (Node i, h)) {refusal : Option OpenSegmentError} (test : refusal ≡ open_refusal n (map.get a.segments h) a.counter q.phase) where
    pub open_not_done : (b : ServicesState) {done : Bool} {k : Tickets} → refusal ≡ None → done ≡ false → RecordsStep written refused (services_of a) (Node i) h act.Join done b before after → k ≡ a.tickets → IsRecordedPart written refused w (letter.OpenSegment i h n (Err Opening.Failed)) (world_with b a.tags k) before after
    open_not_done b e told s same = not_done refl refl refl (λ x. open_forbidden i h is n found test b e x same) (tickets_same i h is same) (tell written refused before after (services_of a) (Node i) h act.Join b false told s)

    pub open_done : (b : ServicesState) {done : Bool} {v : ServicesState} {u : ℕ} {k m : Tickets} {t : Ticket} → refusal ≡ None → done ≡ true → RecordsStep written refused (services_of a) (Node i) h act.Join done b before after → u ≡ b.counter → v ≡ record b { counter = b.counter + 1 } → k ≡ map.insert m u t → t ≡ record { node = i; hash = h; number = n } → m ≡ a.tickets
        → IsRecordedPart written refused w (letter.OpenSegment i h n (Ok u)) (world_with v a.tags k) before after
    open_done b e told s ticket counted kept held still =
        let x = tell written refused before after (services_of a) (Node i) h act.Join b true told s in
        recorded refl (opened i h is n found test b e refl x.0 ticket counted kept held still) x.1

  -- by whether it is a ticket of this node for this service and number
  module _ {a w : World} (i : ℕ) (h : ServiceHash) (is : a ≡ w) (u n : ℕ) {o : Option Ticket} (found : o ≡ map.get a.tickets u) {held : Bool} (test : held ≡ is_ticket i h n o) where
    pub release_not_done : {b : ServicesState} → held ≡ true → RecordsLeave written refused (services_of a) (Node i) h None b before after → IsRecordedPart written refused w (letter.Release u i h n (Err NoSuchTicket)) (world_with b a.tags a.tickets) before after
    release_not_done e s = not_done refl refl refl (λ x. not_released i h is u n found test e x) (services_same i h is) s

    pub release_done : {b : ServicesState} {k : Tickets} (r : Released) → held ≡ true → RecordsLeave written refused (services_of a) (Node i) h (Some r) b before after → k ≡ map.remove a.tickets u → IsRecordedPart written refused w (letter.Release u i h n (Ok r)) (world_with b a.tags k) before after
    release_done r e s gone = recorded refl (released i h is u n found test r e s.0 gone) s.1
