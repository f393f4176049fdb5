-- What own nodes rely on is kept: by nothing that happens, by one thing after another, by peers and by other nodes.
use Rattle.std.proofs.Common.{◌≡◌, ◌≢◌, ℕ, ◌+◌, Bool, true, false, cond, ◌⊎◌, inl, inr, Option, Some, None, Ok, refl, sym, ap, subst, ◌∙◌}
use Rattle.std.specs.Prelude.{◌||◌, ◌&&◌, not, is_some}
use Rattle.std.specs.FinMap as map
use Rattle.std.specs.Ordering.{nat_cmp, eq_by_cmp}
use Rattle.std.proofs.lemmas.Cmp.{nat_cmp_total}
use Rattle.std.proofs.lemmas.Map.Lookups.{exact_unsigned}
use Rattle.iceoryx2_description.specs.declared.description.ServiceHash.{ServiceHash}
use Rattle.iceoryx2_world.specs.Sets as set
use Rattle.iceoryx2_world.specs.declared.world.Participant.{Participant}
use Rattle.iceoryx2_world.specs.declared.world.Participant.TheVariants.{Node, Peer}
use Rattle.iceoryx2_world.specs.declared.world.Ticket.{Ticket}
use Rattle.iceoryx2_world.specs.Orders.{tag_cmp, tag_total, tag_exact}
use Rattle.iceoryx2_world.specs.World.{World, Tickets, phase_of, tag_of, locked_number, ticket_of}
use Rattle.iceoryx2_world.specs.Acts.{Act, IsAct}
use Rattle.iceoryx2_world.specs.Acts as act
use Rattle.iceoryx2_world.specs.Steps.{ServiceView, world_after}
use Rattle.iceoryx2_world.specs.ServiceAgreement.{IsSpent}
use Rattle.iceoryx2_world.specs.Agreement.{Agrees}
use Rattle.iceoryx2_access.specs.Letter.{Letter, acting_node, service_of}
use Rattle.iceoryx2_access.specs.Letter as letter
use Rattle.iceoryx2_access.specs.Registered.{Registered}
use Rattle.iceoryx2_world.specs.Standing.{Spares}
use Rattle.iceoryx2_world.proofs.agreement.Stands.{ticket_stands, step_ticket, part_ticket}
use Rattle.iceoryx2_world.specs.Access.{put_view, set_tag, IsOwnPart}
use Rattle.iceoryx2_world.specs.Interference.{SameTickets, SameTags, everyone, LacksSegment, Rely, Others, nobody, peer_acts, node_acts, After, IsFallibleUnder}
use Rattle.iceoryx2_world.specs.Laws.{OthersKeepOwn, BothKeepOwn, KeepsOfMore, StaysSpent, SameTicketsOfAll, SameTagsOfAll}
use Rattle.iceoryx2_world.proofs.agreement.Maps.{set_cases, either}
use Rattle.iceoryx2_world.proofs.agreement.Effects.{allowed_step}
use Rattle.iceoryx2_world.proofs.agreement.Worlds.{ticket_put, ticket_removed, same_node, not_peer, place_cases, peer_places, peer_keeps, step_tickets}
use Rattle.iceoryx2_world.proofs.agreement.Parts.{mine, Part, stays, tagged, calm, removed, publishes, joins, releases, own_part}
use Rattle.iceoryx2_world.proofs.agreement.Accesses.{later_refl, later_trans, own_keeps}
use Rattle.iceoryx2_world.proofs.agreement.Spent.{world_segment, spent_step, spent_own}

-- ---- what is the same to own nodes
module _ (own : ℕ → Bool) where
  pub tickets_refl : (k : Tickets) → SameTickets own k k
  tickets_refl k = record { kept = λ t x is e. e; no_other = λ t x is e. e }

  pub tickets_trans : (j k l : Tickets) → SameTickets own j k → SameTickets own k l → SameTickets own j l
  tickets_trans j k l a b = record { kept = λ t x is e. b.kept t x is (a.kept t x is e); no_other = λ t x is e. a.no_other t x is (b.no_other t x is e) }

  pub tickets_equal : (j k : Tickets) → k ≡ j → SameTickets own j k
  tickets_equal j k e = subst (λ z. SameTickets own j z) (sym e) (tickets_refl j)

  same_where : (b : Bool) (o p q : Option Ticket) (x : Ticket) → (o ≡ Some x → p ≡ Some x) → cond b q o ≡ Some x → cond b q p ≡ Some x
  same_where true o p q x f e = e
  same_where false o p q x f e = f e

  pub tickets_insert : (j k : Tickets) (t : ℕ) (x : Ticket) → SameTickets own j k → SameTickets own (map.insert j t x) (map.insert k t x)
  tickets_insert j k t x a = record {
    kept = λ q y is e. map.get-insert nat_cmp_total k t x q ∙ same_where (eq_by_cmp nat_cmp q t) (map.get j q) (map.get k q) (Some x) y (a.kept q y is) (sym (map.get-insert nat_cmp_total j t x q) ∙ e);
    no_other = λ q y is e. map.get-insert nat_cmp_total j t x q ∙ same_where (eq_by_cmp nat_cmp q t) (map.get k q) (map.get j q) (Some x) y (a.no_other q y is) (sym (map.get-insert nat_cmp_total k t x q) ∙ e);
  }

  pub tickets_remove : (j k : Tickets) (t : ℕ) → SameTickets own j k → SameTickets own (map.remove j t) (map.remove k t)
  tickets_remove j k t a = record {
    kept = λ q y is e. map.get-remove nat_cmp_total k t q ∙ same_where (eq_by_cmp nat_cmp q t) (map.get j q) (map.get k q) None y (a.kept q y is) (sym (map.get-remove nat_cmp_total j t q) ∙ e);
    no_other = λ q y is e. map.get-remove nat_cmp_total j t q ∙ same_where (eq_by_cmp nat_cmp q t) (map.get k q) (map.get j q) None y (a.no_other q y is) (sym (map.get-remove nat_cmp_total k t q) ∙ e);
  }

  pub tags_trans : (s t u : set.FinSet tag_cmp) → SameTags own s t → SameTags own t u → SameTags own s u
  tags_trans s t u a b = λ i h is. b i h is ∙ a i h is

  pub tags_equal : (s t : set.FinSet tag_cmp) → t ≡ s → SameTags own s t
  tags_equal s t e = λ i h is. ap (λ z. set.contains z (i, h)) e

  pub tags_insert : (s t : set.FinSet tag_cmp) (x : ℕ × ServiceHash) → SameTags own s t → SameTags own (set.insert s x) (set.insert t x)
  tags_insert s t x a = λ i h is. set.contains-insert tag_total t x (i, h) ∙ ap (λ b. eq_by_cmp tag_cmp (i, h) x || b) (a i h is) ∙ sym (set.contains-insert tag_total s x (i, h))

  pub tags_remove : (s t : set.FinSet tag_cmp) (x : ℕ × ServiceHash) → SameTags own s t → SameTags own (set.remove s x) (set.remove t x)
  tags_remove s t x a = λ i h is. set.contains-remove tag_total t x (i, h) ∙ ap (λ b. not (eq_by_cmp tag_cmp (i, h) x) && b) (a i h is) ∙ sym (set.contains-remove tag_total s x (i, h))

-- where every node is one's own, they are the same
same_option : (o p : Option Ticket) → ((x : Ticket) → o ≡ Some x → p ≡ Some x) → ((x : Ticket) → p ≡ Some x → o ≡ Some x) → p ≡ o
same_option None None f g = refl
same_option None (Some x) f g = sym (g x refl)
same_option (Some x) p f g = f x refl

pub all_tickets : SameTicketsOfAll
all_tickets j k a = map.same_map nat_cmp_total exact_unsigned k j (λ q. same_option (map.get j q) (map.get k q) (λ x e. a.kept q x refl e) (λ x e. a.no_other q x refl e))

same_there : (o p : Option (Unit {0})) → is_some p ≡ is_some o → p ≡ o
same_there None None e = refl
same_there None (Some x) e = absurd (cc)
same_there (Some x) None e = absurd (cc)
same_there (Some x) (Some y) e = refl

pub all_tags : SameTagsOfAll
all_tags s t a = map.same_map tag_total tag_exact t s (λ q. same_there (map.get s q) (map.get t q) (a q.0 q.1 refl))

-- ---- what is relied on is kept where nothing happens, and by one thing after another
pub rely_same : (own : ℕ → Bool) (w : World) → Rely own w w
rely_same own w old = record {
  agrees = old;
  later = later_refl w;
  phases = λ i h mine. refl;
  tags = λ i h mine. refl;
  tickets = tickets_refl own w.tickets;
  spent = λ h n s. s;
  locked = λ i h n mine lock lacks. lacks;
}

pub rely_both : (own : ℕ → Bool) (u v w : World) → BothKeepOwn own u v w
rely_both own u v w first second old =
    let a = first old in
    let b = second a.agrees in
    record {
      agrees = b.agrees;
      later = later_trans u v w old.everywhere a.later b.later;
      phases = λ i h is. b.phases i h is ∙ a.phases i h is;
      tags = λ i h is. b.tags i h is ∙ a.tags i h is;
      tickets = tickets_trans own u.tickets v.tickets w.tickets a.tickets b.tickets;
      spent = λ h n s. b.spent h n (a.spent h n s);
      locked = λ i h n is lock lacks. b.locked i h n is (ap locked_number (a.phases i h is) ∙ lock) (a.locked i h n is lock lacks);
    }

-- a step by somebody else brings no segment of a number whose lock a node has
lacks_step : (w v : World) (p : Participant) (g : ServiceHash) (a : Act) (i : ℕ) (h : ServiceHash) (n : ℕ) → (Node i ≢ p) → world_after w p g a ≡ Some v → Agrees w → locked_number (phase_of w (Node i) h) ≡ Some n → LacksSegment w h n → LacksSegment v h n
lacks_step w v p g a i h n apart e old lock lacks y is same = elim (world_segment w v p g a e h y is) [
  | inl z ↦ lacks z.0 z.1 (z.2 ∙ same)
  | inr l ↦ apart ((old.everywhere h).one_holder (Node i) p n y.number lock l)
]

-- a peer's step
pub peer_keeps_own : (own : ℕ → Bool) (w v : World) (id : ℕ) (g : ServiceHash) (a : Act) → IsAct a → world_after w (Peer id) g a ≡ Some v → Rely own w v
peer_keeps_own own w v id g a ok e old =
    let kept = peer_keeps w v id g a ok e old in
    let st = allowed_step w v (Peer id) g a e in
    let same = step_tickets w v (Peer id) g a st in
    record {
      agrees = kept.0;
      later = kept.1;
      phases = λ i h is. peer_places w v id g a st i h;
      tags = λ i h is. subst (λ (z : World). tag_of z i h ≡ tag_of w i h) st.world refl;
      tickets = tickets_equal own w.tickets v.tickets same;
      spent = λ h n s. spent_step w v (Peer id) g a h n ok e old.everywhere s;
      locked = λ i h n is lock lacks. lacks_step w v (Peer id) g a i h n (not_peer i id) e old lock lacks;
    }

-- an access of a node that isn't own: where it writes
put_places : (w : World) (i : ℕ) (h : ServiceHash) (o : Option ServiceView) (j : ℕ) (g : ServiceHash) → (j ≢ i) → phase_of (put_view w i h o) (Node j) g ≡ phase_of w (Node j) g
put_places w i h None j g apart = refl
put_places w i h (Some s) j g apart = elim (place_cases w (Node i) h s (Node j) g) [
  | inl k ↦ absurd (apart (same_node j i k.0))
  | inr k ↦ k.1
]

set_tags : (t : set.FinSet tag_cmp) (i : ℕ) (h : ServiceHash) (o : Option Bool) (j : ℕ) (g : ServiceHash) → (j ≢ i) → set.contains (set_tag t (i, h) o) (j, g) ≡ set.contains t (j, g)
set_tags t i h None j g apart = refl
set_tags t i h (Some b) j g apart = elim (either tag_total tag_exact (j, g) (i, h)) [
  | inl e ↦ absurd (apart (ap (λ (x : ℕ × ServiceHash). x.0) e))
  | inr e ↦ elim b as (λ b. set.contains (set_tag t (i, h) (Some b)) (j, g) ≡ set.contains t (j, g)) [
    | true ↦ set.contains-insert tag_total t (i, h) (j, g) ∙ ap (λ c. c || set.contains t (j, g)) e.1
    | false ↦ set.contains-remove tag_total t (i, h) (j, g) ∙ ap (λ c. not c && set.contains t (j, g)) e.1
  ]
]

other_phase : (w : World) (l : Letter) (v : World) (i : ℕ) (h : ServiceHash) → (i ≢ acting_node l) → IsOwnPart w l v → phase_of v (Node i) h ≡ phase_of w (Node i) h
other_phase w l v i h apart o = subst (λ (z : World). phase_of z (Node i) h ≡ phase_of w (Node i) h) (sym o.is) (put_places w (acting_node l) (service_of l) o.change.view i h apart)

other_tag : (w : World) (l : Letter) (v : World) (i : ℕ) (h : ServiceHash) → (i ≢ acting_node l) → IsOwnPart w l v → tag_of v i h ≡ tag_of w i h
other_tag w l v i h apart o = subst (λ (z : World). tag_of z i h ≡ tag_of w i h) (sym o.is) (set_tags w.tags (acting_node l) (service_of l) o.change.tag i h apart)

-- who isn't a factory's node doesn't release its ticket
spares_of : (f : Registered) (l : Letter) → (acting_node l ≢ f.node) → Spares f l
spares_of f (letter.Release t i h n (Ok a)) other = λ ticket node hash number. other node
spares_of f _ other = tt

module _ (own : ℕ → Bool) where
  not_own : (i j : ℕ) → own j ≡ false → own i ≡ true → i ≢ j
  not_own i j other is e = absurd (cc (ap own e))

  -- own is no ticket of another node
  not_mine : (i : ℕ) (h : ServiceHash) (n : ℕ) (x : Ticket) → own i ≡ false → own x.node ≡ true → Some (mine i h n) ≡ Some x → ⊥
  not_mine i h n x other is e = let same : mine i h n ≡ x = cc in not_own x.node i other is (λ j. (sym same j).node)

  -- where one ticket is set to another node's, or taken out, no ticket of an own node comes
  put_back : (u : World) (t s : ℕ) (o : Option Ticket) (v : World) (x : Ticket) → (o ≢ Some x) → ((q : ℕ) → ((q ≡ s) × (ticket_of v q ≡ o)) ⊎ ((q ≢ s) × (ticket_of v q ≡ ticket_of u q))) → ticket_of v t ≡ Some x → ticket_of u t ≡ Some x
  put_back u t s o v x other cases k = elim (cases t) [ inl i ↦ absurd (other (sym i.1 ∙ k)) | inr i ↦ sym i.1 ∙ k ]

  -- a ticket of an own node is a factory's that stands, and who isn't own releases none of these
  other_tickets : (w : World) (l : Letter) (v : World) → own (acting_node l) ≡ false → Part w l v → Agrees w → (t : ℕ) (x : Ticket) → own x.node ≡ true → ticket_of w t ≡ Some x → ticket_of v t ≡ Some x
  other_tickets w l v other part old t x is k =
      let s = ticket_stands w t x old k in
      let spares = spares_of s.0 l (λ e. not_own (s.0).node (acting_node l) other (ap (λ (y : Ticket). own y.node) s.2 ∙ is) (sym e)) in
      ap (ticket_of v) (sym s.1) ∙ part_ticket w l v s.0 part spares old ((s.3).ticket) ∙ ap Some s.2

  other_new_tickets : (w : World) (l : Letter) (v : World) → own (acting_node l) ≡ false → Part w l v → (t : ℕ) (x : Ticket) → own x.node ≡ true → ticket_of v t ≡ Some x → ticket_of w t ≡ Some x
  other_new_tickets w l v other (stays e) t x is k = ap (λ z. ticket_of z t) (sym e) ∙ k
  other_new_tickets w l v other (tagged tags e) t x is k = ap (λ z. ticket_of z t) (sym e) ∙ k
  other_new_tickets w l v other (calm i h a who ok e) t x is k = sym (step_ticket w v (Node i) h a t e) ∙ k
  other_new_tickets w l v other (removed i h from e) t x is k = sym (step_ticket w v (Node i) h act.RemoveDescription t e) ∙ k
  other_new_tickets w l v other (publishes i h n d s from p) t x is k =
      sym (step_ticket w p.mid (Node i) h (act.Publish d) t p.step) ∙ put_back p.mid t s (Some (mine i h n)) (ticket_put p.mid s (mine i h n)) x (not_mine i h n x (ap own (ap acting_node (sym from)) ∙ other) is) (set_cases nat_cmp_total exact_unsigned (p.mid).tickets s (Some (mine i h n))) (ap (λ z. ticket_of z t) (sym p.is) ∙ k)
  other_new_tickets w l v other (joins i h n s from p) t x is k =
      sym (step_ticket w p.mid (Node i) h act.Join t p.step) ∙ put_back p.mid t s (Some (mine i h n)) (ticket_put (record p.mid { counter = w.counter + 1 }) s (mine i h n)) x (not_mine i h n x (ap own (ap acting_node (sym from)) ∙ other) is) (set_cases nat_cmp_total exact_unsigned (p.mid).tickets s (Some (mine i h n))) (ap (λ z. ticket_of z t) (sym p.is) ∙ k)
  other_new_tickets w l v other (releases s i h n a from p) t x is k =
      sym (step_ticket w p.mid (Node i) h act.Leave t p.step) ∙ put_back p.mid t s None (ticket_removed p.mid s) x (λ e. cc) (set_cases nat_cmp_total exact_unsigned (p.mid).tickets s None) (ap (λ z. ticket_of z t) (sym p.is) ∙ k)

  -- and its segments
  other_lacks : (w : World) (l : Letter) (v : World) → own (acting_node l) ≡ false → Part w l v → Agrees w → (i : ℕ) (h : ServiceHash) (n : ℕ) → own i ≡ true → locked_number (phase_of w (Node i) h) ≡ Some n → LacksSegment w h n → LacksSegment v h n
  other_lacks w l v other (stays e) old i h n is lock lacks = subst (λ u. LacksSegment u h n) (sym e) lacks
  other_lacks w l v other (tagged tags e) old i h n is lock lacks = subst (λ u. LacksSegment u h n) (sym e) lacks
  other_lacks w l v other (calm j g a who ok e) old i h n is lock lacks = lacks_step w v (Node j) g a i h n (λ same. not_own i j (ap own who ∙ other) is (same_node i j same)) e old lock lacks
  other_lacks w l v other (removed j g from e) old i h n is lock lacks = lacks_step w v (Node j) g act.RemoveDescription i h n (λ same. not_own i j (ap own (ap acting_node (sym from)) ∙ other) is (same_node i j same)) e old lock lacks
  other_lacks w l v other (publishes j g m d t from p) old i h n is lock lacks = subst (λ u. LacksSegment u h n) (sym p.is) (lacks_step w p.mid (Node j) g (act.Publish d) i h n (λ same. not_own i j (ap own (ap acting_node (sym from)) ∙ other) is (same_node i j same)) p.step old lock lacks)
  other_lacks w l v other (joins j g m t from p) old i h n is lock lacks = subst (λ u. LacksSegment u h n) (sym p.is) (lacks_step w p.mid (Node j) g act.Join i h n (λ same. not_own i j (ap own (ap acting_node (sym from)) ∙ other) is (same_node i j same)) p.step old lock lacks)
  other_lacks w l v other (releases t j g m a from p) old i h n is lock lacks = subst (λ u. LacksSegment u h n) (sym p.is) (lacks_step w p.mid (Node j) g act.Leave i h n (λ same. not_own i j (ap own (ap acting_node (sym from)) ∙ other) is (same_node i j same)) p.step old lock lacks)

  -- An access of a node that isn't own leaves own nodes alone.
  pub node_keeps_own : (w : World) (l : Letter) (v : World) → own (acting_node l) ≡ false → IsOwnPart w l v → Rely own w v
  node_keeps_own w l v other o old =
      let kept = own_keeps w l v o old in
      let part = own_part w l v o in
      record {
        agrees = kept.0;
        later = kept.1;
        phases = λ i h is. other_phase w l v i h (not_own i (acting_node l) other is) o;
        tags = λ i h is. other_tag w l v i h (not_own i (acting_node l) other is) o;
        tickets = record { kept = other_tickets w l v other part old; no_other = other_new_tickets w l v other part };
        spent = λ h n s. spent_own w l v h n o old s;
        locked = other_lacks w l v other part old;
      }

  -- So does whatever others do.
  pub others_keep_own : {w v : World} → OthersKeepOwn own w v
  others_keep_own {w} nobody = rely_same own w
  others_keep_own {w = u} {v = w} (peer_acts {v = v} id h a ok e rest) = rely_both own u v w (peer_keeps_own own u v id h a ok e) (others_keep_own rest)
  others_keep_own {w = u} {v = w} (node_acts {v = v} l other o rest) = rely_both own u v w (node_keeps_own u l v other o) (others_keep_own rest)

pub rely_fewer : (own more : ℕ → Bool) (w v : World) → KeepsOfMore own more w v
rely_fewer own more w v among rely old =
    let k = rely old in
    record {
      agrees = k.agrees;
      later = k.later;
      phases = λ i h is. k.phases i h (among i is);
      tags = λ i h is. k.tags i h (among i is);
      tickets = record { kept = λ t x is. k.tickets.kept t x (among x.node is); no_other = λ t x is. k.tickets.no_other t x (among x.node is) };
      spent = k.spent;
      locked = λ i h n is. k.locked i h n (among i is);
    }

-- a step after what others do is one under interference
pub among_others : {step : World → Letter → World → Type 0} (own : ℕ → Bool) (w : World) (l : Letter) (v : World) → After (Others own) step w l v → After (Rely own) step w l v
among_others own w l v a = record { between = a.between; before = others_keep_own own a.before; part = a.part }

-- a number that is spent stays so
pub spent_access : {own : ℕ → Bool} (w : World) (l : Letter) (v : World) (h : ServiceHash) (n : ℕ) → StaysSpent own w l v h n
spent_access w l v h n a old s =
    let left = a.before old in
    let now = left.spent h n s in
    elim a.part [
      | inl o ↦ spent_own a.between l v h n o left.agrees now
      | inr f ↦ subst (λ u. IsSpent u h n) (sym f.1) now
    ]
