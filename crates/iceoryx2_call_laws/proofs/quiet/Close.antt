-- Close over a world that shows the machine.
use Rattle.std.proofs.Common.{◌≡◌, ◌≢◌, ℕ, ◌-◌, ◌<◌, ◌≤◌, Bool, true, false, cond, not, ◌&&◌, List, Some, None, Result, Ok, inl, inr, refl, sym, ap, subst, ◌∙◌, arith}
use Rattle.std.specs.Prelude.{nat_lt, is_some}
use Rattle.std.specs.FinMap as map
use Rattle.std.specs.Ordering.{nat_cmp}
use Rattle.std.proofs.lemmas.Bool.Decides.{nat_tests}
use Rattle.iceoryx2_description.specs.declared.description.ServiceHash.{ServiceHash}
use Rattle.iceoryx2_description.specs.Description.{max_nodes_of}
use Rattle.iceoryx2_data.specs.Form as form
use Rattle.iceoryx2_world.specs.Sets as set
use Rattle.iceoryx2_world.specs.declared.world.Participant.{Participant}
use Rattle.iceoryx2_world.specs.declared.world.Participant.TheVariants.{Node, Peer}
use Rattle.iceoryx2_world.specs.declared.world.Phase.{Phase}
use Rattle.iceoryx2_world.specs.declared.world.Phase.TheVariants as at
use Rattle.iceoryx2_world.specs.declared.world.Row.TheVariants as row
use Rattle.iceoryx2_world.specs.Orders.{hash_total, participant_cmp, participant_total}
use Rattle.iceoryx2_world.specs.World.{World, Segment, row_of, segment_of, phase_of, Tickets, tag_of, ticket_of}
use Rattle.iceoryx2_access.specs.Letter.{Letter}
use Rattle.iceoryx2_access.specs.Run.{Run}
use Rattle.iceoryx2_world.specs.Access.{NodeView, node_view, is_ticket}
use Rattle.iceoryx2_world.specs.Standing.{ticket_for}
use Rattle.iceoryx2_world.proofs.agreement.Moved.{same_self}
use Rattle.iceoryx2_world.proofs.agreement.Whole.{own_hash, get-set_to}
use Rattle.iceoryx2_errors.specs.declared.error.CloseError.{CloseError}
use Rattle.iceoryx2_access.specs.Registered.{Registered}
use Rattle.iceoryx2_rounds.specs.Closes.{IsCloseWord}
use Rattle.iceoryx2_call_laws.specs.Quiet.{NodeCounts, QuietService, Quiet, IsServiceShown, ShowsService, Shows, CountIs, service_at, times_counted, is_counted}
use Rattle.iceoryx2_call_laws.specs.QuietCalls.{Closes, closed, fewer_counts, with_counts, closed_by, with_service}
use Rattle.iceoryx2_call_laws.proofs.quiet.NodeViews.{OthersStay, AtNode}
use Rattle.iceoryx2_call_laws.proofs.quiet.Absent.{at_node, from}
use Rattle.iceoryx2_call_laws.proofs.quiet.Lift.{services_after, phase_beside, tag_beside, equal_or_not, not_same, other_node, no_node}
use Rattle.iceoryx2_call_laws.proofs.quiet.Counts.{get_fewer_own, get_fewer_none, get_fewer_other, len_fewer_same, len_fewer_less}
use Rattle.iceoryx2_call_laws.proofs.quiet.Create.{Made}
use Rattle.iceoryx2_call_laws.proofs.quiet.There.{was_there}
use Rattle.iceoryx2_call_laws.proofs.quiet.Leave.{Closed, counts, goes, clears, closing, joins_here}

module _ (f : Registered) (w v : World) (q : Quiet) (a : OthersStay f.node f.description.hash w v) (s : Shows w q) (x : QuietService) (is_there : service_at q f.description.hash ≡ Some x) (number : x.number ≡ f.number) (k : ℕ) (counted : times_counted x f.node ≡ Some k) (here : ticket_of w f.ticket ≡ Some (ticket_for f)) where
  abbrev i : ℕ
  i = f.node

  abbrev h : ServiceHash
  h = f.description.hash

  was : IsServiceShown h x (row_of w h) (segment_of w h) (λ j. phase_of w (Node j) h) (λ j. tag_of w j h)
  was = was_there i h w v q a s x is_there

  abbrev m : NodeCounts
  m = fewer_counts x.counts i k

  abbrev p : Quiet
  p = with_service q h (closed_by i k x)

  joined_here : CountIs x.number (phase_of w (Node i) h) (Some k)
  joined_here = subst (λ o. CountIs x.number (phase_of w (Node i) h) o) counted (was.phases i)

  abbrev rest : Tickets
  rest = map.remove w.tickets f.ticket

  -- what is shown, once the service's own hash is
  shows : v.counter ≡ w.counter → ShowsService v h (with_counts x m) → Shows v p
  shows counter at_h = record {
    counter = counter ∙ s.counter;
    services = services_after q p (with_counts x m) a s (λ g. get-set_to hash_total q.services h (with_counts x m) g) at_h;
  }

  -- the service goes on, with these nodes
  goes_on : (y : Phase) (nodes : set.FinSet participant_cmp) (tag : Bool) → 1 ≤ map.len m → set.len nodes ≡ map.len m → set.contains nodes (Node i) ≡ is_some (map.get m i)
      → ((z : Participant) → z ≢ Node i → set.contains nodes z ≡ set.contains was.nodes z) → CountIs x.number y (map.get m i) → tag ≡ is_some (map.get m i)
      → node_view v i h ≡ at_node y (Some (row.Published x.number (form.description x.description))) (Some (record { number = x.number; capacity = max_nodes_of x.description.pattern; participants = nodes; marked = false })) w.counter tag rest → Shows v p
  goes_on y nodes tag some len member members count tagged is =
      let used : nat_lt 0 (map.len m) ≡ true = grind (arith, nat_tests, some) in
      shows (ap (λ (z : NodeView). z.view.counter) is) (rw used (record {
        limits = was.limits;
        hash = was.hash;
        row = ap (λ (z : NodeView). z.view.row) is;
        nodes = nodes;
        segment = ap (λ (z : NodeView). z.view.segment) is;
        members = both;
        as_many = len;
        one_or_more = some;
        phases = λ j. elim (equal_or_not j i) [ inl e ↦ rw (e, ap (λ (z : NodeView). z.view.phase) is) count | inr e ↦ rw (get_fewer_other x.counts i k j e, phase_beside a j e) (was.phases j) ];
        tags = λ j. elim (equal_or_not j i) [ inl e ↦ rw e (ap (λ (z : NodeView). z.tag) is ∙ tagged) | inr e ↦ tag_beside a j e ∙ was.tags j ∙ sym (ap is_some (get_fewer_other x.counts i k j e)) ];
      }))
    where
      both : (z : Participant) → set.contains nodes z ≡ is_counted (record x { counts = m }) z
      both (Node j) = elim (equal_or_not j i) [ inl e ↦ rw e member | inr e ↦ members (Node j) (other_node j i e) ∙ was.members (Node j) ∙ sym (ap is_some (get_fewer_other x.counts i k j e)) ]
      both (Peer j) = members (Peer j) (no_node j i) ∙ was.members (Peer j)

  still_case : nat_lt 1 k ≡ true → node_view v i h ≡ at_node (at.Joined x.number (k - 1)) (Some (row.Published x.number (form.description x.description))) (Some (record { number = x.number; capacity = max_nodes_of x.description.pattern; participants = was.nodes; marked = false })) w.counter (tag_of w i h) rest → Shows v p
  still_case e is =
      let own = get_fewer_own x.counts i k e in
      let len = len_fewer_same x.counts i k e counted in
      let above : 1 < k = grind (arith, nat_tests, e) in
      let has = ap is_some counted in
      goes_on (at.Joined x.number (k - 1)) was.nodes (tag_of w i h)
      (omega (arith, len, was.one_or_more))
      (was.as_many ∙ sym len)
      (was.members (Node i) ∙ has ∙ sym (ap is_some own))
      (λ z other. refl)
      (rw own (refl, omega (arith, above)))
      (was.tags i ∙ has ∙ sym (ap is_some own))
      is

  left_case : nat_lt 1 k ≡ false → nat_lt 1 (set.len was.nodes) ≡ true → node_view v i h ≡ at_node at.Idle (Some (row.Published x.number (form.description x.description))) (Some (record { number = x.number; capacity = max_nodes_of x.description.pattern; participants = set.remove was.nodes (Node i); marked = false })) w.counter false rest → Shows v p
  left_case e g is =
      let above : 1 < set.len was.nodes = grind (arith, nat_tests, g) in
      let own = get_fewer_none x.counts i k e in
      let len = len_fewer_less x.counts i k e counted in
      let has : set.contains was.nodes (Node i) ≡ true = was.members (Node i) ∙ ap is_some counted in
      let nodes : set.len (set.remove was.nodes (Node i)) ≡ set.len was.nodes - 1 = set.len-remove participant_total was.nodes (Node i) ∙ ap (λ b. cond b (set.len was.nodes - 1) (set.len was.nodes)) has in
      let as_many = was.as_many in
      goes_on at.Idle (set.remove was.nodes (Node i)) false
      (omega (arith, above, as_many, len))
      (nodes ∙ ap (λ z. z - 1) as_many ∙ sym len)
      (set.contains-remove participant_total was.nodes (Node i) (Node i) ∙ ap (λ b. not b && set.contains was.nodes (Node i)) (same_self (Node i)) ∙ sym (ap is_some own))
      (λ z other. set.contains-remove participant_total was.nodes (Node i) z ∙ ap (λ b. not b && set.contains was.nodes z) (not_same z (Node i) other))
      (rw own refl)
      (sym (ap is_some own))
      is

  last_case : nat_lt 1 k ≡ false → nat_lt 1 (set.len was.nodes) ≡ false → node_view v i h ≡ at_node at.Idle None None w.counter false rest → Shows v p
  last_case e g is =
      let low : set.len was.nodes ≤ 1 = grind (arith, nat_tests, g) in
      let len = len_fewer_less x.counts i k e counted in
      let as_many = was.as_many in
      let none : map.len m ≡ 0 = omega (arith, low, as_many, len) in
      let gone : nat_lt 0 (map.len m) ≡ false = grind (arith, nat_tests, none) in
      let others : (j : ℕ) → j ≢ i → times_counted x j ≡ None = λ j other. sym (get_fewer_other x.counts i k j other) ∙ ap (λ z. map.get z j) (map.empty_of_len m none) ∙ map.get-empty nat_cmp j in
      shows (ap (λ (z : NodeView). z.view.counter) is) (rw gone (record {
        row = ap (λ (z : NodeView). z.view.row) is;
        segment = ap (λ (z : NodeView). z.view.segment) is;
        phases = λ j. elim (equal_or_not j i) [ inl y ↦ rw (y, ap (λ (z : NodeView). z.view.phase) is) refl | inr y ↦ rw (phase_beside a j y) (subst (λ o. CountIs x.number (phase_of w (Node j) h) o) (others j y) (was.phases j)) ];
        tags = λ j. elim (equal_or_not j i) [ inl y ↦ rw y (ap (λ (z : NodeView). z.tag) is) | inr y ↦ tag_beside a j y ∙ was.tags j ∙ ap is_some (others j y) ];
      }))

  abbrev here_segment : Segment
  here_segment = record { number = x.number; capacity = max_nodes_of x.description.pattern; participants = was.nodes; marked = false }

  begin : node_view w i h ≡ joins_here i h f.number f.ticket k (form.description x.description) here_segment w.counter (tag_of w i h) w.tickets
  begin = (λ z. record { view = record { phase = joined_here.0 z; row = was.row z; segment = was.segment z; counter = w.counter }; tag = tag_of w i h; tickets = w.tickets }) ∙ ap (λ n. joins_here i h n f.ticket k (form.description x.description) here_segment w.counter (tag_of w i h) w.tickets) number

  by_case : (u : NodeView) → Closed i h x.number f.ticket k (form.description x.description) here_segment w.counter (tag_of w i h) w.tickets u → node_view v i h ≡ u → Shows v p × (v.tickets ≡ rest)
  by_case u (counts e) is = (still_case e is, ap (λ (z : NodeView). z.tickets) is)
  by_case u (goes e g) is = (left_case e g is, ap (λ (z : NodeView). z.tickets) is)
  by_case u (clears e g) is = (last_case e g is, ap (λ (z : NodeView). z.tickets) is)

  has_ticket : is_ticket i h f.number (map.get w.tickets f.ticket) ≡ true
  has_ticket = ap (is_ticket i h f.number) here ∙ rw (own_hash h) (grind (arith, nat_tests))

  pub close_counted : (word : List Letter) (r : Result (Unit {0}) (CloseError Registered)) → IsCloseWord f word r → Run (AtNode i h) (node_view w i h) word (node_view v i h) → (r ≡ Ok tt) × Made (Closes q i h) rest v
  close_counted word r is_word run =
      let done_ = closing f k (form.description x.description) here_segment w.counter (tag_of w i h) w.tickets joined_here.1 has_ticket is_word (from begin run) in
      let shown = by_case _ (subst (λ n. Closed i h n f.ticket k (form.description x.description) here_segment w.counter (tag_of w i h) w.tickets (node_view v i h)) (sym number) done_.1) refl in
      (done_.0, record { state = p; call = closed x k is_there counted; shows = shown.0; tickets = shown.1 })
