-- Open over a world that shows the machine.
use Rattle.std.proofs.Common.{◌≡◌, ◌≢◌, ℕ, ◌+◌, ◌<◌, ◌≤◌, Bool, true, false, ◌||◌, cond, List, Option, Some, None, Result, inl, inr, refl, sym, ap, subst, ◌∙◌, arith}
use Rattle.std.specs.Prelude.{nat_lt, is_some, unwrap_or}
use Rattle.std.specs.FinMap as map
use Rattle.std.specs.FinMap.{get-insert}
use Rattle.std.proofs.lemmas.Bool.Decides.{nat_tests}
use Rattle.iceoryx2_description.specs.declared.description.ServiceHash.{ServiceHash}
use Rattle.iceoryx2_description.specs.Description.{max_nodes_of}
use Rattle.iceoryx2_data.specs.Form as form
use Rattle.iceoryx2_world.specs.Sets as set
use Rattle.iceoryx2_world.specs.declared.world.Participant.{Participant}
use Rattle.iceoryx2_world.specs.declared.world.Participant.TheVariants.{Node, Peer}
use Rattle.iceoryx2_world.specs.declared.world.Phase.{Phase}
use Rattle.iceoryx2_world.specs.declared.world.Phase.TheVariants as at
use Rattle.iceoryx2_world.specs.declared.world.Row.TheVariants as row
use Rattle.iceoryx2_world.specs.Orders.{hash_total, participant_cmp, participant_total}
use Rattle.iceoryx2_world.specs.World.{World, row_of, segment_of, phase_of, Tickets, tag_of, join_count}
use Rattle.iceoryx2_world.specs.Steps.{last_number}
use Rattle.iceoryx2_access.specs.Letter.{Letter}
use Rattle.iceoryx2_access.specs.Run.{Run}
use Rattle.iceoryx2_world.specs.Access.{NodeView, node_view}
use Rattle.iceoryx2_world.specs.Agreement.{Agrees}
use Rattle.iceoryx2_world.proofs.agreement.Moved.{contains_inserted}
use Rattle.iceoryx2_world.proofs.agreement.Few.{few_tickets}
use Rattle.iceoryx2_rounds.specs.PatternRules.{PatternRules}
use Rattle.iceoryx2_access.specs.Registered.{Registered}
use Rattle.iceoryx2_rounds.specs.Opens.{IsOpenWord}
use Rattle.iceoryx2_call_laws.specs.Quiet.{NodeCounts, QuietService, Quiet, IsServiceShown, Shows, CountIs, service_at, times_counted, is_counted}
use Rattle.iceoryx2_call_laws.specs.QuietCalls.{Opens, HasPlace, more_counts, opened_by, with_service, spend}
use Rattle.iceoryx2_call_laws.specs.QuietCalls as call
use Rattle.iceoryx2_call_laws.specs.Tickets.{tickets_after}
use Rattle.iceoryx2_call_laws.proofs.quiet.NodeViews.{OthersStay, AtNode}
use Rattle.iceoryx2_call_laws.proofs.quiet.Absent.{at_node, from}
use Rattle.iceoryx2_call_laws.proofs.quiet.Lift.{services_after, phase_beside, tag_beside, equal_or_not, not_same, other_node, no_node}
use Rattle.iceoryx2_call_laws.proofs.quiet.Counts.{get_more_own, get_more_other, len_more_new, len_more_old}
use Rattle.iceoryx2_call_laws.proofs.quiet.Create.{Made, was_absent, begin_absent, stays_absent}
use Rattle.iceoryx2_call_laws.proofs.quiet.There.{was_there, stays_there}
use Rattle.iceoryx2_call_laws.proofs.quiet.Open.{opening_absent, stood, joined_view, Place, OpensHere, starves, bad, unfit, no_place, no_number, opens, opening_there}

module _ {E C : Type 0} (m : PatternRules E C) (i : ℕ) (h : ServiceHash) (w v : World) (q : Quiet) (a : OthersStay i h w v) (s : Shows w q) (gone : service_at q h ≡ None) where
  pub open_absent : (r : Result Registered E) (word : List Letter) → IsOpenWord m i h word r → Run (AtNode i h) (node_view w i h) word (node_view v i h) → Made (Opens m q i h r) (tickets_after w.tickets r) v
  open_absent r word is_word run =
      let e = opening_absent m i h (phase_of w (Node i) h) q.counter w.tickets is_word (from (begin_absent i h w v q a s gone) run) in
      subst (λ r. Made (Opens m q i h r) (tickets_after w.tickets r) v) (sym e.0) (record {
        state = q;
        call = call.absent gone;
        shows = stays_absent i h w v q a s gone (phase_of w (Node i) h) q.counter ((was_absent i h w v q a s gone).phases i) e.1;
        tickets = ap (λ (z : NodeView). z.tickets) e.1;
      })

module _ (i : ℕ) (h : ServiceHash) (w v : World) (q : Quiet) (a : OthersStay i h w v) (s : Shows w q) (x : QuietService) (is_there : service_at q h ≡ Some x) where
  abbrev pub was : IsServiceShown h x (row_of w h) (segment_of w h) (λ j. phase_of w (Node j) h) (λ j. tag_of w j h)
  was = was_there i h w v q a s x is_there

  abbrev new : ℕ
  new = unwrap_or (times_counted x i) 0 + 1

  abbrev more : NodeCounts
  more = more_counts x.counts i

  abbrev y : QuietService
  y = opened_by i x

  abbrev pub p : Quiet
  p = spend (with_service q h (Some y))

  abbrev more_tickets : Tickets
  more_tickets = map.insert w.tickets q.counter (record { node = i; hash = h; number = x.number })

  opened_on : (f : Phase) (nodes : set.FinSet participant_cmp) → CountIs x.number f (Some new) → set.len nodes ≡ map.len more → 1 ≤ map.len more → set.contains nodes (Node i) ≡ true → ((z : Participant) → z ≢ Node i → set.contains nodes z ≡ set.contains was.nodes z)
      → node_view v i h ≡ at_node f (Some (row.Published x.number (form.description x.description))) (Some (record { number = x.number; capacity = max_nodes_of x.description.pattern; participants = nodes; marked = false })) (q.counter + 1) true more_tickets → Shows v p
  opened_on f nodes count len some member members is = record {
    counter = ap (λ (z : NodeView). z.view.counter) is;
    services = services_after q p (Some y) a s (λ g. get-insert hash_total q.services h y g) (record {
      limits = was.limits;
      hash = was.hash;
      row = ap (λ (z : NodeView). z.view.row) is;
      nodes = nodes;
      segment = ap (λ (z : NodeView). z.view.segment) is;
      members = both;
      as_many = len;
      one_or_more = some;
      phases = λ j. elim (equal_or_not j i) [ inl e ↦ rw (e, ap (λ (z : NodeView). z.view.phase) is, get_more_own x.counts i) count | inr e ↦ rw (get_more_other x.counts i j e, phase_beside a j e) (was.phases j) ];
      tags = λ j. elim (equal_or_not j i) [ inl e ↦ rw e (ap (λ (z : NodeView). z.tag) is ∙ sym (ap is_some (get_more_own x.counts i))) | inr e ↦ tag_beside a j e ∙ was.tags j ∙ sym (ap is_some (get_more_other x.counts i j e)) ];
    });
  }
    where
      both : (z : Participant) → set.contains nodes z ≡ is_counted y z
      both (Node j) = elim (equal_or_not j i) [ inl e ↦ rw e (member ∙ sym (ap is_some (get_more_own x.counts i))) | inr e ↦ members (Node j) (other_node j i e) ∙ was.members (Node j) ∙ sym (ap is_some (get_more_other x.counts i j e)) ]
      both (Peer j) = members (Peer j) (no_node j i) ∙ was.members (Peer j)

  pub shows_opened : (o : Option ℕ) → times_counted x i ≡ o → node_view v i h ≡ joined_view i h x.number (max_nodes_of x.description.pattern) (form.description x.description) was.nodes q.counter w.tickets o → Shows v p
  shows_opened None e is =
      let zero_count : unwrap_or (times_counted x i) 0 ≡ 0 = ap (λ o. unwrap_or o 0) e in
      let one : 1 ≡ new = omega (arith, zero_count) in
      let absent : set.contains was.nodes (Node i) ≡ false = was.members (Node i) ∙ ap is_some e in
      let len_nodes : set.len (set.insert was.nodes (Node i)) ≡ set.len was.nodes + 1 = set.len-insert participant_total was.nodes (Node i) ∙ ap (λ b. cond b (set.len was.nodes) (set.len was.nodes + 1)) absent in
      let len_counts = len_more_new x.counts i e in
      opened_on (at.Joined x.number 1) (set.insert was.nodes (Node i)) (ap (λ z. at.Joined x.number z) one, omega (arith, one))
      (len_nodes ∙ ap (λ z. z + 1) was.as_many ∙ sym len_counts)
      (omega (arith, len_counts))
      (contains_inserted was.nodes (Node i))
      (λ z other. set.contains-insert participant_total was.nodes (Node i) z ∙ ap (λ b. b || set.contains was.nodes z) (not_same z (Node i) other))
      is
  shows_opened (Some j) e is =
      let count : unwrap_or (times_counted x i) 0 ≡ j = ap (λ o. unwrap_or o 0) e in
      let one : j + 1 ≡ new = omega (arith, count) in
      let len_counts = len_more_old x.counts i j e in
      opened_on (at.Joined x.number (j + 1)) was.nodes (ap (λ z. at.Joined x.number z) one, omega (arith, one))
      (was.as_many ∙ sym len_counts)
      (omega (arith, len_counts, was.one_or_more))
      (was.members (Node i) ∙ ap is_some e)
      (λ z other. refl)
      is

module _ {E C : Type 0} (m : PatternRules E C) (i : ℕ) (h : ServiceHash) (w v : World) (q : Quiet) (a : OthersStay i h w v) (s : Shows w q) (old : Agrees w) (x : QuietService) (is_there : service_at q h ≡ Some x) where
  abbrev before : IsServiceShown h x (row_of w h) (segment_of w h) (λ j. phase_of w (Node j) h) (λ j. tag_of w j h)
  before = was_there i h w v q a s x is_there

  abbrev here : Bool → Phase → NodeView
  here g f = stood i h x.number (max_nodes_of x.description.pattern) (form.description x.description) before.nodes q.counter w.tickets g f

  begin : node_view w i h ≡ here (is_some (times_counted x i)) (phase_of w (Node i) h)
  begin = λ z. record { view = record { phase = phase_of w (Node i) h; row = before.row z; segment = before.segment z; counter = s.counter z }; tag = before.tags i z; tickets = w.tickets }

  -- no node has opened it more often than there are tickets below the counter
  low : nat_lt q.counter last_number ≡ true → (j : ℕ) → times_counted x i ≡ Some j → nat_lt j last_number ≡ true
  low room j e =
      let count = subst (λ o. CountIs x.number (phase_of w (Node i) h) o) e (before.phases i) in
      let held = old.held.count i h ∙ ap join_count count.0 in
      let above : q.counter < last_number = grind (arith, nat_tests, room) in
      let under : j < last_number = omega (arith, held, few_tickets w old.numbered i h, above, s.counter) in
      grind (arith, nat_tests, under)

  abbrev MadeHere : Result Registered E → Type 0
  MadeHere r = Made (Opens m q i h r) (tickets_after w.tickets r) v

  kept : (r : Result Registered E) (f : Phase) → Opens m q i h r q → tickets_after w.tickets r ≡ w.tickets → CountIs x.number f (times_counted x i) → node_view v i h ≡ here (is_some (times_counted x i)) f → MadeHere r
  kept r f call no_ticket count is = record {
    state = q;
    call = call;
    shows = stays_there i h w v q a s x is_there f count (is ∙ (λ z. record { view = record { phase = f; row = Some (row.Published x.number (form.description x.description)); segment = sym before.segment z; counter = sym s.counter z }; tag = sym (before.tags i) z; tickets = w.tickets }));
    tickets = ap (λ (z : NodeView). z.tickets) is ∙ sym no_ticket;
  }

  place_of : Place i h x.number (max_nodes_of x.description.pattern) (form.description x.description) before.nodes q.counter w.tickets (times_counted x i) → HasPlace x i
  place_of (inl e) = inl e
  place_of (inr e) = let above : set.len before.nodes < max_nodes_of x.description.pattern = grind (arith, nat_tests, e) in inr (omega (arith, above, before.as_many))

  joined_tickets : (o : Option ℕ) → (joined_view i h x.number (max_nodes_of x.description.pattern) (form.description x.description) before.nodes q.counter w.tickets o).tickets ≡ map.insert w.tickets q.counter (record { node = i; hash = h; number = x.number })
  joined_tickets None = refl
  joined_tickets (Some j) = refl

  made : (r : Result Registered E) (u : NodeView) → OpensHere i h x.number (max_nodes_of x.description.pattern) (form.description x.description) before.nodes q.counter w.tickets m x.description before.limits before.hash refl (times_counted x i) (phase_of w (Node i) h) (before.phases i) low r u → node_view v i h ≡ u → MadeHere r
  made r u (starves count) is = kept r _ (call.no_memory x is_there) refl count is
  made r u (bad count e) is = kept r _ (call.misfit x is_there e) refl count is
  made r u (unfit count good e) is = kept r _ (call.not_accepted x is_there good e) refl count is
  made r u (no_place count good fits out most) is = let le : max_nodes_of x.description.pattern ≤ set.len before.nodes = grind (arith, nat_tests, most) in kept r _ (call.no_place x is_there good fits (out, omega (arith, le, before.as_many))) refl count is
  made r u (no_number count good fits place end) is = let le : last_number ≤ q.counter = grind (arith, nat_tests, end) in kept r _ (call.no_number x is_there good fits (place_of place) le) refl count is
  made r u (opens good fits place room) is =
      let lt : q.counter < last_number = grind (arith, nat_tests, room) in
      record {
        state = p i h w v q a s x is_there;
        call = call.opened x is_there good fits (place_of place) lt;
        shows = shows_opened i h w v q a s x is_there (times_counted x i) refl is;
        tickets = ap (λ (z : NodeView). z.tickets) is ∙ joined_tickets (times_counted x i) ∙ ap (λ g. map.insert w.tickets q.counter (record { node = i; hash = g; number = x.number })) (sym before.hash);
      }

  pub open_there : (r : Result Registered E) (word : List Letter) → IsOpenWord m i h word r → Run (AtNode i h) (node_view w i h) word (node_view v i h) → MadeHere r
  open_there r word is_word run = made r _ (opening_there i h x.number (max_nodes_of x.description.pattern) (form.description x.description) before.nodes q.counter w.tickets m x.description before.limits before.hash refl (times_counted x i) (phase_of w (Node i) h) (before.phases i) low is_word (from begin run)) refl
