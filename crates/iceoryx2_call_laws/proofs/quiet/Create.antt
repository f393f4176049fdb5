-- Create where there is no service, over a world that shows the machine.
use Rattle.std.proofs.Common.{◌≡◌, ℕ, ◌+◌, ◌<◌, ◌≤◌, true, false, List, Some, None, Result, inl, inr, refl, sym, ap, subst, ◌∙◌, arith}
use Rattle.std.specs.Prelude.{nat_lt, is_some}
use Rattle.std.specs.FinMap.{get-insert}
use Rattle.std.proofs.lemmas.Bool.Decides.{nat_tests}
use Rattle.iceoryx2_description.specs.declared.description.ServiceHash.{ServiceHash}
use Rattle.iceoryx2_description.specs.Description.{Description, IsDescription, max_nodes_of}
use Rattle.iceoryx2_data.specs.Form as form
use Rattle.iceoryx2_world.specs.declared.world.Participant.{Participant}
use Rattle.iceoryx2_world.specs.declared.world.Participant.TheVariants.{Node, Peer}
use Rattle.iceoryx2_world.specs.declared.world.Phase.{Phase}
use Rattle.iceoryx2_world.specs.Orders.{hash_total}
use Rattle.iceoryx2_world.specs.World.{World, row_of, segment_of, phase_of, begins, Tickets, tag_of}
use Rattle.iceoryx2_world.specs.Steps.{alone, last_number}
use Rattle.iceoryx2_access.specs.Letter.{Letter}
use Rattle.iceoryx2_access.specs.Run.{Run}
use Rattle.iceoryx2_world.specs.Access.{NodeView, node_view}
use Rattle.iceoryx2_world.proofs.agreement.Moved.{same_self, contains_alone, len_alone}
use Rattle.iceoryx2_world.proofs.agreement.Whole.{own_hash}
use Rattle.iceoryx2_rounds.specs.PatternRules.{PatternRules}
use Rattle.iceoryx2_access.specs.Registered.{Registered}
use Rattle.iceoryx2_rounds.specs.declared.caller.Caller.{Caller}
use Rattle.iceoryx2_rounds.specs.Creates.{IsCreateWord, clock_stops, description_of}
use Rattle.iceoryx2_call_laws.specs.Quiet.{Quiet, IsNothingShown, ShowsService, Shows, service_at, is_counted}
use Rattle.iceoryx2_call_laws.specs.QuietCalls.{Creates, created_by, with_service, spend}
use Rattle.iceoryx2_call_laws.specs.QuietCalls as call
use Rattle.iceoryx2_call_laws.specs.Tickets.{tickets_after}
use Rattle.iceoryx2_call_laws.proofs.quiet.NodeViews.{OthersStay, AtNode}
use Rattle.iceoryx2_call_laws.proofs.quiet.Absent.{from, bare, joined, Founds, forbids, no_time, no_number, forgets, forgets_locked, founds, founding}
use Rattle.iceoryx2_call_laws.proofs.quiet.Lift.{services_after, same_services, phase_beside, tag_beside, equal_or_not, not_same, other_node, no_node}
use Rattle.iceoryx2_call_laws.proofs.quiet.Counts.{get_first_own, get_first_other, len_first}

-- The machine's call, and what the world shows then.
pub record Made (Calls : Quiet → Type 0) (held : Tickets) (v : World) : Type 0 where
  pub state : Quiet
  pub call : Calls state
  pub shows : Shows v state
  pub tickets : v.tickets ≡ held

module _ (i : ℕ) (h : ServiceHash) (w v : World) (q : Quiet) (a : OthersStay i h w v) (s : Shows w q) (gone : service_at q h ≡ None) where
  pub was_absent : IsNothingShown (row_of w h) (segment_of w h) (λ j. phase_of w (Node j) h) (λ j. tag_of w j h)
  was_absent = subst (λ o. ShowsService w h o) gone (s.services h)

  pub begin_absent : node_view w i h ≡ bare (phase_of w (Node i) h) q.counter false w.tickets
  begin_absent = λ k. record { view = record { phase = phase_of w (Node i) h; row = was_absent.row k; segment = was_absent.segment k; counter = s.counter k }; tag = was_absent.tags i k; tickets = w.tickets }

  pub stays_absent : (y : Phase) (e : ℕ) → begins y ≡ true → node_view v i h ≡ bare y e false w.tickets → Shows v (record q { counter = e })
  stays_absent y e b is = record {
    counter = ap (λ (x : NodeView). x.view.counter) is;
    services = services_after q (record q { counter = e }) None a s (same_services q h None gone) (record {
      row = ap (λ (x : NodeView). x.view.row) is;
      segment = ap (λ (x : NodeView). x.view.segment) is;
      phases = λ j. elim (equal_or_not j i) [ inl x ↦ rw (x, ap (λ (z : NodeView). z.view.phase) is) b | inr x ↦ rw (phase_beside a j x) (was_absent.phases j) ];
      tags = λ j. elim (equal_or_not j i) [ inl x ↦ rw x (ap (λ (z : NodeView). z.tag) is) | inr x ↦ tag_beside a j x ∙ was_absent.tags j ];
    });
  }

  stands : (d : Description) → IsDescription d → d.hash ≡ h → node_view v i h ≡ joined i h q.counter (max_nodes_of d.pattern) (form.description d) (q.counter + 1) w.tickets → Shows v (spend (with_service q h (Some (created_by i d q.counter))))
  stands d limits hash is =
      let x = created_by i d q.counter in
      record {
        counter = ap (λ (z : NodeView). z.view.counter) is;
        services = services_after q (spend (with_service q h (Some x))) (Some x) a s (λ g. get-insert hash_total q.services h x g) (record {
          limits = limits;
          hash = hash;
          row = ap (λ (z : NodeView). z.view.row) is;
          nodes = alone (Node i);
          segment = ap (λ (z : NodeView). z.view.segment) is;
          members = members x.number d;
          as_many = len_alone (Node i) ∙ sym (len_first i);
          one_or_more = omega (arith, len_first i);
          phases = λ j. elim (equal_or_not j i) [
            | inl e ↦ rw (e, get_first_own i) (ap (λ (z : NodeView). z.view.phase) is, omega arith)
            | inr e ↦ rw (get_first_other i j e, phase_beside a j e) (was_absent.phases j)
          ];
          tags = λ j. elim (equal_or_not j i) [
            | inl e ↦ rw (e, get_first_own i) (ap (λ (z : NodeView). z.tag) is)
            | inr e ↦ rw (get_first_other i j e) (tag_beside a j e ∙ was_absent.tags j)
          ];
        });
      }
    where
      members : (n : ℕ) (d : Description) (p : Participant) → Rattle.iceoryx2_world.specs.Sets.contains (alone (Node i)) p ≡ is_counted (created_by i d n) p
      members n d (Node j) = elim (equal_or_not j i) [
        | inl e ↦ rw e (contains_alone (Node i) (Node i) ∙ same_self (Node i) ∙ sym (ap is_some (get_first_own i)))
        | inr e ↦ contains_alone (Node i) (Node j) ∙ not_same (Node j) (Node i) (other_node j i e) ∙ sym (ap is_some (get_first_other i j e))
      ]
      members n d (Peer j) = contains_alone (Node i) (Peer j) ∙ not_same (Peer j) (Node i) (no_node j i)

module _ {E C : Type 0} (m : PatternRules E C) (caller : Caller) (w v : World) (q : Quiet) (a : OthersStay caller.node caller.hash w v) (s : Shows w q) (gone : service_at q caller.hash ≡ None) where
  abbrev i : ℕ
  i = caller.node

  abbrev h : ServiceHash
  h = caller.hash

  abbrev d : Description
  d = description_of m caller

  abbrev MadeHere : Result Registered C → Type 0
  MadeHere r = Made (Creates m q caller r) (tickets_after w.tickets r) v

  has_number : nat_lt q.counter last_number ≡ true → q.counter < last_number
  has_number e = grind (arith, nat_tests, e)

  has_no_number : nat_lt q.counter last_number ≡ false → last_number ≤ q.counter
  has_no_number e = grind (arith, nat_tests, e)

  made : (r : Result Registered C) (x : NodeView) → Founds m i h (clock_stops m.needs_clock caller.clock) d q.counter w.tickets r x → node_view v i h ≡ x → MadeHere r
  made r x (forbids b bad) is = record { state = q; call = call.forbidden bad; shows = stays_absent i h w v q a s gone _ q.counter b is; tickets = ap (λ (z : NodeView). z.tickets) is }
  made r x (no_time b fits stops) is = record { state = q; call = call.no_time fits gone stops; shows = stays_absent i h w v q a s gone _ q.counter b is; tickets = ap (λ (z : NodeView). z.tickets) is }
  made r x (no_number b fits runs end) is = record { state = q; call = call.no_number fits gone runs (has_no_number end); shows = stays_absent i h w v q a s gone _ q.counter b is; tickets = ap (λ (z : NodeView). z.tickets) is }
  made r x (forgets b fits) is = record { state = q; call = call.no_memory fits; shows = stays_absent i h w v q a s gone _ q.counter b is; tickets = ap (λ (z : NodeView). z.tickets) is }
  made r x (forgets_locked b fits runs room) is = record { state = spend q; call = call.no_memory_locked fits gone runs (has_number room); shows = stays_absent i h w v q a s gone _ (q.counter + 1) b is; tickets = ap (λ (z : NodeView). z.tickets) is }
  made r x (founds limits fits runs room) is = record { state = spend (with_service q h (Some (created_by i d q.counter))); call = call.created fits gone runs (has_number room); shows = stands i h w v q a s gone d limits refl is; tickets = ap (λ (z : NodeView). z.tickets) is }

  pub create_absent : (r : Result Registered C) (word : List Letter) → nat_lt 0 (max_nodes_of d.pattern) ≡ true → IsCreateWord m caller word r → Run (AtNode i h) (node_view w i h) word (node_view v i h) → MadeHere r
  create_absent r word positive is_word run = made r _ (founding m i h (clock_stops m.needs_clock caller.clock) d (phase_of w (Node i) h) q.counter w.tickets ((was_absent i h w v q a s gone).phases i) positive (own_hash h) is_word (from (begin_absent i h w v q a s gone) run)) refl
