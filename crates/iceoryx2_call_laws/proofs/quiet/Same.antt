-- What a world that shows the machine has at a hash is settled by the machine's service there.
use Rattle.std.proofs.Common.{◌≡◌, ℕ, ◌≤◌, true, false, Option, Some, None, refl, sym, ap, subst, ◌∙◌, arith}
use mathlib.Core.Bool.{true≢false}
use Rattle.std.specs.Prelude.{is_some, unwrap_or, IsTrue, ◌↔◌}
use Rattle.std.specs.FinMap as map
use Rattle.std.specs.FinMap.{same_map}
use Rattle.std.specs.Ordering.{nat_cmp}
use Rattle.std.proofs.lemmas.Cmp.{nat_cmp_total}
use Rattle.std.proofs.lemmas.Map.Lookups.{exact_unsigned}
use Rattle.iceoryx2_description.specs.declared.description.ServiceHash.{ServiceHash}
use Rattle.iceoryx2_description.specs.Description.{max_nodes_of}
use Rattle.iceoryx2_world.specs.Sets as set
use Rattle.iceoryx2_world.specs.declared.world.Participant.{Participant}
use Rattle.iceoryx2_world.specs.declared.world.Participant.TheVariants.{Node}
use Rattle.iceoryx2_world.specs.declared.world.Phase.{Phase}
use Rattle.iceoryx2_world.specs.declared.world.Phase.TheVariants as at
use Rattle.iceoryx2_world.specs.declared.world.Ticket.{Ticket}
use Rattle.iceoryx2_world.specs.Orders.{hash_cmp, hash_total, hash_exact, participant_cmp, participant_total, participant_exact}
use Rattle.iceoryx2_world.specs.World.{World, Segment, row_of, segment_of, phase_of, begins, tag_of, ticket_of, ticket_count, join_count}
use Rattle.iceoryx2_world.specs.Agreement.{Agrees}
use Rattle.iceoryx2_world.proofs.agreement.Empty.{no_count}
use Rattle.iceoryx2_call_laws.specs.Quiet.{NodeCounts, QuietService, Quiet, ShowsService, Shows, CountIs, service_at, times_counted, is_counted}
use Rattle.iceoryx2_call_laws.specs.QuietLaws.{times_at, times_opened, CountsTickets, CountsTags, SameServicesHoldTheSame, NothingWithoutService, NothingWithoutTicket}

same_unit : (a b : Option (Unit {0})) → is_some a ≡ is_some b → a ≡ b
same_unit None None e = refl
same_unit (Some x) (Some y) e = refl
same_unit None (Some y) e = absurd (true≢false (sym e))
same_unit (Some x) None e = absurd (true≢false e)

pub same_set : (s t : set.FinSet participant_cmp) → ((p : Participant) → set.contains s p ≡ set.contains t p) → s ≡ t
same_set s t is = same_map participant_total participant_exact s t (λ p. same_unit (map.get s p) (map.get t p) (is p))

none_joined : (x : Phase) → begins x ≡ true → join_count x ≡ 0
none_joined at.Idle e = refl
none_joined (at.Read n) e = refl
none_joined _ e = absurd (cc)

pub joined_times : (n : ℕ) (x : Phase) (o : Option ℕ) → CountIs n x o → join_count x ≡ unwrap_or o 0
joined_times n x None count = none_joined x count
joined_times n x (Some k) count = ap join_count count.0

-- how often a node has joined is how often it has opened
times_joined : (w : World) (h : ServiceHash) (o : Option QuietService) (i : ℕ) → ShowsService w h o → join_count (phase_of w (Node i) h) ≡ times_at o i
times_joined w h None i s = none_joined _ (s.phases i)
times_joined w h (Some x) i s = joined_times x.number _ (times_counted x i) (s.phases i)

-- whoever counts how often, the same nodes have the same segment
pub same_segment : (w v : World) (h : ServiceHash) (x : QuietService) (m : NodeCounts) → ShowsService w h (Some x) → ShowsService v h (Some (record x { counts = m })) → ((p : Participant) → is_counted (record x { counts = m }) p ≡ is_counted x p) → segment_of v h ≡ segment_of w h
same_segment w v h x m s t counted =
    let nodes : t.nodes ≡ s.nodes = same_set t.nodes s.nodes (λ p. t.members p ∙ counted p ∙ sym (s.members p)) in
    let segment : set.FinSet participant_cmp → Option Segment = λ k. Some (record { number = x.number; capacity = max_nodes_of x.description.pattern; participants = k; marked = false }) in
    t.segment ∙ ap segment nodes ∙ sym s.segment

-- Two worlds that show the same service at a hash.
record SameAt (w v : World) (h : ServiceHash) : Type 0 where
  row : row_of v h ≡ row_of w h
  segment : segment_of v h ≡ segment_of w h
  tags : (i : ℕ) → tag_of v i h ≡ tag_of w i h
  counts : (i : ℕ) → join_count (phase_of v (Node i) h) ≡ join_count (phase_of w (Node i) h)

same_at : (w v : World) (h : ServiceHash) (o : Option QuietService) → ShowsService w h o → ShowsService v h o → SameAt w v h
same_at w v h None s t = record {
  row = t.row ∙ sym s.row;
  segment = t.segment ∙ sym s.segment;
  tags = λ i. t.tags i ∙ sym (s.tags i);
  counts = λ i. none_joined _ (t.phases i) ∙ sym (none_joined _ (s.phases i));
}
same_at w v h (Some x) s t = record {
  row = t.row ∙ sym s.row;
  segment = same_segment w v h x x.counts s t (λ p. refl);
  tags = λ i. t.tags i ∙ sym (s.tags i);
  counts = λ i. joined_times x.number _ (times_counted x i) (t.phases i) ∙ sym (joined_times x.number _ (times_counted x i) (s.phases i));
}

pub holds_the_same : SameServicesHoldTheSame
holds_the_same w v q p s t services =
    let each : (h : ServiceHash) → SameAt w v h = λ h. same_at w v h (service_at q h) (s.services h) (subst (λ o. ShowsService v h o) (ap (λ k. map.get k h) services) (t.services h)) in
    record { rows = λ h. (each h).row; segments = λ h. (each h).segment; tags = λ i h. (each h).tags i; counts = λ i h. (each h).counts i }

pub nothing_at : NothingWithoutService
nothing_at w q h s gone =
    let here = subst (λ o. ShowsService w h o) gone (s.services h) in
    record { row = here.row; segment = here.segment; tags = here.tags; counts = λ i. none_joined _ (here.phases i) }

-- each count is the tickets of its node
pub tickets_counted : CountsTickets
tickets_counted w q i h s a = a.held.count i h ∙ times_joined w h (service_at q h) i (s.services h)

tag_by : (x : Phase) (n : ℕ) (o : Option ℕ) → CountIs n x o → IsTrue (is_some o) ↔ (1 ≤ unwrap_or o 0)
tag_by x n None count = (λ e. absurd (true≢false (sym e)), λ e. absurd (omega (arith, e)))
tag_by x n (Some k) count = (λ e. count.1, λ e. refl)

tag_at : (w : World) (h : ServiceHash) (o : Option QuietService) (i : ℕ) → ShowsService w h o → IsTrue (tag_of w i h) ↔ (1 ≤ times_at o i)
tag_at w h None i s = (λ e. absurd (true≢false (sym e ∙ s.tags i)), λ e. absurd (omega (arith, e)))
tag_at w h (Some x) i s = let by = tag_by _ x.number (times_counted x i) (s.phases i) in (λ e. by.0 (sym (s.tags i) ∙ e), λ e. s.tags i ∙ by.1 e)

-- a node has a tag where it has opened the service
pub tags_counted : CountsTags
tags_counted w q i h s = tag_at w h (service_at q h) i (s.services h)

no_tickets : (w : World) → ((t : ℕ) → ticket_of w t ≡ None) → w.tickets ≡ map.empty
no_tickets w none = same_map nat_cmp_total exact_unsigned w.tickets map.empty (λ t. none t ∙ sym (map.get-empty {X = Ticket} nat_cmp t))

none_counted : (o : Option ℕ) (n : ℕ) (x : Phase) → CountIs n x o → unwrap_or o 0 ≡ 0 → o ≡ None
none_counted None n x count e = refl
none_counted (Some k) n x count e = absurd (omega (arith, count.1, e))

-- Where no ticket is left, no service is.
unused : (w : World) (q : Quiet) → Shows w q → Agrees w → ((t : ℕ) → ticket_of w t ≡ None) → (h : ServiceHash) → service_at q h ≡ None
unused w q s a none h = gone (service_at q h) refl (s.services h)
  where
    never : (i : ℕ) → times_opened q i h ≡ 0
    never i =
        let told = tickets_counted w q i h s a in
        let few = no_count 0 i h in
        let zero = ap (λ k. ticket_count k i h) (no_tickets w none) in
        omega (arith, told, few, zero)

    gone : (o : Option QuietService) → service_at q h ≡ o → ShowsService w h o → o ≡ None
    gone None e t = refl
    gone (Some x) e t =
        let counts : x.counts ≡ map.empty = same_map nat_cmp_total exact_unsigned x.counts map.empty (λ i. none_counted (times_counted x i) x.number _ (t.phases i) (sym (ap (λ o. times_at o i) e) ∙ never i) ∙ sym (map.get-empty {X = ℕ} nat_cmp i)) in
        let len : map.len x.counts ≡ 0 = ap map.len counts ∙ map.len-empty nat_cmp ℕ in
        absurd (omega (arith, t.one_or_more, len))

no_services : (q : Quiet) → ((h : ServiceHash) → service_at q h ≡ None) → q.services ≡ map.empty
no_services q none = same_map hash_total hash_exact q.services map.empty (λ h. none h ∙ sym (map.get-empty {X = QuietService} hash_cmp h))

pub all_gone : NothingWithoutTicket
all_gone w q s a none = (no_services q (unused w q s a none), λ h. nothing_at w q h s (unused w q s a none h))
