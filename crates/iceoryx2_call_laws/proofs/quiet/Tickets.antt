-- What the tickets of a world tell of the machine that it shows, and of factories.
use Rattle.std.proofs.Common.{◌≡◌, ◌≢◌, ℕ, true, Option, Some, None, Result, Ok, Err, refl, sym, ap, subst, ◌∙◌, inl, inr, arith}
use Rattle.std.specs.FinMap as map
use Rattle.std.proofs.lemmas.Cmp.{nat_cmp_total}
use Rattle.std.proofs.lemmas.Map.Lookups.{exact_unsigned}
use Rattle.iceoryx2_description.specs.declared.description.ServiceHash.{ServiceHash}
use Rattle.iceoryx2_description.specs.Description.{IsDescription}
use Rattle.iceoryx2_data.specs.Form as form
use Rattle.iceoryx2_data.proofs.Fields.{one_description}
use Rattle.iceoryx2_world.specs.declared.world.Participant.TheVariants.{Node}
use Rattle.iceoryx2_world.specs.declared.world.Phase.{Phase}
use Rattle.iceoryx2_world.specs.declared.world.Phase.TheVariants as at
use Rattle.iceoryx2_world.specs.declared.world.Row.TheVariants as row
use Rattle.iceoryx2_world.specs.World.{World, phase_of, begins, joined_number, ticket_of}
use Rattle.iceoryx2_world.specs.ServiceAgreement.{Later}
use Rattle.iceoryx2_world.specs.Agreement.{Agrees}
use Rattle.iceoryx2_access.specs.Registered.{Registered}
use Rattle.iceoryx2_world.specs.Standing.{Stands, ticket_for}
use Rattle.iceoryx2_world.proofs.agreement.Accesses.{later_refl}
use Rattle.iceoryx2_world.proofs.agreement.Maps.{set_cases}
use Rattle.iceoryx2_world.proofs.agreement.Stands.{stands_by_ticket, older_ticket}
use Rattle.iceoryx2_call_laws.specs.Quiet.{QuietService, Quiet, ShowsService, Shows, CountIs, service_at, times_counted}
use Rattle.iceoryx2_call_laws.specs.QuietLaws.{HasOpened, HasServiceOf, TicketsHaveOpened, StandingHasService}
use Rattle.iceoryx2_call_laws.specs.Tickets.{tickets_after}

not_begun : (x : Phase) (n : ℕ) → begins x ≡ true → joined_number x ≡ Some n → ⊥
not_begun at.Idle n b e = absurd (cc)
not_begun (at.Read m) n b e = absurd (cc)
not_begun _ n b e = absurd (cc)

counted_by : (x : Phase) (n m : ℕ) (o : Option ℕ) → CountIs m x o → joined_number x ≡ Some n → (k : ℕ) × (o ≡ Some k) × (m ≡ n)
counted_by x n m None count e = absurd (not_begun x n count e)
counted_by x n m (Some k) count e = let is = sym (ap joined_number count.0) ∙ e in (k, refl, cc)

open_by : (w : World) (q : Quiet) (i : ℕ) (h : ServiceHash) (n : ℕ) (o : Option QuietService) → service_at q h ≡ o → ShowsService w h o → joined_number (phase_of w (Node i) h) ≡ Some n → HasOpened q i h n
open_by w q i h n None is s e = absurd (not_begun (phase_of w (Node i) h) n (s.phases i) e)
open_by w q i h n (Some x) is s e = let c = counted_by (phase_of w (Node i) h) n x.number (times_counted x i) (s.phases i) e in record { service = x; there = is; number = c.2; count = c.0; counted = c.1 }

-- who has a ticket has opened its service
pub has_opened : TicketsHaveOpened
has_opened w q t x s old e = open_by w q x.node x.hash x.number (service_at q x.hash) refl (s.services x.hash) (old.held.number t x e)

-- who stands carries the machine's description
service_by : (w : World) (q : Quiet) (f : Registered) (o : Option QuietService) → service_at q f.description.hash ≡ o → ShowsService w f.description.hash o → Stands w f → HasServiceOf q f
service_by w q f None is s stands = let gone = sym s.row ∙ stands.row in absurd (cc)
service_by w q f (Some x) is s stands =
    let same = sym s.row ∙ stands.row in
    let number : x.number ≡ f.number = cc in
    let bytes : form.description x.description ≡ form.description f.description = cc in
    record { service = x; there = is; description = one_description (form.description x.description) x.description f.description (s.limits, refl) (stands.limits, bytes); number = number }

pub service_of : StandingHasService
service_of w q f s stands = service_by w q f (service_at q f.description.hash) refl (s.services f.description.hash) stands

-- a factory whose ticket stays stands
pub still_stands : (w v : World) (f : Registered) → Later w v → Agrees v → Stands w f → ticket_of v f.ticket ≡ ticket_of w f.ticket → Stands v f
still_stands w v f later new s e = stands_by_ticket w v f later s.limits s.row new (e ∙ s.ticket)

-- the factories that stood, where a new ticket may have come
pub kept_by_call : {E : Type 0} (w v : World) (r : Result Registered E) → Agrees w → Agrees v → Later w v → v.tickets ≡ tickets_after w.tickets r → ((x : Registered) → r ≡ Ok x → x.ticket ≡ w.counter) → (f : Registered) → Stands w f → Stands v f
kept_by_call w v (Err e) old new later tickets fresh f s = still_stands w v f later new s (ap (λ k. map.get k f.ticket) tickets)
kept_by_call w v (Ok x) old new later tickets fresh f s =
    let apart = older_ticket w f x.ticket old s (omega (arith, fresh x refl)) in
    still_stands w v f later new s (ap (λ k. map.get k f.ticket) tickets ∙ elim (set_cases nat_cmp_total exact_unsigned w.tickets x.ticket (Some (ticket_for x)) f.ticket) [ inl i ↦ absurd (apart i.0) | inr i ↦ i.1 ])

-- and where one has gone
pub kept_by_close : (w v : World) (t : ℕ) → Agrees v → Later w v → v.tickets ≡ map.remove w.tickets t → (f : Registered) → f.ticket ≢ t → Stands w f → Stands v f
kept_by_close w v t new later tickets f apart s =
    still_stands w v f later new s (ap (λ k. map.get k f.ticket) tickets ∙ elim (set_cases nat_cmp_total exact_unsigned w.tickets t None f.ticket) [ inl i ↦ absurd (apart i.0) | inr i ↦ i.1 ])

-- a new factory stands where the machine has its service, and its ticket is there
pub given_stands : (w v : World) (q : Quiet) (r : Registered) (x : QuietService) → Shows v q → Agrees v → service_at q r.description.hash ≡ Some x → x.number ≡ r.number → x.description ≡ r.description → v.tickets ≡ map.insert w.tickets r.ticket (ticket_for r) → Stands v r
given_stands w v q r x s new is number description tickets =
    let there = subst (λ o. ShowsService v r.description.hash o) is (s.services r.description.hash) in
    stands_by_ticket v v r (later_refl v) (subst (λ d. IsDescription d) description there.limits) (there.row ∙ (λ i. Some (row.Published (number i) (form.description (description i))))) new
    (ap (λ k. map.get k r.ticket) tickets ∙ elim (set_cases nat_cmp_total exact_unsigned w.tickets r.ticket (Some (ticket_for r)) r.ticket) [ inl i ↦ i.1 | inr i ↦ absurd (i.0 refl) ])
