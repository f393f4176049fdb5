-- What is left of a node that has nothing, and of the factories of others.
use Rattle.std.proofs.Common.{◌≡◌, ◌≢◌, inl, ℕ, ◌≤◌, Bool, true, false, cond, List, [], ◌∷◌, Option, Some, filter, length, refl, sym, ap, subst, ◌∙◌, arith, if◌then◌else◌}
use Rattle.std.specs.Prelude.{◌&&◌, Result, Ok, Err}
use Rattle.std.specs.List.{find as first}
use Rattle.std.specs.FinMap as map
use Rattle.std.proofs.lemmas.Bool.{eqb-true}
use Rattle.std.proofs.lemmas.Cmp.{nat_cmp_total}
use Rattle.iceoryx2_description.specs.declared.description.ServiceHash.{ServiceHash}
use Rattle.iceoryx2_access.specs.Letter.{Letter, acting_node}
use Rattle.iceoryx2_access.specs.Letter as letter
use Rattle.iceoryx2_access.specs.Registered.{Registered}
use Rattle.iceoryx2_access.specs.Run.{done, next}
use Rattle.iceoryx2_access.specs.declared.storage.Release.{Release as Released}
use Rattle.iceoryx2_access.specs.declared.storage.ReleaseError.{ReleaseError}
use Rattle.iceoryx2_access.specs.declared.storage.RemoveError.{RemoveError}
use Rattle.iceoryx2_world.specs.declared.world.Participant.TheVariants.{Node}
use Rattle.iceoryx2_world.specs.declared.world.Phase.{Phase}
use Rattle.iceoryx2_world.specs.declared.world.Phase.TheVariants as at
use Rattle.iceoryx2_world.specs.World.{World, belongs, begins, join_count, phase_of, ticket_count}
use Rattle.iceoryx2_world.specs.Agreement.{Agrees}
use Rattle.iceoryx2_world.specs.Interference.{everyone, IsFallibleUnder}
use Rattle.iceoryx2_world.specs.Standing.{Spares}
use Rattle.iceoryx2_world.proofs.agreement.Interference.{rely_same}
use Rattle.iceoryx2_world.proofs.agreement.Stands.{run_stands}
use Rattle.iceoryx2_table.specs.declared.holdings.Holding.{Holding}
use Rattle.iceoryx2_table.specs.declared.holdings.Holding.TheVariants as holding
use Rattle.iceoryx2_table.specs.Holdings.{is_unfinished, HasNoTicket}
use Rattle.iceoryx2_table.proofs.Held.{found_in}
use Rattle.iceoryx2_log.specs.Log.{Contents}
use Rattle.iceoryx2_journal.specs.Cleaning.{has_segment, GivesUp, HoldsNothing, IsInItsName, SparesOtherNodes}
use Rattle.iceoryx2_journal.proofs.GivingBack.{gives_caller}

-- ---- who has nothing

-- where one passes the first that does is found
passing : {X : Type 0} (p : X → Bool) (xs : List X) → 1 ≤ length (filter p xs) → (x : X) × (first p xs ≡ Some x)
passing p [] few = absurd (omega (arith, few))
passing p (y ∷ xs) few =
    elim (p y) as (λ (b : Bool). 1 ≤ length (cond b (y ∷ filter p xs) (filter p xs)) → (x : _) × (cond b (Some y) (first p xs) ≡ Some x)) [
      | true ↦ λ f. (y, refl)
      | false ↦ λ f. passing p xs f
    ] few

and_first : (a b : Bool) → (a && b) ≡ true → a ≡ true
and_first true b e = refl
and_first false b e = absurd (cc)

no_count : (w : World) (i : ℕ) (h : ServiceHash) → HasNoTicket w i → 1 ≤ ticket_count w.tickets i h → ⊥
no_count w i h none some =
    let x = passing (belongs i h) (map.entries w.tickets) some in
    let f = found_in nat_cmp_total (belongs i h) w.tickets x.0 x.1 in
    none x.0.0 x.0.1 f.0 (eqb-true x.0.1.node i (and_first _ _ f.1))

begins_by : (w : World) (i : ℕ) (h : ServiceHash) (x : Phase) → phase_of w (Node i) h ≡ x → Agrees w → HasNoTicket w i → is_unfinished x ≡ false → begins x ≡ true
begins_by w i h at.Idle e agrees none ended = refl
begins_by w i h (at.Read n) e agrees none ended = refl
begins_by w i h (at.Locked n) e agrees none ended = absurd (cc)
begins_by w i h (at.Made n) e agrees none ended = absurd (cc)
begins_by w i h (at.Leaving n) e agrees none ended = absurd (cc)
begins_by w i h (at.Cleared n) e agrees none ended = absurd (cc)
begins_by w i h (at.Joined n k) e agrees none ended =
    let j = (agrees.everywhere h).joined (Node i) n k e in
    let count : ticket_count w.tickets i h ≡ k = agrees.held.count i h ∙ ap join_count e in
    absurd (no_count w i h none (subst (λ c. 1 ≤ c) (sym count) j.0))

pub holds_nothing : HoldsNothing
holds_nothing w i h agrees none = begins_by w i h (phase_of w (Node i) h) refl agrees none.0 (none.1 h)

-- ---- the factories of others

other_release : {i : ℕ} (f : Registered) (t : ℕ) (h : ServiceHash) (n : ℕ) (a : Result Released ReleaseError) → f.node ≢ i → Spares f (letter.Release t i h n a)
other_release f t h n (Ok a) other = λ same is hash number. other (sym is)
other_release f t h n (Err e) other = tt

pub removal_spares : (f : Registered) (i : ℕ) (b : Bool) (h : ServiceHash) (a : Result (Unit {0}) RemoveError) → Spares f (if b then letter.RemoveSegment i h a else letter.RemoveDescription i h a)
removal_spares f i true h a = tt
removal_spares f i false h a = tt

pub gives_spares : (i : ℕ) (x : Holding) (l : Letter) (f : Registered) → f.node ≢ i → GivesUp i x l → Spares f l
gives_spares i (holding.Ticket t h n) l f other g = subst (Spares f) (sym g.1) (other_release f t h n g.0 other)
gives_spares i (holding.Service h p) l f other g = subst (Spares f) (sym g.1) (removal_spares f i (has_segment p) h g.0)
gives_spares i (holding.Tag h) l f other g = subst (Spares f) (sym g.1) tt

pub spares_others : SparesOtherNodes
spares_others w v i x l f gives other part agrees stands =
    let step : IsFallibleUnder everyone w l v = record { between = w; before = rely_same everyone w; part = inl part } in
    run_stands {own = everyone} {w = w} {v = v} {word = l ∷ []} f refl (next step done) (gives_spares i x l f other gives, tt) agrees stands

pub in_its_name : {L : Type 0} (contents : L → Option Contents) → IsInItsName contents
in_its_name contents i old l new c = gives_caller i c.held l c.gives
