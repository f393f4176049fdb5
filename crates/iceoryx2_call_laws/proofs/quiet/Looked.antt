-- A look by itself over a world that shows the machine.
use Rattle.std.proofs.Common.{◌≡◌, ℕ, false, List, Some, None, Result, Ok, Err, refl, sym, ap, subst, ◌∙◌}
use Rattle.std.specs.Prelude.{IfOk}
use Rattle.iceoryx2_description.specs.declared.description.ServiceHash.{ServiceHash}
use Rattle.iceoryx2_description.specs.Description.{Description}
use Rattle.iceoryx2_data.specs.Form as form
use Rattle.iceoryx2_world.specs.declared.world.Participant.TheVariants.{Node}
use Rattle.iceoryx2_world.specs.World.{World, phase_of, segment_of, tag_of}
use Rattle.iceoryx2_access.specs.Letter.{Letter}
use Rattle.iceoryx2_access.specs.Run.{Run}
use Rattle.iceoryx2_access.specs.Registered.{Registered}
use Rattle.iceoryx2_world.specs.Access.{IsOwnPart, NodeView, node_view}
use Rattle.iceoryx2_world.specs.Agreement.{Agrees}
use Rattle.iceoryx2_world.specs.Standing.{Stands}
use Rattle.iceoryx2_rounds.specs.PatternRules.{PatternRules}
use Rattle.iceoryx2_rounds.specs.declared.look.Outcome.{Outcome}
use Rattle.iceoryx2_rounds.specs.declared.look.Outcome.TheVariants as outcome
use Rattle.iceoryx2_rounds.specs.Looks.{IsLookWord}
use Rattle.iceoryx2_call_laws.specs.Quiet.{QuietService, Quiet, Shows, service_at, times_counted}
use Rattle.iceoryx2_call_laws.specs.QuietLaws.{IsCall}
use Rattle.iceoryx2_call_laws.specs.Tickets.{tickets_after}
use Rattle.iceoryx2_call_laws.proofs.quiet.Absent.{from, look_bare}
use Rattle.iceoryx2_call_laws.proofs.quiet.Calls.{is_call}
use Rattle.iceoryx2_call_laws.proofs.quiet.Create.{was_absent, begin_absent, stays_absent}
use Rattle.iceoryx2_call_laws.proofs.quiet.Here.{look_here}
use Rattle.iceoryx2_call_laws.proofs.quiet.NodeViews.{OthersStay, move_all}
use Rattle.iceoryx2_call_laws.proofs.quiet.There.{LooksThere, finds, look_there, still_counts, was_there, begin_there, stays_there}

-- A word that left the machine as it was.
abbrev pub Rests : (w : World) (q : Quiet) (v : World) → Type 0
Rests w q v = IsCall {E = Unit {0}} w (λ p. p ≡ q) (Err tt) v

rests : {w v : World} {q : Quiet} {word : List Letter} → Shows v q → v.tickets ≡ w.tickets → Run IsOwnPart w word v → Agrees w → Rests w q v
rests {q = q} shows same run old = is_call (Err tt) (record { state = q; call = refl; shows = shows; tickets = same }) tt run old

-- After it a call is what it would have been before.
pub after_rest : {E : Type 0} (Calls : Quiet → Quiet → Type 0) {w u v : World} {q : Quiet} (answer : Result Registered E) → Shows w q → Rests w q u → IsCall u (Calls q) answer v → IsCall w (Calls q) answer v
after_rest {E = E} Calls {w = w} {u = u} {v = v} answer s rest c = record {
  state = c.state;
  call = c.call;
  shows = c.shows;
  agrees = c.agrees;
  tickets = c.tickets ∙ ap (λ k. tickets_after k answer) rest.tickets;
  given = given answer c.given;
  kept = λ f at. c.kept f (rest.kept f at);
}
  where
    same : u.counter ≡ w.counter
    same = rest.shows.counter ∙ ap (λ (p : Quiet). p.counter) rest.call ∙ sym s.counter

    given : (r : Result Registered E) → IfOk r (λ x. Stands v x × (x.ticket ≡ u.counter)) → IfOk r (λ x. Stands v x × (x.ticket ≡ w.counter))
    given (Ok x) g = (g.0, g.1 ∙ same)
    given (Err e) g = tt

pub rest_shows : {w v : World} {q : Quiet} → Rests w q v → Shows v q
rest_shows {v = v} rest = subst (λ p. Shows v p) rest.call rest.shows

-- A look that may find a service that is there.
pub record FindsIt {E C : Type 0} (m : PatternRules E C) (w : World) (q : Quiet) (v : World) (x : QuietService) : Type 0 where
  pub rest : Rests w q v
  pub fits : m.misfit x.description ≡ None

module _ {E C : Type 0} (m : PatternRules E C) (i : ℕ) (h : ServiceHash) {w v : World} {q : Quiet} (s : Shows w q) (old : Agrees w) where
  -- where there is no service it finds nothing
  pub look_rests_absent : {o : Outcome E} {word : List Letter} → service_at q h ≡ None → IsLookWord m i h word o → Run IsOwnPart w word v → (o ≡ outcome.Nothing) × Rests w q v
  look_rests_absent gone l run =
      let all = move_all i h (look_here l) run in
      let at = look_bare m i h (phase_of w (Node i) h) q.counter false w.tickets l (from (begin_absent i h w v q all.apart s gone) all.at) in
      (at.0, rests (stays_absent i h w v q all.apart s gone _ q.counter ((was_absent i h w v q all.apart s gone).phases i) at.1) (ap (λ (z : NodeView). z.tickets) at.1) run old)

  -- where it is there, it may find it
  module _ (x : QuietService) (is_there : service_at q h ≡ Some x) where
    found_by : {n : ℕ} {d : Description} {t : NodeView} {word : List Letter} (a : OthersStay i h w v) → Run IsOwnPart w word v → node_view v i h ≡ t
        → LooksThere i h x.number (form.description x.description) (segment_of w h) w.counter (tag_of w i h) w.tickets m x.description (was_there i h w v q a s x is_there).limits (was_there i h w v q a s x is_there).hash refl (phase_of w (Node i) h) (outcome.Found n d) t
        → FindsIt m w q v x
    found_by a run is (finds p good) = record {
      rest = rests (stays_there i h w v q a s x is_there _ (still_counts (times_counted x i) p ((was_there i h w v q a s x is_there).phases i)) is) (ap (λ (z : NodeView). z.tickets) is) run old;
      fits = good;
    }

    pub look_rests_there : {n : ℕ} {d : Description} {word : List Letter} → IsLookWord m i h word (outcome.Found n d) → Run IsOwnPart w word v → FindsIt m w q v x
    look_rests_there l run =
        let all = move_all i h (look_here l) run in
        let was = was_there i h w v q all.apart s x is_there in
        found_by all.apart run refl (look_there i h x.number (form.description x.description) (segment_of w h) w.counter (tag_of w i h) w.tickets m x.description was.limits was.hash refl (phase_of w (Node i) h) l (from (begin_there i h w v q all.apart s x is_there) all.at))

    pub never_nothing : {word : List Letter} → IsLookWord m i h word outcome.Nothing → Run IsOwnPart w word v → ⊥
    never_nothing l run =
        let all = move_all i h (look_here l) run in
        let was = was_there i h w v q all.apart s x is_there in
        elim (look_there i h x.number (form.description x.description) (segment_of w h) w.counter (tag_of w i h) w.tickets m x.description was.limits was.hash refl (phase_of w (Node i) h) l (from (begin_there i h w v q all.apart s x is_there) all.at)) [ ]
