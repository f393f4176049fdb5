-- What is so of the calls of the machine is so where they may prepare their types first.
use Rattle.std.proofs.Common.{◌≡◌, Bool, true, false, List, [], Result, Ok, Err, refl, sym, ap, subst}
use Rattle.iceoryx2_access.specs.Letter.{Letter}
use Rattle.iceoryx2_access.specs.Run.{Run, done}
use Rattle.iceoryx2_access.specs.Registered.{Registered}
use Rattle.iceoryx2_world.specs.World.{World}
use Rattle.iceoryx2_world.specs.Agreement.{Agrees}
use Rattle.iceoryx2_world.specs.Standing.{Stands}
use Rattle.iceoryx2_rounds.specs.Prepared as words
use Rattle.iceoryx2_rounds.specs.CallWords.{PreparedIf}
use Rattle.iceoryx2_call_laws.specs.Quiet.{Quiet, Shows}
use Rattle.iceoryx2_call_laws.specs.QuietLaws.{Follows}
use Rattle.iceoryx2_call_laws.specs.QuietPrepared.{PreparesFirst, unprepared, prepared, PreparesFirstIf}

-- without an access nothing changes
nowhere : {step : World → Letter → World → Type 0} {w v : World} → Run step w [] v → v ≡ w
nowhere done = refl

module _ {E : Type 0} {no_memory : E} {q : Quiet} {Calls : Result Registered E → Quiet → Type 0} where
  -- where it is granted
  pub granted_prepared : {r : Registered} {p : Quiet} → PreparesFirst no_memory q Calls (Ok r) p → Calls (Ok r) p
  granted_prepared (prepared is) = is

-- Where each word of a call is a call of the machine, it is so where the call may prepare its types first.
pub prepared_follows : {E : Type 0} {IsWord : List Letter → Result Registered E → Type 0} {Calls : Quiet → Result Registered E → Quiet → Type 0} (b : Bool) (no_memory : E) → Follows IsWord Calls
    → Follows (PreparedIf b no_memory IsWord) (λ q. PreparesFirstIf b no_memory q (Calls q))
prepared_follows false no_memory follows w v q word answer quiet is = follows w v q word answer quiet is
prepared_follows true no_memory follows w v q word answer quiet words.unprepared =
    let is = sym (nowhere quiet.run) in
    record {
      state = q;
      call = unprepared;
      shows = subst (λ u. Shows u q) is quiet.shows;
      agrees = subst Agrees is quiet.agrees;
      tickets = ap (λ (u : World). u.tickets) (nowhere quiet.run);
      given = tt;
      kept = λ f at. subst (λ u. Stands u f) is at;
    }
prepared_follows true no_memory follows w v q word answer quiet (words.prepared is) =
    let c = follows w v q word answer quiet is in
    record { state = c.state; call = prepared c.call; shows = c.shows; agrees = c.agrees; tickets = c.tickets; given = c.given; kept = c.kept }

module _ {E : Type 0} (no_memory : E) (q : Quiet) (Calls : Result Registered E → Quiet → Type 0) where
  pub refused_if : (b : Bool) (p : Quiet) (error : E) → ((e : E) (p : Quiet) → Calls (Err e) p → p.services ≡ q.services)
      → PreparesFirstIf b no_memory q Calls (Err error) p → p.services ≡ q.services
  refused_if false p error each c = each error p c
  refused_if true p error each unprepared = refl
  refused_if true p error each (prepared c) = each error p c
