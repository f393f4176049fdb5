-- A lawful call keeps the promise.
use Rattle.std.proofs.Common.{◌≡◌, ◌⊎◌, ℕ, Bool, true, Result, Ok, Err, inl, inr, refl, sym, subst}
use Rattle.std.specs.Prelude.{IfOk}
use Rattle.iceoryx2_description.specs.Description.{Description}
use Rattle.iceoryx2_access.specs.Letter.{Letter}
use Rattle.iceoryx2_access.specs.MayRefuse.{MayRefuse}
use Rattle.iceoryx2_access.specs.Registered.{Registered}
use Rattle.iceoryx2_rounds.specs.Adjusting.{OnlyRaises, MeetsOrHolds, meets, holds}
use Rattle.iceoryx2_rounds.specs.BuilderCalls.{BuilderCall, ErrorBy, Way, ToCreate, ToOpen, ToOpenOrCreate}
use Rattle.iceoryx2_rounds.specs.LawfulCalls.{IsLawfulCall}
use Rattle.iceoryx2_testing.specs.Faults.{IsInjectedFault}
use Rattle.iceoryx2_world.specs.World.{World}
use Rattle.iceoryx2_world.specs.Access.{IsOwnPart}
use Rattle.iceoryx2_world.specs.Interference.{Others, After, IsFallibleUnder, everyone}
use Rattle.iceoryx2_world.proofs.agreement.Interference as interference
use Rattle.iceoryx2_world.specs.Tables.{IsTableAccess}
use Rattle.iceoryx2_call_laws.specs.AnyCalls.{Meets, IsAsPublished, MayCarryBy}
use Rattle.iceoryx2_call_laws.specs.Headline.{IsGiven}
use Rattle.iceoryx2_call_laws.specs.Promise.{PromiseOver, Promise}
use Rattle.iceoryx2_call_laws.proofs.calls.Headline.{as_promised, open_until_released, of_table, of_faulty_table}

module _ {D E C : Type 0} (c : BuilderCall D E C) (raises : OnlyRaises c.meaning c.adjusted) where
  either : {d : Description} → Meets c d ⊎ IsAsPublished c d → MeetsOrHolds c d
  either (inl m) = meets m.hash m.accepted
  either (inr same) = subst (MeetsOrHolds c) (sym same) holds

  decided : (way : Way) (d : Description) → MayCarryBy c way d → MeetsOrHolds c d
  decided ToCreate d same = either (inr same)
  decided ToOpen d m = either (inl m)
  decided ToOpenOrCreate d carries = either (carries raises)

  module _ (own : ℕ → Bool) (mine : own c.caller.node ≡ true) {S : Type 0} (step : S → Letter → S → Type 0) (world : S → World) (of_world : (s t : S) (l : Letter) → step s l t → IsFallibleUnder own (world s) l (world t)) where
    if_given : (s t : S) (answer : Result Registered (ErrorBy E C c.way)) → IfOk answer (IsGiven step world c s t) → IfOk answer (λ r. MeetsOrHolds c r.description)
    if_given s t (Err e) g = tt
    if_given s t (Ok r) g = decided c.way r.description g.carries

    pub promise_over : PromiseOver step world c own
    promise_over = record {
      kept = λ word answer s t is run old.
          let p = as_promised own step world of_world c mine word answer s t is run old in (p, if_given s t answer p.given);
      until_released = λ f s is. let o = open_until_released own step world of_world c mine f s is in (o, decided c.way f.description o.carries);
    }

pub keeps_promise : {D E C : Type 0} (c : BuilderCall D E C) → IsLawfulCall c → Promise c
keeps_promise c lawful = record {
  over_tables = promise_over c lawful.only_raises everyone refl IsTableAccess (λ u. u.world) (of_table everyone);
  in_any_world = λ own mine. promise_over c lawful.only_raises own mine (IsFallibleUnder own) (λ u. u) (λ s t l a. a);
  among_others = λ own mine. promise_over c lawful.only_raises own mine (After (Others own) (MayRefuse IsOwnPart)) (λ u. u) (λ s t l a. interference.among_others own s l t a);
  under_faults = promise_over c lawful.only_raises everyone refl (IsInjectedFault IsTableAccess) (λ u. u.inner.world) (of_faulty_table everyone);
}
