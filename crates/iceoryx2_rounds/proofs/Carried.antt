-- What a call's answer carries.
use Rattle.std.proofs.Common.{◌≡◌, ℕ, Bool, List, Ok, refl}
use Rattle.iceoryx2_description.specs.declared.description.ServiceHash.{ServiceHash}
use Rattle.iceoryx2_description.specs.Description.{Description}
use Rattle.iceoryx2_access.specs.Letter.{Letter}
use Rattle.iceoryx2_rounds.specs.PatternRules.{PatternRules}
use Rattle.iceoryx2_access.specs.Registered.{Registered}
use Rattle.iceoryx2_rounds.specs.Looks.{fetched, fits}
use Rattle.iceoryx2_rounds.specs.Creates.{IsCreating, made, published}
use Rattle.iceoryx2_rounds.specs.Opens.{ready, opened, IsOpenWord, ended, CarriesAccepted}

module _ {E C : Type 0} {m : PatternRules E C} {node : ℕ} {hash : ServiceHash} where
  pub created_carries : {stops : Bool} {d : Description} {w : List Letter} {r : Registered} → IsCreating m node hash stops d w (Ok r) → (r.node ≡ node) × (r.description ≡ d)
  created_carries (made _ _ e (published n t s)) = (refl, refl)

  pub opened_carries : {w : List Letter} {r : Registered} → IsOpenWord m node hash w (Ok r) → CarriesAccepted m node hash r
  opened_carries (ended small before (opened t (ready tag (fetched there (fits form same misfit)) accepted))) = record { node_is = refl; hash_is = same; fits = misfit; accepted = accepted }
