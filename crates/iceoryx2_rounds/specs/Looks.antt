-- The words of a look, with what it finds: one row a line, the first that fits.
use Rattle.std.specs.Prelude.{◌≡◌, ◌≢◌, ℕ, List, [], ◌∷◌, Result, Ok, Err, Option, Some, None}
use Rattle.iceoryx2_description.specs.declared.description.ServiceHash.{ServiceHash}
use Rattle.iceoryx2_description.specs.Description.{Description}
use Rattle.iceoryx2_data.specs.Form.{IsForm}
use Rattle.iceoryx2_access.specs.declared.storage.Existence.{Existence}
use Rattle.iceoryx2_access.specs.declared.storage.Existence.TheVariants as existence
use Rattle.iceoryx2_access.specs.declared.storage.FetchError.{FetchError}
use Rattle.iceoryx2_access.specs.declared.storage.FetchError.TheVariants as fetch
use Rattle.iceoryx2_access.specs.Letter.{Letter, Exists, Fetch}
use Rattle.iceoryx2_rounds.specs.PatternRules.{PatternRules}
use Rattle.iceoryx2_rounds.specs.declared.look.Fault.{Fault}
use Rattle.iceoryx2_rounds.specs.declared.look.Fault.TheVariants as fault
use Rattle.iceoryx2_rounds.specs.declared.look.Outcome.{Outcome}
use Rattle.iceoryx2_rounds.specs.declared.look.Outcome.TheVariants.{Nothing, Found, Faulty}
use Rattle.iceoryx2_rounds.specs.declared.look.Presence.{Presence}
use Rattle.iceoryx2_rounds.specs.declared.look.Presence.TheVariants as presence

-- Something may be there to be fetched.
pub data MayBeThere : Existence → Type 0 where
  yes : MayBeThere existence.Yes
  being_set_up : MayBeThere existence.BeingSetUp

-- What a fetch leads to. Reading the bytes may run out of memory.
module _ {E C : Type 0} (m : PatternRules E C) (hash : ServiceHash) where
  pub data LeadsTo : Result (ℕ × List ℕ) FetchError → Outcome E → Type 0 where
    gone : LeadsTo (Err fetch.DoesNotExist) Nothing
    not_finalized : LeadsTo (Err fetch.NotFinalized) (Faulty fault.HangsInCreation)
    not_opened : LeadsTo (Err fetch.OpenFault) (Faulty fault.InsufficientPermissions)
    not_read : LeadsTo (Err fetch.ReadFault) (Faulty fault.InsufficientPermissions)
    not_fetched : LeadsTo (Err fetch.OutOfMemory) (Faulty fault.OutOfMemory)
    not_decoded : {n : ℕ} {bytes : List ℕ} → LeadsTo (Ok (n, bytes)) (Faulty fault.OutOfMemory)
    malformed : {n : ℕ} {bytes : List ℕ} → ((d : Description) → IsForm d bytes → ⊥)
        → LeadsTo (Ok (n, bytes)) (Faulty fault.Corrupted)
    other_hash : {n : ℕ} {bytes : List ℕ} {d : Description} → IsForm d bytes → d.hash ≢ hash
        → LeadsTo (Ok (n, bytes)) (Faulty fault.Corrupted)
    misfit : {n : ℕ} {bytes : List ℕ} {d : Description} {error : E} → IsForm d bytes → d.hash ≡ hash
        → m.misfit d ≡ Some error → LeadsTo (Ok (n, bytes)) (Faulty (fault.Misfit error))
    fits : {n : ℕ} {bytes : List ℕ} {d : Description} → IsForm d bytes → d.hash ≡ hash
        → m.misfit d ≡ None → LeadsTo (Ok (n, bytes)) (Found n d)

-- One `exists`, and a `fetch` where something may be there.
module _ {E C : Type 0} (m : PatternRules E C) (node : ℕ) (hash : ServiceHash) where
  pub data IsLookWord : List Letter → Outcome E → Type 0 where
    absent : IsLookWord (Exists hash existence.No ∷ []) Nothing
    broken : IsLookWord (Exists hash existence.Fault ∷ []) (Faulty fault.Corrupted)
    fetched : {there : Existence} {answer : Result (ℕ × List ℕ) FetchError} {outcome : Outcome E}
        → MayBeThere there → LeadsTo m hash answer outcome
        → IsLookWord (Exists hash there ∷ Fetch node hash answer ∷ []) outcome

-- A service that was read, unless a fault was seen in it.
abbrev pub found_unless : {E : Type 0} → Option (Fault E) → ℕ → Description → Outcome E
found_unless (Some fault) number d = Faulty fault
found_unless None number d = Found number d

-- What a look finds, without the number and the description.
abbrev pub presence_of : {E : Type 0} → Outcome E → Presence E
presence_of Nothing = presence.Absent
presence_of (Found number d) = presence.Present
presence_of (Faulty fault) = presence.AtFault fault
