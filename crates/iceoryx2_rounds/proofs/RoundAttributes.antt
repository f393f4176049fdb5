-- A look, a second look and what a create does with a given description know nothing of attributes.
use Rattle.std.proofs.Common.{ℕ, Bool, List, Option, Result}
use Rattle.iceoryx2_attribute.specs.Attributes.{Pair}
use Rattle.iceoryx2_description.specs.declared.description.ServiceHash.{ServiceHash}
use Rattle.iceoryx2_description.specs.Description.{Description}
use Rattle.iceoryx2_access.specs.declared.storage.FetchError.{FetchError}
use Rattle.iceoryx2_access.specs.declared.storage.Tag.{Tag}
use Rattle.iceoryx2_access.specs.Registered.{Registered}
use Rattle.iceoryx2_access.specs.Letter.{Letter}
use Rattle.iceoryx2_rounds.specs.PatternRules.{PatternRules}
use Rattle.iceoryx2_rounds.specs.Verdict.{Clause}
use Rattle.iceoryx2_rounds.specs.declared.look.Outcome.{Outcome}
use Rattle.iceoryx2_rounds.specs.Looks.{LeadsTo, gone, not_finalized, not_opened, not_read, not_fetched, not_decoded, malformed, other_hash, misfit, fits, IsLookWord, absent, broken, fetched}
use Rattle.iceoryx2_rounds.specs.Creates.{IsServiceWord, not_locked, no_segment, not_published, published}
use Rattle.iceoryx2_rounds.specs.Creates.{IsEntryWord, look_faulty, look_found, counted, no_copies, no_tag, entered}
use Rattle.iceoryx2_rounds.specs.Creates.{IsCreating, forbidden, not_entered, clock_fault, made}
use Rattle.iceoryx2_rounds.specs.OpenParts.{IsSecondLook, second_faulty, second_none, second_found}
use Rattle.iceoryx2_rounds.specs.OpenParts.{IsTaggedOpening, untagged, got, refused, looked, again}

module _ {E C : Type 0} (m : PatternRules E C) (given : List Pair) (required : Description → List (Clause E)) where
  -- the same, with other attributes and another requirement
  abbrev other : PatternRules E C
  other = record m { attributes = given; requirement = required }

  leads : {hash : ServiceHash} {answer : Result (ℕ × List ℕ) FetchError} {outcome : Outcome E} → LeadsTo m hash answer outcome → LeadsTo other hash answer outcome
  leads gone = gone
  leads not_finalized = not_finalized
  leads not_opened = not_opened
  leads not_read = not_read
  leads not_fetched = not_fetched
  leads not_decoded = not_decoded
  leads (malformed none) = malformed none
  leads (other_hash form apart) = other_hash form apart
  leads (misfit form same is) = misfit form same is
  leads (fits form same is) = fits form same is

  pub looks : {node : ℕ} {hash : ServiceHash} {word : List Letter} {outcome : Outcome E} → IsLookWord m node hash word outcome → IsLookWord other node hash word outcome
  looks absent = absent
  looks broken = broken
  looks (fetched there answer) = fetched there (leads answer)

  pub looks_again : {node : ℕ} {hash : ServiceHash} {tag : Tag} {error : Option E} {word : List Letter} → IsSecondLook m node hash tag error word → IsSecondLook other node hash tag error word
  looks_again (second_faulty look back) = second_faulty (looks look) back
  looks_again (second_none look back) = second_none (looks look) back
  looks_again (second_found look back) = second_found (looks look) back

  pub opens : {node : ℕ} {hash : ServiceHash} {n : ℕ} {answer : Option (Result ℕ E)} {word : List Letter} → IsTaggedOpening m node hash n answer word → IsTaggedOpening other node hash n answer word
  opens (untagged e) = untagged e
  opens (got t tag) = got t tag
  opens (refused e is back) = refused e is back
  opens (looked more) = looked (looks_again more)
  opens (again more) = again (looks_again more)

  pub enters : {node : ℕ} {hash : ServiceHash} {word : List Letter} {answer : Result Tag C} → IsEntryWord m node hash word answer → IsEntryWord other node hash word answer
  enters (look_faulty look) = look_faulty (looks look)
  enters (look_found look) = look_found (looks look)
  enters (counted look) = counted (looks look)
  enters (no_copies look) = no_copies (looks look)
  enters (no_tag e look) = no_tag e (looks look)
  enters (entered tag look) = entered tag (looks look)

  serves : {node : ℕ} {hash : ServiceHash} {d : Description} {tag : Tag} {word : List Letter} {answer : Result Registered C} → IsServiceWord m node hash d tag word answer → IsServiceWord other node hash d tag word answer
  serves (not_locked e back) = not_locked e back
  serves (no_segment segment back) = no_segment segment back
  serves (not_published e segment back) = not_published e segment back
  serves (published n t segment) = published n t segment

  pub creates : {node : ℕ} {hash : ServiceHash} {stops : Bool} {d : Description} {word : List Letter} {answer : Result Registered C} → IsCreating m node hash stops d word answer → IsCreating other node hash stops d word answer
  creates (forbidden h) = forbidden h
  creates (not_entered h entry) = not_entered h (enters entry)
  creates (clock_fault h stops entry back) = clock_fault h stops (enters entry) back
  creates (made h goes_on entry service) = made h goes_on (enters entry) (serves service)
