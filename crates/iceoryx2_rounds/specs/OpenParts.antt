-- What the contracts of the parts of open cite.
use Rattle.std.specs.Prelude.{◌≡◌, ℕ, List, [], ◌∷◌, ◌++◌, Result, Ok, Err, Option, Some, None}
use Rattle.iceoryx2_description.specs.declared.description.ServiceHash.{ServiceHash}
use Rattle.iceoryx2_description.specs.Description.{Description}
use Rattle.iceoryx2_access.specs.declared.storage.Tag.{Tag}
use Rattle.iceoryx2_access.specs.declared.storage.TagError.{TagError}
use Rattle.iceoryx2_access.specs.declared.storage.OpenSegmentError.{OpenSegmentError}
use Rattle.iceoryx2_access.specs.declared.storage.OpenSegmentError.TheVariants as segment
use Rattle.iceoryx2_access.specs.Letter.{Letter, MakeTag, OpenSegment}
use Rattle.iceoryx2_access.specs.Registered.{Registered}
use Rattle.iceoryx2_rounds.specs.declared.look.Fault.{Fault}
use Rattle.iceoryx2_rounds.specs.declared.look.Outcome.TheVariants.{Nothing, Found, Faulty}
use Rattle.iceoryx2_rounds.specs.declared.pattern.OpenRefusal.{OpenRefusal}
use Rattle.iceoryx2_rounds.specs.declared.pattern.OpenRefusal.TheVariants as refusal
use Rattle.iceoryx2_rounds.specs.PatternRules.{PatternRules}
use Rattle.iceoryx2_rounds.specs.Looks.{IsLookWord}
use Rattle.iceoryx2_rounds.specs.GivesBack.{GivesBack, own_tag}
use Rattle.iceoryx2_rounds.specs.Refusals.{of_tag_opening, of_opening, open_error_of}
use Rattle.iceoryx2_rounds.specs.Opens.{IsFailedRound, IsLastRound}

module _ {E C : Type 0} (m : PatternRules E C) (node : ℕ) (hash : ServiceHash) where
  -- A second look with the tag given back, which ends the call with an error or asks for another round;
  pub data IsSecondLook (tag : Tag) : Option E → List Letter → Type 0 where
    second_faulty : {v w : List Letter} {fault : Fault E}
        → IsLookWord m node hash v (Faulty fault) → GivesBack node hash (own_tag tag) w
        → IsSecondLook tag (Some (open_error_of m fault)) (v ++ w)
    second_none : {v w : List Letter} → IsLookWord m node hash v Nothing → GivesBack node hash (own_tag tag) w
        → IsSecondLook tag (Some (m.open_refusal refusal.DoesNotExist)) (v ++ w)
    second_found : {v w : List Letter} {k : ℕ} {e : Description}
        → IsLookWord m node hash v (Found k e) → GivesBack node hash (own_tag tag) w
        → IsSecondLook tag None (v ++ w)

  -- the rest of a round whose service is accepted, with the number of its segment: a ticket, an error, or a wish for
  -- another round;
  pub data IsTaggedOpening (n : ℕ) : Option (Result ℕ E) → List Letter → Type 0 where
    untagged : (e : TagError)
        → IsTaggedOpening n (Some (Err (m.open_refusal (of_tag_opening e)))) (MakeTag node hash (Err e) ∷ [])
    got : (t : ℕ) (tag : Tag)
        → IsTaggedOpening n (Some (Ok t)) (MakeTag node hash (Ok tag) ∷ OpenSegment node hash n (Ok t) ∷ [])
    refused : {v : List Letter} {tag : Tag} (e : OpenSegmentError) {why : OpenRefusal}
        → of_opening e ≡ Some why → GivesBack node hash (own_tag tag) v
        → IsTaggedOpening n (Some (Err (m.open_refusal why)))
        (MakeTag node hash (Ok tag) ∷ OpenSegment node hash n (Err e) ∷ v)
    looked : {v : List Letter} {tag : Tag} {error : E} → IsSecondLook tag (Some error) v
        → IsTaggedOpening n (Some (Err error))
        (MakeTag node hash (Ok tag) ∷ OpenSegment node hash n (Err segment.Failed) ∷ v)
    again : {v : List Letter} {tag : Tag} → IsSecondLook tag None v
        → IsTaggedOpening n None (MakeTag node hash (Ok tag) ∷ OpenSegment node hash n (Err segment.Failed) ∷ v)

  -- one round, which may ask for another;
  abbrev pub IsRound : List Letter → Option (Result Registered E) → Type 0
  IsRound word None = IsFailedRound m node hash word
  IsRound word (Some answer) = IsLastRound m node hash word answer

  -- and what makes a round behind a look that finds this service.
  abbrev pub IsRestOfRound : ℕ → Description → List Letter → Option (Result Registered E) → Type 0
  IsRestOfRound n d word answer =
      (u : List Letter) → IsLookWord m node hash u (Found n d) → IsRound (u ++ word) answer

-- The same answer with what the node holds in place of its ticket.
abbrev pub round_registration : {E : Type 0} → ℕ → ℕ → Description → Option (Result ℕ E)
    → Option (Result Registered E)
round_registration node n d None = None
round_registration node n d (Some (Err error)) = Some (Err error)
round_registration node n d (Some (Ok t)) = Some (Ok (record { node = node; number = n; ticket = t; description = d }))
