-- The words of open, with their answers.
use Rattle.std.specs.Prelude.{◌≡◌, ◌≤◌, ◌+◌, ℕ, suc, List, [], ◌∷◌, ◌++◌, Result, Ok, Err, Some, None}
use Rattle.iceoryx2_description.specs.declared.description.ServiceHash.{ServiceHash}
use Rattle.iceoryx2_description.specs.Description.{Description}
use Rattle.iceoryx2_access.specs.declared.storage.Tag.{Tag}
use Rattle.iceoryx2_access.specs.declared.storage.TagError.{TagError}
use Rattle.iceoryx2_access.specs.declared.storage.OpenSegmentError.{OpenSegmentError}
use Rattle.iceoryx2_access.specs.declared.storage.OpenSegmentError.TheVariants as segment
use Rattle.iceoryx2_access.specs.Letter.{Letter, MakeTag, OpenSegment}
use Rattle.iceoryx2_rounds.specs.declared.look.Fault.{Fault}
use Rattle.iceoryx2_rounds.specs.declared.look.Outcome.TheVariants.{Nothing, Found, Faulty}
use Rattle.iceoryx2_rounds.specs.declared.open.TheConstants.{OPEN_RETRIES}
use Rattle.iceoryx2_rounds.specs.declared.pattern.OpenRefusal.{OpenRefusal}
use Rattle.iceoryx2_rounds.specs.declared.pattern.OpenRefusal.TheVariants as refusal
use Rattle.iceoryx2_rounds.specs.PatternRules.{PatternRules}
use Rattle.iceoryx2_rounds.specs.Verdict.{verdict}
use Rattle.iceoryx2_access.specs.Registered.{Registered}
use Rattle.iceoryx2_rounds.specs.Looks.{IsLookWord}
use Rattle.iceoryx2_rounds.specs.GivesBack.{GivesBack, own_tag}
use Rattle.iceoryx2_rounds.specs.Refusals.{of_tag_opening, of_opening, open_error_of}

module _ {E C : Type 0} (m : PatternRules E C) (node : ℕ) (hash : ServiceHash) where
  -- A service is found that meets the requirement, and the node has its tag.
  pub data IsReady (n : ℕ) (d : Description) : Tag → List Letter → Type 0 where
    ready : {u : List Letter} (tag : Tag) → IsLookWord m node hash u (Found n d)
        → verdict (m.requirement d) ≡ Ok tt
        → IsReady n d tag (u ++ MakeTag node hash (Ok tag) ∷ [])

  -- The opening fails, and a second look still finds a service.
  pub data IsFailedRound : List Letter → Type 0 where
    failed : {u v w : List Letter} {n k : ℕ} {d e : Description} {tag : Tag}
        → IsReady n d tag u → IsLookWord m node hash v (Found k e) → GivesBack node hash (own_tag tag) w
        → IsFailedRound (u ++ OpenSegment node hash n (Err segment.Failed) ∷ (v ++ w))

  -- The round that gives the answer.
  pub data IsLastRound : List Letter → Result Registered E → Type 0 where
    look_faulty : {u : List Letter} {fault : Fault E} → IsLookWord m node hash u (Faulty fault)
        → IsLastRound u (Err (open_error_of m fault))
    look_none : {u : List Letter} → IsLookWord m node hash u Nothing
        → IsLastRound u (Err (m.open_refusal refusal.DoesNotExist))
    not_accepted : {u : List Letter} {n : ℕ} {d : Description} {error : E} → IsLookWord m node hash u (Found n d)
        → verdict (m.requirement d) ≡ Err error → IsLastRound u (Err error)
    no_tag : {u : List Letter} {n : ℕ} {d : Description} (e : TagError) → IsLookWord m node hash u (Found n d)
        → verdict (m.requirement d) ≡ Ok tt
        → IsLastRound (u ++ MakeTag node hash (Err e) ∷ []) (Err (m.open_refusal (of_tag_opening e)))
    not_opened : {u v : List Letter} {n : ℕ} {d : Description} {tag : Tag} (e : OpenSegmentError) {why : OpenRefusal}
        → of_opening e ≡ Some why → IsReady n d tag u → GivesBack node hash (own_tag tag) v
        → IsLastRound (u ++ OpenSegment node hash n (Err e) ∷ v) (Err (m.open_refusal why))
    then_faulty : {u v w : List Letter} {n : ℕ} {d : Description} {tag : Tag} {fault : Fault E}
        → IsReady n d tag u → IsLookWord m node hash v (Faulty fault) → GivesBack node hash (own_tag tag) w
        → IsLastRound (u ++ OpenSegment node hash n (Err segment.Failed) ∷ (v ++ w)) (Err (open_error_of m fault))
    then_none : {u v w : List Letter} {n : ℕ} {d : Description} {tag : Tag}
        → IsReady n d tag u → IsLookWord m node hash v Nothing → GivesBack node hash (own_tag tag) w
        → IsLastRound (u ++ OpenSegment node hash n (Err segment.Failed) ∷ (v ++ w))
        (Err (m.open_refusal refusal.DoesNotExist))
    opened : {u : List Letter} {n : ℕ} {d : Description} {tag : Tag} (t : ℕ) → IsReady n d tag u
        → IsLastRound (u ++ OpenSegment node hash n (Ok t) ∷ [])
        (Ok (record { node = node; number = n; ticket = t; description = d }))

  -- so many rounds that fail, one after the other
  pub data AreFailedRounds : ℕ → List Letter → Type 0 where
    no_round : AreFailedRounds 0 []
    one_more : {k : ℕ} {u v : List Letter} → AreFailedRounds k u → IsFailedRound v
        → AreFailedRounds (suc k) (u ++ v)

  -- At most as many failed rounds as are tried again and a last one, or one failed round more.
  pub data IsOpenWord : List Letter → Result Registered E → Type 0 where
    ended : {k : ℕ} {u v : List Letter} {answer : Result Registered E}
        → k ≤ OPEN_RETRIES → AreFailedRounds k u → IsLastRound v answer → IsOpenWord (u ++ v) answer
    all_failed : {u : List Letter} → AreFailedRounds (OPEN_RETRIES + 1) u
        → IsOpenWord u (Err (m.open_refusal refusal.ServiceInCorruptedState))

-- What a granted open carries: its node, and a description of its hash that fits and that its requirement accepts.
pub record CarriesAccepted {E C : Type 0} (m : PatternRules E C) (node : ℕ) (hash : ServiceHash) (r : Registered)
    : Type 0 where
  pub node_is : r.node ≡ node
  pub hash_is : r.description.hash ≡ hash
  pub fits : m.misfit r.description ≡ None
  pub accepted : verdict (m.requirement r.description) ≡ Ok tt
