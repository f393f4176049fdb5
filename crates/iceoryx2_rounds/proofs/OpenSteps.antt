use Rattle.std.proofs.Common.{◌≡◌, ◌∷◌, ◌++◌, [], ℕ, List, Ok, Err, Some, None, Option, Result, refl, append_assoc}
use Rattle.std.proofs.lemmas.List.{append-nil}
use Rattle.iceoryx2_description.specs.declared.description.ServiceHash.{ServiceHash}
use Rattle.iceoryx2_description.specs.Description.{Description}
use Rattle.iceoryx2_access.specs.declared.storage.Tag.{Tag}
use Rattle.iceoryx2_access.specs.declared.storage.OpenSegmentError.{OpenSegmentError}
use Rattle.iceoryx2_access.specs.declared.storage.OpenSegmentError.TheVariants as segment
use Rattle.iceoryx2_access.specs.Letter.{Letter, MakeTag, OpenSegment}
use Rattle.iceoryx2_rounds.specs.declared.pattern.OpenRefusal.TheVariants as refusal
use Rattle.iceoryx2_rounds.specs.PatternRules.{PatternRules}
use Rattle.iceoryx2_rounds.specs.Verdict.{verdict}
use Rattle.iceoryx2_rounds.specs.Refusals.{of_opening, open_error_of}
use Rattle.iceoryx2_rounds.specs.Opens.{IsReady, IsLastRound, IsFailedRound, ready, no_tag, not_accepted, not_opened, opened, then_faulty, then_none, failed}
use Rattle.iceoryx2_rounds.specs.OpenParts.{IsSecondLook, second_faulty, second_none, second_found}
use Rattle.iceoryx2_rounds.specs.OpenParts.{IsTaggedOpening, untagged, got, refused, looked, again, IsRestOfRound, round_registration}

-- only a failed opening is no refusal
pub only_failed : (e : OpenSegmentError) → of_opening e ≡ None → e ≡ segment.Failed
only_failed segment.DoesNotExist h = cc
only_failed segment.Marked h = cc
only_failed segment.Full h = cc
only_failed segment.Failed h = refl
only_failed segment.OutOfNumbers h = cc
only_failed segment.OutOfMemory h = cc

-- the second look ends the call
ends : {E C : Type 0} {m : PatternRules E C} {node : ℕ} {hash : ServiceHash} {n : ℕ} {d : Description} {tag : Tag} {u v : List Letter} {asked : Option E} {error : E}
    → asked ≡ Some error → IsReady m node hash n d tag u → IsSecondLook m node hash tag asked v → IsLastRound m node hash (u ++ OpenSegment node hash n (Err segment.Failed) ∷ v) (Err error)
ends {m} {error} h r (second_faulty {fault} look back) = let e : open_error_of m fault ≡ error = cc in rw (← e) (then_faulty r look back)
ends {m} {error} h r (second_none look back) = let e : m.open_refusal refusal.DoesNotExist ≡ error = cc in rw (← e) (then_none r look back)
ends h r (second_found look back) = cc

-- the second look asks for another round
goes_on : {E C : Type 0} {m : PatternRules E C} {node : ℕ} {hash : ServiceHash} {n : ℕ} {d : Description} {tag : Tag} {u v : List Letter} {asked : Option E}
    → asked ≡ None → IsReady m node hash n d tag u → IsSecondLook m node hash tag asked v → IsFailedRound m node hash (u ++ OpenSegment node hash n (Err segment.Failed) ∷ v)
goes_on h r (second_faulty look back) = cc
goes_on h r (second_none look back) = cc
goes_on h r (second_found look back) = failed r look back

-- ---- the rest of a round, behind a look whose service is accepted

-- a tag between two words belongs to either
pub behind : (u : List Letter) (tag letter : Letter) (v : List Letter) → (u ++ tag ∷ []) ++ letter ∷ v ≡ u ++ tag ∷ letter ∷ v
behind u tag letter v = append_assoc u (tag ∷ []) (letter ∷ v)

module _ {E C : Type 0} {m : PatternRules E C} {node : ℕ} {hash : ServiceHash} {n : ℕ} {d : Description} where
  pub round_of : {v : List Letter} {answer : Option (Result ℕ E)} → verdict (m.requirement d) ≡ Ok tt → IsTaggedOpening m node hash n answer v
      → IsRestOfRound m node hash n d v (round_registration node n d answer)
  round_of accepted (untagged e) u look = no_tag e look accepted
  round_of accepted (got t tag) u look =
      rw (← behind u (MakeTag node hash (Ok tag)) (OpenSegment node hash n (Ok t)) []) (opened t (ready tag look accepted))
  round_of accepted (refused {v} {tag} e is back) u look =
      rw (← behind u (MakeTag node hash (Ok tag)) (OpenSegment node hash n (Err e)) v) (not_opened e is (ready tag look accepted) back)
  round_of accepted (looked {v} {tag} more) u look =
      rw (← behind u (MakeTag node hash (Ok tag)) (OpenSegment node hash n (Err segment.Failed)) v) (ends refl (ready tag look accepted) more)
  round_of accepted (again {v} {tag} more) u look =
      rw (← behind u (MakeTag node hash (Ok tag)) (OpenSegment node hash n (Err segment.Failed)) v) (goes_on refl (ready tag look accepted) more)

  -- a service that isn't accepted
  pub not_met : {error : E} → verdict (m.requirement d) ≡ Err error → IsRestOfRound m node hash n d [] (Some (Err error))
  not_met h u look = rw (append-nil u) (not_accepted look h)
