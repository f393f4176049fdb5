-- The words of a create's segment part, with what comes of it.
use Rattle.std.specs.Prelude.{◌≡◌, ◌<◌, ◌≤◌, ℕ, zero, suc, List, [], ◌∷◌, ◌++◌, Result, Ok, Err, Some}
use Rattle.iceoryx2_description.specs.declared.description.ServiceHash.{ServiceHash}
use Rattle.iceoryx2_access.specs.declared.storage.MakeSegmentError.{MakeSegmentError}
use Rattle.iceoryx2_access.specs.declared.storage.MakeSegmentError.TheVariants as make
use Rattle.iceoryx2_access.specs.declared.storage.RemoveError.{RemoveError}
use Rattle.iceoryx2_access.specs.Letter.{Letter, MakeSegment, RemoveSegment}
use Rattle.iceoryx2_rounds.specs.declared.create.TheConstants.{CLEARING_LIMIT}
use Rattle.iceoryx2_rounds.specs.declared.pattern.CreateRefusal.{CreateRefusal}
use Rattle.iceoryx2_rounds.specs.declared.pattern.CreateRefusal.TheVariants as create_refusal
use Rattle.iceoryx2_rounds.specs.Counts.{IsWithin, segment_limits}
use Rattle.iceoryx2_rounds.specs.Refusals.{of_make, of_remove}

module _ (node : ℕ) (hash : ServiceHash) (number max_nodes : ℕ) where
  -- a segment that was left is found
  abbrev pub finds : Letter
  finds = MakeSegment node hash number max_nodes (Err make.AlreadyExists)

  -- so many times a segment that was left is found and removed
  abbrev pub clearings : ℕ → List Letter
  clearings zero = []
  clearings (suc k) = clearings k ++ finds ∷ RemoveSegment node hash (Ok tt) ∷ []

  pub data IsSegmentWord : List Letter → Result (Unit {0}) CreateRefusal → Type 0 where
    made : (k : ℕ) → k ≤ CLEARING_LIMIT
        → IsSegmentWord (clearings k ++ MakeSegment node hash number max_nodes (Ok tt) ∷ []) (Ok tt)
    not_made : (k : ℕ) (e : MakeSegmentError) {why : CreateRefusal} → k ≤ CLEARING_LIMIT → of_make e ≡ Some why
        → IsSegmentWord (clearings k ++ MakeSegment node hash number max_nodes (Err e) ∷ []) (Err why)
    not_removed : (k : ℕ) (e : RemoveError) → k < CLEARING_LIMIT
        → IsSegmentWord (clearings k ++ finds ∷ RemoveSegment node hash (Err e) ∷ []) (Err (of_remove e))
    still_there : IsSegmentWord (clearings CLEARING_LIMIT ++ finds ∷ []) (Err create_refusal.ServiceInCorruptedState)

-- Each of them is short.
abbrev pub SegmentPartIsShort : Type 0
SegmentPartIsShort = (node : ℕ) (hash : ServiceHash) (number max_nodes : ℕ) (word : List Letter)
    (answer : Result (Unit {0}) CreateRefusal)
    → IsSegmentWord node hash number max_nodes word answer → IsWithin word segment_limits
