-- What follows a look that finds nothing, and a count that doesn't know the node.
use Rattle.std.proofs.Common.{◌≡◌, ◌∷◌, ◌++◌, [], ℕ, Bool, true, false, List, Option, Some, None, Result, Ok, Err, refl, append_assoc}
use Rattle.std.proofs.lemmas.List.{append-nil}
use Rattle.iceoryx2_description.specs.declared.description.ServiceHash.{ServiceHash}
use Rattle.iceoryx2_description.specs.Description.{Description}
use Rattle.iceoryx2_access.specs.Registered.{Registered}
use Rattle.iceoryx2_access.specs.Letter.{Letter, Counts, MakeTag}
use Rattle.iceoryx2_access.specs.declared.storage.Tag.{Tag}
use Rattle.iceoryx2_access.specs.declared.storage.TagError.{TagError}
use Rattle.iceoryx2_rounds.specs.declared.pattern.CreateRefusal.TheVariants as refusal
use Rattle.iceoryx2_rounds.specs.PatternRules.{PatternRules}
use Rattle.iceoryx2_rounds.specs.GivesBack.{GivesBack, own_tag}
use Rattle.iceoryx2_rounds.specs.Refusals.{of_tag}
use Rattle.iceoryx2_rounds.specs.Creates.{IsEntryWord, no_copies, no_tag, entered, IsServiceWord, not_entered, clock_fault, made}
use Rattle.iceoryx2_rounds.specs.CreateParts.{IsPrecheck, IsStart, free, IsRestOfCreate}
use Rattle.iceoryx2_rounds.proofs.OpenSteps.{behind}

-- the entry with its tag, and what comes then
tagged : (node : ℕ) (hash : ServiceHash) (u : List Letter) (tag : Tag) (v : List Letter)
    → (u ++ Counts node hash false ∷ []) ++ MakeTag node hash (Ok tag) ∷ v ≡ (u ++ Counts node hash false ∷ MakeTag node hash (Ok tag) ∷ []) ++ v
tagged node hash u tag v =
    rw (behind u (Counts node hash false) (MakeTag node hash (Ok tag)) v, append_assoc u (Counts node hash false ∷ MakeTag node hash (Ok tag) ∷ []) v) refl

module _ {E C : Type 0} {m : PatternRules E C} {node : ℕ} {hash : ServiceHash} where
  module _ {stops : Bool} {d : Description} where
    pub not_copied : IsRestOfCreate m node hash stops d [] (Err (m.create_refusal refusal.OutOfMemory))
    not_copied w (h, free {u} look) = rw (append-nil (u ++ Counts node hash false ∷ [])) (not_entered h (no_copies look))

    pub untagged : (e : TagError) → IsRestOfCreate m node hash stops d (MakeTag node hash (Err e) ∷ []) (Err (m.create_refusal (of_tag e)))
    untagged e w (h, free {u} look) =
        rw (behind u (Counts node hash false) (MakeTag node hash (Err e)) []) (not_entered h (no_tag e look))

    pub stopped : (tag : Tag) {v : List Letter} → stops ≡ true → GivesBack node hash (own_tag tag) v
        → IsRestOfCreate m node hash stops d (MakeTag node hash (Ok tag) ∷ v) (Err (m.create_refusal refusal.InternalFailure))
    stopped tag {v} stops back w (h, free {u} look) = rw (tagged node hash u tag v) (clock_fault h stops (entered tag look) back)

    pub served : (tag : Tag) {v : List Letter} {answer : Result Registered C} → stops ≡ false → IsServiceWord m node hash d tag v answer
        → IsRestOfCreate m node hash stops d (MakeTag node hash (Ok tag) ∷ v) answer
    served tag {v} goes_on service w (h, free {u} look) = rw (tagged node hash u tag v) (made h goes_on (entered tag look) service)

-- the settings forbid nothing, so what the look and the count find decides
pub begins : {E C : Type 0} (m : PatternRules E C) (node : ℕ) (hash : ServiceHash) (u : List Letter) (why : Option C)
    → m.settings_refusal ≡ None → IsPrecheck m node hash u why → IsStart m node hash u why
begins m node hash u None h clear = (h, clear)
begins m node hash u (Some error) h entry = λ stops d. not_entered h entry
