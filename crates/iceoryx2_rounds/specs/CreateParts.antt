-- What the contracts of the parts of create cite.
use Rattle.std.specs.Prelude.{◌≡◌, Bool, false, List, [], ◌∷◌, ◌++◌, Result, Err, Option, Some, None, ℕ, IfOk}
use Rattle.iceoryx2_description.specs.declared.description.ServiceHash.{ServiceHash}
use Rattle.iceoryx2_description.specs.Description.{Description}
use Rattle.iceoryx2_access.specs.Letter.{Letter, Counts}
use Rattle.iceoryx2_access.specs.Registered.{Registered}
use Rattle.iceoryx2_rounds.specs.declared.look.Outcome.TheVariants.{Nothing}
use Rattle.iceoryx2_rounds.specs.PatternRules.{PatternRules}
use Rattle.iceoryx2_rounds.specs.Looks.{IsLookWord}
use Rattle.iceoryx2_rounds.specs.Creates.{IsCreating, IsEntryWord}

module _ {E C : Type 0} (m : PatternRules E C) (node : ℕ) (hash : ServiceHash) where
  -- A look finds nothing, and the node isn't counted,
  pub data IsFree : List Letter → Type 0 where
    free : {u : List Letter} → IsLookWord m node hash u Nothing → IsFree (u ++ Counts node hash false ∷ [])

  -- or what is in the way instead;
  abbrev pub IsPrecheck : List Letter → Option C → Type 0
  IsPrecheck word None = IsFree word
  IsPrecheck word (Some error) = IsEntryWord m node hash word (Err error)

  -- the same after the settings, which may forbid a create;
  abbrev pub IsStart : List Letter → Option C → Type 0
  IsStart word None = (m.settings_refusal ≡ None) × IsFree word
  IsStart word (Some error) =
      (stopped : Bool) (d : Description) → IsCreating m node hash stopped d word (Err error)

  -- what makes a create behind them that publishes this description,
  abbrev pub IsRestOfCreate : Bool → Description → List Letter → Result Registered C → Type 0
  IsRestOfCreate stopped d word answer =
      (u : List Letter) → IsStart u None → IsCreating m node hash stopped d (u ++ word) answer

  -- and one for whose description there may have been no memory.
  abbrev pub IsRestIfDescribed : {F : Type 0} → Bool → Result Description F → List Letter → Result Registered C → Type 0
  IsRestIfDescribed stopped described word answer =
      (d : Description) → IfOk described (λ made. made ≡ d) → IsRestOfCreate stopped d word answer
