-- The attributes that a call defines or requires, beside what its pattern asks.
use Rattle.std.specs.Prelude.{ℕ, List, ◌++◌, map}
use Rattle.iceoryx2_attribute.specs.Attributes.{Pair, has_pair, has_key}
use Rattle.iceoryx2_attribute.specs.Requirements.{Requirements}
use Rattle.iceoryx2_rounds.specs.PatternRules.{PatternRules}
use Rattle.iceoryx2_rounds.specs.Verdict.{Clause}
use Rattle.iceoryx2_rounds.specs.declared.pattern.OpenRefusal.TheVariants.{IncompatibleAttributes}

abbrev pub pair_clause : {E : Type 0} → E → List Pair → Pair → Clause E
pair_clause error existing required = record { is_met = has_pair existing required; error = error }

abbrev pub key_clause : {E : Type 0} → E → List Pair → List ℕ → Clause E
key_clause error existing required = record { is_met = has_key existing required; error = error }

-- each required pair in order, then each required key in order
abbrev pub attribute_clauses : {E : Type 0} → E → Requirements → List Pair → List (Clause E)
attribute_clauses error required existing =
    map (pair_clause error existing) required.pairs ++ map (key_clause error existing) required.keys

-- a call whose create publishes these attributes
abbrev pub defining : {E C : Type 0} → List Pair → PatternRules E C → PatternRules E C
defining given m = record m { attributes = given }

-- a call whose open requires these first, before its pattern's own requirement
abbrev pub requiring : {E C : Type 0} → Requirements → PatternRules E C → PatternRules E C
requiring required m = record m {
  requirement = λ d.
      attribute_clauses (m.open_refusal IncompatibleAttributes) required d.attributes ++ m.requirement d;
}
