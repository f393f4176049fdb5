-- A term means one thing at most.
use Rattle.std.proofs.Common.{◌≡◌, ℕ, List, Option, Some, None, MatchOption, sym, ap, subst, ◌∙◌}
use Rattle.std.specs.Prelude.{Result, Ok, Err}
use Rattle.negotiate_lines.specs.declared.leaf.Form.{Form}
use Rattle.negotiate_lines.specs.declared.call_term.CallTerm.{CallTerm}
use Rattle.negotiate_lines.specs.declared.vocabulary.Admitted.{Admitted}
use Rattle.negotiate_lines.specs.declared.term.TermError.{TermError}
use Rattle.negotiate_lines.specs.declared.term.TermError.TheVariants as error
use Rattle.negotiate_lines.specs.Terms.{AreAround}
use Rattle.negotiate_lines.specs.Values.{IsNatural, IsNoneOr, IsSpanTerm, IsTruthTerm, IsAlignmentTerm, IsDetailTerm}
use Rattle.negotiate_lines.specs.Vocabulary.{Vocabulary, VocabularyRow, Takes, number, truth, event, time, alignment, type, Sets, row_of}
use Rattle.negotiate_lines.specs.Vocabulary.{CommonTerm, clock_term, pair_term, key_term, common_rows, IsSettingOf}
use Rattle.negotiate_lines.specs.CallTerms.{Instruction, setting, now, attribute, IsPairOf, IsCommonOf, IsValueOf, IsInstructionOf, IsRead}
use Rattle.negotiate_lines.proofs.Around.{one_cut}
use Rattle.negotiate_lines.proofs.OneValue.{one_clock, one_natural, one_natural_or_none, one_span_or_none, one_truth, one_given}
use Rattle.negotiate_lines.proofs.OneType.{one_alignment, one_detail}

module _ (form : Form) where
  one_setter : {S : Type 0} (takes : Takes S) (value : List ℕ) (s t : S) → Sets form takes value s → Sets form takes value t → s ≡ t
  one_setter (number setter) = one_given IsNatural one_natural setter
  one_setter (truth setter) = one_given IsTruthTerm one_truth setter
  one_setter (event setter) = one_given (IsNoneOr IsNatural) one_natural_or_none setter
  one_setter (time setter) = one_given (IsNoneOr IsSpanTerm) one_span_or_none setter
  one_setter (alignment setter) = one_given IsAlignmentTerm one_alignment setter
  one_setter (type setter) = one_given (IsDetailTerm form) (one_detail form) setter

  one_setting : {S : Type 0} (row : Option (Takes S)) (value : List ℕ) (s t : S)
      → MatchOption row ⊥ (λ takes. Sets form takes value s) → MatchOption row ⊥ (λ takes. Sets form takes value t) → s ≡ t
  one_setting None value s t left right = absurd left
  one_setting (Some takes) value s t left right = one_setter takes value s t left right

  abbrev pair_given : {S : Type 0} → List ℕ → List ℕ → Instruction S
  pair_given key text = attribute key text

  one_pair : {S : Type 0} (value : List ℕ) (a b : Instruction S) → IsPairOf value a → IsPairOf value b → a ≡ b
  one_pair {S = S} value a b left right =
      let both = one_cut 58 value left.key right.key left.text right.text left.around right.around in
      left.is ∙ ap (λ (k : List ℕ). pair_given {S = S} k left.text) both.front ∙ ap (λ (t : List ℕ). pair_given {S = S} right.key t) both.back ∙ sym right.is

  module _ {S : Type 0} (admitted : Admitted) where
    one_common : (common : CommonTerm) (value : List ℕ) (a b : Instruction S) → IsCommonOf admitted common value a → IsCommonOf admitted common value b → a ≡ b
    one_common clock_term value a b (_, (s, is_such, e)) (_, (t, others, f)) = e ∙ ap now (one_clock value s t is_such others) ∙ sym f
    one_common pair_term value a b left right = one_pair value a b left right
    one_common key_term value a b left right = left.1 ∙ sym right.1

    module _ (rows : List (VocabularyRow S)) (name value : List ℕ) where
      one_of_row : (row : Option CommonTerm) (a b : Instruction S)
          → MatchOption row ((s : S) × IsSettingOf form rows name value s × (a ≡ setting s)) (λ common. IsCommonOf admitted common value a)
          → MatchOption row ((s : S) × IsSettingOf form rows name value s × (b ≡ setting s)) (λ common. IsCommonOf admitted common value b)
          → a ≡ b
      one_of_row None a b (s, is_such, e) (t, others, f) = e ∙ ap setting (one_setting (row_of rows name) value s t is_such others) ∙ sym f
      one_of_row (Some common) a b left right = one_common common value a b left right

      one_behind : (a b : Instruction S) → IsValueOf form rows admitted name value a → IsValueOf form rows admitted name value b → a ≡ b
      one_behind a b left right = one_of_row (row_of common_rows name) a b left right

  module _ {S : Type 0} (v : Vocabulary S) (admitted : Admitted) (term front back : List ℕ) (cut : AreAround 61 term front back) where
    -- what a term means is what its value means behind its name
    behind : (instruction : Instruction S) → IsInstructionOf form v admitted term instruction → IsValueOf form v.rows admitted front back instruction
    behind instruction is =
        let both = one_cut 61 term is.name front is.value back is.around cut in
        subst (λ (n : List ℕ). IsValueOf form v.rows admitted n back instruction) both.front
        (subst (λ (w : List ℕ). IsValueOf form v.rows admitted is.name w instruction) both.back is.value_is)

    pub read_term : (r : Result (CallTerm S) TermError) → IsRead (IsValueOf form v.rows admitted front back) r → IsRead (IsInstructionOf form v admitted term) r
    read_term (Ok found) is_such = record { name = front; value = back; around = cut; value_is = is_such }
    read_term (Err error.Malformed) none = λ instruction is. none instruction (behind instruction is)
    read_term (Err error.OutOfMemory) none = tt

  pub one_instruction : {S : Type 0} (v : Vocabulary S) (admitted : Admitted) (term : List ℕ) (a b : Instruction S) → IsInstructionOf form v admitted term a → IsInstructionOf form v admitted term b → a ≡ b
  one_instruction v admitted term a b left right =
      one_behind admitted v.rows right.name right.value a b (behind v admitted term right.name right.value right.around a left) right.value_is

  -- what is around no such byte is no term
  pub no_term_around : {S : Type 0} (v : Vocabulary S) (admitted : Admitted) (term : List ℕ) → ((front back : List ℕ) → AreAround 61 term front back → ⊥) → (instruction : Instruction S) → IsInstructionOf form v admitted term instruction → ⊥
  no_term_around v admitted term none instruction is = none is.name is.value is.around
