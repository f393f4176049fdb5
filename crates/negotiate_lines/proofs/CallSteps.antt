-- Terms are taken one after the other, and each has one outcome at most.
use Rattle.std.proofs.Common.{◌≡◌, ℕ, ◌∷◌, List, [], sym, ap, subst, ◌∙◌}
use Rattle.iceoryx2_attribute.specs.Attributes.{Pair, pair_of, with_pair}
use Rattle.iceoryx2_attribute.specs.Requirements.{with_key}
use Rattle.iceoryx2_access.specs.Run.{done, next}
use Rattle.iceoryx2_access.proofs.Run.{Head, head}
use Rattle.negotiate_lines.specs.declared.leaf.Form.{Form}
use Rattle.negotiate_lines.specs.declared.vocabulary.Admitted.{Admitted}
use Rattle.negotiate_lines.specs.Vocabulary.{Vocabulary}
use Rattle.negotiate_lines.specs.CallTerms.{Instruction, setting, now, attribute, required_key, IsInstructionOf, Arguments, Follows, PairTexts, TakesTerm, TakesTerms}
use Rattle.negotiate_lines.proofs.OneInstruction.{one_instruction}
use Rattle.negotiate_lines.proofs.OneLeaf.{one_leaf}

required : {S : Type 0} → Arguments S → List Pair → List (List ℕ) → Arguments S
required old pairs keys = record { settings = old.settings; requirements = record { pairs = pairs; keys = keys }; now = old.now }

-- the leaves of a pair are of one pair
one_pair : (form : Form) {key value : List ℕ} (p q : PairTexts form key value) → pair_of p.key_text p.value_text ≡ pair_of q.key_text q.value_text
one_pair form {key} {value} p q =
    ap (λ (k : List ℕ). pair_of k p.value_text) (one_leaf form key p.key_text q.key_text p.key_is q.key_is)
    ∙ ap (λ (v : List ℕ). pair_of q.key_text v) (one_leaf form value p.value_text q.value_text p.value_is q.value_is)

-- an instruction has one outcome
one_outcome : {S : Type 0} (form : Form) (old : Arguments S) (instruction : Instruction S) (a b : Arguments S) → Follows form old instruction a → Follows form old instruction b → a ≡ b
unfolding required
one_outcome form old (setting s) a b left right = left ∙ sym right
one_outcome form old (now time) a b left right = left ∙ sym right
one_outcome form old (attribute key value) a b left right =
    let same = one_pair form left.0.0 right.0.0 in
    left.1 ∙ ap (λ ps. required old ps old.requirements.keys) (left.0.1.added ∙ ap (λ pair. with_pair old.requirements.pairs pair) same ∙ sym right.0.1.added) ∙ sym right.1
one_outcome form old (required_key key) a b left right =
    let same = one_leaf form key left.0.0.0 right.0.0.0 left.0.0.1 right.0.0.1 in
    left.1 ∙ ap (λ ks. required old old.requirements.pairs ks) (left.0.1.added ∙ ap (λ k. with_key old.requirements.keys k) same ∙ sym right.0.1.added) ∙ sym right.1

module _ {S : Type 0} (form : Form) (v : Vocabulary S) (admitted : Admitted) where
  one_step : (old : Arguments S) (term : List ℕ) (a b : Arguments S) → TakesTerm form v admitted old term a → TakesTerm form v admitted old term b → a ≡ b
  one_step old term a b (x, is_such, follows) (y, others, other) =
      one_outcome form old x a b follows (subst (λ (i : Instruction S). Follows form old i b) (one_instruction form v admitted term y x others is_such) other)

  -- one term more of them is taken, or can't be
  module _ (old : Arguments S) (terms rest : List (List ℕ)) (term : List ℕ) (are : terms ≡ term ∷ rest) where
    parted : (new : Arguments S) → TakesTerms form v admitted old terms new → Head (TakesTerm form v admitted) old term rest new
    parted new run = head (subst (λ (ws : List (List ℕ)). TakesTerms form v admitted old ws new) are run)

    pub step_before : (mid new : Arguments S) (instruction : Instruction S) → IsInstructionOf form v admitted term instruction → Follows form old instruction mid → TakesTerms form v admitted mid rest new → TakesTerms form v admitted old terms new
    step_before mid new instruction is_such follows run =
        subst (λ (ws : List (List ℕ)). TakesTerms form v admitted old ws new) (sym are) (next (instruction, is_such, follows) run)

    pub step_behind : (mid new : Arguments S) (instruction : Instruction S) → IsInstructionOf form v admitted term instruction → Follows form old instruction mid → TakesTerms form v admitted old terms new → TakesTerms form v admitted mid rest new
    step_behind mid new instruction is_such follows run =
        let first = parted new run in
        subst (λ (p : Arguments S). TakesTerms form v admitted p rest new) (one_step old term first.mid mid first.first (instruction, is_such, follows)) first.rest

    pub cannot_be_taken : ((mid : Arguments S) → TakesTerm form v admitted old term mid → ⊥) → (new : Arguments S) → TakesTerms form v admitted old terms new → ⊥
    cannot_be_taken none new run = let first = parted new run in none first.mid first.first

  pub all_taken : (old : Arguments S) (terms : List (List ℕ)) → terms ≡ [] → TakesTerms form v admitted old terms old
  all_taken old terms none = subst (λ (ws : List (List ℕ)). TakesTerms form v admitted old ws old) (sym none) done
