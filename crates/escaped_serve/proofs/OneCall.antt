-- Terms are one call at most.
use Rattle.std.proofs.Common.{◌≡◌, ℕ, List, [], ◌∷◌, refl, sym, ap, subst, ◌∙◌}
use Rattle.std.specs.Str.Parse.{digits_value}
use Rattle.iceoryx2_access.specs.Run.{Run, done}
use Rattle.iceoryx2_access.proofs.Run.{head}
use Rattle.iceoryx2_builder.specs.declared.command.Call.{Call}
use Rattle.iceoryx2_builder.specs.declared.command.How.{How}
use Rattle.negotiate_lines.specs.declared.leaf.Form.{Form}
use Rattle.negotiate_lines.specs.declared.vocabulary.Admitted.{Admitted}
use Rattle.negotiate_lines.specs.Leaves.{IsLeaf}
use Rattle.negotiate_lines.specs.Terms.{IsNumber}
use Rattle.negotiate_lines.specs.Vocabulary.{Vocabulary}
use Rattle.negotiate_lines.specs.CallTerms.{Arguments, TakesTerms, no_arguments}
use Rattle.negotiate_lines.specs.Commands.{IsNamedCallOf, admitted_of, as_named, how_term}
use Rattle.negotiate_lines.proofs.CallSteps.{step_behind}
use Rattle.negotiate_lines.proofs.Judging.{one_how, same_first, same_others}
use Rattle.negotiate_lines.proofs.OneLeaf.{one_leaf}

ended : {S L : Type 0} {step : S → L → S → Type 0} {a b : S} → Run step a [] b → a ≡ b
ended done = refl

one_run : {S : Type 0} (form : Form) (v : Vocabulary S) (admitted : Admitted) (old : Arguments S) (terms : List (List ℕ)) (a b : Arguments S)
    → TakesTerms form v admitted old terms a → TakesTerms form v admitted old terms b → a ≡ b
one_run form v admitted old [] a b left right = sym (ended left) ∙ ended right
one_run form v admitted old (term ∷ terms) a b left right =
    let first = head left in
    one_run form v admitted first.mid terms a b first.rest
    (step_behind form v admitted old (term ∷ terms) terms term refl first.mid b first.first.0 first.first.1 first.first.2 right)

one_value : (limit other : ℕ) (left right : List ℕ) (n m : ℕ) → left ≡ right → IsNumber limit left n → IsNumber other right m → n ≡ m
one_value limit other left right n m same is are = is.value ∙ ap (λ (w : List ℕ). digits_value 10 w) same ∙ sym are.value

-- the same in all that terms make of a call
pub record SameCall {S : Type 0} (a b : Call) (xs ys : List S) : Type 0 where
  pub how : a.how ≡ b.how
  pub node : a.node ≡ b.node
  pub slot : a.slot ≡ b.slot
  pub name : a.name ≡ b.name
  pub attributes : a.attributes ≡ b.attributes
  pub now : a.now ≡ b.now
  pub settings : xs ≡ ys

pub same_itself : {S : Type 0} (call : Call) (xs : List S) → SameCall call call xs xs
same_itself call xs =
    record { how = refl; node = refl; slot = refl; name = refl; attributes = refl; now = refl; settings = refl }

module _ {S : Type 0} (form : Form) (v : Vocabulary S) (terms : List (List ℕ)) (a b : Call) (xs ys : List S)
    (left : IsNamedCallOf form v terms (as_named a xs)) (right : IsNamedCallOf form v terms (as_named b ys)) where
  behind_pattern : how_term a.how ∷ left.node ∷ left.slot ∷ left.name ∷ left.others ≡ how_term b.how ∷ right.node ∷ right.slot ∷ right.name ∷ right.others
  behind_pattern = same_others (sym left.are ∙ right.are)

  behind_how : left.node ∷ left.slot ∷ left.name ∷ left.others ≡ right.node ∷ right.slot ∷ right.name ∷ right.others
  behind_how = same_others behind_pattern

  behind_node : left.slot ∷ left.name ∷ left.others ≡ right.slot ∷ right.name ∷ right.others
  behind_node = same_others behind_how

  behind_slot : left.name ∷ left.others ≡ right.name ∷ right.others
  behind_slot = same_others behind_node

  same_how : a.how ≡ b.how
  same_how = one_how a.how b.how (same_first behind_pattern)

  abbrev arguments_of : Call → List S → Arguments S
  arguments_of call settings = record { settings = settings; requirements = call.attributes; now = call.now }

  same_arguments : arguments_of a xs ≡ arguments_of b ys
  same_arguments =
      one_run form v (admitted_of v.has_clock b.how) no_arguments right.others (arguments_of a xs) (arguments_of b ys)
      (subst (λ (h : How). TakesTerms form v (admitted_of v.has_clock h) no_arguments right.others (arguments_of a xs)) same_how
      (subst (λ (ts : List (List ℕ)). TakesTerms form v (admitted_of v.has_clock a.how) no_arguments ts (arguments_of a xs)) (same_others behind_slot) left.taken))
      right.taken

  pub one_call : SameCall a b xs ys
  one_call = record {
    how = same_how;
    node = one_value _ _ left.node right.node a.node b.node (same_first behind_how) left.node_is right.node_is;
    slot = one_value _ _ left.slot right.slot a.slot b.slot (same_first behind_node) left.slot_is right.slot_is;
    name =
        one_leaf form right.name a.name b.name (subst (λ (t : List ℕ). IsLeaf form t a.name) (same_first behind_slot) left.text_is)
        right.text_is;
    attributes = ap (λ (x : Arguments S). x.requirements) same_arguments;
    now = ap (λ (x : Arguments S). x.now) same_arguments;
    settings = ap (λ (x : Arguments S). x.settings) same_arguments;
  }
