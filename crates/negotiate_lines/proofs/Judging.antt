-- Where a part is wrong, the whole is wrong.
use Rattle.std.proofs.Common.{◌≡◌, ◌<◌, ◌⊎◌, inl, inr, length, arith, ℕ, true, false, List, [], ◌∷◌, bytes_eq, codes, refl, sym, ap, subst, ◌∙◌}
use Rattle.std.specs.Prelude.{Result, Ok, Err}
use Rattle.std.specs.Result.{IsErrAnd}
use Rattle.iceoryx2_builder.specs.declared.command.How.{How}
use Rattle.iceoryx2_builder.specs.declared.command.How.TheVariants as how
use Rattle.iceoryx2_builder.specs.Commands.{slot_count}
use Rattle.iceoryx2_types.specs.Texts.{IsText}
use Rattle.iceoryx2_description.specs.Names.{IsName}
use Rattle.negotiate_lines.specs.declared.leaf.Form.{Form}
use Rattle.negotiate_lines.specs.declared.line_error.LineFailure.{LineFailure}
use Rattle.negotiate_lines.specs.declared.line_error.LineFailure.TheVariants as failure
use Rattle.negotiate_lines.specs.declared.line_error.LineError.{LineError}
use Rattle.negotiate_lines.specs.declared.line.NamedCall.{NamedCall}
use Rattle.negotiate_lines.specs.Leaves.{IsLeaf}
use Rattle.negotiate_lines.specs.Terms.{IsNumber}
use Rattle.negotiate_lines.specs.Values.{IsNatural}
use Rattle.negotiate_lines.specs.Vocabulary.{Vocabulary}
use Rattle.negotiate_lines.specs.CallTerms.{Arguments, LeafText, TakesTerms, no_arguments}
use Rattle.negotiate_lines.specs.Commands.{IsNamedCallOf, how_term, admitted_of}
use Rattle.negotiate_lines.specs.Wrongs.{Begins, Judges, JudgesFirst, NamesCall}
use Rattle.negotiate_lines.proofs.OneValue.{false-true}

-- ---- what is passed on

pub passed : {A B : Type 0} (P : A → Type 0) (Q : B → Type 0) (V W : LineError → Type 0) (e : LineFailure) (r : Result B LineFailure)
    → IsErrAnd r (λ f. f ≡ e) → Judges P V (Err e) → (((a : A) → P a → ⊥) → (b : B) → Q b → ⊥)
    → ((w : LineError) → V w → W w) → Judges Q W r
passed P Q V W e (Ok b) is judged none also = absurd is
passed {B = B} P Q V W (failure.Wrong w) (Err f) is judged none also =
    subst (λ (x : LineFailure). Judges {A = B} Q W (Err x)) (sym is) (none judged.0, also w judged.1)
passed {B = B} P Q V W failure.OutOfMemory (Err f) is judged none also = subst (λ (x : LineFailure). Judges {A = B} Q W (Err x)) (sym is) tt

pub passed_first : {A B : Type 0} (IsFirst : List ℕ → A → Type 0) (V : List (List ℕ) → LineError → Type 0) (terms : List (List ℕ)) (Q : B → Type 0) (W : LineError → Type 0)
    (e : LineFailure) (r : Result B LineFailure) → IsErrAnd r (λ f. f ≡ e) → JudgesFirst IsFirst V terms (Err e)
    → (((a : A) (rest : List (List ℕ)) → Begins IsFirst terms a rest → ⊥) → (b : B) → Q b → ⊥)
    → ((w : LineError) → V terms w → W w) → Judges Q W r
passed_first IsFirst V terms Q W e (Ok b) is judged none also = absurd is
passed_first {B = B} IsFirst V terms Q W (failure.Wrong w) (Err f) is judged none also =
    subst (λ (x : LineFailure). Judges {A = B} Q W (Err x)) (sym is) (none judged.0, also w judged.1)
passed_first {B = B} IsFirst V terms Q W failure.OutOfMemory (Err f) is judged none also = subst (λ (x : LineFailure). Judges {A = B} Q W (Err x)) (sym is) tt

-- ---- lists

first_of : {A : Type 0} → A → List A → A
first_of d [] = d
first_of d (x ∷ xs) = x

others_of : {A : Type 0} → List A → List A
others_of [] = []
others_of (x ∷ xs) = xs

pub same_first : {A : Type 0} {x y : A} {xs ys : List A} → x ∷ xs ≡ y ∷ ys → x ≡ y
unfolding first_of
same_first {x = x} e = ap (first_of x) e

pub same_others : {A : Type 0} {x y : A} {xs ys : List A} → x ∷ xs ≡ y ∷ ys → xs ≡ ys
unfolding others_of
same_others e = ap others_of e

pub not_empty : {A : Type 0} {x : A} {xs : List A} → [] ≡ x ∷ xs → ⊥
not_empty e = absurd cc

-- a text whose length is out of range is none of such a length
pub too_short_or_long : (least most : ℕ) (text : List ℕ) → (length text < least) ⊎ (most < length text) → IsText least most text → ⊥
too_short_or_long least most text (inl short) is = absurd (omega (arith, short, is.long))
too_short_or_long least most text (inr long) is = absurd (omega (arith, long, is.short))

-- ---- calls

pub differ : (a b : List ℕ) → bytes_eq a b ≡ false → bytes_eq b b ≡ true → a ≡ b → ⊥
differ a b other same e = false-true (sym other ∙ ap (λ (w : List ℕ). bytes_eq w b) e ∙ same)

-- no two calls have one name
pub one_how : (g h : How) → how_term g ≡ how_term h → g ≡ h
one_how how.Create how.Create e = refl
one_how how.Create how.Open e = absurd (differ (codes "create") (codes "open") refl refl e)
one_how how.Create how.OpenOrCreate e = absurd (differ (codes "create") (codes "open_or_create") refl refl e)
one_how how.Open how.Create e = absurd (differ (codes "open") (codes "create") refl refl e)
one_how how.Open how.Open e = refl
one_how how.Open how.OpenOrCreate e = absurd (differ (codes "open") (codes "open_or_create") refl refl e)
one_how how.OpenOrCreate how.Create e = absurd (differ (codes "open_or_create") (codes "create") refl refl e)
one_how how.OpenOrCreate how.Open e = absurd (differ (codes "open_or_create") (codes "open") refl refl e)
one_how how.OpenOrCreate how.OpenOrCreate e = refl

module _ {S : Type 0} (form : Form) (v : Vocabulary S) (terms : List (List ℕ)) where
  pub no_how : ((h : How) (rest : List (List ℕ)) → Begins NamesCall terms h rest → ⊥) → (call : NamedCall S) → IsNamedCallOf form v (v.pattern ∷ terms) call → ⊥
  no_how none call is_such = none call.how _ (how_term call.how, same_others is_such.are, refl)

  module _ (h : How) (after_how : List (List ℕ)) (starts : Begins NamesCall terms h after_how) where
    how_behind : (call : NamedCall S) (is_such : IsNamedCallOf form v (v.pattern ∷ terms) call) → after_how ≡ is_such.node ∷ is_such.slot ∷ is_such.name ∷ is_such.others
    how_behind call is_such = same_others (sym starts.1 ∙ same_others is_such.are)

    how_is : (call : NamedCall S) → IsNamedCallOf form v (v.pattern ∷ terms) call → call.how ≡ h
    how_is call is_such = one_how call.how h (sym (same_first (sym starts.1 ∙ same_others is_such.are)) ∙ starts.2)

    pub how_before : terms ≡ how_term h ∷ after_how
    how_before = starts.1 ∙ ap (λ (t : List ℕ). t ∷ after_how) starts.2

    pub no_node : ((n : ℕ) (rest : List (List ℕ)) → Begins IsNatural after_how n rest → ⊥) → (call : NamedCall S) → IsNamedCallOf form v (v.pattern ∷ terms) call → ⊥
    no_node none call is_such = none call.node _ (is_such.node, how_behind call is_such, is_such.node_is)

    module _ (n : ℕ) (after_node : List (List ℕ)) (node : Begins IsNatural after_how n after_node) where
      node_behind : (call : NamedCall S) (is_such : IsNamedCallOf form v (v.pattern ∷ terms) call) → after_node ≡ is_such.slot ∷ is_such.name ∷ is_such.others
      node_behind call is_such = same_others (sym node.1 ∙ how_behind call is_such)

      pub node_before : terms ≡ how_term h ∷ node.0 ∷ after_node
      node_before = how_before ∙ ap (λ (ts : List (List ℕ)). how_term h ∷ ts) node.1

      pub no_slot : ((k : ℕ) (rest : List (List ℕ)) → Begins (IsNumber slot_count) after_node k rest → ⊥) → (call : NamedCall S) → IsNamedCallOf form v (v.pattern ∷ terms) call → ⊥
      no_slot none call is_such = none call.slot _ (is_such.slot, node_behind call is_such, is_such.slot_is)

      module _ (k : ℕ) (after_slot : List (List ℕ)) (slot : Begins (IsNumber slot_count) after_node k after_slot) where
        slot_behind : (call : NamedCall S) (is_such : IsNamedCallOf form v (v.pattern ∷ terms) call) → after_slot ≡ is_such.name ∷ is_such.others
        slot_behind call is_such = same_others (sym slot.1 ∙ node_behind call is_such)

        pub slot_before : terms ≡ how_term h ∷ node.0 ∷ slot.0 ∷ after_slot
        slot_before = node_before ∙ ap (λ (ts : List (List ℕ)). how_term h ∷ node.0 ∷ ts) slot.1

        pub no_name : after_slot ≡ [] → (call : NamedCall S) → IsNamedCallOf form v (v.pattern ∷ terms) call → ⊥
        no_name none call is_such = not_empty (sym none ∙ slot_behind call is_such)

        pub terms_before : (name : List ℕ) (others : List (List ℕ)) → after_slot ≡ name ∷ others → terms ≡ how_term h ∷ node.0 ∷ slot.0 ∷ name ∷ others
        terms_before name others stands = slot_before ∙ ap (λ (ts : List (List ℕ)). how_term h ∷ node.0 ∷ slot.0 ∷ ts) stands

        module _ (name : List ℕ) (others : List (List ℕ)) (stands : after_slot ≡ name ∷ others) where
          pub no_such_name : (((text : LeafText form name) × IsName text.0) → ⊥) → (call : NamedCall S) → IsNamedCallOf form v (v.pattern ∷ terms) call → ⊥
          no_such_name none call is_such = none ((call.name, subst (λ (word : List ℕ). IsLeaf form word call.name) (sym (same_first (sym stands ∙ slot_behind call is_such))) is_such.text_is), is_such.name_is)

          pub no_terms : ((new : Arguments S) → TakesTerms form v (admitted_of v.has_clock h) no_arguments others new → ⊥) → (call : NamedCall S) → IsNamedCallOf form v (v.pattern ∷ terms) call → ⊥
          no_terms none call is_such =
              none call.arguments
              (subst (λ (g : How). TakesTerms form v (admitted_of v.has_clock g) no_arguments others call.arguments) (how_is call is_such)
              (subst (λ (ts : List (List ℕ)). TakesTerms form v (admitted_of v.has_clock call.how) no_arguments ts call.arguments) (sym (same_others (sym stands ∙ slot_behind call is_such))) is_such.taken))
