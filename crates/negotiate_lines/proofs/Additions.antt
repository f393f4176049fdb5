-- What becomes of a pair and of a key, by their leaves.
use Rattle.std.proofs.Common.{◌≡◌, ℕ, List, Ok, Err, inl, inr, refl, sym, ap, subst, ◌∙◌}
use Rattle.std.specs.Prelude.{Result}
use Rattle.std.specs.Borrow.{Bor}
use Rattle.std.specs.Result.{IsErrAnd}
use Rattle.iceoryx2_attribute.specs.Additions.{AddsKey, AddsPair, Answer, HasKeyLength, HasValueLength}
use Rattle.iceoryx2_attribute.specs.Attributes.{Pair, pair_of}
use Rattle.iceoryx2_attribute.specs.Requirements.{Requirements}
use Rattle.iceoryx2_attribute.specs.declared.attribute.AttributeError.TheVariants as attribute_error
use Rattle.negotiate_lines.specs.declared.leaf.Form.{Form}
use Rattle.negotiate_lines.specs.declared.line_error.LineFailure.{LineFailure}
use Rattle.negotiate_lines.specs.declared.line_error.LineFailure.TheVariants as failure
use Rattle.negotiate_lines.specs.declared.line_error.LineError.{LineError}
use Rattle.negotiate_lines.specs.declared.line_error.LineError.TheVariants as wrong
use Rattle.negotiate_lines.specs.Leaves.{IsLeaf}
use Rattle.negotiate_lines.specs.CallTerms.{Arguments, Follows, LeafText, PairTexts, attribute, in_place, required_key}
use Rattle.negotiate_lines.specs.Wrongs.{IsBroken, IsKeyAnswer, IsPairAnswer, Judges, WrongStep}
use Rattle.negotiate_lines.proofs.OneLeaf.{one_leaf}

-- where a leaf is broken what it is a part of is wrong
pub broken : {B : Type 0} (form : Form) (leaf : List ℕ) (Q : B → Type 0) (W : LineError → Type 0) (e : LineFailure) (r : Result B LineFailure)
    → IsErrAnd r (λ f. f ≡ e) → Judges (IsLeaf form leaf) (IsBroken leaf) (Err e)
    → ((LeafText form leaf → ⊥) → (b : B) → Q b → ⊥)
    → ((LeafText form leaf → ⊥) → (t : Bor (List ℕ)) → t.now ≡ leaf → W (wrong.BrokenLeaf t)) → Judges Q W r
broken form leaf Q W e (Ok b) is judged none also = absurd is
broken {B = B} form leaf Q W (failure.Wrong w) (Err f) is judged none also =
    let no_text : LeafText form leaf → ⊥ = λ text. judged.0 text.0 text.1 in
    subst (λ (x : LineFailure). Judges {A = B} Q W (Err x)) (sym is)
    (none no_text, subst W (sym judged.1.2) (also no_text judged.1.0 judged.1.1))
broken {B = B} form leaf Q W failure.OutOfMemory (Err f) is judged none also = subst (λ (x : LineFailure). Judges {A = B} Q W (Err x)) (sym is) tt

-- the same where what it is a part of stays in its place
pub broken_in_place : {B : Type 0} (form : Form) (leaf : List ℕ) (Q : B → Type 0) (W : LineError → Type 0) (e : LineFailure) (b : B)
    (told : Result (Unit {0}) LineFailure) → IsErrAnd told (λ f. f ≡ e) → Judges (IsLeaf form leaf) (IsBroken leaf) (Err e)
    → ((LeafText form leaf → ⊥) → (b : B) → Q b → ⊥)
    → ((LeafText form leaf → ⊥) → (t : Bor (List ℕ)) → t.now ≡ leaf → W (wrong.BrokenLeaf t)) → Judges Q W (in_place told b)
broken_in_place form leaf Q W e b (Ok done) is judged none also = absurd is
broken_in_place form leaf Q W e b (Err f) is judged none also = broken form leaf Q W e (Err f) is judged none also

module _ {S : Type 0} (form : Form) (old : Arguments S) (key value : List ℕ) (p : PairTexts form key value) where
  -- the other leaves are of the same pair
  abbrev same : (q : PairTexts form key value) → pair_of q.key_text q.value_text ≡ pair_of p.key_text p.value_text
  same q =
      ap (λ (k : List ℕ). pair_of k q.value_text) (one_leaf form key q.key_text p.key_text q.key_is p.key_is)
      ∙ ap (λ (v : List ℕ). pair_of p.key_text v) (one_leaf form value q.value_text p.value_text q.value_is p.value_is)

  abbrev taken : (new : Arguments S) → Follows form old (attribute key value) new
      → AddsPair old.requirements.pairs (pair_of p.key_text p.value_text) (Ok tt) new.requirements.pairs
  taken new follows =
      subst (λ (pair : Pair). AddsPair old.requirements.pairs pair (Ok tt) new.requirements.pairs) (same follows.0.0) follows.0.1

  abbrev with_pairs : List Pair → Arguments S
  with_pairs pairs = record {
    settings = old.settings;
    requirements = record { pairs = pairs; keys = old.requirements.keys };
    now = old.now;
  }

  abbrev PairJudged : Result (Unit {0}) LineFailure → List Pair → Type 0
  PairJudged told pairs =
      Judges (Follows form old (attribute key value)) (WrongStep form old (attribute key value)) (in_place told (with_pairs pairs))

  pub pair_judged : (answer : Answer) (pairs : List Pair) (told : Result (Unit {0}) LineFailure)
      → AddsPair old.requirements.pairs (pair_of p.key_text p.value_text) answer pairs → IsPairAnswer answer key value told
      → PairJudged told pairs
  pair_judged (Ok added) pairs told adds is = subst (λ t. PairJudged t pairs) (sym is) ((p, adds), refl)
  pair_judged (Err attribute_error.OutOfMemory) pairs told adds is = subst (λ t. PairJudged t pairs) (sym is) tt
  pair_judged (Err attribute_error.KeyLength) pairs told adds (t, same_key, is) =
      subst (λ t. PairJudged t pairs) (sym is) (
        λ new follows. let never = (taken new follows).key_length.1 (adds.key_length.0 refl) in absurd cc,
        (same_key, (p, adds.key_length.0 refl)),
      )
  pair_judged (Err attribute_error.ValueLength) pairs told adds (t, same_value, is) =
      subst (λ t. PairJudged t pairs) (sym is) (
        λ new follows. let never = (taken new follows).value_length.1 (adds.value_length.0 refl) in absurd cc,
        (same_value, (p, (adds.value_length.0 refl).0, (adds.value_length.0 refl).1)),
      )
  pair_judged (Err attribute_error.TooMany) pairs told adds (u, same_value, (t, same_key, is)) =
      let many = adds.too_many.0 refl in
      subst (λ t. PairJudged t pairs) (sym is) (
        λ new follows. let never = (taken new follows).too_many.1 many in absurd cc,
        (same_key, same_value, (p, many.2, many.3)),
      )

  -- the same where it is known that the keys stay
  pub pair_judged_with : (answer : Answer) (requirements : Requirements) (told : Result (Unit {0}) LineFailure)
      → AddsPair old.requirements.pairs (pair_of p.key_text p.value_text) answer requirements.pairs
      → requirements.keys ≡ old.requirements.keys → IsPairAnswer answer key value told
      → Judges (Follows form old (attribute key value)) (WrongStep form old (attribute key value))
      (in_place told (record { settings = old.settings; requirements = requirements; now = old.now }))
  pair_judged_with answer requirements told adds keys is =
      subst (λ (ks : List (List ℕ)). Judges (Follows form old (attribute key value)) (WrongStep form old (attribute key value))
      (in_place told (record { settings = old.settings; requirements = record { pairs = requirements.pairs; keys = ks }; now = old.now })))
      (sym keys) (pair_judged answer requirements.pairs told adds is)

module _ {S : Type 0} (form : Form) (old : Arguments S) (key : List ℕ) (text : LeafText form key) where
  abbrev key_taken : (new : Arguments S) → Follows form old (required_key key) new
      → AddsKey old.requirements.keys text.0 (Ok tt) new.requirements.keys
  key_taken new follows =
      subst (λ (k : List ℕ). AddsKey old.requirements.keys k (Ok tt) new.requirements.keys)
      (one_leaf form key follows.0.0.0 text.0 follows.0.0.1 text.1) follows.0.1

  abbrev with_keys : List (List ℕ) → Arguments S
  with_keys keys = record {
    settings = old.settings;
    requirements = record { pairs = old.requirements.pairs; keys = keys };
    now = old.now;
  }

  abbrev KeyJudged : Result (Unit {0}) LineFailure → List (List ℕ) → Type 0
  KeyJudged told keys =
      Judges (Follows form old (required_key key)) (WrongStep form old (required_key key)) (in_place told (with_keys keys))

  pub key_judged : (answer : Answer) (keys : List (List ℕ)) (told : Result (Unit {0}) LineFailure)
      → AddsKey old.requirements.keys text.0 answer keys → IsKeyAnswer answer key told → KeyJudged told keys
  key_judged (Ok added) keys told adds is = subst (λ t. KeyJudged t keys) (sym is) ((text, adds), refl)
  key_judged (Err attribute_error.OutOfMemory) keys told adds is = subst (λ t. KeyJudged t keys) (sym is) tt
  key_judged (Err attribute_error.KeyLength) keys told adds (t, same_key, is) =
      subst (λ t. KeyJudged t keys) (sym is) (
        λ new follows. let never = (key_taken new follows).key_length.1 (adds.key_length.0 refl) in absurd cc,
        (same_key, (text, adds.key_length.0 refl)),
      )
  key_judged (Err attribute_error.ValueLength) keys told adds is = absurd (adds.value_length refl)
  key_judged (Err attribute_error.TooMany) keys told adds (t, same_key, is) =
      let many = adds.too_many.0 refl in
      subst (λ t. KeyJudged t keys) (sym is) (
        λ new follows. let never = (key_taken new follows).too_many.1 many in absurd cc,
        (same_key, (text, many.1, many.2)),
      )

  -- the same where it is known that the pairs stay
  pub key_judged_with : (answer : Answer) (requirements : Requirements) (told : Result (Unit {0}) LineFailure)
      → AddsKey old.requirements.keys text.0 answer requirements.keys
      → requirements.pairs ≡ old.requirements.pairs → IsKeyAnswer answer key told
      → Judges (Follows form old (required_key key)) (WrongStep form old (required_key key))
      (in_place told (record { settings = old.settings; requirements = requirements; now = old.now }))
  key_judged_with answer requirements told adds pairs is =
      subst (λ (ps : List Pair). Judges (Follows form old (required_key key)) (WrongStep form old (required_key key))
      (in_place told (record { settings = old.settings; requirements = record { pairs = ps; keys = requirements.keys }; now = old.now })))
      (sym pairs) (key_judged answer requirements.keys told adds is)
