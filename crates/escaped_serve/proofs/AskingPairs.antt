-- Pairs that ascend are each put behind the last.
use Rattle.std.proofs.Common.{◌≡◌, ◌<◌, true, false, List, [], ◌∷◌, ◌++◌, append_assoc, length, length-append, All, Ok, codes, refl, sym, ap, subst, ◌∙◌, arith}
use Rattle.std.specs.Prelude.{filter}
use Rattle.std.specs.Ordering.{is_eq, is_lt, ordering_reverse}
use Rattle.std.specs.declared.cmp.Ordering.{Ordering}
use Rattle.std.specs.declared.cmp.Ordering.TheVariants.{Less, Equal, Greater}
use Rattle.std.proofs.lemmas.List.{append-nil}
use Rattle.std.proofs.lemmas.List.Elements.{All-cons, All-head, All-nil, All-tail}
use Rattle.std.proofs.lemmas.Str.{IsUtf8-from_is_utf8}
use Rattle.iceoryx2_access.specs.Run.{Each, done, next}
use Rattle.iceoryx2_attribute.specs.declared.attribute.TheConstants.{MAX_ATTRIBUTES}
use Rattle.iceoryx2_attribute.specs.Ascending.{ascends_by, with_item}
use Rattle.iceoryx2_attribute.specs.Attributes.{AreAttributes, IsPair, Pair, ascends, has_pair, pair_before, pair_cmp, same_pair, with_pair}
use Rattle.iceoryx2_attribute.specs.Additions.{AddsPair}
use Rattle.iceoryx2_attribute.proofs.Ascending.{both_true, ascends_front}
use Rattle.iceoryx2_attribute.proofs.Pairs.{pair_total, same_is}
use Rattle.negotiate_lines.specs.declared.leaf.Form.TheVariants as form
use Rattle.negotiate_lines.specs.declared.vocabulary.Admitted.{Admitted}
use Rattle.negotiate_lines.specs.Leaves.{leaf_of}
use Rattle.negotiate_lines.specs.Vocabulary.{Vocabulary}
use Rattle.negotiate_lines.specs.CallTerms.{Arguments, Follows, attribute, IsInstructionOf, TakesTerms}
use Rattle.escaped_serve.specs.Asking.{joined, pair_word, pair_words}
use Rattle.escaped_serve.proofs.AskingValues.{around, lacks, leaf_lacks_colon, tested}
use Rattle.negotiate_lines.proofs.LeavesBack.{back}

abbrev Before : Pair → Pair → Type 0
Before p q = pair_cmp p q ≡ Less

is_less : (r : Ordering) → is_lt r ≡ true → r ≡ Less
is_less Less h = refl
is_less Equal h = cc
is_less Greater h = cc

-- ---- each stands before all later ones

next_before : (x y : Pair) (rest : List Pair) → ascends (x ∷ y ∷ rest) ≡ true → Before x y × (ascends (y ∷ rest) ≡ true)
unfolding ascends_by pair_before
next_before x y rest h =
    let both = both_true _ _ h in (is_less (pair_cmp x y) both.0, both.1)

later : (x y : Pair) (front : List Pair) → ascends (x ∷ (front ++ y ∷ [])) ≡ true → Before x y
later x y [] h = (next_before x y [] h).0
later x y (z ∷ front) h =
    let first = next_before x z (front ++ y ∷ []) h in
    pair_total.trans x z y first.0 (later z y front first.1)

rest_ascends : (x : Pair) (rest : List Pair) → ascends (x ∷ rest) ≡ true → ascends rest ≡ true
unfolding ascends_by
rest_ascends x [] h = refl
rest_ascends x (y ∷ rest) h = (next_before x y rest h).1

all_before : (front : List Pair) (p : Pair) → ascends (front ++ p ∷ []) ≡ true → Each (λ q. Before q p) front
all_before [] p h = tt
all_before (q ∷ front) p h = (later q p front h, all_before front p (rest_ascends q (front ++ p ∷ []) h))

All-front : (P : Pair → Type 0) (front rest : List Pair) → All P (front ++ rest) → All P front
All-front P [] rest all = All-nil P
All-front P (q ∷ front) rest all =
    All-cons P q front (All-head P q (front ++ rest) all) (All-front P front rest (All-tail P q (front ++ rest) all))

All-at : (P : Pair → Type 0) (front : List Pair) (p : Pair) (rest : List Pair) → All P (front ++ p ∷ rest) → P p
All-at P [] p rest all = All-head P p rest all
All-at P (q ∷ front) p rest all = All-at P front p rest (All-tail P q (front ++ p ∷ rest) all)

-- ---- so it is put behind the last

none_behind : (front : List Pair) (p : Pair) → Each (λ q. Before q p) front → filter (λ q. pair_before p q) front ≡ []
unfolding pair_before
none_behind [] p each = refl
none_behind (q ∷ front) p each =
    rw (pair_total.antisymm p q ∙ ap ordering_reverse each.0) (none_behind front p each.1)

each_in_front : (front : List Pair) (p : Pair) → Each (λ q. Before q p) front → filter (λ q. pair_before q p) front ≡ front
unfolding pair_before
each_in_front [] p each = refl
each_in_front (q ∷ front) p each = rw each.0 (ap (λ (ps : List Pair). q ∷ ps) (each_in_front front p each.1))

put_last : (front : List Pair) (p : Pair) → Each (λ q. Before q p) front → with_pair front p ≡ front ++ p ∷ []
unfolding with_item
put_last front p each = rw (each_in_front front p each, none_behind front p each) refl

is_new : (front : List Pair) (p : Pair) → Each (λ q. Before q p) front → has_pair front p ≡ false
unfolding has_pair
is_new [] p each = refl
is_new (q ∷ front) p each =
    let other : same_pair q p ≡ false = same_is q p ∙ ap is_eq each.0 in
    rw other (is_new front p each.1)

pub adds_last : (front : List Pair) (p : Pair) → AreAttributes (front ++ p ∷ []) → IsPair p → AddsPair front p (Ok tt) (front ++ p ∷ [])
adds_last front p are is =
    let each = all_before front p are.ascending in
    let new = is_new front p each in
    let room : length front < MAX_ATTRIBUTES = omega (arith, are.few, length-append front (p ∷ [])) in
    record {
      added = sym (put_last front p each);
      there = λ found. let wrong : true ≡ false = sym found ∙ new in absurd cc;
      kept = tt;
      key_length = (λ e. cc, λ out. absurd (out (is.key.long, is.key.short)));
      value_length = (λ e. cc, λ out. absurd (out.1 is.value.short));
      too_many = (λ e. cc, λ out. absurd (omega (arith, room, out.3)));
    }

-- ---- the terms of pairs

abbrev pub requiring : {S : Type 0} → Arguments S → List Pair → Arguments S
requiring old pairs =
    record { settings = old.settings; requirements = record { pairs = pairs; keys = old.requirements.keys }; now = old.now }

module _ {S : Type 0} (v : Vocabulary S) (admitted : Admitted) where
  meant : (p : Pair) → IsInstructionOf form.Escaped v admitted (pair_word p) (attribute (leaf_of p.key) (leaf_of p.value))
  unfolding lacks
  meant p = record {
    name = codes "attribute";
    value = joined 58 (leaf_of p.key) (leaf_of p.value);
    around = around 61 (codes "attribute") (joined 58 (leaf_of p.key) (leaf_of p.value)) (tested 61 (codes "attribute") refl);
    value_is = record {
      key = leaf_of p.key;
      text = leaf_of p.value;
      around = around 58 (leaf_of p.key) (leaf_of p.value) (leaf_lacks_colon p.key);
      is = refl;
    };
  }

  followed : (old : Arguments S) (p : Pair) → IsPair p → AreAttributes (old.requirements.pairs ++ p ∷ [])
      → Follows form.Escaped old (attribute (leaf_of p.key) (leaf_of p.value)) (requiring old (old.requirements.pairs ++ p ∷ []))
  followed old p is are = (
    (
      record {
        key_text = p.key;
        value_text = p.value;
        key_is = back p.key (IsUtf8-from_is_utf8 p.key is.key.utf8);
        value_is = back p.value (IsUtf8-from_is_utf8 p.value is.value.utf8);
      },
      adds_last old.requirements.pairs p are is,
    ),
    refl,
  )

  front_of : (front : List Pair) (p : Pair) (rest : List Pair) → AreAttributes (front ++ p ∷ rest) → AreAttributes ((front ++ p ∷ []) ++ rest)
  front_of front p rest are = subst AreAttributes (sym (append_assoc front (p ∷ []) rest)) are

  shorter : (front rest : List Pair) → AreAttributes (front ++ rest) → AreAttributes front
  shorter front rest are = record {
    few = omega (arith, are.few, length-append front rest);
    each = All-front IsPair front rest are.each;
    ascending = ascends_front pair_before front rest are.ascending;
  }

  pub pairs_taken : (old : Arguments S) (pairs : List Pair) → AreAttributes (old.requirements.pairs ++ pairs)
      → TakesTerms form.Escaped v admitted old (pair_words pairs) (requiring old (old.requirements.pairs ++ pairs))
  pairs_taken old [] are =
      subst (λ (ps : List Pair). TakesTerms form.Escaped v admitted old [] (requiring old ps)) (sym (append-nil old.requirements.pairs)) done
  pairs_taken old (p ∷ pairs) are =
      let more = front_of old.requirements.pairs p pairs are in
      let here = shorter (old.requirements.pairs ++ p ∷ []) pairs more in
      let is = All-at IsPair old.requirements.pairs p pairs are.each in
      subst (λ (ps : List Pair). TakesTerms form.Escaped v admitted old (pair_words (p ∷ pairs)) (requiring old ps))
      (append_assoc old.requirements.pairs (p ∷ []) pairs)
      (next (attribute (leaf_of p.key) (leaf_of p.value), meant p, followed old p is here)
      (pairs_taken (requiring old (old.requirements.pairs ++ p ∷ [])) pairs more))
