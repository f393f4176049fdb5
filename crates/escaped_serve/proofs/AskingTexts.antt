-- A text to which words are appended, each behind a blank.
use Rattle.std.proofs.Common.{◌≡◌, ℕ, ◌+◌, ◌<◌, ◌≤◌, List, [], ◌∷◌, ◌++◌, codes, decimal, get_or, length, take, append_assoc, sym, ap, ◌∙◌}
use Rattle.std.specs.Prelude.{Result, Ok, Err, OnOk}
use Rattle.std.proofs.lemmas.List.{append-nil, map-append, take_all, take_more}
use Rattle.std.proofs.lemmas.Grind.{flat_map-append}
use Rattle.iceoryx2_attribute.specs.Attributes.{Pair}
use Rattle.iceoryx2_description.specs.Description.{Description}
use Rattle.iceoryx2_description.specs.declared.description.MessagingPattern.{MessagingPattern}
use Rattle.negotiate_lines.specs.Leaves.{leaf_of}
use Rattle.escaped_serve.specs.Asking.{asking, behind, other_words, pair_word, pair_words, pattern_word, setting_words}

-- what comes of what a success ensures
pub then : {A E P Q : Type 0} (r : Result A E) → OnOk r P → (P → Q) → OnOk r Q
then (Ok a) p next = next p
then (Err e) p next = tt

-- a text that grows by words, one after the other
pub data Grows : (old new : List ℕ) → List (List ℕ) → Type 0 where
  last : {old new word : List ℕ} → new ≡ old ++ (32 ∷ word) → Grows old new (word ∷ [])
  first : {old mid new word : List ℕ} {words : List (List ℕ)} → mid ≡ old ++ (32 ∷ word) → Grows mid new words
      → Grows old new (word ∷ words)
  two : {old mid new one other : List ℕ} {words : List (List ℕ)} → mid ≡ old ++ behind (one ∷ other ∷ []) → Grows mid new words
      → Grows old new (one ∷ other ∷ words)
  last_two : {old new one other : List ℕ} → new ≡ old ++ behind (one ∷ other ∷ []) → Grows old new (one ∷ other ∷ [])

before : (old mid new word : List ℕ) (words : List (List ℕ)) → mid ≡ old ++ (32 ∷ word) → new ≡ mid ++ behind words
    → new ≡ old ++ behind (word ∷ words)
unfolding behind
before old mid new word words e f = f ∙ ap (λ t. t ++ behind words) e ∙ append_assoc old (32 ∷ word) (behind words)

alone : (old new word : List ℕ) → new ≡ old ++ (32 ∷ word) → new ≡ old ++ behind (word ∷ [])
unfolding behind
alone old new word e = e ∙ ap (λ (t : List ℕ). old ++ t) (sym (append-nil (32 ∷ word)))

behind-append : (words others : List (List ℕ)) → behind (words ++ others) ≡ behind words ++ behind others
unfolding behind
behind-append words others = flat_map-append (λ (word : List ℕ). 32 ∷ word) words others

pub more : (old mid new : List ℕ) (words others : List (List ℕ)) → mid ≡ old ++ behind words → new ≡ mid ++ behind others
    → new ≡ old ++ behind (words ++ others)
more old mid new words others e f =
    f ∙ ap (λ t. t ++ behind others) e ∙ append_assoc old (behind words) (behind others)
    ∙ ap (λ t. old ++ t) (sym (behind-append words others))

pub grown : {old new : List ℕ} {words : List (List ℕ)} → Grows old new words → new ≡ old ++ behind words
grown (last {old} {new} {word} e) = alone old new word e
grown (first {old} {mid} {new} {word} {words} e rest) = before old mid new word words e (grown rest)
grown (two {old} {mid} {new} {one} {other} {words} e rest) = more old mid new (one ∷ other ∷ []) words e (grown rest)
grown (last_two e) = e

-- ---- pairs

pub one_more_pair : (pairs : List Pair) (i : ℕ) (x : Pair) (old mid new : List ℕ) → i < length pairs → x ≡ get_or pairs i x
    → mid ≡ old ++ behind (pair_words (take i pairs)) → new ≡ mid ++ (32 ∷ pair_word x)
    → new ≡ old ++ behind (pair_words (take (i + 1) pairs))
one_more_pair pairs i x old mid new within is e f =
    let taken = take_more pairs i x within ∙ ap (λ y. take i pairs ++ y ∷ []) (sym is) in
    let words = ap pair_words taken ∙ map-append pair_word (take i pairs) (x ∷ []) in
    more old mid new (pair_words (take i pairs)) (pair_word x ∷ []) e (alone mid new (pair_word x) f)
    ∙ ap (λ (ws : List (List ℕ)). old ++ behind ws) (sym words)

-- ---- the whole line

pub whole : (start begun placed named set new : List ℕ) (node slot : ℕ) (d : Description) (p q : MessagingPattern) (name : List ℕ)
    (pairs : List Pair) → p ≡ d.pattern → name ≡ d.name → q ≡ d.pattern → pairs ≡ d.attributes
    → begun ≡ start ++ pattern_word p → placed ≡ begun ++ behind (codes "create" ∷ decimal node ∷ decimal slot ∷ [])
    → named ≡ placed ++ (32 ∷ leaf_of name) → set ≡ named ++ behind (setting_words q) → new ≡ set ++ behind (pair_words pairs)
    → new ≡ start ++ asking node slot d
whole start begun placed named set new node slot d p q name pairs p_is name_is q_is pairs_are e1 e2 e3 e4 e5 =
    let settings = e4 ∙ ap (λ (m : MessagingPattern). named ++ behind (setting_words m)) q_is in
    let attributes = e5 ∙ ap (λ (ps : List Pair). set ++ behind (pair_words ps)) pairs_are in
    let others = setting_words d.pattern ++ pair_words d.attributes in
    let behind_name = more named set new (setting_words d.pattern) (pair_words d.attributes) settings attributes in
    let from_name = before placed named new (leaf_of d.name) others (e3 ∙ ap (λ (n : List ℕ). placed ++ (32 ∷ leaf_of n)) name_is) behind_name in
    let from_how = more begun placed new (codes "create" ∷ decimal node ∷ decimal slot ∷ []) (leaf_of d.name ∷ others) e2 from_name in
    from_how ∙ ap (λ (t : List ℕ). t ++ behind (other_words node slot d)) (e1 ∙ ap (λ (m : MessagingPattern). start ++ pattern_word m) p_is)
    ∙ append_assoc start (pattern_word d.pattern) (behind (other_words node slot d))

pub no_pairs : (text : List ℕ) → text ≡ text ++ behind []
unfolding behind
no_pairs text = sym (append-nil text)

pub all_pairs : (pairs : List Pair) (i : ℕ) (old new : List ℕ) → length pairs ≤ i → new ≡ old ++ behind (pair_words (take i pairs))
    → new ≡ old ++ behind (pair_words pairs)
all_pairs pairs i old new past e = e ∙ ap (λ (ps : List Pair). old ++ behind (pair_words ps)) (take_all i pairs past)
