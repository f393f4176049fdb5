-- The third term of a line.
use Rattle.std.proofs.Common.{◌≡◌, ◌≢◌, ◌⊎◌, inl, inr, ℕ, ◌+◌, ◌-◌, ◌==◌, Bool, true, false, List, [], ◌∷◌, ◌++◌, codes, cond, drop, eqb, length, take, append-nil, append_assoc, arith, refl, sym, ap, subst, ◌∙◌}
use Rattle.std.specs.Prelude.{not}
use Rattle.std.specs.List.{All, onto_first}
use Rattle.std.proofs.lemmas.Bool.Decides.{eqb_tells}
use Rattle.std.proofs.lemmas.List.{drop_at, length-append, take_at}
use Rattle.std.proofs.lemmas.List.Elements.{All-cons, All-head, All-nil, All-push, All-tail, All-weaker, filter-append}
use Rattle.std.proofs.lemmas.List.Splits.{slice_split_none}
use Rattle.negotiate_lines.specs.Terms.{terms_of}
use Rattle.negotiate_lines.proofs.TermsOf.{chosen, chosen_first, parts_of, unequal}
use Rattle.wulameron_serve.specs.Own.{EndsTerm, IsBehindSpaces, IsBehindWord, IsFromThird, IsOwnAt}

-- ---- loops

pub all_pushed : (P : ℕ → Type 0) (text front rest : List ℕ) (byte : ℕ) (behind : List ℕ) → text ≡ front ++ rest → All P front → rest ≡ byte ∷ behind → P byte
    → (more : List ℕ) × (text ≡ more ++ behind) × All P more
all_pushed P text front rest byte behind are all is passes =
    (front ++ byte ∷ [], are ∙ ap (λ (t : List ℕ). front ++ t) is ∙ sym (append_assoc front (byte ∷ []) behind), All-push P front byte all passes)

-- ---- terms

not_empty : (byte : ℕ) (word : List ℕ) → (length (byte ∷ word) == 0) ≡ false
not_empty byte word = unequal (length (byte ∷ word)) 0 (λ e. omega (arith, e))

record Some (parts : List (List ℕ)) : Type 0 where
  first : List ℕ
  others : List (List ℕ)
  are : parts ≡ first ∷ others

onto_some : (x : ℕ) (parts : List (List ℕ)) → Some (onto_first x parts)
onto_some x [] = record { first = x ∷ []; others = []; are = refl }
onto_some x (part ∷ parts) = record { first = x ∷ part; others = parts; are = refl }

some_parts_if : (b : Bool) (x : ℕ) (parts : List (List ℕ)) → Some (cond b ([] ∷ parts) (onto_first x parts))
some_parts_if true x parts = record { first = []; others = parts; are = refl }
some_parts_if false x parts = onto_some x parts

some_parts : (bs : List ℕ) → Some (parts_of bs)
some_parts [] = record { first = []; others = []; are = refl }
some_parts (b ∷ bs) = some_parts_if (eqb b 32) b (parts_of bs)

onto_both : (x : ℕ) (parts others : List (List ℕ)) → Some parts → onto_first x (parts ++ others) ≡ onto_first x parts ++ others
onto_both x [] others some = cc some.are
onto_both x (part ∷ parts) others some = refl

parts_if : (b : Bool) (x : ℕ) (parts others : List (List ℕ)) → Some parts → cond b ([] ∷ (parts ++ others)) (onto_first x (parts ++ others)) ≡ cond b ([] ∷ parts) (onto_first x parts) ++ others
parts_if true x parts others some = refl
parts_if false x parts others some = onto_both x parts others some

parts_around : (front behind : List ℕ) → parts_of (front ++ 32 ∷ behind) ≡ parts_of front ++ parts_of behind
parts_around [] behind = refl
parts_around (b ∷ front) behind =
    ap (λ (ps : List (List ℕ)). cond (eqb b 32) ([] ∷ ps) (onto_first b ps)) (parts_around front behind) ∙ parts_if (eqb b 32) b (parts_of front) (parts_of behind) (some_parts front)

-- around a space stand the terms before it and those behind it
pub terms_around : (front behind : List ℕ) → terms_of (front ++ 32 ∷ behind) ≡ terms_of front ++ terms_of behind
terms_around front behind = ap chosen (parts_around front behind) ∙ filter-append (λ term. not (length term == 0)) (parts_of front) (parts_of behind)

-- what has no space is a term
pub one_term : (byte : ℕ) (word : List ℕ) → All (λ b. b ≢ 32) (byte ∷ word) → terms_of (byte ∷ word) ≡ (byte ∷ word) ∷ []
one_term byte word all =
    ap chosen (slice_split_none (λ b. eqb b 32) (byte ∷ word) (All-weaker (λ b. b ≢ 32) (λ b. eqb b 32 ≡ false) (λ b other. unequal b 32 other) (byte ∷ word) all))
    ∙ chosen_first (byte ∷ word) [] (not_empty byte word)

-- spaces at the front are in no term
pub terms_behind_spaces : (spaces rest : List ℕ) → All (λ byte. byte ≡ 32) spaces → terms_of (spaces ++ rest) ≡ terms_of rest
terms_behind_spaces [] rest all = refl
terms_behind_spaces (byte ∷ spaces) rest all =
    ap (λ (b : ℕ). terms_of (b ∷ (spaces ++ rest))) (All-head (λ b. b ≡ 32) byte spaces all)
    ∙ terms_behind_spaces spaces rest (All-tail (λ b. b ≡ 32) byte spaces all)

-- a word at the front is the first term
pub terms_behind_word : (byte : ℕ) (word rest : List ℕ) → All (λ b. b ≢ 32) (byte ∷ word) → EndsTerm rest → terms_of ((byte ∷ word) ++ rest) ≡ (byte ∷ word) ∷ terms_of rest
terms_behind_word byte word rest all ends =
    elim ends [
      | inl none ↦ ap (λ (r : List ℕ). terms_of ((byte ∷ word) ++ r)) none ∙ ap terms_of (append-nil (byte ∷ word)) ∙ one_term byte word all ∙ ap (λ (r : List ℕ). (byte ∷ word) ∷ terms_of r) (sym none)
      | inr some ↦ ap (λ (r : List ℕ). terms_of ((byte ∷ word) ++ r)) some.1 ∙ terms_around (byte ∷ word) some.0 ∙ ap (λ (ts : List (List ℕ)). ts ++ terms_of some.0) (one_term byte word all)
          ∙ ap (λ (r : List ℕ). (byte ∷ word) ∷ terms_of r) (sym some.1)
    ]

-- ---- the third term

-- spaces end with a space
last_space : (byte : ℕ) (spaces : List ℕ) → All (λ b. b ≡ 32) (byte ∷ spaces) → (front : List ℕ) × (byte ∷ spaces ≡ front ++ 32 ∷ [])
last_space byte [] all = ([], ap (λ (b : ℕ). b ∷ []) (All-head (λ b. b ≡ 32) byte [] all))
last_space byte (next ∷ spaces) all =
    let more = last_space next spaces (All-tail (λ b. b ≡ 32) byte (next ∷ spaces) all) in
    (byte ∷ more.0, ap (λ (bs : List ℕ). byte ∷ bs) more.1)

-- What is behind the first term of a text.
record IsBehindFirst (text rest : List ℕ) : Type 0 where
  front : List ℕ
  are : text ≡ front ++ rest
  terms : terms_of rest ≡ drop 1 (terms_of text)
  ends : EndsTerm rest

no_space_first : (mid rest : List ℕ) → mid ≡ rest → ((others : List ℕ) → mid ≢ 32 ∷ others) → EndsTerm rest → mid ≡ []
no_space_first mid rest same first ends =
    elim ends [
      | inl none ↦ same ∙ none
      | inr some ↦ absurd (first some.0 (same ∙ some.1))
    ]

word_behind : (mid rest word : List ℕ) → mid ≡ word ++ rest → All (λ b. b ≢ 32) word → EndsTerm rest → ((others : List ℕ) → mid ≢ 32 ∷ others) → terms_of rest ≡ drop 1 (terms_of mid)
word_behind mid rest [] are all ends first =
    let none = no_space_first mid rest are first ends in
    ap terms_of (sym are ∙ none) ∙ ap (λ (t : List ℕ). drop 1 (terms_of t)) (sym none)
word_behind mid rest (byte ∷ word) are all ends first = sym (ap (λ (t : List ℕ). drop 1 (terms_of t)) are ∙ ap (λ (ts : List (List ℕ)). drop 1 ts) (terms_behind_word byte word rest all ends))

behind_first : (text mid rest : List ℕ) → IsBehindSpaces text mid → IsBehindWord mid rest → IsBehindFirst text rest
behind_first text mid rest spaces word = record {
  front = spaces.spaces ++ word.word;
  are = spaces.are ∙ ap (λ (t : List ℕ). spaces.spaces ++ t) word.are ∙ sym (append_assoc spaces.spaces word.word rest);
  terms =
      word_behind mid rest word.word word.are word.all word.ends spaces.first
      ∙ ap (λ (ts : List (List ℕ)). drop 1 ts) (sym (ap terms_of spaces.are ∙ terms_behind_spaces spaces.spaces mid spaces.all));
  ends = word.ends;
}

-- before a third term that is there a space stands
apart : (front mid rest spaces : List ℕ) → mid ≡ spaces ++ rest → All (λ b. b ≡ 32) spaces → EndsTerm mid → ((others : List ℕ) → rest ≢ 32 ∷ others)
    → (rest ≡ []) ⊎ ((before : List ℕ) × (front ++ spaces ≡ before ++ codes " "))
apart front mid rest [] are all ends first =
    elim ends [
      | inl none ↦ inl (sym are ∙ none)
      | inr some ↦ absurd (first some.0 (sym are ∙ some.1))
    ]
apart front mid rest (byte ∷ spaces) are all ends first =
    let more = last_space byte spaces all in
    inr (front ++ more.0, ap (λ (t : List ℕ). front ++ t) more.1 ∙ sym (append_assoc front more.0 (32 ∷ [])))

drop_twice : (ts : List (List ℕ)) → drop 1 (drop 1 ts) ≡ drop 2 ts
drop_twice [] = refl
drop_twice (t ∷ ts) = refl

pub from_third : (line a b c d rest : List ℕ) → IsBehindSpaces line a → IsBehindWord a b → IsBehindSpaces b c → IsBehindWord c d → IsBehindSpaces d rest → IsFromThird line rest
from_third line a b c d rest one two three four five =
    let first = behind_first line a b one two in
    let second = behind_first b c d three four in
    let front = first.front ++ second.front in
    record {
      before = front ++ five.spaces;
      are =
          first.are ∙ ap (λ (t : List ℕ). first.front ++ t) (second.are ∙ ap (λ (t : List ℕ). second.front ++ t) five.are)
          ∙ sym (append_assoc first.front second.front (five.spaces ++ rest)) ∙ sym (append_assoc front five.spaces rest);
      terms =
          sym (ap terms_of five.are ∙ terms_behind_spaces five.spaces rest five.all)
          ∙ second.terms ∙ ap (λ (ts : List (List ℕ)). drop 1 ts) first.terms ∙ drop_twice (terms_of line);
      first = five.first;
      apart = apart front d rest five.spaces five.are five.all second.ends five.first;
    }

-- ---- a dash

two_before : (m : ℕ) (ts us : List (List ℕ)) → length (ts ++ us) ≡ m → length us + 2 ≡ m → length ts ≡ 2
two_before m ts us long more = omega (arith, long, more, length-append ts us)

-- where a third term is there, there are more than two
three_terms : (ts us : List (List ℕ)) (u : List ℕ) → drop 2 ts ≡ u ∷ us → length (u ∷ us) + 2 ≡ length ts
three_terms [] us u e = cc e
three_terms (a ∷ []) us u e = cc e
three_terms (a ∷ (b ∷ ts)) us u e = omega (arith, ap (λ (xs : List (List ℕ)). length xs) e)

taken : (line before third : List ℕ) → line ≡ before ++ third → take (length line - length third) line ≡ before
taken line before third are =
    ap (λ (t : List ℕ). take (length line - length third) t) are
    ∙ take_at before third (length line - length third) (omega (arith, ap (λ (t : List ℕ). length t) are, length-append before third))

two_of : (ts : List (List ℕ)) → length ts ≡ 2 → (first second : List ℕ) × (ts ≡ first ∷ (second ∷ []))
two_of [] e = cc e
two_of (a ∷ []) e = cc e
two_of (a ∷ (b ∷ [])) e = (a, b, refl)
two_of (a ∷ (b ∷ (c ∷ ts))) e = absurd (omega (arith, e))

-- what a line has from its third term on, where that is `-`
dash : (third behind : List ℕ) → third ≡ 45 ∷ behind → EndsTerm behind → terms_of third ≡ (45 ∷ []) ∷ terms_of behind
dash third behind is ends = ap terms_of is ∙ terms_behind_word 45 [] behind (All-cons (λ b. b ≢ 32) 45 [] (λ e. cc e) (All-nil (λ b. b ≢ 32))) ends

two_in : (line third before front behind : List ℕ) → line ≡ before ++ third → terms_of third ≡ drop 2 (terms_of line) → before ≡ front ++ 32 ∷ [] → third ≡ 45 ∷ behind → EndsTerm behind
    → length (terms_of before) ≡ 2
two_in line third before front behind are terms ended is ends =
    let whole = ap terms_of (are ∙ ap (λ (t : List ℕ). t ++ third) ended ∙ append_assoc front (32 ∷ []) third) ∙ terms_around front third in
    let three = three_terms (terms_of line) (terms_of behind) (45 ∷ []) (sym terms ∙ dash third behind is ends) in
    let two = two_before (length (terms_of line)) (terms_of front) (terms_of third) (ap (λ (ts : List (List ℕ)). length ts) (sym whole))
    (ap (λ (ts : List (List ℕ)). length ts + 2) (dash third behind is ends) ∙ three) in
    ap (λ (t : List ℕ). length (terms_of t)) ended ∙ ap (λ (ts : List (List ℕ)). length ts) (terms_around front [] ∙ append-nil (terms_of front)) ∙ two

-- The third term is `-`.
pub own_there : (line third behind : List ℕ) → IsFromThird line third → third ≡ 45 ∷ behind → EndsTerm behind → IsOwnAt line (take (length line - length third) line) behind
own_there line third behind from is ends =
    elim from.apart [
      | inl none ↦ absurd (cc (sym is ∙ none))
      | inr some ↦
          subst (λ (t : List ℕ). IsOwnAt line t behind) (sym (taken line from.before third from.are)) (record {
            are = from.are ∙ ap (λ (t : List ℕ). from.before ++ t) is;
            two = two_in line third from.before some.0 behind from.are from.terms some.1 is ends;
            apart = some;
            ends = ends;
          })
    ]

-- a text is cut at its first space
cut_if : (byte : ℕ) (bytes rest : List ℕ) → IsBehindWord bytes rest → (eqb byte 32 ≡ true) × (byte ≡ 32) ⊎ ((eqb byte 32 ≡ false) × (byte ≢ 32)) → (left : List ℕ) × IsBehindWord (byte ∷ bytes) left
cut_if byte bytes rest is (inl same) = (byte ∷ bytes, record { word = []; are = refl; all = All-nil (λ b. b ≢ 32); ends = inr (bytes, ap (λ (b : ℕ). b ∷ bytes) same.1) })
cut_if byte bytes rest is (inr other) =
    (rest, record { word = byte ∷ is.word; are = ap (λ (t : List ℕ). byte ∷ t) is.are; all = All-cons (λ b. b ≢ 32) byte is.word other.1 is.all; ends = is.ends })

cut : (bytes : List ℕ) → (rest : List ℕ) × IsBehindWord bytes rest
cut [] = ([], record { word = []; are = refl; all = All-nil (λ b. b ≢ 32); ends = inl refl })
cut (byte ∷ bytes) =
    let more = cut bytes in
    cut_if byte bytes more.0 more.1 (eqb_tells byte 32)

head_term : List (List ℕ) → List ℕ
head_term [] = []
head_term (t ∷ ts) = t

same_first : (t u : List ℕ) (ts us : List (List ℕ)) → t ∷ ts ≡ u ∷ us → t ≡ u
unfolding head_term
same_first t u ts us e = ap head_term e

head_byte : List ℕ → ℕ
head_byte [] = 0
head_byte (b ∷ bs) = b

behind_byte : List ℕ → List ℕ
behind_byte [] = []
behind_byte (b ∷ bs) = bs

pub same_byte : (b c : ℕ) (bs cs : List ℕ) → b ∷ bs ≡ c ∷ cs → b ≡ c
unfolding head_byte
same_byte b c bs cs e = ap head_byte e

pub same_behind : (b c : ℕ) (bs cs : List ℕ) → b ∷ bs ≡ c ∷ cs → bs ≡ cs
unfolding behind_byte
same_behind b c bs cs e = ap behind_byte e

dash_by : (third rest word : List ℕ) (others : List (List ℕ)) → third ≡ word ++ rest → All (λ b. b ≢ 32) word → EndsTerm rest → ((more : List ℕ) → third ≢ 32 ∷ more)
    → terms_of third ≡ (45 ∷ []) ∷ others → (left : List ℕ) × (third ≡ 45 ∷ left) × EndsTerm left
dash_by third rest [] others are all ends first terms = absurd (cc (sym terms ∙ ap terms_of (no_space_first third rest are first ends)))
dash_by third rest (byte ∷ word) others are all ends first terms =
    let same = same_first (byte ∷ word) (45 ∷ []) (terms_of rest) others (sym (ap terms_of are ∙ terms_behind_word byte word rest all ends) ∙ terms) in
    (rest, are ∙ ap (λ (t : List ℕ). t ++ rest) same, ends)

-- Only where it is, something is behind it.
pub own_only_there : (line third before behind : List ℕ) → IsFromThird line third → IsOwnAt line before behind → (left : List ℕ) × (third ≡ 45 ∷ left) × EndsTerm left
own_only_there line third before behind from at =
    let front = at.apart.0 in
    let whole = ap terms_of (at.are ∙ ap (λ (t : List ℕ). t ++ 45 ∷ behind) at.apart.1 ∙ append_assoc front (32 ∷ []) (45 ∷ behind)) ∙ terms_around front (45 ∷ behind) in
    let two = ap (λ (ts : List (List ℕ)). length ts) (sym (ap terms_of at.apart.1 ∙ terms_around front [] ∙ append-nil (terms_of front))) ∙ at.two in
    let terms = from.terms ∙ ap (λ (ts : List (List ℕ)). drop 2 ts) whole ∙ drop_at (terms_of front) (terms_of (45 ∷ behind)) 2 two ∙ dash (45 ∷ behind) behind refl at.ends in
    let is = cut third in
    dash_by third is.0 is.1.word (terms_of behind) is.1.are is.1.all is.1.ends from.first terms

-- The terms of such a line.
pub own_terms : (line before behind : List ℕ) → IsOwnAt line before behind → (first second : List ℕ) × (terms_of line ≡ first ∷ (second ∷ ((45 ∷ []) ∷ terms_of behind)))
own_terms line before behind at =
    let front = at.apart.0 in
    let whole = ap terms_of (at.are ∙ ap (λ (t : List ℕ). t ++ 45 ∷ behind) at.apart.1 ∙ append_assoc front (32 ∷ []) (45 ∷ behind)) ∙ terms_around front (45 ∷ behind) in
    let two = ap (λ (ts : List (List ℕ)). length ts) (sym (ap terms_of at.apart.1 ∙ terms_around front [] ∙ append-nil (terms_of front))) ∙ at.two in
    let both = two_of (terms_of front) two in
    (both.0, both.1, whole ∙ ap (λ (ts : List (List ℕ)). ts ++ terms_of (45 ∷ behind)) both.2 ∙ ap (λ (ts : List (List ℕ)). both.0 ∷ (both.1 ∷ ts)) (dash (45 ∷ behind) behind refl at.ends))
