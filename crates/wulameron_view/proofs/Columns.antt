-- The widths of columns and the spaces that fill them, one line and one space more.
use Rattle.std.proofs.Common.{◌≡◌, ℕ, zero, suc, ◌+◌, ◌-◌, ◌<◌, ◌≤◌, Bool, true, false, List, [], ◌∷◌, ◌++◌, map, max, length, take, get_or, refl, sym, ap, ◌∙◌, add-one, append_assoc, append-nil, arith}
use Rattle.std.specs.Prelude.{◌==◌, codes, if◌then◌else◌, nat_lt}
use Rattle.std.specs.Char.{encode_utf8}
use Rattle.std.proofs.lemmas.Bool.Decides.{nat_tests}
use Rattle.std.proofs.Math.Seq.{take-suc}
use Rattle.wulameron_view.specs.Tables.{character_columns, columns, ellipsis, front, red, spaces, greatest, width_of}

greatest_end : (ns : List ℕ) (n : ℕ) → greatest (ns ++ n ∷ []) ≡ max (greatest ns) n
greatest_end [] n = omega arith
greatest_end (m ∷ ns) n = let e = greatest_end ns n in omega (arith, e)

map_end : {A B : Type 0} (f : A → B) (xs : List A) (x : A) → map f (xs ++ x ∷ []) ≡ map f xs ++ f x ∷ []
map_end f [] x = refl
map_end f (y ∷ ys) x = ap (λ l. f y ∷ l) (map_end f ys x)

pub no_width : {A : Type 0} (cell : A → List ℕ) → 0 ≡ width_of cell []
unfolding width_of
no_width cell = refl

pub width_more : {A : Type 0} (cell : A → List ℕ) (lines : List A) (i : ℕ) (line : A) → i < length lines → line ≡ get_or lines i line
    → max (width_of cell (take i lines)) (columns (cell line)) ≡ width_of cell (take (i + 1) lines)
unfolding width_of
width_more cell lines i line within is =
    let next : take (i + 1) lines ≡ take i lines ++ line ∷ [] = rw (add-one i) (take-suc lines i line within ∙ ap (λ x. take i lines ++ x ∷ []) (sym is)) in
    sym (ap (λ ls. greatest (map (λ l. columns (cell l)) ls)) next
    ∙ ap greatest (map_end (λ l. columns (cell l)) (take i lines) line)
    ∙ greatest_end (map (λ l. columns (cell l)) (take i lines)) (columns (cell line)))

spaces_after : (n : ℕ) → spaces n ++ codes " " ≡ spaces (suc n)
unfolding spaces
spaces_after zero = refl
spaces_after (suc n) = ap (λ l. codes " " ++ l) (spaces_after n)

pub no_space : (old : List ℕ) → old ≡ old ++ spaces 0
unfolding spaces
no_space old = sym (append-nil old)

pub one_space : (old mid new : List ℕ) (n : ℕ) → mid ≡ old ++ spaces n → new ≡ mid ++ codes " " → new ≡ old ++ spaces (n + 1)
one_space old mid new n so_far grown =
    rw (add-one n) (grown ∙ ap (λ l. l ++ codes " ") so_far ∙ append_assoc old (spaces n) (codes " ") ∙ ap (λ l. old ++ l) (spaces_after n))

-- ---- a cell that is cut

chosen : (b : Bool) (x y : List ℕ) → b ≡ false → (if b then x else y) ≡ y
chosen false x y p = refl
chosen true x y p = absurd cc

taken : (b : Bool) (x y : List ℕ) → b ≡ true → (if b then x else y) ≡ x
taken true x y p = refl
taken false x y p = absurd cc

narrow : (a b : ℕ) → b ≤ a → nat_lt a b ≡ false
narrow a b fits = grind (arith, nat_tests)

wide : (a b : ℕ) → a < b → nat_lt a b ≡ true
wide a b more = grind (arith, nat_tests)

-- a character that has room, and one that has none
pub one_character : (left c n : ℕ) (cs : List ℕ) → n ≡ character_columns c → n ≤ left → front left (c ∷ cs) ≡ encode_utf8 c ++ front (left - n) cs
unfolding front
one_character left c n cs is fits =
    let so : character_columns c ≤ left = omega (arith, is, fits) in
    chosen (nat_lt left (character_columns c)) ellipsis (encode_utf8 c ++ front (left - character_columns c) cs) (narrow left (character_columns c) so)
    ∙ ap (λ (m : ℕ). encode_utf8 c ++ front (left - m) cs) (sym is)

pub no_character : (left c n : ℕ) (cs : List ℕ) → n ≡ character_columns c → left < n → front left (c ∷ cs) ≡ ellipsis
unfolding front
no_character left c n cs is more =
    let so : left < character_columns c = omega (arith, is, more) in
    taken (nat_lt left (character_columns c)) ellipsis (encode_utf8 c ++ front (left - character_columns c) cs) (wide left (character_columns c) so)

pub no_front : (left : ℕ) → front left [] ≡ []
unfolding front
no_front left = refl

-- nothing is red of what has nothing
pub no_part : (b : Bool) (old part : List ℕ) → (length part == 0) ≡ true → old ≡ old ++ red b part
no_part true old [] none = sym (append-nil old)
no_part false old [] none = sym (append-nil old)
no_part b old (x ∷ xs) none = absurd (grind (arith, nat_tests, none))
