-- The first line of an input, and what stands behind it.
use Rattle.std.proofs.Common.{◌≡◌, ℕ, suc, ◌-◌, ◌<◌, ◌≤◌, Bool, true, false, cond, eqb, List, [], ◌∷◌, ◌++◌, Option, Some, IfSome, map, length, take, get_or, refl, sym, ap, subst, ◌∙◌, arith}
use Rattle.std.proofs.lemmas.List.{take_all, length-take-le, take-take}
use Rattle.std.specs.Io.KnownBytes.{IsAtEnd}
use Rattle.std.specs.Io.BufRead.{take_through, drop_through, DropsThrough}
use Rattle.std.proofs.BufReadLemmas.{take_through_nonempty}
use Rattle.negotiate_lines.specs.Lines.{without_last, without_end_of}
use Rattle.negotiate_serve.specs.Inputs.{with_first, between_line_feeds, BeginsWith, ReadsLine}

cond_cons : (b : Bool) (x : ℕ) (p q : List ℕ) → cond b (x ∷ p) (x ∷ q) ≡ x ∷ cond b p q
cond_cons true x p q = refl
cond_cons false x p q = refl

-- a byte more in front of others
without_last-cons : (byte x : ℕ) (xs : List ℕ) → 0 < length xs → without_last byte (x ∷ xs) ≡ x ∷ without_last byte xs
without_last-cons byte x [] some = absurd (omega arith)
without_last-cons byte x (y ∷ ys) some =
    let longer : suc (suc (length ys)) - 1 ≡ suc (length ys) = omega arith in
    let shorter : suc (length ys) - 1 ≡ length ys = omega arith in
    ap (λ n. cond (eqb (get_or (x ∷ y ∷ ys) n 0) byte) (take n (x ∷ y ∷ ys)) (x ∷ y ∷ ys)) longer
    ∙ cond_cons (eqb (get_or (y ∷ ys) (length ys) 0) byte) x (take (length ys) (y ∷ ys)) (y ∷ ys)
    ∙ ap (λ n. x ∷ cond (eqb (get_or (y ∷ ys) n 0) byte) (take n (y ∷ ys)) (y ∷ ys)) (sym shorter)

some_through : (y : ℕ) (ys : List ℕ) → 0 < length (take_through 10 (y ∷ ys))
some_through y ys = at (eqb y 10)
  where
    at : (b : Bool) → 0 < length (cond b (y ∷ []) (y ∷ take_through 10 ys))
    at true = omega arith
    at false = omega arith

-- The bytes through the first line feed, but for that, stand in front.
abbrev StandsFirst : ℕ → List ℕ → Type 0
StandsFirst x xs = between_line_feeds (x ∷ xs) ≡ without_last 10 (take_through 10 (x ∷ xs)) ∷ between_line_feeds (drop_through 10 (x ∷ xs))

module _ (x : ℕ) (xs : List ℕ) where
  stands_split : (b : Bool) → eqb x 10 ≡ b
      → cond b ([] ∷ between_line_feeds xs) (with_first x (between_line_feeds xs))
      ≡ without_last 10 (cond b (x ∷ []) (x ∷ take_through 10 xs)) ∷ between_line_feeds (cond b xs (drop_through 10 xs)) → StandsFirst x xs
  stands_split b e same =
      ap (λ b. cond b ([] ∷ between_line_feeds xs) (with_first x (between_line_feeds xs))) e ∙ same
      ∙ ap (λ b. without_last 10 (cond b (x ∷ []) (x ∷ take_through 10 xs)) ∷ between_line_feeds (cond b xs (drop_through 10 xs))) (sym e)

-- one byte is a line feed, or it isn't
one_byte : (x : ℕ) (b : Bool) → eqb x 10 ≡ b → cond b [] (x ∷ []) ≡ without_last 10 (x ∷ [])
one_byte x b e = ap (λ b. cond b [] (x ∷ [])) (sym e)

first_between : (x : ℕ) (xs : List ℕ) → StandsFirst x xs
first_between x [] = at (eqb x 10) refl
  where
    at : (b : Bool) → eqb x 10 ≡ b → StandsFirst x []
    at true e = stands_split x [] true e (ap (λ l. l ∷ []) (one_byte x true e))
    at false e = stands_split x [] false e (ap (λ l. l ∷ []) (one_byte x false e))
first_between x (y ∷ ys) = at (eqb x 10) refl (first_between y ys)
  where
    at : (b : Bool) → eqb x 10 ≡ b → StandsFirst y ys → StandsFirst x (y ∷ ys)
    at true e rest = stands_split x (y ∷ ys) true e (ap (λ l. l ∷ between_line_feeds (y ∷ ys)) (one_byte x true e))
    at false e rest = stands_split x (y ∷ ys) false e (
        ap (with_first x) rest
        ∙ ap (λ l. l ∷ between_line_feeds (drop_through 10 (y ∷ ys))) (sym (without_last-cons 10 x (take_through 10 (y ∷ ys)) (some_through y ys))))

-- what was taken and what is left are all bytes
pub all_bytes : (xs : List ℕ) → xs ≡ take_through 10 xs ++ drop_through 10 xs
all_bytes [] = refl
all_bytes (x ∷ xs) = at (eqb x 10) (all_bytes xs)
  where
    at : (b : Bool) → xs ≡ take_through 10 xs ++ drop_through 10 xs → x ∷ xs ≡ cond b (x ∷ []) (x ∷ take_through 10 xs) ++ cond b xs (drop_through 10 xs)
    at true rest = refl
    at false rest = ap (λ l. x ∷ l) rest

-- an input that isn't empty begins with the line that is taken through its first line feed
pub first_line : (input : List ℕ) → 0 < length input → BeginsWith input (without_end_of (take_through 10 input) ∷ []) (drop_through 10 input)
first_line [] some = absurd (omega arith)
first_line (x ∷ xs) some = record {
  front = take_through 10 (x ∷ xs);
  parts = all_bytes (x ∷ xs);
  are = ap (map (without_last 13)) (first_between x xs);
}

-- ---- a line without its end is a front of it

record IsFront (xs front : List ℕ) : Type 0 where
  pub count : ℕ
  pub within : count ≤ length xs
  pub is : front ≡ take count xs

take_front : (b : Bool) (n : ℕ) (xs : List ℕ) → n ≤ length xs → IsFront xs (cond b (take n xs) xs)
take_front true n xs within = record { count = n; within = within; is = refl }
take_front false n xs within = record { count = length xs; within = omega arith; is = sym (take_all (length xs) xs (omega arith)) }

without_last_is_front : (byte : ℕ) (xs : List ℕ) → IsFront xs (without_last byte xs)
without_last_is_front byte xs = take_front (eqb (get_or xs (length xs - 1) 0) byte) (length xs - 1) xs (omega arith)

fronts_of_fronts : (xs ys zs : List ℕ) → IsFront xs ys → IsFront ys zs → take (length zs) xs ≡ zs
fronts_of_fronts xs ys zs f g =
    let short : length ys ≡ f.count = ap length f.is ∙ length-take-le f.count xs f.within in
    let long : length zs ≡ g.count = ap length g.is ∙ length-take-le g.count ys g.within in
    let within : g.count ≤ f.count = omega (arith, g.within, short) in
    ap (λ n. take n xs) long ∙ sym (take-take g.count f.count xs within) ∙ ap (take g.count) (sym f.is) ∙ sym g.is

-- what is left of a line that is cut to the length that it has without its end
pub cut_to_length : (xs : List ℕ) → take (length (without_end_of xs)) xs ≡ without_end_of xs
cut_to_length xs = fronts_of_fronts xs (without_last 10 xs) (without_end_of xs) (without_last_is_front 10 xs) (without_last_is_front 13 (without_last 10 xs))

-- ---- what a read through a line feed gives

pub read_line : (known left : Option (List ℕ)) (old taken cut input : List ℕ) → known ≡ Some input → IfSome known (λ xs. taken ≡ old ++ take_through 10 xs)
    → DropsThrough known left 10 → old ≡ [] → 0 < length taken → cut ≡ take (length (without_end_of taken)) taken → ReadsLine input true cut left
read_line known left old taken cut input is bytes rest none some cut_is =
    let taken_is : taken ≡ take_through 10 input = subst (λ k. IfSome k (λ xs. taken ≡ old ++ take_through 10 xs)) is bytes ∙ ap (λ l. l ++ take_through 10 input) none in
    let line : cut ≡ without_end_of (take_through 10 input) = cut_is ∙ cut_to_length taken ∙ ap without_end_of taken_is in
    let more : 0 < length input = take_through_nonempty 10 input (subst (λ l. 0 < length l) taken_is some) in
    (drop_through 10 input, subst (λ l. BeginsWith input (l ∷ []) (drop_through 10 input)) (sym line) (first_line input more), subst (λ k. DropsThrough k left 10) is rest)

pub read_nothing : (known left : Option (List ℕ)) (input line : List ℕ) → known ≡ Some input → IsAtEnd known → DropsThrough known left 10 → ReadsLine input false line left
read_nothing known left input line is end rest =
    let none : input ≡ [] = subst IsAtEnd is end in
    (none, subst (λ k. DropsThrough k left 10) is rest ∙ ap (λ l. Some (drop_through 10 l)) none)
