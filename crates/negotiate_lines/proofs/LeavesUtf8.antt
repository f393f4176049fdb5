-- The bytes of a text are bytes.
use Rattle.std.proofs.Common.{◌≡◌, ℕ, ◌+◌, ◌/◌, ◌%◌, ◌<◌, Bool, true, false, ltb, ◌&&◌, List, [], ◌∷◌, All, refl, subst, arith}
use Rattle.std.specs.Str.{IsUtf8, all_scalars, encode_utf8_all}
use Rattle.std.specs.Char.{IsScalar, encode_utf8}
use Rattle.std.proofs.lemmas.Bool.{cond_both}
use Rattle.std.proofs.lemmas.Bool.Decides.{nat_tests}
use Rattle.std.proofs.lemmas.List.Elements.{All-nil, All-cons, All-append}

abbrev IsByte : ℕ → Type 0
IsByte b = b < 256

abbrev pub AreBytes : List ℕ → Type 0
AreBytes bytes = All IsByte bytes

and_true : (a b : Bool) → (a && b) ≡ true → (a ≡ true) × (b ≡ true)
and_true true true h = (refl, refl)
and_true true false h = absurd cc
and_true false b h = absurd cc

scalar_is_small : (c : ℕ) → IsScalar c → c < 1114112
scalar_is_small c h = grind (arith, nat_tests, h)

one : (a : ℕ) → a < 256 → AreBytes (a ∷ [])
one a small = All-cons IsByte a [] small (All-nil IsByte)

more : (a : ℕ) (bytes : List ℕ) → a < 256 → AreBytes bytes → AreBytes (a ∷ bytes)
more a bytes small are = All-cons IsByte a bytes small are

-- the bytes behind a character's first
abbrev last_of : ℕ → List ℕ
last_of c = (128 + c % 64) ∷ []

abbrev last_two_of : ℕ → List ℕ
last_two_of c = (128 + c / 64 % 64) ∷ last_of c

abbrev last_three_of : ℕ → List ℕ
last_three_of c = (128 + c / 4096 % 64) ∷ last_two_of c

last : (c : ℕ) → AreBytes (last_of c)
last c = one (128 + c % 64) (omega arith)

last_two : (c : ℕ) → AreBytes (last_two_of c)
last_two c = more (128 + c / 64 % 64) (last_of c) (omega arith) (last c)

last_three : (c : ℕ) → AreBytes (last_three_of c)
last_three c = more (128 + c / 4096 % 64) (last_two_of c) (omega arith) (last_two c)

character : (c : ℕ) → IsScalar c → AreBytes (encode_utf8 c)
unfolding encode_utf8
character c h =
    let small = scalar_is_small c h in
    cond_both (ltb c 128) _ _ AreBytes (λ e. one c (grind (arith, nat_tests, e)))
    (λ _. cond_both (ltb c 2048) _ _ AreBytes (λ f. more (192 + c / 64) (last_of c) (grind (arith, nat_tests, f)) (last c))
    (λ _. cond_both (ltb c 65536) _ _ AreBytes (λ g. more (224 + c / 4096) (last_two_of c) (grind (arith, nat_tests, g)) (last_two c))
    (λ _. more (240 + c / 262144) (last_three_of c) (omega (arith, small)) (last_three c))))

characters : (cs : List ℕ) → all_scalars cs ≡ true → AreBytes (encode_utf8_all cs)
characters [] h = All-nil IsByte
characters (c ∷ cs) h =
    let both = and_true _ (all_scalars cs) h in
    All-append IsByte (encode_utf8 c) (encode_utf8_all cs) (character c both.0) (characters cs both.1)

pub are_bytes : (text : List ℕ) → IsUtf8 text → AreBytes text
are_bytes text is = subst AreBytes is.1.1 (characters is.0 is.1.0)
