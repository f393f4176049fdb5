-- What a word is written as, and what it stands for.
use Rattle.std.proofs.Common.{◌≡◌, ◌≢◌, ℕ, ◌<◌, true, false, List, [], ◌∷◌, ◌++◌, All, Some, ◌==◌, length, codes, refl, sym, ap, subst, ◌∙◌, ⊎_elim, arith}
use Rattle.std.specs.Str.{IsUtf8}
use Rattle.std.proofs.lemmas.Bool.{both_ways}
use Rattle.std.proofs.lemmas.Bool.Decides.{nat_tests}
use Rattle.std.proofs.lemmas.List.Elements.{All-nil, All-cons}
use Rattle.percent_encoding.specs.AsciiSet.{should_percent_encode}
use Rattle.percent_encoding.specs.Percent.{percent_encode}
use Rattle.percent_encoding.proofs.AsciiSetLemmas.{escaped_from_inside}
use Rattle.percent_encoding.proofs.OnLiterals.{percent_encoding_on_literals}
use Rattle.percent_encoding.proofs.PercentLemmas.{percent_encode-append, percent_encode_kept, percent_encode_nonempty, All-percent_encode, IsEscapeByte}
use Rattle.negotiate_lines.specs.declared.leaf.Form.TheVariants as form
use Rattle.negotiate_lines.specs.Leaves.{IsLeaf, bytes_of}
use Rattle.negotiate_lines.proofs.LeavesBack.{part_back}
use Rattle.negotiate_lines.proofs.LeavesUtf8.{AreBytes, are_bytes}
use Rattle.wulameron_serve.specs.declared.words.TheConstants.{WORD_ESCAPES}
use Rattle.wulameron_serve.specs.Words.{PartsLeaves, word_of}

-- ---- what is written stands for what was given

word_back : (bytes : List ℕ) → AreBytes bytes → bytes_of (word_of bytes) ≡ Some bytes
unfolding word_of
word_back [] small = refl
word_back (b ∷ bytes) small = part_back WORD_ESCAPES refl (b ∷ bytes) small

pub part : (text : List ℕ) → IsUtf8 text → IsLeaf form.Escaped (percent_encode WORD_ESCAPES text) text
part text is = (part_back WORD_ESCAPES refl text (are_bytes text is), is)

pub leaf : (text : List ℕ) → IsUtf8 text → IsLeaf form.Escaped (word_of text) text
leaf text is = (word_back text (are_bytes text is), is)

-- ---- what parts leaves stays

kept : (byte : ℕ) → PartsLeaves byte → should_percent_encode WORD_ESCAPES byte ≡ false
unfolding percent_encoding_on_literals
kept byte parts =
    let stays : (e : ℕ) → should_percent_encode WORD_ESCAPES e ≡ false → byte ≡ e → should_percent_encode WORD_ESCAPES byte ≡ false = λ e is same.
    subst (λ b. should_percent_encode WORD_ESCAPES b ≡ false) (sym same) is in
    ⊎_elim (λ e. stays 61 refl e) (λ rest. ⊎_elim (λ e. stays 58 refl e) (λ e. stays 44 refl e) rest) parts

some_word : (bytes : List ℕ) → 0 < length bytes → word_of bytes ≡ percent_encode WORD_ESCAPES bytes
unfolding word_of
some_word [] some = absurd (omega arith)
some_word (b ∷ bytes) some = refl

more_behind : (front back : List ℕ) (byte : ℕ) → 0 < length (front ++ byte ∷ back)
more_behind [] back byte = omega arith
more_behind (b ∷ front) back byte = omega arith

pub cut : (front back : List ℕ) (byte : ℕ) → PartsLeaves byte
    → word_of (front ++ byte ∷ back) ≡ percent_encode WORD_ESCAPES front ++ byte ∷ percent_encode WORD_ESCAPES back
cut front back byte parts =
    some_word (front ++ byte ∷ back) (more_behind front back byte) ∙ percent_encode-append WORD_ESCAPES front (byte ∷ back)
    ∙ ap (λ l. percent_encode WORD_ESCAPES front ++ l) (percent_encode_kept WORD_ESCAPES byte back (kept byte parts))

-- ---- it is one term

no_blank_kept : (b : ℕ) → should_percent_encode WORD_ESCAPES b ≡ false → b ≢ 32
no_blank_kept b stays = λ blank. both_ways _ stays (rw blank (escaped_from_inside WORD_ESCAPES 32 refl))

no_blank_escape : (b : ℕ) → IsEscapeByte b → b ≢ 32
no_blank_escape b h = λ blank. absurd (grind (arith, blank, h))

pub term : (bytes : List ℕ) → All (λ b. b ≢ 32) (word_of bytes)
unfolding word_of
term [] = All-cons (λ b. b ≢ 32) 37 [] (λ e. absurd (omega (arith, e))) (All-nil (λ b. b ≢ 32))
term (b ∷ bytes) = All-percent_encode (λ b. b ≢ 32) WORD_ESCAPES (b ∷ bytes) no_blank_kept no_blank_escape

pub some : (bytes : List ℕ) → 0 < length (word_of bytes)
unfolding word_of
some [] = omega arith
some (b ∷ bytes) = percent_encode_nonempty WORD_ESCAPES (b ∷ bytes) (omega arith)

-- ---- what is appended

pub no_bytes : (bytes : List ℕ) → (length bytes == 0) ≡ true → codes "%" ≡ word_of bytes
unfolding word_of
no_bytes [] none = refl
no_bytes (b ∷ bytes) none = absurd (grind (arith, nat_tests, none))

pub some_bytes : (bytes : List ℕ) → (length bytes == 0) ≡ false → percent_encode WORD_ESCAPES bytes ≡ word_of bytes
unfolding word_of
some_bytes [] some = absurd (grind (arith, nat_tests, some))
some_bytes (b ∷ bytes) some = refl
