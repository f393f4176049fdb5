-- The terms of the line are the words of which it is made, and each of its bytes is printable.
use Rattle.std.proofs.Common.{◌≡◌, ℕ, ◌<◌, ◌==◌, true, false, eqb, List, [], ◌∷◌, ◌++◌, All, filter, length, refl, ap, ◌∙◌, arith}
use Rattle.std.specs.Prelude.{not}
use Rattle.std.specs.List.{slice_split}
use Rattle.std.specs.Str.{IsUtf8}
use Rattle.std.proofs.lemmas.Bool.{ne_eqb}
use Rattle.std.proofs.lemmas.List.{append-nil}
use Rattle.std.proofs.lemmas.List.Elements.{All-append, All-cons, All-nil, All-weaker}
use Rattle.std.proofs.lemmas.List.Splits.{slice_split_at, slice_split_none}
use Rattle.std.proofs.lemmas.Str.{IsUtf8-from_ascii}
use Rattle.std.proofs.lemmas.Str.Ascii.{IsAscii-from_all}
use Rattle.iceoryx2_access.specs.Run.{Each}
use Rattle.negotiate_lines.specs.Terms.{terms_of}
use Rattle.escaped_serve.specs.Asking.{IsPrintable, behind}
use Rattle.escaped_serve.proofs.AskingGraphic.{graphic, graphic_all, loosely, parts_all}

abbrev pub IsWord : List ℕ → Type 0
IsWord word = graphic word ≡ true

no_blank : (word : List ℕ) → graphic_all word ≡ true → All (λ b. eqb b 32 ≡ false) word
no_blank [] h = All-nil (λ b. eqb b 32 ≡ false)
no_blank (b ∷ word) h =
    let here = parts_all b word h in
    All-cons (λ b. eqb b 32 ≡ false) b word (ne_eqb b 32 (λ e. omega (arith, here.low, e))) (no_blank word here.rest_is)

apart : (first : List ℕ) (others : List (List ℕ)) → IsWord first → Each IsWord others
    → slice_split (λ b. eqb b 32) (first ++ behind others) ≡ first ∷ others
unfolding behind
apart first [] h all = rw (append-nil first) (slice_split_none (λ b. eqb b 32) first (no_blank first (loosely first h)))
apart first (word ∷ words) h all =
    slice_split_at (λ b. eqb b 32) first 32 (word ++ behind words) (no_blank first (loosely first h)) refl
    ∙ ap (λ (l : List (List ℕ)). first ∷ l) (apart word words all.0 all.1)

-- no word is empty
is_some : (word : List ℕ) → IsWord word → not (length word == 0) ≡ true
unfolding graphic
is_some [] h = absurd cc
is_some (b ∷ word) h = rw (ne_eqb (length (b ∷ word)) 0 (λ e. omega (arith, e))) refl

kept : (words : List (List ℕ)) → Each IsWord words → filter (λ term. not (length term == 0)) words ≡ words
kept [] all = refl
kept (word ∷ words) all = rw (is_some word all.0) (ap (λ (l : List (List ℕ)). word ∷ l) (kept words all.1))

pub terms_apart : (first : List ℕ) (others : List (List ℕ)) → IsWord first → Each IsWord others
    → terms_of (first ++ behind others) ≡ first ∷ others
terms_apart first others h all =
    ap (λ (l : List (List ℕ)). filter (λ term. not (length term == 0)) l) (apart first others h all) ∙ kept (first ∷ others) (h, all)

-- ---- bytes

printable : (text : List ℕ) → graphic_all text ≡ true → All IsPrintable text
printable [] h = All-nil IsPrintable
printable (b ∷ text) h =
    let here = parts_all b text h in
    All-cons IsPrintable b text (omega (arith, here.low), here.high) (printable text here.rest_is)

behind_printable : (words : List (List ℕ)) → Each IsWord words → All IsPrintable (behind words)
unfolding behind
behind_printable [] all = All-nil IsPrintable
behind_printable (word ∷ words) all =
    All-cons IsPrintable 32 (word ++ behind words) (omega arith, omega arith)
    (All-append IsPrintable word (behind words) (printable word (loosely word all.0)) (behind_printable words all.1))

pub line_printable : (first : List ℕ) (others : List (List ℕ)) → IsWord first → Each IsWord others
    → All IsPrintable (first ++ behind others)
line_printable first others h all =
    All-append IsPrintable first (behind others) (printable first (loosely first h)) (behind_printable others all)

pub text_from_printable : (text : List ℕ) → All IsPrintable text → IsUtf8 text
text_from_printable text all =
    IsUtf8-from_ascii text (IsAscii-from_all text (All-weaker IsPrintable (λ b. b < 128) (λ b is. omega (arith, is.1)) text all))
