-- What stands behind a log's name in that of a node's file.
use Rattle.std.proofs.Common.{◌≡◌, ℕ, ◌+◌, ◌<◌, ◌^◌, Option, Some, None, List, [], ◌∷◌, ◌++◌, sym, ◌∙◌, ap, subst, append_assoc, zero, suc, arith}
use Rattle.std.specs.Prelude.{codes, decimal}
use Rattle.std.specs.Char.{digit_value}
use Rattle.std.specs.Str.Parse.{AllDigits}
use Rattle.std.specs.Str.Pattern.{StripsPrefix, FindsTextPrefix}
use Rattle.std.proofs.lemmas.Fmt.{decimal_is_IsNumeral, decimal_injective}
use Rattle.std.proofs.lemmas.List.{append_cancel_left}
use Rattle.iceoryx2_file_log.specs.Path.{slash, HasNoSlash}
use Rattle.iceoryx2_monitoring.specs.Paths.{suffix_of, IsNumberOf, IsNodeOf, StandsBeside, OneFileEach}

slash_is_no_digit : digit_value slash < 10 → ⊥
slash_is_no_digit h = absurd (omega (arith, h))

bare_rest : (b : ℕ) (name : List ℕ) → HasNoSlash (b ∷ name) → HasNoSlash name
bare_rest b name bare i within e = bare (i + 1) (omega (arith, within)) (grind (arith, e))

bare_digits : (ds : List ℕ) → AllDigits 10 ds → HasNoSlash ds
bare_digits [] h i within e = absurd (omega (arith, within))
bare_digits (d ∷ ds) h zero within e = slash_is_no_digit (subst (λ (c : ℕ). digit_value c < 10) e h.0)
bare_digits (d ∷ ds) h (suc i) within e = bare_digits ds h.1 i (omega (arith, within)) e

bare_both : (name more : List ℕ) → HasNoSlash name → HasNoSlash more → HasNoSlash (name ++ more)
bare_both [] more left right i within e = right i within e
bare_both (b ∷ name) more left right zero within e = left zero (omega arith) e
bare_both (b ∷ name) more left right (suc i) within e =
    bare_both name more (bare_rest b name left) right i (omega (arith, within)) e

bare_word : HasNoSlash (codes ".node-")
bare_word zero within e = absurd (omega (arith, e))
bare_word (suc zero) within e = absurd (omega (arith, e))
bare_word (suc (suc zero)) within e = absurd (omega (arith, e))
bare_word (suc (suc (suc zero))) within e = absurd (omega (arith, e))
bare_word (suc (suc (suc (suc zero)))) within e = absurd (omega (arith, e))
bare_word (suc (suc (suc (suc (suc zero))))) within e = absurd (omega (arith, e))
bare_word (suc (suc (suc (suc (suc (suc i)))))) within e = absurd (omega (arith, within))

bare_suffix : (node : ℕ) → node < 2 ^ 64 → HasNoSlash (suffix_of node)
bare_suffix node small = bare_both (codes ".node-") (decimal node) bare_word
    (bare_digits (decimal node) (decimal_is_IsNumeral node small).0.1)

pub beside : StandsBeside
beside log folder name node small split = record {
  front = split.front;
  begins = split.begins;
  bare = bare_both name (suffix_of node) split.bare (bare_suffix node small);
  is = ap (λ path. path ++ suffix_of node) split.is ∙ append_assoc split.front name (suffix_of node);
}

pub one_file_each : OneFileEach
one_file_each log node other small less e =
    decimal_injective node other small less
    (append_cancel_left (codes ".node-") (decimal node) (decimal other)
    (append_cancel_left log (suffix_of node) (suffix_of other) e))

-- what stands behind a front that a text begins with
pub stripped : (front text rest : List ℕ) → StripsPrefix (FindsTextPrefix front) text rest → text ≡ front ++ rest
stripped front text rest h = h.1.1 ∙ ap (λ l. front ++ l) (sym h.2)

pub node_read : (file log behind digits : List ℕ) (r : Option ℕ) → file ≡ log ++ behind
    → behind ≡ codes ".node-" ++ digits → IsNumberOf digits r → IsNodeOf file log r
node_read file log behind digits (Some n) is word read =
    (is ∙ ap (λ l. log ++ l) (word ∙ ap (λ l. codes ".node-" ++ l) read.0), read.1)
node_read file log behind digits None is word read = λ node small whole.
    let rest = append_cancel_left log behind (suffix_of node) (sym is ∙ whole) in
    read node small (append_cancel_left (codes ".node-") digits (decimal node) (sym word ∙ rest))
