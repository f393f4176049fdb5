use Rattle.std.proofs.Common.{◌≡◌, ◌++◌, ◌∙◌, ℕ, List, OnOk, subst, sym, string_bytes}
use Rattle.negotiate_lines.proofs.LeavesBack.{pushed}
use Rattle.wulameron_serve.proofs.EscapedWords.{no_bytes, some_bytes}
use Rattle.wulameron_serve.proofs.words.escape_word.Goals as goal

pub returns-then-is_empty : goal.returns-then-is_empty
returns-then-is_empty c =
    pushed c.push_str.result _ _ _ _ c.push_str.ensures.bytes (no_bytes c.args.word.now (sym c.is_empty.ensures ∙ c.if-is_empty.true))

pub returns : goal.returns
returns c =
    subst (λ (term : List ℕ). OnOk c.append_to.result (string_bytes c.append_to.new.out ≡ string_bytes c.args.text.now ++ term))
    (c.percent_encode.ensures.text ∙ some_bytes c.args.word.now (sym c.is_empty.ensures ∙ c.if-is_empty.false)) c.append_to.ensures.ok
