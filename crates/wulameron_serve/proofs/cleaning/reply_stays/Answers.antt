use Rattle.std.proofs.Common.{◌≡◌, ◌++◌, ◌∙◌, List, ℕ, OnOk, string_bytes, subst}
use Rattle.wulameron_serve.specs.Telling.{refused_line}
use Rattle.wulameron_serve.proofs.cleaning.reply_stays.Goals as goal

pub returns : goal.returns
returns c =
    subst (λ (why : List ℕ). OnOk c.refuse_by_log.result (string_bytes c.refuse_by_log.new.text ≡ string_bytes c.args.text.now ++ refused_line why))
    (c.deref.ensures ∙ c.in_ok-why.ensures.ok) c.refuse_by_log.ensures
