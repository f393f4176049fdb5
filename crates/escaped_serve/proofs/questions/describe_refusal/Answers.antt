use Rattle.std.proofs.Common.{rules, ◌≡◌, ◌++◌, OnOk, string_bytes, None, sym, subst, ◌∙◌}
use Rattle.iceoryx2_errors.specs.Numbers.{numbered}
use Rattle.escaped_serve.specs.Questions.{refusal_reply}
use Rattle.escaped_serve.proofs.questions.describe_refusal.Goals as goal

pub returns-in-None : goal.returns-in-None
returns-in-None c =
    let none : numbered c.args.number ≡ None = sym c.from_number.ensures ∙ c.in-None.is in
    subst (λ r. OnOk c.writeln.result (string_bytes c.writeln.new.self ≡ string_bytes c.args.text.now ++ refusal_reply c.args.number r)) (sym none) (search rules)
