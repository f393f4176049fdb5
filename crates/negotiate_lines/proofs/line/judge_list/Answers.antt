use Rattle.std.proofs.Common.{◌∷◌, codes, sym, ap, ◌∙◌}
use Rattle.negotiate_lines.specs.Terms.{terms_of}
use Rattle.negotiate_lines.specs.Wrongs.{behind_list}
use Rattle.negotiate_lines.proofs.Judging.{not_empty}
use Rattle.negotiate_lines.proofs.OneCommand.{only_list}
use Rattle.negotiate_lines.proofs.line.judge_list.Goals as goal

pub returns-in-Some : goal.returns-in-Some
returns-in-Some c = (
  λ some_command is_such. not_empty (sym (only_list c.args.form (terms_of c.args.others.now) some_command is_such) ∙ c.in-Some.ensures.term),
  behind_list _ (ap (λ ts. codes "list" ∷ ts) c.in-Some.ensures.term),
)
