use Rattle.std.proofs.Common.{Ok, Result, ap, refl, subst, sym, ◌∙◌}
use Rattle.negotiate_serve.specs.declared.ending.Ending.{Ending}
use Rattle.negotiate_serve.specs.declared.ending.Ending.TheVariants as ending
use Rattle.wulameron_place.specs.declared.halt.Halt.{Halt}
use Rattle.wulameron_serve.specs.Own.{TellsNamed}
use Rattle.wulameron_serve.proofs.own_lines.told_end.Goals as goal

pub returns-in-NotACommand : goal.returns-in-NotACommand
returns-in-NotACommand c =
    let named = c.named_or_kept-line.result in
    subst (λ (ended : Result Ending Halt). TellsNamed c.args.node ended (Ok (ending.NotACommand c.in-NotACommand.number named)))
    (sym (c.in-Ok.is ∙ ap (λ (e : Ending). Ok e) c.in-NotACommand.is)) (named, c.named_or_kept-line.ensures, refl)
