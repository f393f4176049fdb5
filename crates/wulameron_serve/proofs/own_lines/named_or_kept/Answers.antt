use Rattle.std.proofs.Common.{ℕ, List, inr, subst, sym}
use Rattle.wulameron_serve.specs.Own.{IsNamedOrKept, IsOwnAt, own}
use Rattle.wulameron_serve.proofs.own_lines.named_or_kept.Goals as goal

pub returns-in-Ok : goal.returns-in-Ok
returns-in-Ok c =
    let before = c.in-Some.before.now in
    let behind = c.in-Some.behind.now in
    subst (λ (named : List ℕ). IsNamedOrKept c.args.node c.args.line.items named) (sym c.in-Ok.ensures)
    (inr (own before behind (subst (λ (line : List ℕ). IsOwnAt line before behind) c.deref.ensures.value c.in-Some.ensures)))
