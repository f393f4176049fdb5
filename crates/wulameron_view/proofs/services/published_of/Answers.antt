use Rattle.std.proofs.Common.{◌≡◌, ◌+◌, ◌++◌, ◌∷◌, [], List, Option, Some, None, take, sym, subst, rules}
use Rattle.std.specs.FinMap as map
use Rattle.wulameron_view.specs.declared.services.Service.{Service}
use Rattle.wulameron_view.specs.Services.{AreServices, IsServiceOf, none}
use Rattle.wulameron_view.proofs.Listed.{one_more, other_more}
use Rattle.wulameron_view.proofs.services.published_of.Goals.{in-Some+in_ok-push-in-Some, in-None}
use Rattle.wulameron_view.proofs.services.published_of.Goals as goal

pub loop-entry-init : goal.loop-entry-init
loop-entry-init c = subst (λ (xs : List Service). AreServices c.args.world.now [] xs) (sym c.new-found.ensures.items) none

pub loop-entry-preserved : goal.loop-entry-preserved
loop-entry-preserved c =
    let rows = map.entries c.args.world.now.rows in
    let within = rw c.rows_held-entry-items.ensures at c.loop-entry-test.true in
    let is = rw c.rows_held-entry-items.ensures at c.entry-item.is in
    let at = c.loop-entry in
    let found_as : (o : Option Service) → c.in_ok-service.field-0 ≡ o → IsServiceOf c.args.world.now c.entry-item.result.0 c.entry-item.result.1 o =
    λ o e. subst (λ (o : Option Service). IsServiceOf c.args.world.now c.entry-item.result.0 c.entry-item.result.1 o) e c.in_ok-service.ensures in
    elim c.match-branch-2.branch [
      | in-Some+in_ok-push-in-Some w ↦
          let grown : c.match-branch-2.found.items ≡ at.found.items ++ w.in-Some.service ∷ [] = search rules in
          subst (λ (xs : List Service). AreServices c.args.world.now (take (at.entry-index + 1) rows) xs) (sym grown)
          (one_more c.args.world.now rows at.entry-index c.entry-item.result within is at.found.items at.invariant w.in-Some.service (found_as (Some w.in-Some.service) w.in-Some.is))
      | in-None w ↦
          let same : c.match-branch-2.found.items ≡ at.found.items = search rules in
          subst (λ (xs : List Service). AreServices c.args.world.now (take (at.entry-index + 1) rows) xs) (sym same)
          (other_more c.args.world.now rows at.entry-index c.entry-item.result within is at.found.items at.invariant (found_as None w.in-None.is))
    ]
