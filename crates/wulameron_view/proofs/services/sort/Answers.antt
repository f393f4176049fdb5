use Rattle.std.proofs.Common.{rules}
use Rattle.std.specs.Ordering.{is_lt}
use Rattle.std.proofs.lemmas.List.Sorted.{ranks_by, answers_always}
use Rattle.wulameron_view.specs.declared.services.Service.{Service}
use Rattle.wulameron_view.specs.Services.{service_cmp}
use Rattle.wulameron_view.proofs.Listed.{on_ok, service_total}
use Rattle.wulameron_view.proofs.services.sort.Goals as goal

pub returns-clause-ordered : goal.returns-clause-ordered
returns-clause-ordered c =
    on_ok c.sort_by.result
    (λ sorted. sorted (λ x y. is_lt (service_cmp x y)) (ranks_by service_total (λ (s : Service). s)) (answers_always _ _ _ (λ f a r q k. search rules)))
    c.sort_by.ensures.sorted
