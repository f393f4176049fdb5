use Rattle.std.proofs.Common.{◌≡◌, ◌++◌, IfOk, string_bytes, codes, decimal, subst, List, ℕ}
use Rattle.iceoryx2_postgres_log.proofs.question.opening.Goals as goal

pub returns : goal.returns
returns c =
    subst (λ (is : List ℕ). IfOk c.format.result (λ question. string_bytes question ≡ codes "set lock_timeout = " ++ (decimal c.args.wait
    ++ (codes "\\; set idle_in_transaction_session_timeout = 2000\\; select wulameron.opened('" ++ (c.args.name.now
    ++ (codes "', " ++ (is ++ codes ");\n\\echo opened :SQLSTATE\n"))))))) c.flag-makes.ensures c.format.ensures.ok
