use Rattle.std.proofs.Common.{◌≡◌, ◌++◌, IfOk, string_bytes, codes, decimal, subst, List, ℕ}
use Rattle.iceoryx2_postgres_log.proofs.question.moving.Goals as goal

pub returns : goal.returns
returns c =
    subst (λ (mark : List ℕ). IfOk c.format.result (λ question. string_bytes question
    ≡ codes "insert into wulameron.entries (log, generation, seq, bytes) values " ++ (mark ++ (codes ", (" ++ (decimal c.args.log
    ++ (codes ", " ++ (decimal c.args.later
    ++ codes ", 0, '') returning seq || ' ' || encode(chain, 'hex');\n\\echo moved :SQLSTATE\n"))))))) c.in_ok-mark.ensures
    c.format.ensures.ok
