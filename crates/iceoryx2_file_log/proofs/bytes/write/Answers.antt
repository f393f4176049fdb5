use Rattle.std.proofs.lemmas.Result.{on_err_weaker}
use Rattle.iceoryx2_file_log.proofs.ByteSteps.{write_some}
use Rattle.iceoryx2_file_log.proofs.bytes.write.Goals as goal

pub returns-then-synchronizes-clause-err : goal.returns-then-synchronizes-clause-err
returns-then-synchronizes-clause-err g c =
    on_err_weaker c.sync.result
    (λ same. write_some c.args.at c.args.form.now (g.M.Medium.known c.args.medium.now)
    (g.M.Medium.known c.write_all_at.new.self) (g.M.Medium.known c.sync.new.self) c.in_ok-write_all_at.ensures.ok same)
    c.sync.ensures.err
