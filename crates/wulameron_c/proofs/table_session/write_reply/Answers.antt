use Rattle.std.proofs.Common.{refl, ap, arith, ◌++◌}
use Rattle.std.specs.Prelude.{drop, length}
use Rattle.wulameron_c.specs.TableSessions.{fits, is_longer}
use Rattle.wulameron_c.proofs.table_session.write_reply.Goals as goal

pub returns-then-output-length : goal.returns-then-output-length
returns-then-output-length c = is_longer (omega arith) refl refl

pub returns : goal.returns
returns c = fits (omega arith) (ap (λ l. l ++ drop (length c.args.reply.now) c.args.output.now) c.copy_from_slice.ensures.after) refl
