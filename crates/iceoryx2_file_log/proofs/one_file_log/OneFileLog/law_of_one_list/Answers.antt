use Rattle.std.proofs.Common.{subst}
use Rattle.std.specs.Prelude.{IfSome}
use Rattle.iceoryx2_file_log.specs.OneFileLog.{OneFileFacts}
use Rattle.iceoryx2_file_log.specs.Turns.{HasTakenAFront}
use Rattle.iceoryx2_file_log.proofs.Turning.{has_taken_a_front}
use Rattle.iceoryx2_file_log.proofs.one_file_log.OneFileLog.law_of_one_list.Goals as goal

pub returns : goal.returns
returns g c =
    subst (λ (h : OneFileFacts _). IfSome (g.M.Medium.known h.medium) (HasTakenAFront h.cursor)) c.self.view_is
    (has_taken_a_front c.self.inside.cursor (g.M.Medium.known c.self.inside.medium) c.self.invariant.1.0)
