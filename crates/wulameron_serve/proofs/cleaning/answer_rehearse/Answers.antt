use Rattle.std.proofs.Common.{sym, subst, string_bytes}
use Rattle.wulameron_place.specs.Clean.{AreWanted}
use Rattle.wulameron_serve.specs.Cleaning.{IsUnfoundReply, RehearsesAsked, not_rehearsed}
use Rattle.wulameron_serve.proofs.NodeAnswers.{grows_as}
use Rattle.wulameron_serve.proofs.cleaning.answer_rehearse.Goals as goal

pub returns-in-Ok : goal.returns-in-Ok
returns-in-Ok g c = c.rehearse_found.ensures c.args.named (subst (AreWanted c.args.named) (sym c.deref.ensures.value) c.in-Ok.ensures)

pub returns-in-Err : goal.returns-in-Err
returns-in-Err g c =
    grows_as (IsUnfoundReply c.in-Err.why) (RehearsesAsked c.args.named) (λ output is. not_rehearsed c.in-Err.why is)
    c.reply_unfound.result (string_bytes c.args.text.now) (string_bytes c.reply_unfound.new.text) c.reply_unfound.ensures
