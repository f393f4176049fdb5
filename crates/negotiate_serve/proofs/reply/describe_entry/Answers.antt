use Rattle.std.proofs.Common.{rules, string_bytes}
use Rattle.std.proofs.lemmas.Result.{IfOk-weaker}
use Rattle.negotiate_serve.proofs.ServiceLines.{grows_by_service}
use Rattle.negotiate_serve.proofs.reply.describe_entry.Goals as goal

pub returns-in-Ok : goal.returns-in-Ok
returns-in-Ok c = IfOk-weaker c.describe_service.result _ _
    (λ found grows. grows_by_service c.args.form c.args.entry.now c.in-Published.number c.in-Published.bytes c.in-Ok.description c.in-Some.segment
    found (string_bytes c.args.text.now) (string_bytes c.describe_service.new.text) (search rules) (search rules) (search rules) grows)
    c.describe_service.ensures
