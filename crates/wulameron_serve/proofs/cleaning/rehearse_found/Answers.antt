use Rattle.std.proofs.Common.{string_bytes, refl}
use Rattle.wulameron_serve.specs.Cleaning.{RehearsesAsked, given, given_line}
use Rattle.wulameron_serve.proofs.NodeAnswers.{grows_by}
use Rattle.wulameron_serve.proofs.cleaning.rehearse_found.Goals as goal

pub returns-in-Some-rehearse_all : goal.returns-in-Some-rehearse_all
returns-in-Some-rehearse_all g c = λ named wanted.
    grows_by (RehearsesAsked named) (given_line c.in-Some-rehearse_all.given)
    (given c.args.nodes.now _ _ c.in-Some-rehearse_all.given wanted c.in-Some-rehearse_all.ensures refl)
    c.reply_given.result (string_bytes c.args.text.now) (string_bytes c.reply_given.new.text) c.reply_given.ensures
