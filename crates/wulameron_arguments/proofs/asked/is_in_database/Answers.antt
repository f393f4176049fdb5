use Rattle.std.specs.Prelude.{codes}
use Rattle.std.proofs.lemmas.Str.Pattern.{starts_text}
use Rattle.wulameron_arguments.proofs.asked.is_in_database.Goals as goal

pub returns : goal.returns
returns c = starts_text _ (codes "postgres:") c.args.path.now c.starts_with.ensures.cases
