use Rattle.std.proofs.lemmas.Str.Pattern.{contains_text}
use Rattle.wulameron_view.specs.Filters.{has_part}
use Rattle.wulameron_view.proofs.Parts.{found, same, stands}
use Rattle.wulameron_view.proofs.looking.has_part.Goals as goal

pub returns : goal.returns
returns c =
    let tells = contains_text c.contains.result c.args.part.now c.args.name.now c.contains.ensures.cases in
    same c.contains.result (has_part c.args.name.now c.args.part.now)
    (λ yes. found c.args.name.now c.args.part.now (tells.0 yes)) (λ yes. tells.1 (stands c.args.name.now c.args.part.now yes))
