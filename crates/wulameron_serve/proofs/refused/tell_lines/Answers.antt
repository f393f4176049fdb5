use Rattle.std.proofs.Common.{◌∷◌, [], None, Some, refl, sym, subst, ◌∙◌, arith}
use Rattle.std.proofs.lemmas.List.{append_cancel_right}
use Rattle.std.proofs.lemmas.Str.Pattern.{strip_suffix_char}
use Rattle.wulameron_place.specs.Troubles.{WritesLine, trouble_line}
use Rattle.wulameron_serve.proofs.refused.tell_lines.Goals as goal

pub returns-in-Some : goal.returns-in-Some
returns-in-Some g c = λ front is.
    let cut = strip_suffix_char 10 c.args.lines.now (Some c.in-Some.front) c.in-Some.ensures.cases (omega arith) in
    let same = append_cancel_right c.in-Some.front.now front (10 ∷ []) (sym cut ∙ is) in
    subst (λ f. WritesLine (trouble_line c.args.reports.now.path.now f) c.tell.result (g.E.Write.contents c.args.reports.now.errors) (g.E.Write.contents c.tell.new.self.errors))
    same (c.tell.ensures c.in-Some.front.now refl)

pub returns-in-None : goal.returns-in-None
returns-in-None g c = λ front is. absurd (strip_suffix_char 10 c.args.lines.now None c.in-None.ensures.cases (omega arith) front is)
