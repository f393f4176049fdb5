use Rattle.std.proofs.Common.{List, ℕ, [], ◌∷◌, ◌++◌, map, append_assoc, sym, ap, subst, ◌∙◌}
use Rattle.std.specs.Prelude.{IfOk}
use Rattle.negotiate_lines.specs.Nearest.{Suggests, now_of}
use Rattle.negotiate_lines.proofs.wrong_text.+nearest_of.Goals as goal

pub returns-in_ok-nearest-in-Some : goal.returns-in_ok-nearest-in-Some
returns-in_ok-nearest-in-Some t c = λ before s.
    let word = c.in-Some.word.now.now in
    subst (λ (ws : List (List ℕ)). IfOk c.nearest_of.result (λ found. Suggests c.args.term.now ws (now_of found)))
    (append_assoc before (word ∷ []) (map (λ row. row.now) c.in-Some.others.now) ∙ ap (λ rows. before ++ map (λ row. row.now) rows) (sym c.in-Some.ensures.cases.0))
    (c.nearest_of.ensures (before ++ word ∷ []) (c.in_ok-nearest-in-Some.ensures before s))
