use Rattle.std.proofs.Common.{List, ℕ, [], ◌∷◌, ◌++◌, map, append_assoc, sym, ap, subst, ◌∙◌}
use Rattle.std.specs.Prelude.{IfOk}
use Rattle.negotiate_lines.specs.Nearest.{Suggests, now_of}
use Rattle.negotiate_lines.proofs.wrong_text.+nearest_own.Goals as goal

pub returns-in_ok-nearest-in-Some : goal.returns-in_ok-nearest-in-Some
returns-in_ok-nearest-in-Some t c = λ words s.
    let word = c.in-Some.setting.now.0.now in
    subst (λ (ws : List (List ℕ)). IfOk c.nearest_own.result (λ found. Suggests c.args.name.now ws (now_of found)))
    (append_assoc words (word ∷ []) (map (λ row. row.0.now) c.in-Some.others.now) ∙ ap (λ rows. words ++ map (λ row. row.0.now) rows) (sym c.in-Some.ensures.cases.0))
    (c.nearest_own.ensures (words ++ word ∷ []) (c.in_ok-nearest-in-Some.ensures words s))
