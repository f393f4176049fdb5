use Rattle.std.proofs.Common.{List, ℕ, Option, Some, IfOk, IfSome, ◌≡◌, ◌++◌, codes, string_bytes, sym, ap, subst, ◌∙◌, append_assoc}
use Rattle.std.specs.Fmt.{option_append}
use Rattle.wulameron_place.proofs.reports.line_of.Goals as goal

pub returns : goal.returns
returns g c = λ text known.
    let path : List ℕ = string_bytes c.in_ok-path.path in
    subst (λ (l : List ℕ). IfOk c.format.result (λ line. string_bytes line ≡ l))
    (ap (λ (l : List ℕ). codes "wulameron: " ++ l)
    (sym (append_assoc path (codes ": ") (text ++ codes "\n")) ∙ sym (append_assoc (path ++ codes ": ") text (codes "\n")))
    ∙ ap (λ (p : List ℕ). codes "wulameron: " ++ p ++ codes ": " ++ text ++ codes "\n") c.in_ok-path.ensures)
    (subst (λ (middle : Option (List ℕ)). IfOk c.format.result (λ line. IfSome
    (option_append (Some (codes "wulameron: ")) (option_append (Some path) (option_append (Some (codes ": ")) (option_append middle (Some (codes "\n"))))))
    (λ bytes. string_bytes line ≡ bytes))) known c.format.ensures.ok)
