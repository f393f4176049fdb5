use Rattle.std.proofs.Common.{◌≡◌, ℕ, List, [], map, Option}
use Rattle.std.specs.Prelude.{Result, Ok, Err, IfOk, string_bytes}
use Rattle.negotiate_lines.specs.Nearest.{Suggests, now_of}
use Rattle.negotiate_lines.specs.WrongTexts.{Offers, hint_of}
use Rattle.negotiate_lines.proofs.wrong_text.hint_among.Goals as goal

offered : {A E : Type 0} (f : A → List ℕ) (term : List ℕ) (words : List (List ℕ)) (nearest : Option (List ℕ)) (told : List ℕ) (r : Result A E)
    → Suggests term words nearest → IfOk r (λ a. f a ≡ hint_of nearest told) → IfOk r (λ a. Offers term words told (f a))
offered f term words nearest told (Ok a) s e = (nearest, s, e)
offered f term words nearest told (Err x) s e = tt

pub returns : goal.returns
returns c =
    offered string_bytes c.args.term.now (map (λ word. word.now) c.args.words.now) (now_of c.in_ok-nearest.nearest) c.args.told.now c.hint_text.result
    (c.in_ok-nearest.ensures [] tt) c.hint_text.ensures
