-- What has grown by a line's answer from nothing is this answer.
use Rattle.std.proofs.Common.{◌≡◌, ℕ, Bool, true, false, List, [], ◌++◌, refl, sym, ap, subst, ◌∙◌}
use Rattle.negotiate_serve.specs.Served.{GrowsByLine}
use Rattle.negotiate_serve.specs.Transcripts.{AnsweringLines}

pub replied : {M : Type 0} (Answers : AnsweringLines M) (goes_on : Bool) (m : M) (number : ℕ) (bytes old new : List ℕ) (n : M)
    → (goes_on ≡ false → ⊥) → old ≡ [] → GrowsByLine Answers goes_on m number bytes old new n → Answers m bytes new n
replied Answers true m number bytes old new n none empty grows =
    subst (λ (text : List ℕ). Answers m bytes text n) (sym (grows.grown ∙ ap (λ (o : List ℕ). o ++ grows.output) empty)) grows.is_answer
replied Answers false m number bytes old new n none empty grows = absurd (none refl)
