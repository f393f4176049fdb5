-- How the commands end.
use Rattle.std.specs.Prelude.{◌≡◌, ◌⊎◌, ℕ, List, Option, Result, Ok, Err}
use Rattle.std.specs.Io.KnownBytes.{Appends}
use Rattle.negotiate_serve.specs.declared.ending.ServeError.{ServeError}
use Rattle.negotiate_serve.specs.Outputs.{IsFrontOf}
use Rattle.wulameron_trail.specs.declared.checker.Verdict.{Verdict}
use Rattle.wulameron_trail.specs.declared.checker.Verdict.TheVariants as verdict
use Rattle.wulameron_trail.specs.declared.stopping.Stop.{Stop}
use Rattle.wulameron_trail.specs.Checking.{IsVerdict}
use Rattle.wulameron_trail.specs.VerdictTexts.{verdict_line}

-- 0 where it is sound, and else 1
abbrev pub verdict_status : Verdict → ℕ
verdict_status (verdict.Sound s) = 0
verdict_status (verdict.Wrong f) = 1

-- The writer has taken the line of the verdict, and its status is given; or a front of the line, where it failed.
abbrev pub WritesVerdict : Verdict → Result ℕ ServeError → (old new : Option (List ℕ)) → Type 0
WritesVerdict v (Ok status) old new = Appends old new (verdict_line v) × (status ≡ verdict_status v)
WritesVerdict v (Err f) old new = (front : List ℕ) × IsFrontOf front (verdict_line v) × Appends old new front

-- The same of what the bytes are; or there was no memory to write, and nothing was written.
abbrev pub WritesVerdictOf : List ℕ → Result ℕ ServeError → (old new : Option (List ℕ)) → Type 0
WritesVerdictOf bytes (Ok status) old new = (v : Verdict) × IsVerdict bytes v × WritesVerdict v (Ok status) old new
WritesVerdictOf bytes (Err f) old new = (new ≡ old) ⊎ ((v : Verdict) × IsVerdict bytes v
    × WritesVerdict v (Err f) old new)

-- 0, or 3 where it stopped
abbrev pub status_of : Result (Unit {0}) Stop → ℕ
status_of (Ok x) = 0
status_of (Err s) = 3
