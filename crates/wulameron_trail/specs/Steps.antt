-- What comes of the next bytes of a log.
use Rattle.std.specs.Prelude.{◌≡◌, ◌≤◌, ℕ, List, ◌++◌}
use Rattle.iceoryx2_world.specs.World.{World}
use Rattle.iceoryx2_log.specs.declared.entry.Entry.{Entry}
use Rattle.iceoryx2_file_log.specs.declared.header.Header.{Header}
use Rattle.iceoryx2_file_log.specs.Header.{IsForm as IsHeaderForm}
use Rattle.iceoryx2_journal.specs.Follow.{IsFollowed}
use Rattle.wulameron_trail.specs.declared.checker.Step.{Step}
use Rattle.wulameron_trail.specs.declared.checker.Step.TheVariants.{Followed, Ended, Failed}
use Rattle.wulameron_trail.specs.declared.checker.Verdict.{Verdict}
use Rattle.wulameron_trail.specs.Checking.{Fits, IsAccess, IsEnd, IsVerdict, IsWrongNext}

-- The first thing of the rest, after so many bytes of entries that come to the old world.
abbrev pub IsStep : (snapshot : ℕ) → World → (at : ℕ) → List ℕ → Step → World → Type 0
IsStep snapshot old at rest (Followed count) new =
    (e : Entry) × IsAccess rest e count × Fits snapshot at count × IsFollowed old e new
IsStep snapshot old at rest (Ended ending) new = IsEnd rest ending × (snapshot ≤ at)
IsStep snapshot old at rest (Failed wrong) new = IsWrongNext snapshot old at rest wrong

-- What is known of all bytes that are this header and these after it.
abbrev pub IsVerdictOn : Header → List ℕ → Verdict → Type 0
IsVerdictOn h entries v = (bytes front : List ℕ) → IsHeaderForm h front → bytes ≡ front ++ entries → IsVerdict bytes v
