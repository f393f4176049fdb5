-- How the commands that look at a log end.
use Rattle.std.specs.Prelude.{◌≡◌, ℕ, Bool, true, false, List, Option, Some, None, Result, codes}
use Rattle.iceoryx2_journal.specs.Journal.{JournalState}
use Rattle.iceoryx2_log.specs.Log.{Contents}
use Rattle.iceoryx2_world.specs.World.{World}
use Rattle.wulameron_arguments.specs.Places.{is_in_database}
use Rattle.wulameron_place.specs.declared.trouble.Trouble.{Trouble}
use Rattle.wulameron_place.specs.Troubles.{trouble_text}
use Rattle.wulameron_view.specs.declared.looking.LookError.{LookError}
use Rattle.wulameron_view.specs.declared.looking.LookError.TheVariants as look
use Rattle.wulameron_view.specs.Looking.{LooksAt, look_status}

-- The log was looked at, and this is the status.
pub record EndsLook {L : Type 0} (contents : L → Option Contents) (IsText : World → List ℕ → Type 0)
    (IsWhy : World → LookError → Type 0) (old new : JournalState L) (before after : Option (List ℕ)) (status : ℕ)
    : Type 0 where
  pub looked : Result (Unit {0}) LookError
  pub looks : LooksAt contents IsText IsWhy old new looked before after
  pub ends : status ≡ look_status looked

-- that no service is the wanted one, with the command that lists them
abbrev pub no_service_by : (is_in_database : Bool) → List ℕ
no_service_by true = codes "has no such service; see `wulameron-postgres list`"
no_service_by false = codes "has no such service; see `wulameron list`"

-- what is written of why a look ended, behind the log's path; `None` where it isn't of the log
abbrev pub look_text : (path : List ℕ) → Option Trouble → LookError → Option (List ℕ)
look_text path (Some t) look.Unread = trouble_text t
look_text path None look.Unread = None
look_text path t look.NoService = Some (no_service_by (is_in_database path))
look_text path t look.SeveralServices = Some (codes "has several services of this name; name one by --pattern")
look_text path t (look.Failed f) = None
