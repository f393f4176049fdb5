-- What is printed of the services of a log.
use Rattle.std.specs.Prelude.{◌≡◌, ℕ, Bool, true, false, ◌&&◌, List, [], ◌∷◌, Option, Result, Ok, Err}
use Rattle.std.specs.Prelude.{bytes_eq, nat_eq}
use Rattle.std.specs.List.{filter}
use Rattle.iceoryx2_journal.specs.Journal.{JournalState}
use Rattle.wulameron_place.specs.Reading.{TakesOver}
use Rattle.iceoryx2_log.specs.Log.{Contents}
use Rattle.iceoryx2_monitoring.specs.declared.state.NodeStatus.{NodeStatus}
use Rattle.iceoryx2_world.specs.World.{World}
use Rattle.negotiate_serve.specs.Outputs.{Writes}
use Rattle.wulameron_arguments.specs.declared.asked.Form.{Form}
use Rattle.wulameron_arguments.specs.declared.asked.Form.TheVariants as form
use Rattle.wulameron_arguments.specs.declared.asked.Listed.{Listed}
use Rattle.wulameron_arguments.specs.declared.asked.Shown.{Shown}
use Rattle.wulameron_arguments.specs.declared.asked.Wanted.{Wanted}
use Rattle.wulameron_arguments.specs.declared.asked.Wanted.TheVariants as wanted
use Rattle.wulameron_view.specs.Data.{json_line, list_data, list_lines, show_data}
use Rattle.wulameron_view.specs.Filters.{AreThose}
use Rattle.wulameron_view.specs.ListTexts.{list_text, names_text}
use Rattle.wulameron_view.specs.Patterns.{is_of}
use Rattle.wulameron_view.specs.Services.{AreServicesOf}
use Rattle.wulameron_view.specs.ShowTexts.{show_text}
use Rattle.wulameron_view.specs.declared.services.Service.{Service}
use Rattle.wulameron_view.specs.declared.services.Services.{Services}
use Rattle.wulameron_view.specs.declared.looking.LookError.{LookError}
use Rattle.wulameron_view.specs.declared.looking.LookError.TheVariants as look

-- ---- which one

abbrev pub is_wanted : Wanted → Service → Bool
is_wanted (wanted.Named name) s = bytes_eq s.description.name name.now
is_wanted (wanted.OfPattern name p) s = bytes_eq s.description.name name.now && is_of p s.description.pattern
is_wanted (wanted.Numbered n) s = nat_eq s.number n

-- ---- the texts

-- a table, names, or JSON
abbrev pub list_in : Form → Listed → List NodeStatus → Services → List ℕ
list_in form.Text l states all = list_text l states all
list_in form.Names l states all = names_text all
list_in form.Json l states all = json_line (list_data states all)
list_in form.JsonLines l states all = list_lines states all

abbrev pub list_printed : Listed → List NodeStatus → Services → List ℕ
list_printed l states all = list_in l.shown.form l states all

-- lines, or JSON
abbrev pub show_in : Form → (colours : Bool) → List NodeStatus → Service → List ℕ
show_in form.Text colours states s = show_text colours states s
show_in form.Names colours states s = show_text colours states s
show_in form.Json colours states s = json_line (show_data states s)
show_in form.JsonLines colours states s = json_line (show_data states s)

abbrev pub show_printed : Shown → List NodeStatus → Service → List ℕ
show_printed shown states s = show_in shown.form shown.is_coloured states s

-- It is what is printed of those services of this world that are asked for.
pub record IsListed (listed : Listed) (states : List NodeStatus) (w : World) (text : List ℕ) : Type 0 where
  pub services : Services
  pub are : AreServicesOf w services
  pub listed_ones : Services
  pub those : AreThose listed.filter services listed_ones
  pub is : text ≡ list_printed listed states listed_ones

-- It is what is printed of the one service of this world that is wanted.
pub record IsShown (shown : Shown) (states : List NodeStatus) (w : World) (which : Wanted) (text : List ℕ)
    : Type 0 where
  pub services : Services
  pub are : AreServicesOf w services
  pub service : Service
  pub only : filter (is_wanted which) services.published.items ≡ service ∷ []
  pub is : text ≡ show_printed shown states service

-- So many are wanted of the services of this world.
pub record Wants (w : World) (which : Wanted) (Fits : List Service → Type 0) : Type 0 where
  pub services : Services
  pub are : AreServicesOf w services
  pub fits : Fits (filter (is_wanted which) services.published.items)

abbrev pub AreSeveral : List Service → Type 0
AreSeveral found = (one : Service) × (other : Service) × (rest : List Service) × (found ≡ one ∷ other ∷ rest)

-- Why no service is shown: none is wanted, or several are; or there is no memory.
abbrev pub IsUnshown : World → Wanted → LookError → Type 0
IsUnshown w which look.NoService = Wants w which (λ found. found ≡ [])
IsUnshown w which look.SeveralServices = Wants w which AreSeveral
IsUnshown w which (look.Failed f) = Unit {0}
IsUnshown w which look.Unread = ⊥

-- A list is always printed, where there is memory.
abbrev pub NeverUnshown : World → LookError → Type 0
NeverUnshown w (look.Failed f) = Unit {0}
NeverUnshown w _ = ⊥

-- ---- what the output takes

-- The output has taken a text, or a front of it.
abbrev pub WritesMade : (text : List ℕ) → Result (Unit {0}) LookError → (old new : Option (List ℕ)) → Type 0
WritesMade text (Ok x) old new = Writes text (Ok x) old new
WritesMade text (Err (look.Failed f)) old new = Writes text (Err f) old new
WritesMade text (Err other) old new = ⊥

-- It ends for this reason, and nothing is written.
abbrev pub KeepsWhy : LookError → Result (Unit {0}) LookError → (old new : Option (List ℕ)) → Type 0
KeepsWhy why result old new = (result ≡ Err why) × (new ≡ old)

-- The output has taken such a text, or a front of it; or nothing is written, for such a reason.
pub data Prints (IsText : List ℕ → Type 0) (IsWhy : LookError → Type 0)
    (result : Result (Unit {0}) LookError) (old new : Option (List ℕ)) : Type 0 where
  printed : (text : List ℕ) → IsText text → WritesMade text result old new → Prints IsText IsWhy result old new
  kept : (why : LookError) → IsWhy why → KeepsWhy why result old new → Prints IsText IsWhy result old new

-- All that others appended was taken over, and then a text of the world is printed; or not all was, and nothing is.
pub data LooksAt {L : Type 0} (contents : L → Option Contents) (IsText : World → List ℕ → Type 0)
    (IsWhy : World → LookError → Type 0) (old new : JournalState L) (result : Result (Unit {0}) LookError)
    (before after : Option (List ℕ)) : Type 0 where
  read : TakesOver contents true old new → Prints (IsText new.world) (IsWhy new.world) result before after
      → LooksAt contents IsText IsWhy old new result before after
  unread : TakesOver contents false old new → KeepsWhy look.Unread result before after
      → LooksAt contents IsText IsWhy old new result before after

-- ---- the status

-- 0, 1 where not one service is wanted, and else 3
abbrev pub look_status : Result (Unit {0}) LookError → ℕ
look_status (Ok x) = 0
look_status (Err look.NoService) = 1
look_status (Err look.SeveralServices) = 1
look_status (Err look.Unread) = 3
look_status (Err (look.Failed f)) = 3
