-- Which of the services that are listed a call found.
use Rattle.std.specs.Prelude.{◌≡◌, ℕ, Bool, true, false, List, All, Any, Option, Some, None, ◌&&◌, IsTrue, bytes_eq}
use Rattle.iceoryx2_description.specs.Description.{Description}
use Rattle.iceoryx2_description.specs.declared.description.MessagingPattern.{MessagingPattern}
use Rattle.iceoryx2_description.specs.declared.description.MessagingPattern.TheVariants as pattern
use Rattle.iceoryx2_data.specs.Form.{IsForm}
use Rattle.iceoryx2_world.specs.declared.listing.Entry.{Entry}
use Rattle.iceoryx2_world.specs.declared.listing.ListedRow.TheVariants as listed
use Rattle.iceoryx2_builder.specs.declared.command.Call.{Call}
use Rattle.iceoryx2_builder.specs.declared.command.Settings.{Settings}
use Rattle.iceoryx2_builder.specs.declared.command.Settings.TheVariants as setting

abbrev pub is_of_pattern : Settings → MessagingPattern → Bool
is_of_pattern (setting.Event setters) (pattern.Event there) = true
is_of_pattern (setting.PublishSubscribe setters) (pattern.PublishSubscribe there) = true
is_of_pattern (setting.RequestResponse setters) (pattern.RequestResponse there) = true
is_of_pattern setters there = false

-- of the call's name and pattern
abbrev pub is_asked_for : Call → Description → Bool
is_asked_for call d = bytes_eq d.name call.name && is_of_pattern call.settings d.pattern

-- This description is published here, and the call asks for such a service.
pub record IsServiceAt (call : Call) (e : Entry) (d : Description) : Type 0 where
  pub number : ℕ
  pub bytes : List ℕ
  pub row : e.row ≡ listed.Published number bytes
  pub form : IsForm d bytes
  pub asked_for : IsTrue (is_asked_for call d)

-- it is found here, or none is published here
abbrev pub IsFoundAt : Call → Entry → Option Description → Type 0
IsFoundAt call e None = (d : Description) → IsServiceAt call e d → ⊥
IsFoundAt call e (Some d) = IsServiceAt call e d

-- It is found among these, or none of them is such.
abbrev pub IsFound : Call → List Entry → Option Description → Type 0
IsFound call entries None = All (λ e. IsFoundAt call e None) entries
IsFound call entries (Some d) = Any (λ e. IsServiceAt call e d) entries
