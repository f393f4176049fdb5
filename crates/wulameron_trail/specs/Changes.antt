-- What an entry changes of its service: it is created, a node comes, a node goes, or it is removed.
use Rattle.std.specs.Prelude.{◌≡◌, ℕ, Bool, true, false, List, ◌++◌, Option, Some, None, is_some, codes, decimal}
use Rattle.hex.specs.Hex.{encode_lower}
use Rattle.serde_json.specs.Data.{Data, number, unsigned, string, object, member, no_members}
use Rattle.serde_json.specs.Written.{compact_text}
use Rattle.iceoryx2_description.specs.declared.description.ServiceHash.{ServiceHash}
use Rattle.iceoryx2_data.specs.Form.{IsForm}
use Rattle.iceoryx2_world.specs.World.{World, row_of, phase_of, joined_number}
use Rattle.iceoryx2_world.specs.declared.world.Participant.TheVariants.{Node}
use Rattle.iceoryx2_world.specs.declared.world.Row.{Row}
use Rattle.iceoryx2_world.specs.declared.world.Row.TheVariants as row
use Rattle.iceoryx2_log.specs.declared.entry.Entry.{Entry}
use Rattle.negotiate_lines.specs.Escapes.{escaped}
use Rattle.wulameron_view.specs.ListTexts.{pattern_term}
use Rattle.wulameron_trail.specs.declared.changes.Published.{Published}
use Rattle.wulameron_trail.specs.declared.changes.Standing.{Standing}
use Rattle.wulameron_trail.specs.declared.changes.Happening.{Happening}
use Rattle.wulameron_trail.specs.declared.changes.Happening.TheVariants.{Created, Opened, Left, Removed}
use Rattle.wulameron_trail.specs.declared.changes.Change.{Change}

-- ---- what stands

-- This service is published in the row, or none is: what isn't the form of a description is no service.
abbrev pub IsPublishedIn : Option Row → Option Published → Type 0
IsPublishedIn r (Some p) =
    (bytes : List ℕ) × (r ≡ Some (row.Published p.number bytes)) × IsForm p.description bytes
IsPublishedIn r None =
    (p : Published) (bytes : List ℕ) → r ≡ Some (row.Published p.number bytes) → IsForm p.description bytes → ⊥

-- What stands of the service in this world, and whether the node is in it: it has a factory or more.
pub record IsStanding (w : World) (node : ℕ) (h : ServiceHash) (s : Standing) : Type 0 where
  pub published : IsPublishedIn (row_of w h) s.published
  pub is_in : s.is_in ≡ is_some (joined_number (phase_of w (Node node) h))

-- ---- what changes

-- what has happened, by what was published and what is, and whether the node was in it and is
abbrev pub happened : (was is : Option Published) → (was_in is_in : Bool) → Option (Happening × Published)
happened None (Some new) was_in is_in = Some (Created, new)
happened (Some old) None was_in is_in = Some (Removed, old)
happened (Some old) (Some new) false true = Some (Opened, new)
happened (Some old) (Some new) true false = Some (Left, new)
happened _ _ _ _ = None

abbrev pub with_entry : Entry → Option (Happening × Published) → Option Change
with_entry e None = None
with_entry e (Some x) = Some (record { happening = x.0; published = x.1; hash = e.hash; node = e.node })

abbrev pub change_in : Standing → Entry → Standing → Option Change
change_in old e new = with_entry e (happened old.published new.published old.is_in new.is_in)

-- The entry makes this change, or none, between these worlds: it is what differs in its service for its node.
pub record IsChangeOf (before : World) (e : Entry) (after : World) (change : Option Change) : Type 0 where
  pub old : Standing
  pub new : Standing
  pub stood : IsStanding before e.node e.hash old
  pub stands : IsStanding after e.node e.hash new
  pub is : change ≡ change_in old e new

-- ---- texts

abbrev pub word_of : Happening → List ℕ
word_of Created = codes "created"
word_of Opened = codes "opened"
word_of Left = codes "left"
word_of Removed = codes "removed"

-- a line for people
abbrev pub change_line : Change → List ℕ
change_line c =
    let d = c.published.description in
    word_of c.happening ++ (codes " " ++ (pattern_term d.pattern ++ (codes " " ++ escaped d.name))
    ++ (codes " by node " ++ (decimal c.node ++ codes "\n")))

-- what stands in a line for programs, in the order of the keys
abbrev pub change_data : Change → Data
change_data c =
    let d = c.published.description in
    object (member (codes "change") (string (word_of c.happening))
    (member (codes "hash") (string (encode_lower c.hash.0))
    (member (codes "name") (string d.name) (member (codes "node") (number (unsigned c.node))
    (member (codes "number") (number (unsigned c.published.number))
    (member (codes "pattern") (string (pattern_term d.pattern)) no_members))))))

abbrev pub json_line : Change → List ℕ
json_line c = compact_text (change_data c) ++ codes "\n"
