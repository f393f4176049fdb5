-- What is told of the entries of a listing: also of services that are being created, and of what is left of others.
use Rattle.std.specs.Prelude.{◌≡◌, ℕ, List, [], ◌∷◌, ◌++◌, Option, Some, None, codes, decimal}
use Rattle.std.specs.Prelude.{if◌then◌else◌, length}
use Rattle.hex.specs.Hex.{encode_lower}
use Rattle.iceoryx2_data.specs.Form.{IsForm}
use Rattle.iceoryx2_description.specs.Description.{Description}
use Rattle.iceoryx2_world.specs.declared.listing.Entry.{Entry}
use Rattle.iceoryx2_world.specs.declared.listing.ListedRow.{ListedRow}
use Rattle.iceoryx2_world.specs.declared.listing.ListedRow.TheVariants as row
use Rattle.iceoryx2_world.specs.declared.listing.ListedSegment.{ListedSegment}
use Rattle.negotiate_lines.specs.Leaves.{leaf_of}
use Rattle.negotiate_serve.specs.Replies.{pattern_term}

-- The service is being created; or it is published; or its last node has left; or there is a segment alone.
abbrev pub state_term : ListedRow → Option ListedSegment → List ℕ
state_term (row.Locked number) segment = codes "being_created"
state_term (row.Published number bytes) (Some segment) = if segment.marked then codes "marked" else codes "published"
state_term (row.Published number bytes) None = codes "marked"
state_term row.Absent segment = codes "segment_alone"

-- the service's number: that of its row, or else of its segment
abbrev pub service_number : ListedRow → Option ListedSegment → ℕ
service_number (row.Locked number) segment = number
service_number (row.Published number bytes) segment = number
service_number row.Absent (Some segment) = segment.number
service_number row.Absent None = 0

-- how many nodes have it, and how many may, where it has a segment
abbrev pub nodes_of : Option ListedSegment → ℕ
nodes_of (Some segment) = segment.participants
nodes_of None = 0

abbrev pub max_nodes_of : Option ListedSegment → ℕ
max_nodes_of (Some segment) = segment.max_nodes
max_nodes_of None = 0

-- The row's bytes are the form of this description, or of none.
pub data Describes (stored : ListedRow) : Option Description → Type 0 where
  described : {number : ℕ} {bytes : List ℕ} {d : Description} → stored ≡ row.Published number bytes
      → IsForm d bytes → Describes stored (Some d)
  nothing : ((number : ℕ) (bytes : List ℕ) (d : Description) → stored ≡ row.Published number bytes
      → IsForm d bytes → ⊥) → Describes stored None

-- its pattern, and its name as a leaf, where they are known
abbrev pub known_pattern : Option Description → List ℕ
known_pattern (Some d) = pattern_term d.pattern
known_pattern None = codes "none"

abbrev pub known_name : Option Description → List ℕ
known_name (Some d) = leaf_of d.name
known_name None = codes "%"

-- an entry, of which this is known
abbrev pub entry_text : Entry → Option Description → List ℕ
entry_text e d =
    codes " " ++ (state_term e.row e.segment ++ (codes "," ++ (known_pattern d ++ (codes ","
    ++ (decimal (service_number e.row e.segment) ++ (codes "," ++ (decimal (nodes_of e.segment) ++ (codes ","
    ++ (decimal (max_nodes_of e.segment) ++ (codes "," ++ (encode_lower e.hash.0 ++ (codes ","
    ++ known_name d))))))))))))

-- Such a text is that of the entry.
abbrev pub IsEntryText : Entry → List ℕ → Type 0
IsEntryText e text = (d : Option Description) × Describes e.row d × (text ≡ entry_text e d)

-- Each entry has its text, in their order.
pub data AreEntryTexts : List Entry → List ℕ → Type 0 where
  none : AreEntryTexts [] []
  first : {e : Entry} {entries : List Entry} {text texts : List ℕ} → IsEntryText e text
      → AreEntryTexts entries texts → AreEntryTexts (e ∷ entries) (text ++ texts)

-- How many there are, and each entry.
pub record TellsEntries (entries : List Entry) (text : List ℕ) : Type 0 where
  pub texts : List ℕ
  pub each : AreEntryTexts entries texts
  pub are : text ≡ codes "entries " ++ (decimal (length entries) ++ (texts ++ codes "\n"))
