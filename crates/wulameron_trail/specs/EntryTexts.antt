-- The line of an entry: its number in the log, the node, what it did, the service's hash, and its numbers.
use Rattle.std.specs.Prelude.{◌≡◌, ℕ, List, [], ◌++◌, Option, Some, None, codes, decimal}
use Rattle.hex.specs.Hex.{encode_lower}
use Rattle.iceoryx2_description.specs.Description.{Description}
use Rattle.iceoryx2_log.specs.declared.entry.Operation.{Operation}
use Rattle.iceoryx2_log.specs.declared.entry.Operation.TheVariants as operation
use Rattle.iceoryx2_log.specs.declared.entry.Entry.{Entry}
use Rattle.negotiate_lines.specs.Escapes.{escaped}
use Rattle.wulameron_view.specs.ListTexts.{pattern_term}
use Rattle.wulameron_trail.specs.Descriptions.{IsRead}

-- a operation of this name on a service
abbrev pub named : List ℕ → List ℕ → List ℕ
named verb hash = verb ++ (codes " " ++ encode_lower hash)

-- a number of this name
abbrev pub numbered : List ℕ → ℕ → List ℕ
numbered name n = codes " " ++ (name ++ (codes "=" ++ decimal n))

-- what is published: its pattern and its name, or that it is no description
abbrev pub published_as : Option Description → List ℕ
published_as (Some d) = pattern_term d.pattern ++ (codes " " ++ escaped d.name)
published_as None = codes "no description"

-- what a publishing did
abbrev pub publishing_text : List ℕ → ℕ → Option Description → List ℕ
publishing_text hash n found =
    codes "publishes " ++ (published_as found ++ (codes " " ++ (encode_lower hash ++ numbered (codes "number") n)))

-- What was done to the service of this hash.
abbrev pub IsDone : List ℕ → Operation → List ℕ → Type 0
IsDone hash operation.MakeTag text = text ≡ named (codes "makes tag") hash
IsDone hash operation.RemoveTag text = text ≡ named (codes "removes tag") hash
IsDone hash (operation.Lock n) text = text ≡ named (codes "locks") hash ++ numbered (codes "number") n
IsDone hash (operation.MakeSegment n nodes) text =
    text ≡ named (codes "makes segment") hash ++ (numbered (codes "number") n ++ numbered (codes "max_nodes") nodes)
IsDone hash operation.RemoveSegment text = text ≡ named (codes "removes segment") hash
IsDone hash operation.RemoveDescription text = text ≡ named (codes "removes description") hash
IsDone hash (operation.Publish n bytes) text =
    (found : Option Description) × IsRead bytes found × (text ≡ publishing_text hash n found)
IsDone hash (operation.OpenSegment n ticket) text =
    text ≡ named (codes "opens") hash ++ (numbered (codes "number") n ++ numbered (codes "ticket") ticket)
IsDone hash (operation.Release ticket n) text = text ≡ named (codes "releases") hash ++ numbered (codes "ticket") ticket
IsDone hash (operation.Spend n) text = text ≡ codes "spends numbers up to " ++ decimal n
IsDone hash operation.Moved text = text ≡ codes "the log goes on in another file"

-- who did it: nobody where the log goes on elsewhere
abbrev pub doer : Entry → List ℕ
doer e = elim e.operation [
  | operation.Moved ↦ []
  | _ ↦ codes "node " ++ (decimal e.node ++ codes " ")
]

-- The text has grown by the line of this entry, which has this number in the log.
abbrev pub AddsEntryLine : ℕ → Entry → List ℕ → List ℕ → Type 0
AddsEntryLine place e old new = (done : List ℕ) × IsDone e.hash.0 e.operation done
    × (new ≡ old ++ (decimal place ++ (codes " " ++ (doer e ++ (done ++ codes "\n")))))
