-- A Mermaid sequence diagram of nodes and the storage.
use Rattle.std.specs.Prelude.{ℕ, List, [], ◌∷◌, ◌++◌, codes, decimal, ◌||◌, nat_eq, nat_lt, if◌then◌else◌}
use Rattle.std.specs.List.{flat_map}
use Rattle.std.specs.Char.{encode_utf8}
use Rattle.std.specs.Str.{chars}
use Rattle.iceoryx2_testing.specs.declared.traced.entry.TracedAccess.{TracedAccess}
use Rattle.iceoryx2_testing.specs.declared.traced.entry.TracedAccess.TheVariants as entry
use Rattle.iceoryx2_testing.specs.Texts.{access_name, entry_text}
use Rattle.iceoryx2_testing.specs.Trace.{latest}

-- the node that an access names, or else this one
abbrev pub caller_of : ℕ → TracedAccess → ℕ
caller_of caller (entry.Exists h a) = caller
caller_of caller (entry.Fetch i h a) = i
caller_of caller (entry.Counts i h a) = i
caller_of caller (entry.MakeTag i h a) = i
caller_of caller (entry.RemoveTag i h a) = i
caller_of caller (entry.Lock i h a) = i
caller_of caller (entry.MakeSegment i h n m a) = i
caller_of caller (entry.RemoveSegment i h a) = i
caller_of caller (entry.RemoveDescription i h a) = i
caller_of caller (entry.Publish i h n a) = i
caller_of caller (entry.OpenSegment i h n a) = i
caller_of caller (entry.Release t i h n a) = i

unfoldable pub asked_line : ℕ → List ℕ → List ℕ
asked_line node access = codes "    node " ++ (decimal node ++ (codes "->>storage: " ++ (access ++ codes "\n")))

unfoldable pub answered_line : ℕ → TracedAccess → List ℕ
answered_line node e = codes "    storage-->>node " ++ (decimal node ++ (codes ": " ++ (entry_text e ++ codes "\n")))

-- an access and its answer are two messages
abbrev pub message_lines : ℕ → TracedAccess → List ℕ
message_lines caller e = asked_line (caller_of caller e) (access_name e) ++ answered_line (caller_of caller e) e

-- The latest accesses, so many as were made, oldest first.
abbrev pub messages : (caller made : ℕ) → List TracedAccess → List ℕ
messages caller made entries = flat_map (message_lines caller) (latest made entries)

-- ---- a note

-- What is written in place of a character: of a line's end its tag, and of what has a meaning in Mermaid, which are
-- `#`, `%`, `&`, `;`, `<` and `>`, its number.
abbrev pub entities : List (ℕ × List ℕ)
entities =
    (10, codes "<br/>") ∷ (35, codes "#35;") ∷ (37, codes "#37;") ∷ (38, codes "#38;") ∷ (59, codes "#59;")
    ∷ (60, codes "#60;") ∷ (62, codes "#62;") ∷ []

-- by the row of this character; any other control is a space
abbrev pub written : List (ℕ × List ℕ) → ℕ → List ℕ
written [] c = if nat_lt c 32 || nat_eq c 127 then codes " " else encode_utf8 c
written (row ∷ rows) c = if nat_eq c row.0 then row.1 else written rows c

abbrev pub escaped : ℕ → List ℕ
escaped c = written entities c

unfoldable pub note_head : List ℕ
note_head = codes "    Note over storage: "

-- One line.
abbrev pub note_line : List ℕ → List ℕ
note_line text = note_head ++ (flat_map escaped (chars text) ++ codes "\n")
