-- The entries that bytes come to.
use Rattle.std.specs.Prelude.{ℕ, zero, suc, Bool, true, false, List, [], ◌∷◌, length, Option, Some, None, if◌then◌else◌}
use Rattle.iceoryx2_log.specs.declared.entry.Operation.{Operation}
use Rattle.iceoryx2_log.specs.declared.entry.Operation.TheVariants.{Moved}
use Rattle.iceoryx2_log.specs.declared.entry.Entry.{Entry}
use Rattle.iceoryx2_log.specs.Reading.{entry_at}

-- whether the operation marks that the log goes on in another file
abbrev pub marks : Operation → Bool
marks Moved = true
marks other = false

-- no entry where it is a mark
abbrev pub unmarked : Option (Entry × List ℕ) → Option (Entry × List ℕ)
unmarked None = None
unmarked (Some x) = if marks x.0.operation then None else Some x

-- the entry with which the bytes begin, where it is no mark, and the bytes behind it
abbrev pub entry_in : List ℕ → Option (Entry × List ℕ)
entry_in bytes = unmarked (entry_at bytes)

-- those with which the bytes begin, one after the other, at most so many
unfoldable pub entries_by : ℕ → List ℕ → List Entry
entries_by zero bytes = []
entries_by (suc n) bytes = elim (entry_in bytes) as (λ (found : Option (Entry × List ℕ)). List Entry) [
  | None ↦ []
  | Some x ↦ x.0 ∷ entries_by n x.1
]

-- all of them, up to the first byte that begins none, or the first mark
abbrev pub entries_in : List ℕ → List Entry
entries_in bytes = entries_by (length bytes) bytes
