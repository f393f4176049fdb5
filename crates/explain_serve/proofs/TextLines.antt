-- The lines of entries, one after the other.
use Rattle.std.proofs.Common.{◌≡◌, ℕ, ◌+◌, ◌<◌, ◌≤◌, List, [], ◌++◌, length, drop, get_or, ap}
use Rattle.std.proofs.lemmas.List.{drop_more, drop_all}
use Rattle.iceoryx2_testing.specs.declared.traced.entry.TracedAccess.{TracedAccess}
use Rattle.std.specs.List.{flat_map}
use Rattle.explain_serve.specs.Accesses.{entry_line, entry_lines}
use Rattle.explain_serve.specs.Diagrams.{message_lines}

-- the next one, and those behind it
pub next_line : (entries : List TracedAccess) (i : ℕ) (e : TracedAccess) → i < length entries → entry_lines (drop i entries) ≡ entry_line (get_or entries i e) ++ entry_lines (drop (i + 1) entries)
next_line entries i e within = ap entry_lines (drop_more entries i e within)

pub no_line : (entries : List TracedAccess) (i : ℕ) → length entries ≤ i → entry_lines (drop i entries) ≡ []
no_line entries i ends = ap entry_lines (drop_all i entries ends)

-- the messages of the next one, and of those behind it
pub next_messages : (caller : ℕ) (entries : List TracedAccess) (i : ℕ) (e : TracedAccess) → i < length entries → flat_map (message_lines caller) (drop i entries) ≡ message_lines caller (get_or entries i e) ++ flat_map (message_lines caller) (drop (i + 1) entries)
next_messages caller entries i e within = ap (flat_map (message_lines caller)) (drop_more entries i e within)

pub no_message : (caller : ℕ) (entries : List TracedAccess) (i : ℕ) → length entries ≤ i → flat_map (message_lines caller) (drop i entries) ≡ []
no_message caller entries i ends = ap (flat_map (message_lines caller)) (drop_all i entries ends)
