-- What is printed of the accesses of a call.
use Rattle.std.specs.Prelude.{ℕ, ◌-◌, List, [], ◌++◌, length, codes, decimal, nat_eq, if◌then◌else◌}
use Rattle.std.specs.List.{flat_map}
use Rattle.iceoryx2_testing.specs.declared.traced.entry.TracedAccess.{TracedAccess}
use Rattle.iceoryx2_testing.specs.Texts.{entry_text}
use Rattle.iceoryx2_testing.specs.Trace.{latest}

-- an access and its answer, two spaces deep
abbrev pub entry_line : TracedAccess → List ℕ
entry_line e = codes "  " ++ (entry_text e ++ codes "\n")

-- a line for each
abbrev pub entry_lines : List TracedAccess → List ℕ
entry_lines entries = flat_map entry_line entries

-- how many came before them and aren't kept, where any did
abbrev pub forgotten_line : ℕ → List ℕ
forgotten_line n = if nat_eq n 0 then [] else codes "  earlier accesses forgotten: " ++ (decimal n ++ codes "\n")

-- The latest accesses, so many as were made, oldest first.
abbrev pub trace_lines : ℕ → List TracedAccess → List ℕ
trace_lines made entries = forgotten_line (made - length entries) ++ entry_lines (latest made entries)
