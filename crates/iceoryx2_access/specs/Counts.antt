-- Counts that stop.
use Rattle.std.specs.Prelude.{◌≡◌, ℕ, ◌+◌, ◌-◌, ◌^◌, ◌≤◌, List, length, min}

-- a count stops at the last number of 64 bits
abbrev pub count_up : ℕ → ℕ
count_up n = min (n + 1) (2 ^ 64 - 1)

-- Each letter of the word counts.
abbrev pub CountsEach : {L : Type 0} → (old : ℕ) → List L → (new : ℕ) → Type 0
CountsEach old word new = old ≤ 2 ^ 64 - 1 → new ≡ min (old + length word) (2 ^ 64 - 1)
