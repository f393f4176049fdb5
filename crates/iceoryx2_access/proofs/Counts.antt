-- A count that each step raises by one, and that stops, counts each letter of a run.
use Rattle.std.proofs.Common.{◌≡◌, ℕ, List, arith}
use Rattle.iceoryx2_access.specs.Counts.{count_up, CountsEach}
use Rattle.iceoryx2_access.specs.Run.{Run, done, next}

module _ {S L : Type 0} {step : S → L → S → Type 0} (count : S → ℕ) (each : (a b : S) (l : L) → step a l b → count b ≡ count_up (count a)) where
  pub counted : {a b : S} {word : List L} → Run step a word b → CountsEach (count a) word (count b)
  counted (done {s}) small = omega (arith, small)
  counted (next {old} {mid} {letter} h run) small =
      let first = each old mid letter h in
      let rest = counted run (omega (arith, first)) in omega (arith, first, rest)
