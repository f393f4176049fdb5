-- What a run makes of the entries and the counts.
use Rattle.std.proofs.Common.{◌≡◌, ℕ, ◌+◌, ◌-◌, ◌≤◌, List, [], ◌∷◌, ◌++◌, length, map, drop, length-append, length-drop, append_assoc, sym, ap, ◌∙◌, subst, arith}
use Rattle.std.proofs.lemmas.List.{append-nil, drop-drop, drop-append-le}
use Rattle.iceoryx2_access.specs.Letter.{Letter}
use Rattle.iceoryx2_access.specs.Run.{done, next}
use Rattle.iceoryx2_access.proofs.Run.{run_keeps, run_leaves}
use Rattle.iceoryx2_access.proofs.Counts.{counted}
use Rattle.iceoryx2_testing.specs.Entries.{entry_of}
use Rattle.iceoryx2_testing.specs.Trace.{TracedState, IsTracedAccess, latest, KeepsLatest, KeepsItsLatest, StaysWithinRoom, KeepsItsRoom, CountsAccesses}

module _ {A : Type 0} where
  -- the latest of a list that is short enough
  pub latest_all : (n : ℕ) (xs : List A) → length xs ≤ n → latest n xs ≡ xs
  latest_all n xs h = let e : length xs - n ≡ 0 = omega (arith, h) in ap (λ k. drop k xs) e

  pub length_latest : (n : ℕ) (xs : List A) → length (latest n xs) ≤ n
  length_latest n xs = let e = length-drop (length xs - n) xs in omega (arith, e)

  -- what was forgotten would be forgotten again
  pub latest_twice : (n : ℕ) (xs ys : List A) → latest n (latest n xs ++ ys) ≡ latest n (xs ++ ys)
  latest_twice n xs ys =
      let a = length xs - n in
      let moved : drop a (xs ++ ys) ≡ latest n xs ++ ys = drop-append-le a xs ys (omega arith) in
      let total = length-append xs ys in
      let l = length-drop a (xs ++ ys) in
      let k : a + (length (drop a (xs ++ ys)) - n) ≡ length (xs ++ ys) - n = omega (arith, l, total) in
      ap (latest n) (sym moved) ∙ drop-drop (length (drop a (xs ++ ys)) - n) a (xs ++ ys)
      ∙ ap (λ i. drop i (xs ++ ys)) k

module _ {S : Type 0} {step : S → Letter → S → Type 0} where
  pub same_room : {a b : TracedState S} {word : List Letter} → KeepsItsRoom step a b word
  same_room run = run_leaves (λ s. s.room) (λ s t l h. h.room) run

  pub total : {a b : TracedState S} {word : List Letter} → CountsAccesses step a b word
  total run = counted (λ s. s.total) (λ s t l h. h.total) run

  -- one access keeps the entries within the room
  kept_within : (old new : TracedState S) (l : Letter) → IsTracedAccess step old l new → length new.entries ≤ new.room
  kept_within old new l h = let few = length_latest old.room (old.entries ++ entry_of l ∷ []) in omega (arith, few, ap length h.entries, h.room)

  pub bound : {a b : TracedState S} {word : List Letter} → StaysWithinRoom step a b word
  bound {b} run le = subst (λ n. length b.entries ≤ n) (same_room run) (run_keeps (λ s. length s.entries ≤ s.room) (λ s t l h few. kept_within s t l h) run le)

  pub latest_entries : {a b : TracedState S} {word : List Letter} → KeepsLatest step a b word
  latest_entries (done {s}) le = sym (ap (latest s.room) (append-nil s.entries) ∙ latest_all s.room s.entries le)
  latest_entries (next {old} {mid} {letter} {word} h run) le =
      latest_entries run (kept_within old mid letter h)
      ∙ ap (λ n. latest n (mid.entries ++ map entry_of word)) h.room
      ∙ ap (λ xs. latest old.room (xs ++ map entry_of word)) h.entries
      ∙ latest_twice old.room (old.entries ++ entry_of letter ∷ []) (map entry_of word)
      ∙ ap (latest old.room) (append_assoc old.entries (entry_of letter ∷ []) (map entry_of word))

  pub from_none : {a b : TracedState S} {word : List Letter} → KeepsItsLatest step a b word
  from_none {a} {word} run none =
      let few : length a.entries ≤ a.room = omega (arith, ap length none) in
      latest_entries run few ∙ ap (λ xs. latest a.room (xs ++ map entry_of word)) none
