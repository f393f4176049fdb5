-- What of a list is taken, and what is unread.
use Rattle.std.proofs.Common.{◌≡◌, ℕ, zero, suc, ◌+◌, ◌<◌, ◌≤◌, Bool, true, false, List, [], ◌∷◌, length, take, drop, refl, ap, ◌∙◌, arith}
use Rattle.iceoryx2_log.specs.declared.entry.Entry.{Entry}
use Rattle.iceoryx2_log.specs.Log.{Contents, accepted}
use Rattle.iceoryx2_log.specs.Memory.{LogState, accepted_where, none_unread}

pub some_unread : (n : ℕ) (xs : List Entry) → n < length xs → none_unread (drop n xs) ≡ false
some_unread zero [] lt = absurd (omega arith)
some_unread (suc n) [] lt = absurd (omega arith)
some_unread zero (x ∷ xs) lt = refl
some_unread (suc n) (x ∷ xs) lt = some_unread n xs (omega arith)

pub all_read : (n : ℕ) (xs : List Entry) → length xs ≤ n → none_unread (drop n xs) ≡ true
all_read zero [] le = refl
all_read (suc n) [] le = refl
all_read zero (x ∷ xs) le = absurd (omega arith)
all_read (suc n) (x ∷ xs) le = all_read n xs (omega arith)

abbrev pub split_at : ℕ → List Entry → Contents
split_at n xs = record { begins = 0; taken = take n xs; unread = drop n xs }

abbrev behind : Entry → Contents → Contents
behind x c = record c { taken = x ∷ c.taken }

accepted_behind : (x : Entry) (taken unread : List Entry) → behind x (accepted 0 taken unread) ≡ accepted 0 (x ∷ taken) unread
accepted_behind x taken [] = refl
accepted_behind x taken (e ∷ unread) = refl

accepted_suc : (n : ℕ) (xs : List Entry) → n < length xs → split_at (suc n) xs ≡ accepted 0 (take n xs) (drop n xs)
accepted_suc zero [] lt = absurd (omega arith)
accepted_suc (suc n) [] lt = absurd (omega arith)
accepted_suc zero (x ∷ xs) lt = refl
accepted_suc (suc n) (x ∷ xs) lt = ap (behind x) (accepted_suc n xs (omega arith)) ∙ accepted_behind x (take n xs) (drop n xs)

pub accepted_one : (n : ℕ) (xs : List Entry) → n < length xs → split_at (n + 1) xs ≡ accepted 0 (take n xs) (drop n xs)
accepted_one n xs lt =
    let next : n + 1 ≡ suc n = omega arith in
    ap (λ (k : ℕ). split_at k xs) next ∙ accepted_suc n xs lt

-- with other contents, nothing shown, and all else the same
abbrev pub with_contents : LogState → Contents → LogState
with_contents s c = record s { contents = c; shown = false }

abbrev pub with_accepted : Bool → LogState → LogState
with_accepted shown s = with_contents s (accepted_where shown s)
