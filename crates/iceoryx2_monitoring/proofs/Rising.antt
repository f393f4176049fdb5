-- Statuses by rising number.
use Rattle.std.proofs.Common.{◌≡◌, ℕ, ◌+◌, ◌-◌, ◌<◌, ◌≤◌, inl, inr, List, length, get_or, Result, Ok, Err, sym, ap, ◌∙◌, subst, arith}
use Rattle.std.specs.Prelude.{IfErr}
use Rattle.std.specs.List.{insert}
use Rattle.std.specs.List.Sorted.{IsSortedBy, IsSearchInRange, IsBinarySearchResult}
use Rattle.std.specs.Ordering.{is_lt, nat_cmp}
use Rattle.std.specs.declared.cmp.Ordering.TheVariants.{Less, Greater}
use Rattle.std.proofs.lemmas.Bool.{cases_order}
use Rattle.std.proofs.lemmas.Bool.Decides.{nat_tests}
use Rattle.std.proofs.lemmas.Cmp.{ranked, nat_cmp_total}
use Rattle.std.proofs.lemmas.List.Edits.{length-insert, get_or-insert_below, get_or-insert_at, get_or-insert_above}
use Rattle.std.proofs.lemmas.List.Sorted.{searchable_from_sorted}
use Rattle.iceoryx2_monitoring.specs.declared.state.NodeStatus.{NodeStatus}
use Rattle.iceoryx2_monitoring.specs.States.{IsRising, IsPlaceOf}

sorted : (found : List NodeStatus) → IsRising found
    → IsSortedBy (λ a b. is_lt (nat_cmp a.node b.node)) found
sorted found rising k other from within =
    let up = rising k (k + 1) other (omega arith) within in
    grind (arith, nat_tests, up)

-- where a search by number ends
pub searched : (found : List NodeStatus) (node : ℕ) (r : Result ℕ ℕ) → IsRising found
    → IsSearchInRange r (length found) → IsBinarySearchResult (λ s. nat_cmp s.node node) found r
    → IfErr r (IsPlaceOf node found)
searched found node (Ok at) rising within parted = tt
searched found node (Err at) rising within parted =
    let parts = parted (searchable_from_sorted nat_cmp_total (λ s. s.node) found node (sorted found rising)) in
    record {
      within = within;
      before = λ k other less. ranked (get_or found k other).node node Less (sym (parts.0 k other (omega arith) less));
      after = λ k other from less. ranked (get_or found k other).node node Greater (sym (parts.1 k other from less));
    }

less_along : (x y a b : NodeStatus) → x ≡ a → y ≡ b → a.node < b.node → x.node < y.node
less_along x y a b e f less =
    subst (λ (s : NodeStatus). s.node < y.node) (sym e) (subst (λ (s : NodeStatus). a.node < s.node) (sym f) less)

module _ (found : List NodeStatus) (at : ℕ) (status : NodeStatus) (within : at ≤ length found) where
  behind : (k : ℕ) (other : NodeStatus) → at < k → get_or (insert found at status) k other ≡ get_or found (k - 1) other
  behind k other l =
      ap (λ n. get_or (insert found at status) n other) {x = k} {y = (k - 1) + 1} (omega arith)
      ∙ get_or-insert_above found at status other (k - 1) (omega arith) within

  before : (k : ℕ) (other : NodeStatus) → k < at → get_or (insert found at status) k other ≡ get_or found k other
  before k other l = get_or-insert_below found at status other k l within

  here : (k : ℕ) (other : NodeStatus) → k ≡ at → get_or (insert found at status) k other ≡ status
  here k other e = ap (λ n. get_or (insert found at status) n other) e ∙ get_or-insert_at found at status other within

-- with a status in its place
pub still_rising : (found : List NodeStatus) (at : ℕ) (status : NodeStatus) → IsRising found
    → IsPlaceOf status.node found at → IsRising (insert found at status)
still_rising found at status rising place i j other less within =
    let w = place.within in
    let short : j < length found + 1 = omega (arith, within, length-insert found at status w) in
    elim (cases_order i at) [
      | inl i_here ↦ less_along _ _ _ _ (here found at status w i other i_here) (behind found at status w j other (omega arith))
          (place.after (j - 1) other (omega arith) (omega arith))
      | inr i_apart ↦ elim i_apart [
        | inl i_before ↦ elim (cases_order j at) [
          | inl j_here ↦ less_along _ _ _ _ (before found at status w i other i_before) (here found at status w j other j_here)
              (place.before i other i_before)
          | inr j_apart ↦ elim j_apart [
            | inl j_before ↦ less_along _ _ _ _ (before found at status w i other i_before) (before found at status w j other j_before)
                (rising i j other less (omega arith))
            | inr j_behind ↦ less_along _ _ _ _ (before found at status w i other i_before) (behind found at status w j other j_behind)
                (rising i (j - 1) other (omega arith) (omega arith))
          ]
        ]
        | inr i_behind ↦ less_along _ _ _ _ (behind found at status w i other i_behind) (behind found at status w j other (omega arith))
            (rising (i - 1) (j - 1) other (omega arith) (omega arith))
      ]
    ]
