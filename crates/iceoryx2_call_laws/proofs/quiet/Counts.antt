-- How often each node has opened a service, after a call.
use Rattle.std.proofs.Common.{◌≡◌, ◌≢◌, ℕ, ◌+◌, ◌-◌, true, false, cond, Some, None, refl, ap, ◌∙◌, arith}
use Rattle.std.specs.Prelude.{nat_lt, unwrap_or}
use Rattle.std.specs.FinMap as map
use Rattle.std.specs.FinMap.{get-insert, get-remove}
use Rattle.std.specs.Ordering.{nat_cmp}
use Rattle.std.proofs.lemmas.Cmp.{nat_cmp_total}
use Rattle.iceoryx2_call_laws.specs.Quiet.{NodeCounts}
use Rattle.iceoryx2_call_laws.specs.QuietCalls.{first_counts, more_counts, fewer_counts}
use Rattle.iceoryx2_call_laws.proofs.quiet.Lift.{own_number, number_apart}

pub get_first_own : (i : ℕ) → map.get (first_counts i) i ≡ Some 1
get_first_own i = get-insert nat_cmp_total map.empty i 1 i ∙ ap (λ b. cond b (Some 1) (map.get (map.empty {R = nat_cmp}) i)) (own_number i)

pub get_first_other : (i j : ℕ) → j ≢ i → map.get (first_counts i) j ≡ None
get_first_other i j other = get-insert nat_cmp_total map.empty i 1 j ∙ ap (λ b. cond b (Some 1) (map.get (map.empty {R = nat_cmp}) j)) (number_apart j i other) ∙ map.get-empty nat_cmp j

pub len_first : (i : ℕ) → map.len (first_counts i) ≡ 1
len_first i = map.len-insert nat_cmp_total map.empty i 1 ∙ grind (arith, map.len-empty nat_cmp ℕ, map.get-empty {X = ℕ} nat_cmp i)

module _ (m : NodeCounts) (i : ℕ) where
  pub get_more_own : map.get (more_counts m i) i ≡ Some (unwrap_or (map.get m i) 0 + 1)
  get_more_own = get-insert nat_cmp_total m i (unwrap_or (map.get m i) 0 + 1) i ∙ ap (λ b. cond b (Some (unwrap_or (map.get m i) 0 + 1)) (map.get m i)) (own_number i)

  pub get_more_other : (j : ℕ) → j ≢ i → map.get (more_counts m i) j ≡ map.get m j
  get_more_other j other = get-insert nat_cmp_total m i (unwrap_or (map.get m i) 0 + 1) j ∙ ap (λ b. cond b (Some (unwrap_or (map.get m i) 0 + 1)) (map.get m j)) (number_apart j i other)

  pub len_more_new : map.get m i ≡ None → map.len (more_counts m i) ≡ map.len m + 1
  len_more_new e = map.len-insert nat_cmp_total m i (unwrap_or (map.get m i) 0 + 1) ∙ rw e refl

  pub len_more_old : (k : ℕ) → map.get m i ≡ Some k → map.len (more_counts m i) ≡ map.len m
  len_more_old k e = map.len-insert nat_cmp_total m i (unwrap_or (map.get m i) 0 + 1) ∙ rw e refl

  -- one of several goes
  pub get_fewer_own : (k : ℕ) → nat_lt 1 k ≡ true → map.get (fewer_counts m i k) i ≡ Some (k - 1)
  get_fewer_own k e = ap (λ b. map.get (cond b (map.insert m i (k - 1)) (map.remove m i)) i) e ∙ get-insert nat_cmp_total m i (k - 1) i ∙ ap (λ b. cond b (Some (k - 1)) (map.get m i)) (own_number i)

  pub len_fewer_same : (k : ℕ) → nat_lt 1 k ≡ true → map.get m i ≡ Some k → map.len (fewer_counts m i k) ≡ map.len m
  len_fewer_same k e is = ap (λ b. map.len (cond b (map.insert m i (k - 1)) (map.remove m i))) e ∙ map.len-insert nat_cmp_total m i (k - 1) ∙ rw is refl

  -- the last one goes
  pub get_fewer_none : (k : ℕ) → nat_lt 1 k ≡ false → map.get (fewer_counts m i k) i ≡ None
  get_fewer_none k e = ap (λ b. map.get (cond b (map.insert m i (k - 1)) (map.remove m i)) i) e ∙ get-remove nat_cmp_total m i i ∙ ap (λ b. cond b None (map.get m i)) (own_number i)

  pub len_fewer_less : (k : ℕ) → nat_lt 1 k ≡ false → map.get m i ≡ Some k → map.len (fewer_counts m i k) ≡ map.len m - 1
  len_fewer_less k e is = ap (λ b. map.len (cond b (map.insert m i (k - 1)) (map.remove m i))) e ∙ map.len-remove nat_cmp_total m i ∙ rw is refl

  pub get_fewer_other : (k j : ℕ) → j ≢ i → map.get (fewer_counts m i k) j ≡ map.get m j
  get_fewer_other k j other = elim (nat_lt 1 k) as (λ b. map.get (cond b (map.insert m i (k - 1)) (map.remove m i)) j ≡ map.get m j) [
    | true ↦ get-insert nat_cmp_total m i (k - 1) j ∙ ap (λ b. cond b (Some (k - 1)) (map.get m j)) (number_apart j i other)
    | false ↦ get-remove nat_cmp_total m i j ∙ ap (λ b. cond b None (map.get m j)) (number_apart j i other)
  ]
