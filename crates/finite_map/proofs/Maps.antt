-- What edits of the entries are, as edits of the map that they stand for.
use Rattle.std.proofs.Common.{◌≡◌, ℕ, ◌<◌, ◌≤◌, Bool, true, false, not, cond, List, [], length, get_or, set, Option, Some, None, refl, sym, ap, subst, ◌∙◌}
use Rattle.std.specs.Prelude.{T}
use Rattle.std.specs.List.{insert, remove}
use Rattle.std.specs.FinMap as map
use Rattle.std.specs.FinMap.{is_sorted, get-from_sorted, entries-from_sorted, entries-insert, same_entries_map, same_map, IsAntisymmetric, get-remove, get-insert}
use Rattle.std.specs.FinMap.Entries.{put, where_key, is_sorted-where_key, find-where_key}
use Rattle.std.specs.Ordering.{eq_by_cmp, is_eq}
use Rattle.std.specs.declared.cmp.Ordering.{Ordering}
use Rattle.std.specs.Cmp.{IsTotalOrder, alike_right, eq_by_cmp_equiv, Equal-is}
use Rattle.finite_map.specs.Places.{Gap, TiesAt}
use Rattle.finite_map.specs.Sorted.{Sorted, map_of, with_value}
use Rattle.finite_map.proofs.Edits.{true_T, T_true, find_at, find_gap, put_at, put_gap, without_at, without_gap}

pub from_nil : {K V : Type 0} (R : K → K → Ordering) → ◌≡◌ {A = map.FinMap R V} (map.from_sorted []) map.empty
from_nil {K} {V} R = map.empty_of_len (map.from_sorted {R = R} nothing) (map.len-entries (map.from_sorted {R = R} nothing) ∙ ap length (entries-from_sorted R nothing tt))
  where
    nothing : List (K × V)
    nothing = []

turned : {A : Type 0} (b c : Bool) → b ≡ c → (x y : Option A) → x ≡ y → cond (not b) x None ≡ cond c None y
turned b c e x y f = rw (e, f) (elim c as (λ z. cond (not z) y None ≡ cond z None y) [ true ↦ refl | false ↦ refl ])

module _ {K V : Type 0} (R : K → K → Ordering) where
  -- what was written through a `get_mut` is what `insert` puts there
  pub map_of_written : (s : Sorted K V) (key : K) (value : V) → map_of R (with_value R s key value) ≡ map.insert (map_of R s) key value
  map_of_written s key value =
      let m = map.insert (map_of R s) key value in
      same_entries_map _ _ (entries-from_sorted R (map.entries m) (map.entries_sorted m))

module _ {K V : Type 0} (R : K → K → Ordering) (o : IsTotalOrder R) (es : List (K × V)) (s : is_sorted R es ≡ true) where
  pub entries_are : map.entries (map.from_sorted {R = R} es) ≡ es
  entries_are = entries-from_sorted R es (true_T s)

  pub len_is : map.len (map.from_sorted {R = R} es) ≡ length es
  len_is = map.len-entries _ ∙ ap length entries_are

  -- the value at the key's place
  pub get_at : (k : K) (at : ℕ) (e : K × V) → TiesAt R k es at → get_or es at e ≡ e → map.get (map.from_sorted {R = R} es) k ≡ Some e.1
  get_at k at e there read = get-from_sorted R es k (true_T s) ∙ find_at R o k es (true_T s) at e there.0 (there.1 e) ∙ ap (λ x. Some x.1) read

  pub get_gap : (k : K) (at : ℕ) → Gap R k es at → map.get (map.from_sorted {R = R} es) k ≡ None
  get_gap k at gap = get-from_sorted R es k (true_T s) ∙ find_gap R o k es at gap

  put_is : (k : K) (v : V) → map.entries (map.insert (map.from_sorted {R = R} es) k v) ≡ put R k v es
  put_is k v = entries-insert o (map.from_sorted es) k v ∙ ap (put R k v) entries_are

  -- the value of a key that is there is written in place
  pub set_at : (k : K) (v : V) (at : ℕ) (e : K × V) → TiesAt R k es at → get_or es at e ≡ e → map.entries (map.insert (map.from_sorted {R = R} es) k v) ≡ set es at (e.0, v)
  set_at k v at e there read = put_is k v ∙ put_at R o k v es (true_T s) at e there.0 (there.1 e) ∙ ap (λ x. set es at (x.0, v)) read

  -- a key that is absent goes to its place
  pub insert_at : (k : K) (v : V) (at : ℕ) → at ≤ length es → Gap R k es at → map.entries (map.insert (map.from_sorted {R = R} es) k v) ≡ insert es at (k, v)
  insert_at k v at within gap = put_is k v ∙ put_gap R o k v es at within gap

  -- there is room for a key at its gap
  pub room_at : (n : ℕ) (k : K) (at : ℕ) → Gap R k es at → (map.get (map.from_sorted {R = R} es) k ≡ None → map.len (map.from_sorted {R = R} es) < n) → length es < n
  room_at n k at gap room = rw len_is at (room (get_gap k at gap))

  -- the value with these entries
  pub with_value_is : (k : K) (v : V) (n : ℕ) (fs : List (K × V)) → map.entries (map.insert (map.from_sorted {R = R} es) k v) ≡ fs → ◌≡◌ {A = Sorted K V} (record { entries = fs; capacity = n }) (with_value R (record { entries = es; capacity = n }) k v)
  with_value_is k v n fs e = λ i. record { entries = sym e i; capacity = n }

  without : K → List (K × V)
  without k = where_key R (λ x. not (eq_by_cmp R k x)) es

  without_is : IsAntisymmetric R → (k : K) → map.from_sorted {R = R} (without k) ≡ map.remove (map.from_sorted es) k
  unfolding without
  without_is same k = same_map o same _ _ (λ q.
      get-from_sorted R (without k) q (is_sorted-where_key R _ es (true_T s))
      ∙ find-where_key R (λ x. not (eq_by_cmp R k x)) q (λ x t. ap (λ r. not (is_eq r)) (sym (alike_right o q x k t))) es
      ∙ turned (eq_by_cmp R k q) (eq_by_cmp R q k) ((eq_by_cmp_equiv o).symm k q) _ _ (sym (get-from_sorted R es q (true_T s)))
      ∙ sym (get-remove o (map.from_sorted es) k q))

  pub remove_at : IsAntisymmetric R → (k : K) (at : ℕ) (e : K × V) → TiesAt R k es at → map.from_sorted {R = R} (remove es at) ≡ map.remove (map.from_sorted es) k
  unfolding without
  remove_at same k at e there = ap (λ l. map.from_sorted {R = R} l) (sym (without_at R o k es (true_T s) at e there.0 (there.1 e))) ∙ without_is same k

  pub remove_gap : IsAntisymmetric R → (k : K) (at : ℕ) → Gap R k es at → map.from_sorted {R = R} es ≡ map.remove (map.from_sorted es) k
  unfolding without
  remove_gap same k at gap = ap (λ l. map.from_sorted {R = R} l) (sym (without_gap R o k es at gap)) ∙ without_is same k

  pub sorted-remove : (k : K) (at : ℕ) (e : K × V) → TiesAt R k es at → is_sorted R (remove es at) ≡ true
  sorted-remove k at e there = T_true _ (subst (λ l. T (is_sorted R l)) (without_at R o k es (true_T s) at e there.0 (there.1 e)) (is_sorted-where_key R _ es (true_T s)))

-- a list that has a map's entries is in order, and is that map
module _ {K V : Type 0} (R : K → K → Ordering) (m : map.FinMap R V) (es : List (K × V)) (e : map.entries m ≡ es) where
  pub sorted_by : is_sorted R es ≡ true
  sorted_by = T_true _ (subst (λ l. T (is_sorted R l)) e (map.entries_sorted m))

  pub map_by : map.from_sorted {R = R} es ≡ m
  map_by = same_entries_map _ _ (entries-from_sorted R es (true_T sorted_by) ∙ sym e)

-- to put a value where it stands changes nothing, and so a `&mut` through which nothing is written
pub insert_same : {K V : Type 0} {R : K → K → Ordering} → IsTotalOrder R → IsAntisymmetric R → (m : map.FinMap R V) (k : K) (v : V) → map.get m k ≡ Some v → map.insert m k v ≡ m
insert_same {R = R} o same m k v there = same_map o same _ _ (λ q. get-insert o m k v q
    ∙ elim (eq_by_cmp R q k) as (λ b. eq_by_cmp R q k ≡ b → cond b (Some v) (map.get m q) ≡ map.get m q) [
      | true ↦ λ e. sym there ∙ ap (λ x. map.get m x) (sym (same q k ((Equal-is (R q k)).0 e)))
      | false ↦ λ e. refl
    ] refl)
