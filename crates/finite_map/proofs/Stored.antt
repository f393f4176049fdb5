-- What an edit of one chunk is, as an edit of the map.
use Rattle.std.proofs.Common.{◌≡◌, ℕ, ◌+◌, ◌-◌, ◌<◌, List, [], length, get_or, set, true, Some, None, sym, ap, subst, ◌∙◌, arith}
use Rattle.std.specs.Prelude.{Ok, Err}
use Rattle.std.specs.List.{insert, remove}
use Rattle.std.specs.FinMap as map
use Rattle.std.specs.FinMap.{is_sorted, IsAntisymmetric}
use Rattle.std.specs.declared.cmp.Ordering.{Ordering}
use Rattle.std.specs.Cmp.{IsTotalOrder}
use Rattle.std.proofs.lemmas.List.{get_or_default, get_or-set_same, length-set, take-set}
use Rattle.std.proofs.lemmas.List.Edits.{length-insert, length-remove}
use Rattle.finite_map.specs.Sorted.{Sorted}
use Rattle.finite_map.specs.Places.{place_in}
use Rattle.finite_map.proofs.Maps.{get_at, get_gap, set_at, insert_at, remove_at, remove_gap, sorted-remove, sorted_by, map_by}
use Rattle.finite_map.specs.Chunks.{flat, chunk_at, before, chunked, StandsIn, HasRoomIn, IsOpenAt, IsShaped, with_value_at}
use Rattle.finite_map.proofs.Flats.{chunk_is, there, read_at, insert_in, set_in, same_in, with_value_is}
use Rattle.finite_map.proofs.Shapes.{shaped-set}
use Rattle.finite_map.proofs.Spots.{head, ties_in, gap_in}

-- the facts that a map in chunks keeps
abbrev pub Kept : {K V : Type 0} → (K → K → Ordering) → List (Sorted K V) → ℕ → Type 0
Kept R cs n = (is_sorted R (flat cs) ≡ true) × IsShaped cs 64 × (n ≡ length (flat cs))

module _ {K V : Type 0} (R : K → K → Ordering) (o : IsTotalOrder R) (cs : List (Sorted K V)) (n : ℕ) (kept : Kept R cs n) (k : K) (i : ℕ) where
  pub got : (j : ℕ) (e : K × V) → StandsIn R cs k i (Ok j) → get_or (chunk_at cs i).entries j e ≡ e → map.get (chunked R cs) k ≡ Some e.1
  got j e stands read = get_at R o (flat cs) kept.0 k (before cs i + j) e (ties_in R o cs kept.0 k i j stands) (read_at cs i j e stands.0 ∙ read)

  -- the same of a value that was read in the chunk
  pub got_value : (j : ℕ) (b : Sorted K V) (v : V) → StandsIn R cs k i (Ok j) → get_or cs i b ≡ b → ((e : K × V) → v ≡ (get_or b.entries j e).1) → map.get (chunked R cs) k ≡ Some v
  got_value j b v stands read value =
      let es = (chunk_at cs i).entries in
      let d = head es (omega (arith, stands.0)) in
      let x = get_or es j d in
      let is = chunk_is cs i b (there cs i j stands.0) read in
      got j x stands (get_or_default es j x d stands.0)
      ∙ ap Some (ap (λ (c : Sorted K V). (get_or c.entries j d).1) is ∙ sym (value d))

  -- and of one that was read among all entries
  pub got_row : (j : ℕ) (v : V) → StandsIn R cs k i (Ok j) → ((e : K × V) → v ≡ (get_or (flat cs) (before cs i + j) e).1) → map.get (chunked R cs) k ≡ Some v
  got_row j v stands value =
      let es = (chunk_at cs i).entries in
      let d = head es (omega (arith, stands.0)) in
      let x = get_or es j d in
      got j x stands (get_or_default es j x d stands.0) ∙ ap Some (sym (value d ∙ ap (λ (y : K × V). y.1) (read_at cs i j d stands.0)))

  pub got_none : (j : ℕ) → StandsIn R cs k i (Err j) → map.get (chunked R cs) k ≡ None
  got_none j stands = get_gap R o (flat cs) kept.0 k (before cs i + j) (gap_in R o cs kept.0 k i j stands).1

  module _ (v : V) (j : ℕ) (b c : Sorted K V) (read : get_or cs i b ≡ b) where
    pub written : StandsIn R cs k i (Ok j) → c.entries ≡ with_value_at b.entries j v → (map.entries (map.insert (chunked R cs) k v) ≡ flat (set cs i c)) × (length (flat (set cs i c)) ≡ length (flat cs)) × (length c.entries ≡ length b.entries)
    written stands e =
        let m = stands.0 in
        let is = chunk_is cs i b (there cs i j m) read in
        let es = (chunk_at cs i).entries in
        let d = head es (omega (arith, m)) in
        let x = get_or es j d in
        let self : get_or es j x ≡ x = get_or_default es j x d m in
        let to : c.entries ≡ set es j (x.0, v) = e ∙ ap (λ (c : Sorted K V). with_value_at c.entries j v) (sym is) ∙ with_value_is es j v x m ∙ ap (λ (y : K × V). set es j (y.0, v)) self in
        let all = set_in cs i j (x.0, v) c m to in (
          set_at R o (flat cs) kept.0 k v (before cs i + j) x (ties_in R o cs kept.0 k i j stands) (read_at cs i j x m ∙ self) ∙ sym all,
          ap length all ∙ length-set (flat cs) (before cs i + j) (x.0, v),
          ap length to ∙ length-set es j (x.0, v) ∙ ap (λ (c : Sorted K V). length c.entries) is,
        )

    pub written_map : StandsIn R cs k i (Ok j) → c.entries ≡ with_value_at b.entries j v → chunked R (set cs i c) ≡ map.insert (chunked R cs) k v
    written_map stands e = map_by R _ _ (written stands e).0

    pub written_kept : StandsIn R cs k i (Ok j) → c.entries ≡ with_value_at b.entries j v → Kept R (set cs i c) n
    written_kept stands e =
        let of = written stands e in
        let l = there cs i j stands.0 in
        let is : length (chunk_at cs i).entries ≡ length b.entries = ap (λ (c : Sorted K V). length c.entries) (chunk_is cs i b l read) in
        let shape = kept.1 i (record { entries = []; capacity = 0 }) l in (
          sorted_by R _ _ of.0,
          shaped-set 64 cs i c kept.1 (omega (arith, of.2, is, shape.0)) (λ several. omega (arith, of.2, is, stands.0)),
          kept.2 ∙ sym of.1,
        )

    added : StandsIn R cs k i (Err j) → i < length cs → c.entries ≡ insert b.entries j (k, v) → flat (set cs i c) ≡ insert (flat cs) (before cs i + j) (k, v)
    added stands l e = insert_in cs i j (k, v) c l stands.0.1 (e ∙ ap (λ (c : Sorted K V). insert c.entries j (k, v)) (sym (chunk_is cs i b l read)))

    pub added_entries : StandsIn R cs k i (Err j) → i < length cs → c.entries ≡ insert b.entries j (k, v) → map.entries (map.insert (chunked R cs) k v) ≡ flat (set cs i c)
    added_entries stands l e =
        let gap = gap_in R o cs kept.0 k i j stands in
        insert_at R o (flat cs) kept.0 k v (before cs i + j) gap.0 gap.1 ∙ sym (added stands l e)

    pub added_map : StandsIn R cs k i (Err j) → i < length cs → c.entries ≡ insert b.entries j (k, v) → chunked R (set cs i c) ≡ map.insert (chunked R cs) k v
    added_map stands l e = map_by R _ _ (added_entries stands l e)

    pub added_kept : StandsIn R cs k i (Err j) → i < length cs → c.entries ≡ insert b.entries j (k, v) → length b.entries < 64 → Kept R (set cs i c) (n + 1)
    added_kept stands l e few =
        let gap = gap_in R o cs kept.0 k i j stands in
        let is : length (chunk_at cs i).entries ≡ length b.entries = ap (λ (c : Sorted K V). length c.entries) (chunk_is cs i b l read) in
        let more = ap length e ∙ length-insert b.entries j (k, v) (omega (arith, is, stands.0.1)) in
        let all = ap length (added stands l e) ∙ length-insert (flat cs) (before cs i + j) (k, v) gap.0 in (
          sorted_by R _ _ (added_entries stands l e),
          shaped-set 64 cs i c kept.1 (omega (arith, more, few)) (λ several. omega (arith, more)),
          omega (arith, kept.2, all),
        )

  module _ (j : ℕ) (ds : List (Sorted K V)) (e : flat ds ≡ remove (flat cs) (before cs i + j)) where
    pub removed_map : StandsIn R cs k i (Ok j) → IsAntisymmetric R → chunked R ds ≡ map.remove (chunked R cs) k
    removed_map stands same =
        let d = head (chunk_at cs i).entries (omega (arith, stands.0)) in
        ap (λ (l : List (K × V)). map.from_sorted {R = R} l) e ∙ remove_at R o (flat cs) kept.0 same k (before cs i + j) d (ties_in R o cs kept.0 k i j stands)

    pub removed_kept : StandsIn R cs k i (Ok j) → IsShaped ds 64 → Kept R ds (n - 1)
    removed_kept stands shaped =
        let d = head (chunk_at cs i).entries (omega (arith, stands.0)) in
        let ties = ties_in R o cs kept.0 k i j stands in
        let fewer = length-remove (flat cs) (before cs i + j) ties.0 in
        let all = ap length e in (
          ap (λ (l : List (K × V)). is_sorted R l) e ∙ sorted-remove R o (flat cs) kept.0 k (before cs i + j) d ties,
          shaped,
          omega (arith, kept.2, fewer, all),
        )

  pub not_removed : (j : ℕ) → StandsIn R cs k i (Err j) → IsAntisymmetric R → chunked R cs ≡ map.remove (chunked R cs) k
  not_removed j stands same = remove_gap R o (flat cs) kept.0 same k (before cs i + j) (gap_in R o cs kept.0 k i j stands).1

-- chunks with the same entries in a row, of which one was given room
module _ {K V : Type 0} (R : K → K → Ordering) (cs ds : List (Sorted K V)) (same : flat ds ≡ flat cs) (i j : ℕ) (free : IsOpenAt ds i j 64) (b c : Sorted K V) (read : get_or ds i b ≡ b) (e : c.entries ≡ b.entries) where
  is : chunk_at ds i ≡ b
  is = chunk_is ds i b free.0 read

  new : chunk_at (set ds i c) i ≡ c
  new = get_or-set_same ds i c _ free.0

  length_is : length c.entries ≡ length (chunk_at ds i).entries
  length_is = ap length e ∙ ap (λ (x : Sorted K V). length x.entries) (sym is)

  roomy-flat : flat (set ds i c) ≡ flat cs
  roomy-flat = same_in ds i c free.0 (e ∙ ap (λ (x : Sorted K V). x.entries) (sym is)) ∙ same

  pub roomy_map : chunked R (set ds i c) ≡ chunked R cs
  roomy_map = ap (λ (es : List (K × V)). map.from_sorted {R = R} es) roomy-flat

  pub roomy_kept : (n : ℕ) → Kept R cs n → IsShaped ds 64 → Kept R (set ds i c) n
  roomy_kept n kept shaped =
      let m = length_is in
      let shape = shaped i (record { entries = []; capacity = 0 }) free.0 in (
        ap (λ (es : List (K × V)). is_sorted R es) roomy-flat ∙ kept.0,
        shaped-set 64 ds i c shaped (omega (arith, m, shape.0)) (λ several. let some = shape.1 several in omega (arith, m, some)),
        kept.2 ∙ ap length (sym roomy-flat),
      )

  pub roomy_stands : (k : K) (i₀ j₀ : ℕ) → StandsIn R cs k i₀ (Err j₀) → before ds i + j ≡ before cs i₀ + j₀ → StandsIn R (set ds i c) k i (Err j)
  roomy_stands k i₀ j₀ stands at =
      let n = length-set ds i c in
      let m = length_is in
      let x = ap (λ (x : Sorted K V). length x.entries) new in
      let row = ap (λ (fs : List (Sorted K V)). length (flat fs)) (take-set ds i c) in
      let here : before (set ds i c) i + j ≡ before cs i₀ + j₀ = omega (arith, row, at) in (
        (omega (arith, n, free.0), omega (arith, m, x, free.1)),
        ap Err here ∙ stands.1 ∙ ap (λ (m : map.FinMap R V). place_in m k) (sym roomy_map),
      )

  pub roomy : length c.entries < c.capacity → HasRoomIn (set ds i c) i 64
  roomy room =
      let m = length_is in (
        subst (λ (x : Sorted K V). length x.entries < x.capacity) (sym new) room,
        subst (λ (x : Sorted K V). length x.entries < 64) (sym new) (omega (arith, m, free.2)),
      )

  pub roomy-length : length (flat (set ds i c)) ≡ length (flat cs)
  roomy-length = ap length roomy-flat
