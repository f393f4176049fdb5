-- What an edit of one piece is, as an edit of the map, and that it keeps what is always true of the pieces.
use Rattle.std.proofs.Common.{◌≡◌, ℕ, zero, suc, ◌+◌, ◌-◌, ◌<◌, ◌≤◌, List, [], ◌∷◌, length, get_or, set, Some, None, sym, ap, subst, ◌∙◌, arith, length-append}
use Rattle.std.specs.Prelude.{Ok, Err}
use Rattle.std.specs.List.{insert, remove}
use Rattle.std.specs.FinMap as map
use Rattle.std.specs.FinMap.{is_sorted, IsAntisymmetric}
use Rattle.std.specs.declared.cmp.Ordering.{Ordering}
use Rattle.std.specs.Cmp.{IsTotalOrder}
use Rattle.std.proofs.lemmas.List.{get_or_default, length-set}
use Rattle.std.proofs.lemmas.List.Edits.{length-insert, length-remove}
use Rattle.finite_map.specs.Sorted.{Sorted}
use Rattle.finite_map.specs.Chunks.{flat, chunk_at, before, chunked, StandsIn, IsShaped, with_value_at}
use Rattle.finite_map.proofs.Maps.{get_at, get_gap, set_at, insert_at, remove_at, remove_gap, sorted-remove, sorted_by, map_by, from_nil}
use Rattle.finite_map.proofs.Flats.{there, read_at, insert_in, set_in, remove_in, with_value_is}
use Rattle.finite_map.proofs.Shapes.{shaped-set}
use Rattle.finite_map.proofs.Spots.{head, ties_in, gap_in}
use Rattle.sorted_vec.specs.Sorted.{IsKept}
use Rattle.sorted_vec.specs.Pieces.{OnlyAt}

-- no entries
pub none_kept : {K V : Type 0} (R : K → K → Ordering) (cs : List (Sorted K V)) (most : ℕ) → flat cs ≡ [] → length cs ≡ 1 → 2 ≤ most → IsKept R cs most 0
none_kept {K} {V} R cs most none one parts = record {
  sorted = ap (λ (es : List (K × V)). is_sorted R es) none;
  shaped = λ k d l. (few cs (ap length none) k d l, λ several. absurd (omega (arith, one, several)));
  counted = sym (ap length none);
  some = omega (arith, one);
  parts = parts;
}
  where
    few : (cs : List (Sorted K V)) → length (flat cs) ≡ 0 → (k : ℕ) (d : Sorted K V) → k < length cs → length (get_or cs k d).entries ≤ most
    few [] none k d l = absurd (omega arith)
    few (c ∷ cs) none zero d l = let all = length-append c.entries (flat cs) in omega (arith, all, none)
    few (c ∷ cs) none (suc k) d l = let all = length-append c.entries (flat cs) in few cs (omega (arith, all, none)) k d (omega arith)

pub none_map : {K V : Type 0} (R : K → K → Ordering) (cs : List (Sorted K V)) → flat cs ≡ [] → chunked R cs ≡ map.empty
none_map {K} {V} R cs none = ap (λ (es : List (K × V)). map.from_sorted {R = R} es) none ∙ from_nil R

module _ {K V : Type 0} (R : K → K → Ordering) (o : IsTotalOrder R) (cs : List (Sorted K V)) (most n : ℕ) (kept : IsKept R cs most n) (k : K) (i : ℕ) where
  pub got : (j : ℕ) (e : K × V) → StandsIn R cs k i (Ok j) → get_or (chunk_at cs i).entries j e ≡ e → map.get (chunked R cs) k ≡ Some e.1
  got j e stands read = get_at R o (flat cs) kept.sorted k (before cs i + j) e (ties_in R o cs kept.sorted k i j stands) (read_at cs i j e stands.0 ∙ read)

  -- the same of a value
  pub got_value : (j : ℕ) (v : V) → StandsIn R cs k i (Ok j) → ((e : K × V) → v ≡ (get_or (chunk_at cs i).entries j e).1) → map.get (chunked R cs) k ≡ Some v
  got_value j v stands value =
      let es = (chunk_at cs i).entries in
      let d = head es (omega (arith, stands.0)) in
      let x = get_or es j d in
      got j x stands (get_or_default es j x d stands.0) ∙ ap Some (sym (value d))

  pub got_none : (j : ℕ) → StandsIn R cs k i (Err j) → map.get (chunked R cs) k ≡ None
  got_none j stands = get_gap R o (flat cs) kept.sorted k (before cs i + j) (gap_in R o cs kept.sorted k i j stands).1

  module _ (j : ℕ) (ds : List (Sorted K V)) (only : OnlyAt cs i ds) where
    moved-flat : flat ds ≡ flat (set cs i (chunk_at ds i))
    moved-flat = ap flat only

    moved-shaped : IsShaped (set cs i (chunk_at ds i)) most → IsShaped ds most
    moved-shaped shaped = subst (λ (es : List (Sorted K V)). IsShaped es most) (sym only) shaped

    moved-some : 0 < length ds
    moved-some = let same = ap length only ∙ length-set cs i (chunk_at ds i) in let l = kept.some in omega (arith, same, l)

    module _ (v : V) where
      written : StandsIn R cs k i (Ok j) → (chunk_at ds i).entries ≡ with_value_at (chunk_at cs i).entries j v
          → (map.entries (map.insert (chunked R cs) k v) ≡ flat ds) × (length (flat ds) ≡ length (flat cs)) × (length (chunk_at ds i).entries ≡ length (chunk_at cs i).entries)
      written stands e =
          let m = stands.0 in
          let es = (chunk_at cs i).entries in
          let d = head es (omega (arith, m)) in
          let x = get_or es j d in
          let self : get_or es j x ≡ x = get_or_default es j x d m in
          let to : (chunk_at ds i).entries ≡ set es j (x.0, v) = e ∙ with_value_is es j v x m ∙ ap (λ (y : K × V). set es j (y.0, v)) self in
          let all = moved-flat ∙ set_in cs i j (x.0, v) (chunk_at ds i) m to in (
            set_at R o (flat cs) kept.sorted k v (before cs i + j) x (ties_in R o cs kept.sorted k i j stands) (read_at cs i j x m ∙ self) ∙ sym all,
            ap length all ∙ length-set (flat cs) (before cs i + j) (x.0, v),
            ap length to ∙ length-set es j (x.0, v),
          )

      pub written_map : StandsIn R cs k i (Ok j) → (chunk_at ds i).entries ≡ with_value_at (chunk_at cs i).entries j v → chunked R ds ≡ map.insert (chunked R cs) k v
      written_map stands e = map_by R _ _ (written stands e).0

      pub written_kept : StandsIn R cs k i (Ok j) → (chunk_at ds i).entries ≡ with_value_at (chunk_at cs i).entries j v → IsKept R ds most n
      written_kept stands e =
          let of = written stands e in
          let l = there cs i j stands.0 in
          let shape = kept.shaped i (record { entries = []; capacity = 0 }) l in
          record {
            sorted = sorted_by R _ _ of.0;
            shaped = moved-shaped (shaped-set most cs i (chunk_at ds i) kept.shaped (omega (arith, of.2, shape.0)) (λ several. omega (arith, of.2, stands.0)));
            counted = kept.counted ∙ sym of.1;
            some = moved-some;
            parts = kept.parts;
          }

      added : StandsIn R cs k i (Err j) → i < length cs → (chunk_at ds i).entries ≡ insert (chunk_at cs i).entries j (k, v) → flat ds ≡ insert (flat cs) (before cs i + j) (k, v)
      added stands l e = moved-flat ∙ insert_in cs i j (k, v) (chunk_at ds i) l stands.0.1 e

      added_entries : StandsIn R cs k i (Err j) → i < length cs → (chunk_at ds i).entries ≡ insert (chunk_at cs i).entries j (k, v) → map.entries (map.insert (chunked R cs) k v) ≡ flat ds
      added_entries stands l e =
          let gap = gap_in R o cs kept.sorted k i j stands in
          insert_at R o (flat cs) kept.sorted k v (before cs i + j) gap.0 gap.1 ∙ sym (added stands l e)

      pub added_map : StandsIn R cs k i (Err j) → i < length cs → (chunk_at ds i).entries ≡ insert (chunk_at cs i).entries j (k, v) → chunked R ds ≡ map.insert (chunked R cs) k v
      added_map stands l e = map_by R _ _ (added_entries stands l e)

      pub added_kept : StandsIn R cs k i (Err j) → i < length cs → (chunk_at ds i).entries ≡ insert (chunk_at cs i).entries j (k, v) → length (chunk_at cs i).entries < most → IsKept R ds most (n + 1)
      added_kept stands l e few =
          let gap = gap_in R o cs kept.sorted k i j stands in
          let more = ap length e ∙ length-insert (chunk_at cs i).entries j (k, v) stands.0.1 in
          let all = ap length (added stands l e) ∙ length-insert (flat cs) (before cs i + j) (k, v) gap.0 in
          let counted = kept.counted in
          record {
            sorted = sorted_by R _ _ (added_entries stands l e);
            shaped = moved-shaped (shaped-set most cs i (chunk_at ds i) kept.shaped (omega (arith, more, few)) (λ several. omega (arith, more)));
            counted = omega (arith, counted, all);
            some = moved-some;
            parts = kept.parts;
          }

    -- an entry that was taken out of its piece
    pub taken : j < length (chunk_at cs i).entries → (chunk_at ds i).entries ≡ remove (chunk_at cs i).entries j → flat ds ≡ remove (flat cs) (before cs i + j)
    taken m e = moved-flat ∙ remove_in cs i j (chunk_at ds i) m e

  module _ (j : ℕ) (ds : List (Sorted K V)) (e : flat ds ≡ remove (flat cs) (before cs i + j)) where
    pub removed_map : StandsIn R cs k i (Ok j) → IsAntisymmetric R → chunked R ds ≡ map.remove (chunked R cs) k
    removed_map stands same =
        let d = head (chunk_at cs i).entries (omega (arith, stands.0)) in
        ap (λ (l : List (K × V)). map.from_sorted {R = R} l) e ∙ remove_at R o (flat cs) kept.sorted same k (before cs i + j) d (ties_in R o cs kept.sorted k i j stands)

    pub removed_kept : StandsIn R cs k i (Ok j) → IsShaped ds most → 0 < length ds → IsKept R ds most (n - 1)
    removed_kept stands shaped some =
        let d = head (chunk_at cs i).entries (omega (arith, stands.0)) in
        let ties = ties_in R o cs kept.sorted k i j stands in
        let fewer = length-remove (flat cs) (before cs i + j) ties.0 in
        let all = ap length e in
        let counted = kept.counted in
        record {
          sorted = ap (λ (l : List (K × V)). is_sorted R l) e ∙ sorted-remove R o (flat cs) kept.sorted k (before cs i + j) d ties;
          shaped = shaped;
          counted = omega (arith, counted, fewer, all);
          some = some;
          parts = kept.parts;
        }

  pub not_removed : (j : ℕ) → StandsIn R cs k i (Err j) → IsAntisymmetric R → chunked R cs ≡ map.remove (chunked R cs) k
  not_removed j stands same = remove_gap R o (flat cs) kept.sorted same k (before cs i + j) (gap_in R o cs kept.sorted k i j stands).1
