-- What a walk comes to.
use Rattle.std.proofs.Common.{◌≡◌, ℕ, zero, suc, ◌+◌, ◌-◌, ◌<◌, ◌≤◌, Bool, true, false, cond, List, [], ◌∷◌, ◌++◌, length, drop, take, refl, sym, ap, ◌∙◌, arith}
use Rattle.std.specs.Prelude.{Result, Ok, Err, is_some}
use Rattle.std.specs.FinMap as map
use Rattle.std.specs.FinMap.{FinMap, is_sorted}
use Rattle.std.specs.declared.cmp.Ordering.{Ordering}
use Rattle.std.specs.Cmp.{IsTotalOrder}
use Rattle.std.proofs.lemmas.List.{drop-append-le, length-drop, take_all}
use Rattle.std.proofs.Math.Seq.{drop-append-add}
use Rattle.finite_map.specs.Sorted.{Sorted}
use Rattle.finite_map.specs.Places.{rank, place_in}
use Rattle.finite_map.specs.Chunks.{flat, chunk_at, before, chunked, StandsIn}
use Rattle.finite_map.proofs.Maps.{entries_are}
use Rattle.finite_map.proofs.Flats.{flat_around, there}
use Rattle.sorted_vec.specs.Sorted.{index_of}

-- how many keys are less, by the place of a key
rank_of : {K V : Type 0} {R : K → K → Ordering} (m : FinMap R V) (k : K) (n : ℕ) (r : Result ℕ ℕ) → index_of r ≡ n → r ≡ place_in m k → n ≡ rank R k (map.entries m)
unfolding place_in
rank_of {R = R} m k n r e is = sym e ∙ ap index_of is ∙ by (is_some (map.get m k))
  where
    by : (b : Bool) → index_of (cond b (Ok (rank R k (map.entries m))) (Err (rank R k (map.entries m)))) ≡ rank R k (map.entries m)
    by true = refl
    by false = refl

-- behind a list, and a part of what follows
drop_past : {X : Type 0} (xs ys zs : List X) (at : ℕ) → at ≤ length ys → drop (length xs + at) (xs ++ (ys ++ zs)) ≡ drop at ys ++ zs
drop_past xs ys zs at l = drop-append-add xs (ys ++ zs) at ∙ drop-append-le at ys zs l

behind : {X : Type 0} (i : ℕ) (cs : List X) → drop i (drop 1 cs) ≡ drop (suc i) cs
behind zero [] = refl
behind (suc i) [] = refl
behind i (c ∷ cs) = refl

module _ {K V : Type 0} (R : K → K → Ordering) (o : IsTotalOrder R) where
  -- the first piece, and then the others
  pub walk_all : (cs : List (Sorted K V)) → is_sorted R (flat cs) ≡ true → 0 < length cs → (es : List (K × V)) (os : List (Sorted K V))
      → es ≡ (chunk_at cs 0).entries → os ≡ drop 1 cs → es ++ flat os ≡ map.entries (chunked R cs)
  walk_all [] s some es os e f = absurd (omega arith)
  walk_all (c ∷ cs) s some es os e f = ap (λ x. x ++ flat os) e ∙ ap (λ x. c.entries ++ flat x) f ∙ sym (entries_are R o (flat (c ∷ cs)) s)

  -- a piece from the place of a key on, and then those behind it
  pub walk_on : (cs : List (Sorted K V)) → is_sorted R (flat cs) ≡ true → (k : K) (i : ℕ) (r : Result ℕ ℕ) → StandsIn R cs k i r → i < length cs
      → index_of r ≤ length (chunk_at cs i).entries → (es : List (K × V)) (os : List (Sorted K V))
      → es ≡ drop (index_of r) (chunk_at cs i).entries → os ≡ drop i (drop 1 cs)
      → es ++ flat os ≡ drop (rank R k (map.entries (chunked R cs))) (map.entries (chunked R cs))
  walk_on cs s k i r stands l within es os e f =
      ap (λ x. x ++ flat os) e
      ∙ ap (λ x. drop (index_of r) (chunk_at cs i).entries ++ flat x) (f ∙ behind i cs)
      ∙ sym (drop_past (flat (take i cs)) (chunk_at cs i).entries (flat (drop (suc i) cs)) (index_of r) within)
      ∙ ap (drop (before cs i + index_of r)) (sym (flat_around cs i l) ∙ sym (entries_are R o (flat cs) s))
      ∙ ap (λ n. drop n (map.entries (chunked R cs))) (ranked r stands)
    where
      ranked : (r : Result ℕ ℕ) → StandsIn R cs k i r → before cs i + index_of r ≡ rank R k (map.entries (chunked R cs))
      ranked (Ok at) stands = rank_of (chunked R cs) k (before cs i + at) (Ok (before cs i + at)) refl stands.1
      ranked (Err at) stands = rank_of (chunked R cs) k (before cs i + at) (Err (before cs i + at)) refl stands.1

-- a place is within its piece
pub within_piece : {K V : Type 0} (R : K → K → Ordering) (cs : List (Sorted K V)) (k : K) (i : ℕ) (r : Result ℕ ℕ) → StandsIn R cs k i r → 0 < length cs
    → (i < length cs) × (index_of r ≤ length (chunk_at cs i).entries)
within_piece R cs k i (Ok at) stands some = (there cs i at stands.0, omega (arith, stands.0))
within_piece R cs k i (Err at) stands some = (omega (arith, some, stands.0), omega (arith, stands.0))

-- a slice from a place on, as the code has it
pub from_on : {X : Type 0} (i : ℕ) (xs : List X) → take (length xs - i) (drop i xs) ≡ drop i xs
from_on i xs = let n = length-drop i xs in take_all (length xs - i) (drop i xs) (omega (arith, n))
