-- One walk over rows and segments lists each hash of them once.
use Rattle.std.proofs.Common.{◌≡◌, ℕ, zero, suc, ◌+◌, ◌<◌, ◌≤◌, Bool, true, false, cond, List, [], ◌∷◌, ◌++◌, length, get_or, drop, Option, Some, None, refl, sym, ap, subst, ◌∙◌, arith}
use Rattle.std.specs.Prelude.{T, ◌&&◌}
use Rattle.std.proofs.lemmas.List.{drop_more, append_assoc, append-nil}
use Rattle.std.specs.FinMap as finite
use Rattle.std.specs.FinMap.Entries.{find, is_sorted, below_all}
use Rattle.std.specs.Ordering.{eq_by_cmp, is_lt, match_ordering}
use Rattle.std.specs.Cmp.{Equal-is}
use Rattle.std.specs.declared.cmp.Ordering.{Ordering}
use Rattle.std.specs.declared.cmp.Ordering.TheVariants.{Less, Equal, Greater}
use Rattle.iceoryx2_description.specs.declared.description.ServiceHash.{ServiceHash}
use Rattle.iceoryx2_world.specs.declared.world.Row.{Row}
use Rattle.iceoryx2_world.specs.declared.listing.Entry.{Entry}
use Rattle.iceoryx2_world.specs.Orders.{hash_cmp, hash_total, hash_exact}
use Rattle.iceoryx2_world.specs.World.{Segment}
use Rattle.iceoryx2_world.specs.Listing.{entry_of, entry_at, by_hash, ListsAll}
use Rattle.finite_map.proofs.Edits.{back}
use Rattle.iceoryx2_table.specs.Merge.{RowEntries, SegmentEntries, merge, Advances}

pub less_of : (o : Ordering) → T (is_lt o) → o ≡ Less
less_of Less h = refl
less_of Equal h = absurd h
less_of Greater h = absurd h

pub both : (a b : Bool) → T a → T b → T (a && b)
both true b p q = q
both false b p q = p

pub parts : (a b : Bool) → T (a && b) → T a × T b
parts true b h = (tt, h)
parts false b h = absurd h

-- a lesser hash is below all that a greater one is below
below_less : {X : Type 0} (x y : ServiceHash) (es : List (ServiceHash × X)) → hash_cmp x y ≡ Less → T (below_all hash_cmp y es) → T (below_all hash_cmp x es)
below_less x y [] e h = tt
below_less x y (z ∷ es) e h =
    let p = parts _ _ h in
    both _ _ (subst (λ o. T (is_lt o)) (sym (hash_total.trans x y z.0 e (less_of _ p.0))) tt) (below_less x y es e p.1)

below_first : {X : Type 0} (x y : ServiceHash) (v : X) (es : List (ServiceHash × X)) → hash_cmp x y ≡ Less → T (below_all hash_cmp y es) → T (below_all hash_cmp x ((y, v) ∷ es))
below_first x y v es e h = both _ _ (subst (λ o. T (is_lt o)) (sym e) tt) (below_less x y es e h)

none_below : {X : Type 0} (q : ServiceHash) (es : List (ServiceHash × X)) → T (below_all hash_cmp q es) → find hash_cmp q es ≡ None
none_below q [] h = refl
none_below q (e ∷ es) h = let p = parts _ _ h in rw (less_of (hash_cmp q e.0) p.0) (none_below q es p.1)

below : (h : ServiceHash) (rs : RowEntries) (ss : SegmentEntries) → T (below_all hash_cmp h rs) → T (below_all hash_cmp h ss) → T (below_all hash_cmp h (by_hash (merge rs ss)))
unfolding merge
below h [] [] a b = tt
below h [] (s ∷ ss) a b = let p = parts _ _ b in both _ _ p.0 (below h [] ss tt p.1)
below h (r ∷ rs) [] a b = let p = parts _ _ a in both _ _ p.0 (below h rs [] p.1 tt)
below h (r ∷ rs) (s ∷ ss) a b =
    let p = parts _ _ a in
    let q = parts _ _ b in
    elim (hash_cmp r.0 s.0) as (λ o. T (below_all hash_cmp h (by_hash (match_ordering o
    (entry_of r.0 (Some r.1) None ∷ merge rs (s ∷ ss))
    (entry_of r.0 (Some r.1) (Some s.1) ∷ merge rs ss)
    (entry_of s.0 None (Some s.1) ∷ merge (r ∷ rs) ss))))) [
      | Less ↦ both _ _ p.0 (below h rs (s ∷ ss) p.1 b)
      | Equal ↦ both _ _ p.0 (below h rs ss p.1 q.1)
      | Greater ↦ both _ _ q.0 (below h (r ∷ rs) ss a q.1)
    ]

ascends : (rs : RowEntries) (ss : SegmentEntries) → T (is_sorted hash_cmp rs) → T (is_sorted hash_cmp ss) → T (is_sorted hash_cmp (by_hash (merge rs ss)))
unfolding merge
ascends [] [] a b = tt
ascends [] (s ∷ ss) a b = let p = parts _ _ b in both _ _ (below s.0 [] ss tt p.0) (ascends [] ss tt p.1)
ascends (r ∷ rs) [] a b = let p = parts _ _ a in both _ _ (below r.0 rs [] p.0 tt) (ascends rs [] p.1 tt)
ascends (r ∷ rs) (s ∷ ss) a b =
    let p = parts _ _ a in
    let q = parts _ _ b in
    elim (hash_cmp r.0 s.0) as (λ o. hash_cmp r.0 s.0 ≡ o → T (is_sorted hash_cmp (by_hash (match_ordering o
    (entry_of r.0 (Some r.1) None ∷ merge rs (s ∷ ss))
    (entry_of r.0 (Some r.1) (Some s.1) ∷ merge rs ss)
    (entry_of s.0 None (Some s.1) ∷ merge (r ∷ rs) ss))))) [
      | Less ↦ λ e. both _ _ (below r.0 rs (s ∷ ss) p.0 (below_first r.0 s.0 s.1 ss e q.0)) (ascends rs (s ∷ ss) p.1 b)
      | Equal ↦ λ e. both _ _ (below r.0 rs ss p.0 (subst (λ h. T (below_all hash_cmp h ss)) (sym (hash_exact r.0 s.0 e)) q.0)) (ascends rs ss p.1 q.1)
      | Greater ↦ λ e. both _ _ (below s.0 (r ∷ rs) ss (below_first s.0 r.0 r.1 rs (back hash_cmp hash_total r.0 s.0 e) p.0) q.0) (ascends (r ∷ rs) ss a q.1)
    ] refl

-- the key that is found is the key that was sought
found_key : (q h : ServiceHash) → eq_by_cmp hash_cmp q h ≡ true → q ≡ h
found_key q h e = hash_exact q h ((Equal-is (hash_cmp q h)).0 e)

find_row : (q : ServiceHash) (r : ServiceHash × Row) (rs : RowEntries) (ss : SegmentEntries) (found : Option Entry) → T (below_all hash_cmp r.0 ss) → found ≡ entry_at q (find hash_cmp q rs) (find hash_cmp q ss)
    → cond (eq_by_cmp hash_cmp q r.0) (Some (entry_of r.0 (Some r.1) None)) found ≡ entry_at q (find hash_cmp q (r ∷ rs)) (find hash_cmp q ss)
find_row q r rs ss found b rest =
    elim (eq_by_cmp hash_cmp q r.0) as (λ t. eq_by_cmp hash_cmp q r.0 ≡ t → cond t (Some (entry_of r.0 (Some r.1) None)) found ≡ entry_at q (cond t (Some r.1) (find hash_cmp q rs)) (find hash_cmp q ss)) [
      | true ↦ λ t.
          let same : q ≡ r.0 = found_key q r.0 t in
          let none : find hash_cmp q ss ≡ None = none_below q ss (subst (λ h. T (below_all hash_cmp h ss)) (sym same) b) in
          ap (λ h. Some (entry_of h (Some r.1) None)) (sym same) ∙ ap (entry_at q (Some r.1)) (sym none)
      | false ↦ λ t. rest
    ] refl

find_segment : (q : ServiceHash) (s : ServiceHash × Segment) (rs : RowEntries) (ss : SegmentEntries) (found : Option Entry) → T (below_all hash_cmp s.0 rs) → found ≡ entry_at q (find hash_cmp q rs) (find hash_cmp q ss)
    → cond (eq_by_cmp hash_cmp q s.0) (Some (entry_of s.0 None (Some s.1))) found ≡ entry_at q (find hash_cmp q rs) (find hash_cmp q (s ∷ ss))
find_segment q s rs ss found b rest =
    elim (eq_by_cmp hash_cmp q s.0) as (λ t. eq_by_cmp hash_cmp q s.0 ≡ t → cond t (Some (entry_of s.0 None (Some s.1))) found ≡ entry_at q (find hash_cmp q rs) (cond t (Some s.1) (find hash_cmp q ss))) [
      | true ↦ λ t.
          let same : q ≡ s.0 = found_key q s.0 t in
          let none : find hash_cmp q rs ≡ None = none_below q rs (subst (λ h. T (below_all hash_cmp h rs)) (sym same) b) in
          ap (λ h. Some (entry_of h None (Some s.1))) (sym same) ∙ ap (λ o. entry_at q o (Some s.1)) (sym none)
      | false ↦ λ t. rest
    ] refl

find_both : (q : ServiceHash) (r : ServiceHash × Row) (s : ServiceHash × Segment) (rs : RowEntries) (ss : SegmentEntries) (found : Option Entry) → r.0 ≡ s.0 → found ≡ entry_at q (find hash_cmp q rs) (find hash_cmp q ss)
    → cond (eq_by_cmp hash_cmp q r.0) (Some (entry_of r.0 (Some r.1) (Some s.1))) found ≡ entry_at q (find hash_cmp q (r ∷ rs)) (find hash_cmp q (s ∷ ss))
find_both q r s rs ss found same rest =
    subst (λ h. cond (eq_by_cmp hash_cmp q r.0) (Some (entry_of r.0 (Some r.1) (Some s.1))) found ≡ entry_at q (cond (eq_by_cmp hash_cmp q r.0) (Some r.1) (find hash_cmp q rs)) (cond (eq_by_cmp hash_cmp q h) (Some s.1) (find hash_cmp q ss))) same
    (elim (eq_by_cmp hash_cmp q r.0) as (λ t. eq_by_cmp hash_cmp q r.0 ≡ t → cond t (Some (entry_of r.0 (Some r.1) (Some s.1))) found ≡ entry_at q (cond t (Some r.1) (find hash_cmp q rs)) (cond t (Some s.1) (find hash_cmp q ss))) [
      | true ↦ λ t. ap (λ h. Some (entry_of h (Some r.1) (Some s.1))) (sym (found_key q r.0 t))
      | false ↦ λ t. rest
    ] refl)

finds : (q : ServiceHash) (rs : RowEntries) (ss : SegmentEntries) → T (is_sorted hash_cmp rs) → T (is_sorted hash_cmp ss) → find hash_cmp q (by_hash (merge rs ss)) ≡ entry_at q (find hash_cmp q rs) (find hash_cmp q ss)
unfolding merge
finds q [] [] a b = refl
finds q [] (s ∷ ss) a b = find_segment q s [] ss _ tt (finds q [] ss tt (parts _ _ b).1)
finds q (r ∷ rs) [] a b = find_row q r rs [] _ tt (finds q rs [] (parts _ _ a).1 tt)
finds q (r ∷ rs) (s ∷ ss) a b =
    let p = parts _ _ a in
    let z = parts _ _ b in
    elim (hash_cmp r.0 s.0) as (λ o. hash_cmp r.0 s.0 ≡ o → find hash_cmp q (by_hash (match_ordering o
    (entry_of r.0 (Some r.1) None ∷ merge rs (s ∷ ss))
    (entry_of r.0 (Some r.1) (Some s.1) ∷ merge rs ss)
    (entry_of s.0 None (Some s.1) ∷ merge (r ∷ rs) ss))) ≡ entry_at q (find hash_cmp q (r ∷ rs)) (find hash_cmp q (s ∷ ss))) [
      | Less ↦ λ e. find_row q r rs (s ∷ ss) _ (below_first r.0 s.0 s.1 ss e z.0) (finds q rs (s ∷ ss) p.1 b)
      | Equal ↦ λ e. find_both q r s rs ss _ (hash_exact r.0 s.0 e) (finds q rs ss p.1 z.1)
      | Greater ↦ λ e. find_segment q s (r ∷ rs) ss _ (below_first s.0 r.0 r.1 rs (back hash_cmp hash_total r.0 s.0 e) p.0) (finds q (r ∷ rs) ss a z.1)
    ] refl

-- the entries of all hashes with a row or a segment
pub lists : (rows : finite.FinMap hash_cmp Row) (segments : finite.FinMap hash_cmp Segment) → ListsAll rows segments (merge (finite.entries rows) (finite.entries segments))
lists rows segments = record {
  ascends = ascends _ _ (finite.entries_sorted rows) (finite.entries_sorted segments);
  each = λ h. finds h _ _ (finite.entries_sorted rows) (finite.entries_sorted segments)
      ∙ (λ i. entry_at h (sym (finite.get-entries rows h) i) (sym (finite.get-entries segments h) i));
}

-- the next entry
at_place : {X : Type 0} (xs : List X) (i : ℕ) (x : X) → i < length xs → x ≡ get_or xs i x → drop i xs ≡ x ∷ drop (i + 1) xs
at_place xs i x lt is = drop_more xs i x lt ∙ ap (λ y. y ∷ drop (i + 1) xs) (sym is)

grown : (es fs more : List Entry) (e : Entry) → fs ≡ es ++ e ∷ [] → fs ++ more ≡ es ++ (e ∷ more)
grown es fs more e is = ap (λ l. l ++ more) is ∙ append_assoc es (e ∷ []) more

walked : (rs : RowEntries) (ss : SegmentEntries) (i j m n : ℕ) (es fs : List Entry) (e : Entry) → fs ≡ es ++ e ∷ [] → merge (drop i rs) (drop j ss) ≡ e ∷ merge (drop m rs) (drop n ss)
    → m ≤ length rs → n ≤ length ss → i + j < m + n → Advances rs ss (i, j) es (m, n) fs
walked rs ss i j m n es fs e grows next rows segments more = record {
  same = grown es fs _ e grows ∙ ap (λ l. es ++ l) (sym next);
  rows = rows;
  segments = segments;
  more = more;
}

merge_row : (r : ServiceHash × Row) (rs : RowEntries) → merge (r ∷ rs) [] ≡ entry_of r.0 (Some r.1) None ∷ merge rs []
unfolding merge
merge_row r rs = refl

merge_segment : (s : ServiceHash × Segment) (ss : SegmentEntries) → merge [] (s ∷ ss) ≡ entry_of s.0 None (Some s.1) ∷ merge [] ss
unfolding merge
merge_segment s ss = refl

merge_both : (r : ServiceHash × Row) (s : ServiceHash × Segment) (rs : RowEntries) (ss : SegmentEntries) (o : Ordering) → hash_cmp r.0 s.0 ≡ o → merge (r ∷ rs) (s ∷ ss) ≡ match_ordering o
    (entry_of r.0 (Some r.1) None ∷ merge rs (s ∷ ss))
    (entry_of r.0 (Some r.1) (Some s.1) ∷ merge rs ss)
    (entry_of s.0 None (Some s.1) ∷ merge (r ∷ rs) ss)
unfolding merge
merge_both r s rs ss o e = ap (λ o. match_ordering o
    (entry_of r.0 (Some r.1) None ∷ merge rs (s ∷ ss))
    (entry_of r.0 (Some r.1) (Some s.1) ∷ merge rs ss)
    (entry_of s.0 None (Some s.1) ∷ merge (r ∷ rs) ss)) e

pub past : {X : Type 0} (xs : List X) (i : ℕ) → length xs ≤ i → drop i xs ≡ []
past [] zero le = refl
past [] (suc i) le = refl
past (x ∷ xs) zero le = absurd (omega arith)
past (x ∷ xs) (suc i) le = past xs i (omega arith)

module _ (rs : RowEntries) (ss : SegmentEntries) (i j : ℕ) (es fs : List Entry) where
  pub only_row : (r : ServiceHash × Row) → i < length rs → r ≡ get_or rs i r → j ≡ length ss → fs ≡ es ++ entry_of r.0 (Some r.1) None ∷ [] → Advances rs ss (i, j) es (i + 1, j) fs
  only_row r lt is end grows =
      let none = past ss j (omega arith) in
      walked rs ss i j (i + 1) j es fs _ grows
      ((λ k. merge (at_place rs i r lt is k) (none k)) ∙ merge_row r (drop (i + 1) rs) ∙ (λ k. entry_of r.0 (Some r.1) None ∷ merge (drop (i + 1) rs) (sym none k)))
      (omega arith) (omega arith) (omega arith)

  pub only_segment : (s : ServiceHash × Segment) → j < length ss → s ≡ get_or ss j s → i ≡ length rs → fs ≡ es ++ entry_of s.0 None (Some s.1) ∷ [] → Advances rs ss (i, j) es (i, j + 1) fs
  only_segment s lt is end grows =
      let none = past rs i (omega arith) in
      walked rs ss i j i (j + 1) es fs _ grows
      ((λ k. merge (none k) (at_place ss j s lt is k)) ∙ merge_segment s (drop (j + 1) ss) ∙ (λ k. entry_of s.0 None (Some s.1) ∷ merge (sym none k) (drop (j + 1) ss)))
      (omega arith) (omega arith) (omega arith)

  module _ (r : ServiceHash × Row) (s : ServiceHash × Segment) (lr : i < length rs) (ir : r ≡ get_or rs i r) (ls : j < length ss) (is : s ≡ get_or ss j s) where
    heads : (o : Ordering) → hash_cmp r.0 s.0 ≡ o → merge (drop i rs) (drop j ss) ≡ match_ordering o
        (entry_of r.0 (Some r.1) None ∷ merge (drop (i + 1) rs) (s ∷ drop (j + 1) ss))
        (entry_of r.0 (Some r.1) (Some s.1) ∷ merge (drop (i + 1) rs) (drop (j + 1) ss))
        (entry_of s.0 None (Some s.1) ∷ merge (r ∷ drop (i + 1) rs) (drop (j + 1) ss))
    heads o e = (λ k. merge (at_place rs i r lr ir k) (at_place ss j s ls is k)) ∙ merge_both r s _ _ o e

    pub row_first : hash_cmp r.0 s.0 ≡ Less → fs ≡ es ++ entry_of r.0 (Some r.1) None ∷ [] → Advances rs ss (i, j) es (i + 1, j) fs
    row_first e grows = walked rs ss i j (i + 1) j es fs _ grows
        (heads Less e ∙ (λ k. entry_of r.0 (Some r.1) None ∷ merge (drop (i + 1) rs) (sym (at_place ss j s ls is) k)))
        (omega arith) (omega arith) (omega arith)

    pub together : hash_cmp r.0 s.0 ≡ Equal → fs ≡ es ++ entry_of r.0 (Some r.1) (Some s.1) ∷ [] → Advances rs ss (i, j) es (i + 1, j + 1) fs
    together e grows = walked rs ss i j (i + 1) (j + 1) es fs _ grows (heads Equal e) (omega arith) (omega arith) (omega arith)

    pub segment_first : hash_cmp r.0 s.0 ≡ Greater → fs ≡ es ++ entry_of s.0 None (Some s.1) ∷ [] → Advances rs ss (i, j) es (i, j + 1) fs
    segment_first e grows = walked rs ss i j i (j + 1) es fs _ grows
        (heads Greater e ∙ (λ k. entry_of s.0 None (Some s.1) ∷ merge (sym (at_place rs i r lr ir) k) (drop (j + 1) ss)))
        (omega arith) (omega arith) (omega arith)

merge_nothing : merge [] [] ≡ []
unfolding merge
merge_nothing = refl

-- all is listed
pub all_listed : (rs : RowEntries) (ss : SegmentEntries) (i j : ℕ) (es : List Entry) → length rs ≤ i → length ss ≤ j → es ++ merge (drop i rs) (drop j ss) ≡ merge rs ss → es ≡ merge rs ss
all_listed rs ss i j es lr ls is =
    sym (append-nil es) ∙ ap (λ l. es ++ l) (sym ((λ k. merge (past rs i lr k) (past ss j ls k)) ∙ merge_nothing)) ∙ is
