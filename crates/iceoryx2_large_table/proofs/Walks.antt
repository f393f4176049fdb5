-- One walk over rows and segments, entry by entry.
use Rattle.std.proofs.Common.{◌≡◌, List, [], ◌∷◌, ◌++◌, Some, None, sym, ap, ◌∙◌}
use Rattle.std.proofs.lemmas.List.{append_assoc, append-nil}
use Rattle.std.specs.Ordering.{match_ordering}
use Rattle.std.specs.declared.cmp.Ordering.{Ordering}
use Rattle.std.specs.declared.cmp.Ordering.TheVariants.{Less, Equal, Greater}
use Rattle.iceoryx2_description.specs.declared.description.ServiceHash.{ServiceHash}
use Rattle.iceoryx2_world.specs.declared.world.Row.{Row}
use Rattle.iceoryx2_world.specs.declared.listing.Entry.{Entry}
use Rattle.iceoryx2_world.specs.Orders.{hash_cmp}
use Rattle.iceoryx2_world.specs.World.{Segment}
use Rattle.iceoryx2_world.specs.Listing.{entry_of}
use Rattle.iceoryx2_table.specs.Merge.{RowEntries, SegmentEntries, merge}

-- all is what was listed, es, with what is left; an entry more is listed then, fs, and so less is left
goes : (all es fs k l : List Entry) (e : Entry) → es ++ k ≡ all → fs ≡ es ++ e ∷ [] → k ≡ e ∷ l → fs ++ l ≡ all
goes all es fs k l e so_far written is =
    ap (λ (x : List Entry). x ++ l) written ∙ append_assoc es (e ∷ []) l ∙ ap (λ (x : List Entry). es ++ x) (sym is)
    ∙ so_far

module _ {all : List Entry} (es : List Entry) {a : RowEntries} {b : SegmentEntries} (so_far : es ++ merge a b ≡ all) where
  -- nothing is left
  pub all_listed : a ≡ [] → b ≡ [] → es ≡ all
  unfolding merge
  all_listed p q = sym (append-nil es) ∙ ap (λ (k : List Entry). es ++ k) (λ i. merge (sym p i) (sym q i)) ∙ so_far

module _ {all fs : List Entry} (es : List Entry) {a x : RowEntries} {b : SegmentEntries} (so_far : es ++ merge a b ≡ all) (r : ServiceHash × Row) (p : a ≡ r ∷ x) where
  pub row_alone : b ≡ [] → fs ≡ es ++ entry_of r.0 (Some r.1) None ∷ [] → fs ++ merge x b ≡ all
  unfolding merge
  row_alone q written = goes all es fs (merge a b) (merge x b) _ so_far written
      ((λ i. merge (p i) (q i)) ∙ ap (λ (k : SegmentEntries). entry_of r.0 (Some r.1) None ∷ merge x k) (sym q))

module _ {all fs : List Entry} (es : List Entry) {a : RowEntries} {b y : SegmentEntries} (so_far : es ++ merge a b ≡ all) (s : ServiceHash × Segment) (q : b ≡ s ∷ y) where
  pub segment_alone : a ≡ [] → fs ≡ es ++ entry_of s.0 None (Some s.1) ∷ [] → fs ++ merge a y ≡ all
  unfolding merge
  segment_alone p written = goes all es fs (merge a b) (merge a y) _ so_far written
      ((λ i. merge (p i) (q i)) ∙ ap (λ (k : RowEntries). entry_of s.0 None (Some s.1) ∷ merge k y) (sym p))

abbrev by_order : (r : ServiceHash × Row) (s : ServiceHash × Segment) (x : RowEntries) (y : SegmentEntries) → Ordering → List Entry
by_order r s x y o = match_ordering o
    (entry_of r.0 (Some r.1) None ∷ merge x (s ∷ y))
    (entry_of r.0 (Some r.1) (Some s.1) ∷ merge x y)
    (entry_of s.0 None (Some s.1) ∷ merge (r ∷ x) y)

ordered : (r : ServiceHash × Row) (s : ServiceHash × Segment) {a x : RowEntries} {b y : SegmentEntries} (o : Ordering) → a ≡ r ∷ x → b ≡ s ∷ y → hash_cmp r.0 s.0 ≡ o → merge a b ≡ by_order r s x y o
unfolding merge
ordered r s {x = x} {y = y} o p q e = (λ i. merge (p i) (q i)) ∙ ap (by_order r s x y) e

module _ {all fs : List Entry} (es : List Entry) {a x : RowEntries} {b y : SegmentEntries} (so_far : es ++ merge a b ≡ all) (r : ServiceHash × Row) (s : ServiceHash × Segment) (p : a ≡ r ∷ x) (q : b ≡ s ∷ y) where
  pub row_first : hash_cmp r.0 s.0 ≡ Less → fs ≡ es ++ entry_of r.0 (Some r.1) None ∷ [] → fs ++ merge x b ≡ all
  row_first e written = goes all es fs (merge a b) (merge x b) _ so_far written
      (ordered r s Less p q e ∙ ap (λ (k : SegmentEntries). entry_of r.0 (Some r.1) None ∷ merge x k) (sym q))

  pub together : hash_cmp r.0 s.0 ≡ Equal → fs ≡ es ++ entry_of r.0 (Some r.1) (Some s.1) ∷ [] → fs ++ merge x y ≡ all
  together e written = goes all es fs (merge a b) (merge x y) _ so_far written (ordered r s Equal p q e)

  pub segment_first : hash_cmp r.0 s.0 ≡ Greater → fs ≡ es ++ entry_of s.0 None (Some s.1) ∷ [] → fs ++ merge a y ≡ all
  segment_first e written = goes all es fs (merge a b) (merge a y) _ so_far written
      (ordered r s Greater p q e ∙ ap (λ (k : RowEntries). entry_of s.0 None (Some s.1) ∷ merge k y) (sym p))
