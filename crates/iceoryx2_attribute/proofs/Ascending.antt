-- Lists that ascend by a total order, and an item put among them.
use Rattle.std.proofs.Common.{◌≡◌, ℕ, zero, suc, ◌+◌, ◌-◌, ◌<◌, ◌≤◌, Bool, true, false, cond, List, [], ◌∷◌, ◌++◌, length, get_or, Some, None, Result, Ok, Err, IfOk, IfErr, inl, inr, refl, sym, ap, subst, ◌∙◌, arith, All}
use Rattle.std.specs.Prelude.{◌&&◌, filter, if◌then◌else◌}
use Rattle.std.specs.List.{insert, list_any, slice_get, AllWithin}
use Rattle.std.specs.List.Sorted.{IsNonDecreasingBy, IsSearchInRange, IsBinarySearchResult}
use Rattle.std.specs.Ordering.{ordering_index, ordering_reverse, is_lt, is_eq}
use Rattle.std.specs.declared.cmp.Ordering.{Ordering}
use Rattle.std.specs.declared.cmp.Ordering.TheVariants.{Less, Equal, Greater}
use Rattle.std.specs.Cmp.{IsTotalOrder, alike_right, tied_back}
use Rattle.std.proofs.lemmas.Bool.{cases_lt}
use Rattle.std.proofs.lemmas.List.Elements.{All-append, All-cons, All-filter}
use Rattle.std.proofs.lemmas.List.Edits.{length-insert}
use Rattle.std.proofs.lemmas.List.Folds.{list_any_at, list_any_none}
use Rattle.std.proofs.lemmas.Map.Lookups.{CmpEqualImpliesEq}
use Rattle.iceoryx2_attribute.specs.Ascending.{ascends_by, with_item}

pub both_true : (a b : Bool) → a && b ≡ true → (a ≡ true) × (b ≡ true)
both_true true b h = (refl, h)
both_true false b h = cc

is_less : (r : Ordering) → is_lt r ≡ true → r ≡ Less
is_less Less h = refl
is_less Equal h = cc
is_less Greater h = cc

index_small : (r : Ordering) → ordering_index r ≤ 2
index_small Less = omega arith
index_small Equal = omega arith
index_small Greater = omega arith

no_less : (a b : Ordering) → (b ≡ Less → a ≡ Less) → (b ≡ Equal → a ≡ Less) → ordering_index a ≤ ordering_index b
no_less a Less less equal = rw (less refl) (omega arith)
no_less a Equal less equal = rw (equal refl) (omega arith)
no_less a Greater less equal = index_small a

-- the front of a list that ascends
pub ascends_front : {A : Type 0} (before : A → A → Bool) (xs ys : List A) → ascends_by before (xs ++ ys) ≡ true → ascends_by before xs ≡ true
unfolding ascends_by
ascends_front before [] ys h = refl
ascends_front before (x ∷ []) ys h = refl
ascends_front before (x ∷ y ∷ rest) ys h =
    let parts = both_true (before x y) (ascends_by before (y ∷ (rest ++ ys))) h in
    rw (parts.0, ascends_front before (y ∷ rest) ys parts.1) refl

-- one more behind the last
ascends_more : {A : Type 0} (before : A → A → Bool) (xs : List A) (n : ℕ) (y x : A) → n + 1 ≡ length xs → slice_get xs n ≡ Some y → ascends_by before xs ≡ true → ascends_by before (xs ++ x ∷ []) ≡ before y x
unfolding ascends_by
ascends_more before [] n y x e at h = absurd (omega arith)
ascends_more before (z ∷ []) zero y x e at h =
    let same : z ≡ y = cc in
    rw same (elim (before y x) as (λ b. b && true ≡ b) [ true ↦ refl | false ↦ refl ])
ascends_more before (z ∷ []) (suc n) y x e at h = absurd (omega arith)
ascends_more before (z ∷ w ∷ rest) zero y x e at h = absurd (omega arith)
ascends_more before (z ∷ w ∷ rest) (suc n) y x e at h =
    let parts = both_true (before z w) (ascends_by before (w ∷ rest)) h in
    rw parts.0 (ascends_more before (w ∷ rest) n y x (omega arith) at parts.1)

pub ascends_push : {A : Type 0} (before : A → A → Bool) (xs : List A) (y x : A) → Some y ≡ slice_get xs (length xs - 1) → ascends_by before xs ≡ true → ascends_by before (xs ++ x ∷ []) ≡ before y x
ascends_push before [] y x at h = cc
ascends_push before (z ∷ rest) y x at h = ascends_more before (z ∷ rest) (length (z ∷ rest) - 1) y x (omega arith) (sym at) h

pub ascends_first : {A : Type 0} (before : A → A → Bool) (xs : List A) (x : A) → None ≡ slice_get xs (length xs - 1) → ascends_by before (xs ++ x ∷ []) ≡ true
unfolding ascends_by
ascends_first before [] x at = refl
ascends_first before (z ∷ rest) x at =
    let e : length (z ∷ rest) - 1 ≡ length rest = omega arith in
    absurd (last_is_some z rest (sym (rw e at at)))
  where
    last_is_some : {A : Type 0} (z : A) (rest : List A) → slice_get (z ∷ rest) (length rest) ≡ None → ⊥
    last_is_some z [] h = cc
    last_is_some z (w ∷ rest) h = last_is_some w rest h

module _ {A : Type 0} (R : A → A → Ordering) where
  abbrev pub lt : A → A → Bool
  lt x y = is_lt (R x y)

  -- x stands before each of them
  abbrev pub Heads : A → List A → Type 0
  Heads x [] = Unit {0}
  Heads x (y ∷ ys) = (R x y ≡ Less) × Heads x ys

  -- each stands before all later ones
  abbrev pub Rises : List A → Type 0
  Rises [] = Unit {0}
  Rises (x ∷ xs) = Heads x xs × Rises xs

  heads_filter : (p : A → Bool) (x : A) (xs : List A) → Heads x xs → Heads x (filter p xs)
  heads_filter p x [] h = tt
  heads_filter p x (y ∷ ys) h = elim (p y) as (λ b. Heads x (cond b (y ∷ filter p ys) (filter p ys))) [
    | true ↦ (h.0, heads_filter p x ys h.1)
    | false ↦ heads_filter p x ys h.1
  ]

  heads_append : (x : A) (xs ys : List A) → Heads x xs → Heads x ys → Heads x (xs ++ ys)
  heads_append x [] ys h g = g
  heads_append x (z ∷ xs) ys h g = (h.0, heads_append x xs ys h.1 g)

  heads_at : (x : A) (xs : List A) → Heads x xs → (i : ℕ) (d : A) → i < length xs → R x (get_or xs i d) ≡ Less
  heads_at x [] h i d l = absurd (omega arith)
  heads_at x (y ∷ ys) h zero d l = h.0
  heads_at x (y ∷ ys) h (suc i) d l = heads_at x ys h.1 i d (omega arith)

  ascends_from : (xs : List A) → Rises xs → ascends_by lt xs ≡ true
  unfolding ascends_by
  ascends_from [] r = refl
  ascends_from (x ∷ []) r = refl
  ascends_from (x ∷ y ∷ rest) r = rw (r.0.0, ascends_from (y ∷ rest) r.1) refl

module _ {A : Type 0} (R : A → A → Ordering) (o : IsTotalOrder R) where
  turned : (x y : A) → R x y ≡ Less → R y x ≡ Greater
  turned x y e = o.antisymm y x ∙ ap ordering_reverse e

  back : (x y : A) → R x y ≡ Greater → R y x ≡ Less
  back x y e = o.antisymm y x ∙ ap ordering_reverse e

  heads_trans : (x y : A) (ys : List A) → R x y ≡ Less → Heads R y ys → Heads R x ys
  heads_trans x y [] l h = tt
  heads_trans x y (z ∷ zs) l h = (o.trans x y z l h.0, heads_trans x y zs l h.1)

  rises_from : (xs : List A) → ascends_by (lt R) xs ≡ true → Rises R xs
  unfolding ascends_by
  rises_from [] h = tt
  rises_from (x ∷ []) h = (tt, tt)
  rises_from (x ∷ y ∷ rest) h =
      let parts = both_true _ _ h in
      let less = is_less _ parts.0 in
      let later = rises_from (y ∷ rest) parts.1 in
      ((less, heads_trans x y rest less later.0), later)

  -- ---- an item put among them

  none_before : (x : A) (xs : List A) → Heads R x xs → filter (λ y. lt R y x) xs ≡ []
  none_before x [] h = refl
  none_before x (y ∷ ys) h = rw (turned x y h.0) (none_before x ys h.1)

  all_after : (x : A) (xs : List A) → Heads R x xs → filter (λ y. lt R x y) xs ≡ xs
  all_after x [] h = refl
  all_after x (y ∷ ys) h = rw h.0 (ap (λ t. y ∷ t) (all_after x ys h.1))

  with_first : (x : A) (xs : List A) → Heads R x xs → with_item (lt R) xs x ≡ x ∷ xs
  unfolding with_item
  with_first x xs h = rw (none_before x xs h, all_after x xs h) refl

  with_later : (x y : A) (ys : List A) → R y x ≡ Less → with_item (lt R) (y ∷ ys) x ≡ y ∷ with_item (lt R) ys x
  unfolding with_item
  with_later x y ys e = rw (e, turned y x e) refl

  with_equal : (x y : A) (ys : List A) → R y x ≡ Equal → Heads R x ys → with_item (lt R) (y ∷ ys) x ≡ x ∷ ys
  unfolding with_item
  with_equal x y ys e h = rw (e, tied_back o y x e, none_before x ys h, all_after x ys h) refl

  heads_with : (x y : A) (ys : List A) → R y x ≡ Less → Heads R y ys → Heads R y (with_item (lt R) ys x)
  unfolding with_item
  heads_with x y ys e h = heads_append R y _ _ (heads_filter R _ y ys h) (e, heads_filter R _ y ys h)

  heads_equal : (x y : A) (ys : List A) → R y x ≡ Equal → Heads R y ys → Heads R x ys
  heads_equal x y [] e h = tt
  heads_equal x y (z ∷ zs) e h = (sym (o.congr y x z e) ∙ h.0, heads_equal x y zs e h.1)

  rises_with : (x : A) (xs : List A) → Rises R xs → Rises R (with_item (lt R) xs x)
  rises_with x [] r = subst (Rises R) (sym (with_first x [] tt)) (tt, tt)
  rises_with x (y ∷ ys) r = elim (R y x) as (λ c. R y x ≡ c → Rises R (with_item (lt R) (y ∷ ys) x)) [
    | Less ↦ λ e. subst (Rises R) (sym (with_later x y ys e)) (heads_with x y ys e r.0, rises_with x ys r.1)
    | Equal ↦ λ e. let h = heads_equal x y ys e r.0 in subst (Rises R) (sym (with_equal x y ys e h)) (h, r.1)
    | Greater ↦ λ e.
        let less = back y x e in
        let h : Heads R x (y ∷ ys) = (less, heads_trans x y ys less r.0) in
        subst (Rises R) (sym (with_first x (y ∷ ys) h)) (h, r)
  ] refl

  pub ascends_with : (xs : List A) (x : A) → ascends_by (lt R) xs ≡ true → ascends_by (lt R) (with_item (lt R) xs x) ≡ true
  ascends_with xs x h = ascends_from R _ (rises_with x xs (rises_from xs h))

  pub all_with : (P : A → Type 0) (xs : List A) (x : A) → All P xs → P x → All P (with_item (lt R) xs x)
  unfolding with_item
  all_with P xs x h p = All-append P _ _ (All-filter _ P xs h) (All-cons P x _ p (All-filter _ P xs h))

  -- ---- the gap for an item

  heads_from : (x : A) (xs : List A) → ((i : ℕ) (d : A) → i < length xs → R (get_or xs i d) x ≡ Greater) → Heads R x xs
  heads_from x [] g = tt
  heads_from x (y ∷ ys) g = (back y x (g 0 y (omega arith)), heads_from x ys (λ i d l. g (suc i) d (omega arith)))

  pub insert_at : (x : A) (xs : List A) (at : ℕ) → at ≤ length xs → AllWithin (λ y. R y x ≡ Less) xs 0 at → AllWithin (λ y. R y x ≡ Greater) xs at (length xs) → insert xs at x ≡ with_item (lt R) xs x
  insert_at x [] zero le less greater = sym (with_first x [] tt)
  insert_at x [] (suc at) le less greater = absurd (omega arith)
  insert_at x (y ∷ ys) zero le less greater = sym (with_first x (y ∷ ys) (heads_from x (y ∷ ys) (λ i d l. greater i d (omega arith) l)))
  insert_at x (y ∷ ys) (suc at) le less greater =
      ap (λ t. y ∷ t) (insert_at x ys at (omega arith) (λ k d l g. less (suc k) d (omega arith) (omega arith)) (λ k d l g. greater (suc k) d (omega arith) (omega arith)))
      ∙ sym (with_later x y ys (less 0 y (omega arith) (omega arith)))

  -- ---- an item that is there

  none_same : (x : A) (xs : List A) → Heads R x xs → list_any (λ y. is_eq (R y x)) xs ≡ false
  none_same x [] h = refl
  none_same x (y ∷ ys) h = rw (turned x y h.0) (none_same x ys h.1)

  there : CmpEqualImpliesEq R → (x : A) (xs : List A) → Rises R xs → list_any (λ y. is_eq (R y x)) xs ≡ true → xs ≡ with_item (lt R) xs x
  there exact x [] r h = cc
  there exact x (y ∷ ys) r h = elim (R y x) as (λ c. R y x ≡ c → y ∷ ys ≡ with_item (lt R) (y ∷ ys) x) [
    | Less ↦ λ e. ap (λ t. y ∷ t) (there exact x ys r.1 (rw e at h)) ∙ sym (with_later x y ys e)
    | Equal ↦ λ e. ap (λ t. t ∷ ys) (exact y x e) ∙ sym (with_equal x y ys e (heads_equal x y ys e r.0))
    | Greater ↦ λ e.
        let less = back y x e in
        let none = none_same x ys (heads_trans x y ys less r.0) in
        let some = rw e at h in
        let wrong : true ≡ false = sym some ∙ none in
        absurd (cc)
  ] refl

  pub same_with : CmpEqualImpliesEq R → (xs : List A) (x : A) → ascends_by (lt R) xs ≡ true → list_any (λ y. is_eq (R y x)) xs ≡ true → xs ≡ with_item (lt R) xs x
  same_with exact xs x h found = there exact x xs (rises_from xs h) found

  -- ---- what a search among them finds, by an answer that rises with them

  module _ (answer : A → Ordering) (mono : (x y : A) → R x y ≡ Less → ordering_index (answer x) ≤ ordering_index (answer y)) where
    answers_rise : (xs : List A) → Rises R xs → IsNonDecreasingBy (λ y. ordering_index (answer y)) xs
    answers_rise xs r i j d le l = elim (cases_lt i j) [
      | inl below ↦ rise xs r i j d below l
      | inr same ↦ let e : i ≡ j = omega arith in subst (λ (m : ℕ). ordering_index (answer (get_or xs i d)) ≤ ordering_index (answer (get_or xs m d))) e (omega arith)
    ]
      where
        rise : (xs : List A) → Rises R xs → (i j : ℕ) (d : A) → i < j → j < length xs → ordering_index (answer (get_or xs i d)) ≤ ordering_index (answer (get_or xs j d))
        rise [] r i j d l m = absurd (omega arith)
        rise (x ∷ xs) r i zero d l m = absurd (omega arith)
        rise (x ∷ xs) r zero (suc j) d l m = mono x (get_or xs j d) (heads_at R x xs r.0 j d (omega arith))
        rise (x ∷ xs) r (suc i) (suc j) d l m = rise xs r.1 i j d (omega arith) (omega arith)

    unequal : (xs : List A) (at : ℕ) → AllWithin (λ y. answer y ≡ Less) xs 0 at → AllWithin (λ y. answer y ≡ Greater) xs at (length xs) → All (λ y. is_eq (answer y) ≡ false) xs
    unequal xs at less greater k d l = elim (cases_lt k at) [
      | inl below ↦ rw (less k d (omega arith) below) refl
      | inr from ↦ rw (greater k d from l) refl
    ]

    pub searched : (xs : List A) → ascends_by (lt R) xs ≡ true → (r : Result ℕ ℕ) → IsSearchInRange r (length xs) → IsBinarySearchResult answer xs r → IfOk r (λ _. list_any (λ y. is_eq (answer y)) xs ≡ true) × IfErr r (λ _. list_any (λ y. is_eq (answer y)) xs ≡ false)
    searched xs h (Ok i) within equal = (found, tt)
      where
        found : list_any (λ y. is_eq (answer y)) xs ≡ true
        found = elim xs as (λ zs. xs ≡ zs → list_any (λ y. is_eq (answer y)) xs ≡ true) [
          | [] ↦ λ e. let none : length xs ≡ 0 = ap length e in absurd (omega arith)
          | z ∷ zs ↦ λ e. list_any_at _ xs i z within (ap is_eq (equal z))
        ] refl
    searched xs h (Err i) within parted =
        let p = parted (answers_rise xs (rises_from xs h)) in
        (tt, list_any_none _ xs (unequal xs i p.0 p.1))

  -- the answer for an item itself
  pub indices_rise : (k x y : A) → R x y ≡ Less → ordering_index (R x k) ≤ ordering_index (R y k)
  indices_rise k x y less = no_less (R x k) (R y k) (λ e. o.trans x y k less e) (λ e. sym (alike_right o y k x e) ∙ less)

  -- where an item would go
  pub gap : (xs : List A) (x : A) → ascends_by (lt R) xs ≡ true → (r : Result ℕ ℕ) → IsSearchInRange r (length xs) → IsBinarySearchResult (λ y. R y x) xs r → IfErr r (λ at. insert xs at x ≡ with_item (lt R) xs x)
  gap xs x h (Ok i) within equal = tt
  gap xs x h (Err i) within parted =
      let p = parted (answers_rise (λ y. R y x) (indices_rise x) xs (rises_from xs h)) in
      insert_at x xs i within p.0 p.1

-- what a search for an item answers, where it is listed or not
pub record IsPlace {A : Type 0} (before : A → A → Bool) (xs : List A) (x : A) (listed : Bool) (r : Result ℕ ℕ) : Type 0 where
  pub found : IfOk r (λ _. listed ≡ true)
  pub absent : IfErr r (λ _. listed ≡ false)
  pub there : IfOk r (λ _. xs ≡ with_item before xs x)
  pub place : IfErr r (λ at. insert xs at x ≡ with_item before xs x)

pub placed : {A : Type 0} (R : A → A → Ordering) (o : IsTotalOrder R) → CmpEqualImpliesEq R → (xs : List A) (x : A) (listed : Bool) → listed ≡ list_any (λ y. is_eq (R y x)) xs → ascends_by (lt R) xs ≡ true → (r : Result ℕ ℕ) → IsSearchInRange r (length xs) → IsBinarySearchResult (λ y. R y x) xs r → IsPlace (lt R) xs x listed r
placed R o exact xs x listed e h r within is =
    let parts = searched R o (λ y. R y x) (indices_rise R o x) xs h r within is in
    record {
      found = subst (λ b. IfOk r (λ _. b ≡ true)) (sym e) parts.0;
      absent = subst (λ b. IfErr r (λ _. b ≡ false)) (sym e) parts.1;
      there = same r parts.0;
      place = gap R o xs x h r within is;
    }
  where
    same : (q : Result ℕ ℕ) → IfOk q (λ _. list_any (λ y. is_eq (R y x)) xs ≡ true) → IfOk q (λ _. xs ≡ with_item (lt R) xs x)
    same (Ok i) found = same_with R o exact xs x h found
    same (Err i) found = tt

-- items within a limit, each once
pub record AreItems {A : Type 0} (before : A → A → Bool) (P : A → Type 0) (most : ℕ) (xs : List A) : Type 0 where
  pub few : length xs ≤ most
  pub each : All P xs
  pub ascending : ascends_by before xs ≡ true

-- what an insert leaves, done or not: xs is read in the fields, and ys is its value
pub after_insert : {A : Type 0} (R : A → A → Ordering) (o : IsTotalOrder R) (P : A → Type 0) (most : ℕ) {xs ys new : List A} (ok : Bool) (at : ℕ) (x given : A) → xs ≡ ys → AreItems (lt R) P most xs → P x → length xs < most → at ≤ length ys → insert ys at x ≡ with_item (lt R) ys x → given ≡ x → new ≡ (if ok then insert xs at given else xs) → AreItems (lt R) P most new
after_insert {A} R o P most {ys = ys} true at x given is old one few within place same e =
    let there = subst (AreItems (lt R) P most) is old in
    let fewer : length ys < most = subst (λ (zs : List A). length zs < most) is few in
    let size = length-insert ys at x within in
    rw (e, same, is, place) (record {
      few = rw (← place) (omega (arith, size, fewer));
      each = all_with R o P ys x there.each one;
      ascending = ascends_with R o ys x there.ascending;
    })
after_insert R o P most false at x given is old one few within place same e = rw e old
