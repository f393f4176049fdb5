-- What the comparison of two worlds finds: the phases that are settled, as lists and by participant.
use Rattle.std.proofs.Common.{◌≡◌, ℕ, ◌+◌, ◌-◌, ◌<◌, ◌≤◌, ◌⊎◌, inl, inr, Bool, true, false, not, cond, List, [], ◌∷◌, length, get_or, take, drop, Some, None, refl, sym, ap, subst, ◌∙◌}
use Rattle.std.specs.Prelude.{T, ◌&&◌, ◌||◌, ◌↔◌, IsTrue, filter}
use Rattle.std.specs.Bool.{Decides}
use Rattle.std.specs.Cmp.{Equal-is}
use Rattle.std.specs.Cmp.Lexicographic.{pointwise}
use Rattle.std.specs.FinMap as map
use Rattle.std.specs.FinMap.Entries.{find, is_sorted, below_all, same_entries}
use Rattle.std.specs.List.{list_any}
use Rattle.std.specs.Ordering.{eq_by_cmp}
use Rattle.std.specs.declared.cmp.Ordering.{Ordering}
use Rattle.std.proofs.lemmas.List.{drop_more, length-drop, take_all}
use Rattle.std.proofs.Math.Nat.{le_refl}
use Rattle.std.proofs.lemmas.Slice.Eq.{slice_eq-Decides}
use Rattle.iceoryx2_description.specs.declared.description.ServiceHash.{ServiceHash}
use Rattle.iceoryx2_world.specs.declared.world.Participant.{Participant}
use Rattle.iceoryx2_world.specs.declared.world.Phase.{Phase}
use Rattle.iceoryx2_world.specs.declared.world.Phase.TheVariants as at
use Rattle.iceoryx2_world.specs.Orders.{place_cmp, place_total, place_exact}
use Rattle.iceoryx2_world.specs.World.{begins, or_idle, unless_idle}
use Rattle.iceoryx2_table.specs.Comparing.{PhaseEntries, same_place, settled_phases}
use Rattle.iceoryx2_table.specs.Decided.{pair_decides, place_decides}
use Rattle.iceoryx2_table.specs.Same.{settled}
use Rattle.iceoryx2_table.proofs.Merging.{both, parts, less_of, past}

-- ---- one walk over both lists

abbrev is_settled : (Participant × ServiceHash) × Phase → Bool
is_settled e = not (begins e.1)

not_not : (b : Bool) → not b ≡ false → b ≡ true
not_not true e = refl
not_not false e = absurd (cc)

true_not_false : (b : Bool) → b ≡ true → not b ≡ true → ⊥
true_not_false true e f = cc
true_not_false false e f = cc

and_true : (b : Bool) → (b && true) ≡ b
and_true true = refl
and_true false = refl

none_left : {X : Type 0} (E : X → X → Bool) (p : X → Bool) (xs : List X) → not (list_any p xs) ≡ pointwise E [] (filter p xs)
none_left E p [] = refl
none_left E p (x ∷ xs) = elim (p x) as (λ b. not (b || list_any p xs) ≡ pointwise E [] (cond b (x ∷ filter p xs) (filter p xs))) [
  | true ↦ refl
  | false ↦ none_left E p xs
]

none_right : {X : Type 0} (E : X → X → Bool) (p : X → Bool) (xs : List X) → not (list_any p xs) ≡ pointwise E (filter p xs) []
none_right E p [] = refl
none_right E p (x ∷ xs) = elim (p x) as (λ b. not (b || list_any p xs) ≡ pointwise E (cond b (x ∷ filter p xs) (filter p xs)) []) [
  | true ↦ refl
  | false ↦ none_right E p xs
]

ends_by : (a b : PhaseEntries) → (a ≡ []) ⊎ (b ≡ []) → (not (list_any is_settled a) && not (list_any is_settled b)) ≡ pointwise same_place (settled_phases a) (settled_phases b)
ends_by a b (inl e) = (λ i. not (list_any is_settled (e i)) && not (list_any is_settled b)) ∙ none_left same_place is_settled b ∙ (λ i. pointwise same_place (settled_phases (sym e i)) (settled_phases b))
ends_by a b (inr e) = (λ i. not (list_any is_settled a) && not (list_any is_settled (e i))) ∙ and_true (not (list_any is_settled a)) ∙ none_right same_place is_settled a ∙ (λ i. pointwise same_place (settled_phases a) (settled_phases (sym e i)))

-- by the answer of a comparison of the settled phases
pub by_answer : (a b : PhaseEntries) {r : Bool} → r ≡ pointwise same_place (settled_phases a) (settled_phases b) → IsTrue r ↔ (settled_phases b ≡ settled_phases a)
by_answer a b {r} e =
    let d : Decides r (settled_phases a ≡ settled_phases b) = slice_eq-Decides place_decides (settled_phases a) (settled_phases b) r e in
    (λ t. sym (d.0 t), λ s. d.1 (sym s))

-- the rest as it is handed over
rest : (a : PhaseEntries) (i : ℕ) → take (length a - i) (drop i a) ≡ drop i a
rest a i = take_all (length a - i) (drop i a) (rw (length-drop i a) (le_refl (length a - i)))

first_of : (a : PhaseEntries) (i : ℕ) (d : (Participant × ServiceHash) × Phase) → i < length a → begins (get_or a i d).1 ≡ false → settled_phases (drop i a) ≡ get_or a i d ∷ settled_phases (drop (i + 1) a)
first_of a i d lt e = ap settled_phases (drop_more a i d lt) ∙ (λ k. cond (not (e k)) (get_or a i d ∷ settled_phases (drop (i + 1) a)) (settled_phases (drop (i + 1) a)))

-- two of them differ
pub differ : (a b : PhaseEntries) (i j : ℕ) (d f : (Participant × ServiceHash) × Phase) → i < length a → j < length b → begins (get_or a i d).1 ≡ false → begins (get_or b j f).1 ≡ false → same_place (get_or a i d) (get_or b j f) ≡ false
    → pointwise same_place (settled_phases (drop i a)) (settled_phases (drop j b)) ≡ pointwise same_place (settled_phases a) (settled_phases b) → false ≡ pointwise same_place (settled_phases a) (settled_phases b)
differ a b i j d f x y at_a at_b e same =
    (λ k. sym e k && pointwise same_place (settled_phases (drop (i + 1) a)) (settled_phases (drop (j + 1) b)))
    ∙ (λ k. pointwise same_place (sym (first_of a i d x at_a) k) (sym (first_of b j f y at_b) k)) ∙ same

-- the walk has come to the end of one of them
module _ (a b : PhaseEntries) (i j : ℕ) (end : (length a ≤ i) ⊎ (length b ≤ j)) (same : pointwise same_place (settled_phases (drop i a)) (settled_phases (drop j b)) ≡ pointwise same_place (settled_phases a) (settled_phases b)) where
  ended : (not (list_any is_settled (drop i a)) && not (list_any is_settled (drop j b))) ≡ pointwise same_place (settled_phases a) (settled_phases b)
  ended = ends_by (drop i a) (drop j b) (elim end [ inl e ↦ inl (past a i e) | inr e ↦ inr (past b j e) ]) ∙ same

  pub none_here : {m n : Bool} → m ≡ list_any is_settled (take (length a - i) (drop i a)) → n ≡ list_any is_settled (take (length b - j) (drop j b)) → m ≡ false → IsTrue (not n) ↔ (settled_phases b ≡ settled_phases a)
  none_here {m} {n} x y e = by_answer a b ((λ k. not (sym e k) && not n) ∙ (λ k. not (x k) && not (y k)) ∙ (λ k. not (list_any is_settled (rest a i k)) && not (list_any is_settled (rest b j k))) ∙ ended)

  pub some_here : {m : Bool} → m ≡ list_any is_settled (take (length a - i) (drop i a)) → m ≡ true → IsTrue (not m) ↔ (settled_phases b ≡ settled_phases a)
  some_here {m} x e = by_answer a b (ap not e ∙ (λ k. not (sym e k) && not (list_any is_settled (drop j b))) ∙ (λ k. not (x k) && not (list_any is_settled (drop j b))) ∙ (λ k. not (list_any is_settled (rest a i k)) && not (list_any is_settled (drop j b))) ∙ ended)

-- ---- the phases by participant

none_below : (q : Participant × ServiceHash) (es : PhaseEntries) → T (below_all place_cmp q es) → find place_cmp q es ≡ None
none_below q [] h = refl
none_below q (e ∷ es) h = let p = parts _ _ h in rw (less_of (place_cmp q e.0) p.0) (none_below q es p.1)

module _ (q : Participant × ServiceHash) where
  -- at the key itself
  here : (k : Participant × ServiceHash) (x : Phase) (es : PhaseEntries) → eq_by_cmp place_cmp q k ≡ true → or_idle (find place_cmp q es) ≡ at.Idle → or_idle (find place_cmp q (cond (not (begins x)) ((k, x) ∷ es) es)) ≡ settled x
  here k at.Idle es t none = none
  here k (at.Read n) es t none = none
  here k x es t none = ap (λ b. or_idle (cond b (Some x) (find place_cmp q es))) t

  -- a settled list has each phase that holds something
  phase_kept : (es : PhaseEntries) → T (is_sorted place_cmp es) → or_idle (find place_cmp q (settled_phases es)) ≡ settled (or_idle (find place_cmp q es))
  phase_kept [] h = refl
  phase_kept (e ∷ es) h =
      let p = parts _ _ h in
      let rest = phase_kept es p.1 in
      elim (eq_by_cmp place_cmp q e.0) as (λ t. eq_by_cmp place_cmp q e.0 ≡ t → or_idle (find place_cmp q (cond (not (begins e.1)) (e ∷ settled_phases es) (settled_phases es))) ≡ settled (or_idle (cond t (Some e.1) (find place_cmp q es)))) [
        | true ↦ λ t.
            let key : q ≡ e.0 = place_exact q e.0 ((Equal-is (place_cmp q e.0)).0 t) in
            let none : find place_cmp q es ≡ None = none_below q es (subst (λ k. T (below_all place_cmp k es)) (sym key) p.0) in
            here e.0 e.1 (settled_phases es) t (rest ∙ ap (λ o. settled (or_idle o)) none)
        | false ↦ λ t. elim (not (begins e.1)) as (λ b. or_idle (find place_cmp q (cond b (e ∷ settled_phases es) (settled_phases es))) ≡ settled (or_idle (find place_cmp q es))) [
          | true ↦ ap (λ b. or_idle (cond b (Some e.1) (find place_cmp q (settled_phases es)))) t ∙ rest
          | false ↦ rest
        ]
      ] refl

  -- what it has isn't Idle
  one_held : (k : Participant × ServiceHash) (x : Phase) (es : PhaseEntries) → unless_idle (or_idle (find place_cmp q es)) ≡ find place_cmp q es → unless_idle (or_idle (find place_cmp q (cond (not (begins x)) ((k, x) ∷ es) es))) ≡ find place_cmp q (cond (not (begins x)) ((k, x) ∷ es) es)
  one_held k at.Idle es rest = rest
  one_held k (at.Read n) es rest = rest
  one_held k x es rest = elim (eq_by_cmp place_cmp q k) as (λ b. unless_idle (or_idle (cond b (Some x) (find place_cmp q es))) ≡ cond b (Some x) (find place_cmp q es)) [
    | true ↦ refl
    | false ↦ rest
  ]

  held : (es : PhaseEntries) → unless_idle (or_idle (find place_cmp q (settled_phases es))) ≡ find place_cmp q (settled_phases es)
  held [] = refl
  held (e ∷ es) = one_held e.0 e.1 (settled_phases es) (held es)

below_settled : (k : Participant × ServiceHash) (es : PhaseEntries) → T (below_all place_cmp k es) → T (below_all place_cmp k (settled_phases es))
below_settled k [] h = tt
below_settled k (e ∷ es) h =
    let p = parts _ _ h in
    let rest = below_settled k es p.1 in
    elim (not (begins e.1)) as (λ b. T (below_all place_cmp k (cond b (e ∷ settled_phases es) (settled_phases es)))) [ true ↦ both _ _ p.0 rest | false ↦ rest ]

sorted_settled : (es : PhaseEntries) → T (is_sorted place_cmp es) → T (is_sorted place_cmp (settled_phases es))
sorted_settled [] h = tt
sorted_settled (e ∷ es) h =
    let p = parts _ _ h in
    let rest = sorted_settled es p.1 in
    elim (not (begins e.1)) as (λ b. T (is_sorted place_cmp (cond b (e ∷ settled_phases es) (settled_phases es)))) [ true ↦ both _ _ (below_settled e.0 es p.0) rest | false ↦ rest ]

module _ (m n : map.FinMap place_cmp Phase) where
  abbrev pub SettledAlike : Type 0
  SettledAlike = (q : Participant × ServiceHash) → settled (or_idle (map.get n q)) ≡ settled (or_idle (map.get m q))

  read_by : (o : map.FinMap place_cmp Phase) (q : Participant × ServiceHash) → settled (or_idle (map.get o q)) ≡ or_idle (find place_cmp q (settled_phases (map.entries o)))
  read_by o q = ap (λ x. settled (or_idle x)) (map.get-entries o q) ∙ sym (phase_kept q (map.entries o) (map.entries_sorted o))

  pub alike_by_list : settled_phases (map.entries n) ≡ settled_phases (map.entries m) → SettledAlike
  alike_by_list e q = read_by n q ∙ ap (λ l. or_idle (find place_cmp q l)) e ∙ sym (read_by m q)

  pub list_by_alike : SettledAlike → settled_phases (map.entries n) ≡ settled_phases (map.entries m)
  list_by_alike alike =
      same_entries place_cmp place_total place_exact (settled_phases (map.entries n)) (settled_phases (map.entries m))
      (sorted_settled (map.entries n) (map.entries_sorted n)) (sorted_settled (map.entries m) (map.entries_sorted m))
      (λ q. sym (held q (map.entries n)) ∙ ap unless_idle (sym (read_by n q) ∙ alike q ∙ read_by m q) ∙ held q (map.entries m))

-- ---- maps by their entries

-- by what decides whether keys are equal, and whether values are
module _ {K X : Type 0} (E : K → K → Bool) (F : X → X → Bool) (keys : (x y : K) → Decides (E x y) (x ≡ y)) (values : (x y : X) → Decides (F x y) (x ≡ y)) where
  module _ {R : K → K → Ordering} (m n : map.FinMap R X) {a b : List (K × X)} (left : a ≡ map.entries m) (right : b ≡ map.entries n) {r : Bool} (is : r ≡ not (pointwise (λ x y. E x.0 y.0 && F x.1 y.1) a b)) where
    found : Decides (pointwise (λ (x y : K × X). E x.0 y.0 && F x.1 y.1) a b) (a ≡ b)
    found = slice_eq-Decides (pair_decides E F keys values) a b _ refl

    pub maps_same : r ≡ false → n ≡ m
    maps_same e = sym (map.same_entries_map m n (sym left ∙ found.0 (not_not (pointwise (λ (x y : K × X). E x.0 y.0 && F x.1 y.1) a b) (sym is ∙ e)) ∙ right))

    pub maps_apart : r ≡ true → n ≡ m → ⊥
    maps_apart e same = true_not_false (pointwise (λ (x y : K × X). E x.0 y.0 && F x.1 y.1) a b) (found.1 (left ∙ sym (ap map.entries same) ∙ sym right)) (sym is ∙ e)
