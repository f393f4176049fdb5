-- The steps of a walk over two maps, and what it comes to.
use Rattle.std.proofs.Common.{◌≡◌, List, [], ◌∷◌, length, Option, Some, None, refl, sym, ap, ◌∙◌, arith}
use Rattle.std.specs.Borrow.{Bor}
use Rattle.std.specs.Option.{option_copied}
use Rattle.std.specs.Iterator.{at_most, MakesProgress}
use Rattle.std.specs.Map.Iter.{TakesFirst, deref}
use Rattle.std.specs.Ordering.{match_ordering}
use Rattle.std.specs.declared.cmp.Ordering.{Ordering}
use Rattle.std.specs.declared.cmp.Ordering.TheVariants.{Less, Equal, Greater}
use Rattle.sorted_vec.specs.Both.{ahead, both}

-- an item was taken from the front
pub goes_by : {X A : Type 0} (can : List X → Type 0) (all : (s : List X) → can s) (s t : List X) (y : X) (r : A) → s ≡ y ∷ t
    → MakesProgress can (λ (l : List X). at_most (length l)) s (Some r) t
goes_by can all s t y r e = let n = ap length e in record {
  on = λ _. (all t, tt, omega (arith, n));
  keeps = all t;
  rests = λ _. tt;
}

-- what a walk gave, before what it left, is what it had
pub next_ahead : {X : Type 0} (s t : List X) (r : Option (Bor X)) → TakesFirst deref s r t → ahead (option_copied r) t ≡ s
next_ahead s t None e = e.1 ∙ sym e.0
next_ahead s t (Some x) e = sym e

pub none_left : {X : Type 0} (s t : List X) (r : Option (Bor X)) → TakesFirst deref s r t → r ≡ None → t ≡ []
none_left s t None e none = e.1
none_left s t (Some x) e none = absurd (cc)

module _ {K V W : Type 0} (R : K → K → Ordering) where
  both_none : both {V = V} {W = W} R [] [] ≡ []
  unfolding both
  both_none = refl

  both_other : (w : K × W) (ws : List (K × W)) → both {V = V} R [] (w ∷ ws) ≡ (w.0, (None, Some w.1)) ∷ both R [] ws
  unfolding both
  both_other w ws = refl

  both_one : (v : K × V) (vs : List (K × V)) → both {W = W} R (v ∷ vs) [] ≡ (v.0, (Some v.1, None)) ∷ both R vs []
  unfolding both
  both_one v vs = refl

  both_by : (v : K × V) (w : K × W) (vs : List (K × V)) (ws : List (K × W)) (o : Ordering) → R v.0 w.0 ≡ o → both R (v ∷ vs) (w ∷ ws) ≡ match_ordering o
      ((v.0, (Some v.1, None)) ∷ both R vs (w ∷ ws))
      ((v.0, (Some v.1, Some w.1)) ∷ both R vs ws)
      ((w.0, (None, Some w.1)) ∷ both R (v ∷ vs) ws)
  unfolding both
  both_by v w vs ws o e = ap (λ o. match_ordering o
      ((v.0, (Some v.1, None)) ∷ both R vs (w ∷ ws))
      ((v.0, (Some v.1, Some w.1)) ∷ both R vs ws)
      ((w.0, (None, Some w.1)) ∷ both R (v ∷ vs) ws)) e

  module _ (a : Option (Bor (K × V))) (xs : List (K × V)) (b : Option (Bor (K × W))) (ys : List (K × W)) where
    abbrev ones : List (K × V)
    ones = ahead (option_copied a) xs

    abbrev others : List (K × W)
    others = ahead (option_copied b) ys

    nothing : {X : Type 0} (c : Option (Bor X)) (cs : List X) → c ≡ None → (c ≡ None → cs ≡ []) → ahead (option_copied c) cs ≡ []
    nothing c cs none end = ap (λ x. ahead (option_copied x) cs) none ∙ end none

    something : {X : Type 0} (c : Option (Bor X)) (cs : List X) (x : Bor X) → c ≡ Some x → ahead (option_copied c) cs ≡ x.now ∷ cs
    something c cs x some = ap (λ x. ahead (option_copied x) cs) some

    pub ends : a ≡ None → b ≡ None → (a ≡ None → xs ≡ []) → (b ≡ None → ys ≡ []) → both R ones others ≡ []
    ends na nb ea eb = (λ i. both R (nothing a xs na ea i) (nothing b ys nb eb i)) ∙ both_none

    pub other_alone : (y : Bor (K × W)) (r : Option (Bor (K × W))) (t : List (K × W)) → a ≡ None → (a ≡ None → xs ≡ []) → b ≡ Some y → TakesFirst deref ys r t
        → both R ones others ≡ (y.now.0, (None, Some y.now.1)) ∷ both R ones (ahead (option_copied r) t)
    other_alone y r t na ea some next =
        (λ i. both R (nothing a xs na ea i) (something b ys y some i)) ∙ both_other y.now ys
        ∙ (λ i. (y.now.0, (None, Some y.now.1)) ∷ both R (sym (nothing a xs na ea) i) (sym (next_ahead ys t r next) i))

    pub one_alone : (x : Bor (K × V)) (r : Option (Bor (K × V))) (t : List (K × V)) → b ≡ None → (b ≡ None → ys ≡ []) → a ≡ Some x → TakesFirst deref xs r t
        → both R ones others ≡ (x.now.0, (Some x.now.1, None)) ∷ both R (ahead (option_copied r) t) others
    one_alone x r t nb eb some next =
        (λ i. both R (something a xs x some i) (nothing b ys nb eb i)) ∙ both_one x.now xs
        ∙ (λ i. (x.now.0, (Some x.now.1, None)) ∷ both R (sym (next_ahead xs t r next) i) (sym (nothing b ys nb eb) i))

    module _ (x : Bor (K × V)) (y : Bor (K × W)) (sa : a ≡ Some x) (sb : b ≡ Some y) where
      pub one_less : (r : Option (Bor (K × V))) (t : List (K × V)) → R x.now.0 y.now.0 ≡ Less → TakesFirst deref xs r t
          → both R ones others ≡ (x.now.0, (Some x.now.1, None)) ∷ both R (ahead (option_copied r) t) others
      one_less r t e next =
          (λ i. both R (something a xs x sa i) (something b ys y sb i)) ∙ both_by x.now y.now xs ys Less e
          ∙ (λ i. (x.now.0, (Some x.now.1, None)) ∷ both R (sym (next_ahead xs t r next) i) (sym (something b ys y sb) i))

      pub other_less : (r : Option (Bor (K × W))) (t : List (K × W)) → R x.now.0 y.now.0 ≡ Greater → TakesFirst deref ys r t
          → both R ones others ≡ (y.now.0, (None, Some y.now.1)) ∷ both R ones (ahead (option_copied r) t)
      other_less r t e next =
          (λ i. both R (something a xs x sa i) (something b ys y sb i)) ∙ both_by x.now y.now xs ys Greater e
          ∙ (λ i. (y.now.0, (None, Some y.now.1)) ∷ both R (sym (something a xs x sa) i) (sym (next_ahead ys t r next) i))

      pub together : (r : Option (Bor (K × V))) (t : List (K × V)) (p : Option (Bor (K × W))) (q : List (K × W)) → R x.now.0 y.now.0 ≡ Equal → TakesFirst deref xs r t → TakesFirst deref ys p q
          → both R ones others ≡ (x.now.0, (Some x.now.1, Some y.now.1)) ∷ both R (ahead (option_copied r) t) (ahead (option_copied p) q)
      together r t p q e next following =
          (λ i. both R (something a xs x sa i) (something b ys y sb i)) ∙ both_by x.now y.now xs ys Equal e
          ∙ (λ i. (x.now.0, (Some x.now.1, Some y.now.1)) ∷ both R (sym (next_ahead xs t r next) i) (sym (next_ahead ys q p following) i))
