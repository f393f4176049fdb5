-- One setter after the others.
use Rattle.std.proofs.Common.{◌≡◌, ℕ, suc, List, [], ◌∷◌, ◌++◌, length, refl, sym, ap, ◌∙◌, append_assoc, arith}
use Rattle.iceoryx2_session.specs.Setters.{with_settings}

pub with_settings_push : {B X : Type 0} (with_setting : B → X → B) (b : B) (xs : List X) (x : X) → with_settings with_setting b (xs ++ x ∷ []) ≡ with_setting (with_settings with_setting b xs) x
unfolding with_settings
with_settings_push with_setting b [] x = refl
with_settings_push with_setting b (y ∷ xs) x = with_settings_push with_setting (with_setting b y) xs x

-- The setters that were taken, those that are left, and the builder after the first.
pub record TakesSettings {B X : Type 0} (with_setting : B → X → B) (old : B) (settings taken left : List X) (count : ℕ) (new : B) : Type 0 where
  pub so_far : new ≡ with_settings with_setting old taken
  pub in_order : taken ++ left ≡ settings
  pub long : count ≡ length left

module _ {B X : Type 0} (with_setting : B → X → B) (old : B) where
  pub begins : (settings : List X) (n : ℕ) → n ≡ length settings → TakesSettings with_setting old settings [] settings n old
  unfolding with_settings
  begins settings n long = record { so_far = refl; in_order = refl; long = long }

  pub one_more : (settings taken left now_left : List X) (n k : ℕ) (x : X) (mid : B) → TakesSettings with_setting old settings taken left n mid → left ≡ x ∷ now_left → suc k ≡ n → TakesSettings with_setting old settings (taken ++ x ∷ []) now_left k (with_setting mid x)
  one_more settings taken left now_left n k x mid t is fewer =
      let shorter = ap (λ (l : List X). length l) is in
      let long = t.long in
      record {
        so_far = ap (λ b. with_setting b x) t.so_far ∙ sym (with_settings_push with_setting old taken x);
        in_order = append_assoc taken (x ∷ []) now_left ∙ ap (λ (l : List X). taken ++ l) (sym is) ∙ t.in_order;
        long = omega (arith, fewer, shorter, long);
      }
