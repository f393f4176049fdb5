use Rattle.std.proofs.Common.{◌≡◌, List, [], ◌∷◌, ◌++◌, refl, ◌∙◌}
use Rattle.iceoryx2_access.specs.Run.{Run, done, next, Joins, Each}

pub one : {S L : Type 0} {step : S → L → S → Type 0} {a b : S} {l : L} → step a l b → Run step a (l ∷ []) b
one h = next h done

pub both : {S L : Type 0} {step : S → L → S → Type 0} {a b c : S} {u v : List L} → Run step a u b → Run step b v c → Run step a (u ++ v) c
both done s = s
both (next h r) s = next h (both r s)

pub record Split {S L : Type 0} (step : S → L → S → Type 0) (a : S) (u v : List L) (c : S) : Type 0 where
  pub mid : S
  pub first : Run step a u mid
  pub second : Run step mid v c

pub record Head {S L : Type 0} (step : S → L → S → Type 0) (a : S) (l : L) (w : List L) (c : S) : Type 0 where
  pub mid : S
  pub first : step a l mid
  pub rest : Run step mid w c

pub head : {S L : Type 0} {step : S → L → S → Type 0} {a c : S} {l : L} {w : List L} → Run step a (l ∷ w) c → Head step a l w c
head (next {mid = m} h r) = record { mid = m; first = h; rest = r }

pub split : {S L : Type 0} {step : S → L → S → Type 0} (u v : List L) {a c : S} → Run step a (u ++ v) c → Split step a u v c
split [] v {a = a} r = record { mid = a; first = done; second = r }
split (l ∷ u) v (next h r) = let s = split u v r in record { mid = s.mid; first = next h s.first; second = s.second }

-- a word with its run
pub joins : {S L : Type 0} {step : S → L → S → Type 0} {a b : S} {P : List L → Type 0} {w : List L} → P w → Run step a w b → Joins step a P b
joins {w} p r = record { word = w; is_word = p; run = r }

-- the step of a word of one letter
pub last : {S L : Type 0} {step : S → L → S → Type 0} {a b : S} {l : L} → Run step a (l ∷ []) b → step a l b
last (next h done) = h

-- a run is one of what each state is seen as, where each step is one of what its states are seen as
pub run_map : {S T L : Type 0} {big : S → L → S → Type 0} {small : T → L → T → Type 0} (f : S → T) → ((a b : S) (l : L) → big a l b → small (f a) l (f b))
    → {a b : S} {word : List L} → Run big a word b → Run small (f a) word (f b)
run_map f each done = done
run_map f each (next h rest) = next (each _ _ _ h) (run_map f each rest)

module _ {S L : Type 0} {step : S → L → S → Type 0} where
  -- what is so before a step and after it, is so after a run
  pub run_keeps : (P : S → Type 0) → ((a b : S) (l : L) → step a l b → P a → P b) → {a b : S} {word : List L} → Run step a word b → P a → P b
  run_keeps P each done p = p
  run_keeps P each (next h rest) p = run_keeps P each rest (each _ _ _ h p)

  -- what a step leaves as it is, a run leaves
  pub run_leaves : {A : Type 0} (f : S → A) → ((a b : S) (l : L) → step a l b → f b ≡ f a) → {a b : S} {word : List L} → Run step a word b → f b ≡ f a
  run_leaves f each {a = a} run = run_keeps (λ s. f s ≡ f a) (λ s t l h e. each s t l h ∙ e) run refl

pub each_append : {L : Type 0} (P : L → Type 0) (u v : List L) → Each P u → Each P v → Each P (u ++ v)
each_append P [] v a b = b
each_append P (l ∷ u) v a b = (a.0, each_append P u v a.1 b)
