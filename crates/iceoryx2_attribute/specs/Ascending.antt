-- Lists in an order, each item once.
use Rattle.std.specs.Prelude.{Bool, true, ◌&&◌, List, [], ◌∷◌, ◌++◌, filter}

-- each item stands before the next
unfoldable pub ascends_by : {A : Type 0} → (A → A → Bool) → List A → Bool
ascends_by before [] = true
ascends_by before (x ∷ []) = true
ascends_by before (x ∷ y ∷ rest) = before x y && ascends_by before (y ∷ rest)

-- the items that stand before x, then x, then those that it stands before
unfoldable pub with_item : {A : Type 0} → (A → A → Bool) → List A → A → List A
with_item before xs x = filter (λ y. before y x) xs ++ x ∷ filter (λ y. before x y) xs
