-- A leaf stands for one text at most.
use Rattle.std.proofs.Common.{◌≡◌, ℕ, List, Option, Some, sym, ◌∙◌}
use Rattle.negotiate_lines.specs.declared.leaf.Form.{Form}
use Rattle.negotiate_lines.specs.declared.leaf.Form.TheVariants as form
use Rattle.negotiate_lines.specs.Leaves.{IsLeaf}

same_value : (a b : List ℕ) → ◌≡◌ {A = Option (List ℕ)} (Some a) (Some b) → a ≡ b
same_value a b h = cc

pub one_leaf : (of : Form) (leaf text other : List ℕ) → IsLeaf of leaf text → IsLeaf of leaf other → text ≡ other
one_leaf form.Plain leaf text other left right = sym left ∙ right
one_leaf form.Escaped leaf text other left right = same_value text other (sym left.0 ∙ right.0)
