-- A value means one type at most.
use Rattle.std.proofs.Common.{◌≡◌, ℕ, List, bytes_eq, codes, refl, sym, ap, subst, ◌∙◌}
use Rattle.iceoryx2_types.specs.declared.types.TypeVariant.{TypeVariant}
use Rattle.iceoryx2_types.specs.declared.types.TypeVariant.TheVariants.{FixedSize, Dynamic}
use Rattle.iceoryx2_types.specs.Types.{Detail, HasNameLength, IsAlignment}
use Rattle.negotiate_lines.specs.declared.leaf.Form.{Form}
use Rattle.negotiate_lines.specs.Leaves.{IsLeaf}
use Rattle.negotiate_lines.specs.Terms.{AreAround}
use Rattle.negotiate_lines.specs.Values.{IsNatural, IsAlignmentTerm, IsVariantTerm, AreParts, IsDetailTerm}
use Rattle.negotiate_lines.proofs.Around.{one_cut}
use Rattle.negotiate_lines.proofs.OneLeaf.{one_leaf}
use Rattle.negotiate_lines.proofs.OneValue.{one_natural, false-true}

pub one_alignment : (value : List ℕ) (n m : ℕ) → IsAlignmentTerm value n → IsAlignmentTerm value m → n ≡ m
one_alignment value n m left right = one_natural value n m left.0 right.0

fixed_dynamic : codes "fixed" ≡ codes "dynamic" → ⊥
fixed_dynamic e = false-true (ap (λ (w : List ℕ). bytes_eq w (codes "dynamic")) e)

one_variant : (value : List ℕ) (a b : TypeVariant) → IsVariantTerm value a → IsVariantTerm value b → a ≡ b
one_variant value FixedSize FixedSize left right = refl
one_variant value FixedSize Dynamic left right = absurd (fixed_dynamic (sym left ∙ right))
one_variant value Dynamic FixedSize left right = absurd (fixed_dynamic (sym right ∙ left))
one_variant value Dynamic Dynamic left right = refl

-- there are no two ways to part a value
record SameParts (a b c d e f g h : List ℕ) : Type 0 where
  first : a ≡ e
  second : b ≡ f
  third : c ≡ g
  fourth : d ≡ h

one_parting : (value a b c d e f g h : List ℕ) → AreParts value a b c d → AreParts value e f g h
    → SameParts a b c d e f g h
one_parting value a b c d e f g h left right =
    let outer = one_cut 44 value a e left.behind_first right.behind_first left.around_first right.around_first in
    let between =
    one_cut 44 right.behind_first b f left.behind_second right.behind_second
    (subst (λ (t : List ℕ). AreAround 44 t b left.behind_second) outer.back left.around_second) right.around_second in
    let inner =
    one_cut 44 right.behind_second c g d h
    (subst (λ (t : List ℕ). AreAround 44 t c d) between.back left.around_third) right.around_third in
    record { first = outer.front; second = between.front; third = inner.front; fourth = inner.back }

pub one_detail : (form : Form) (value : List ℕ) (a b : Detail) → IsDetailTerm form value a → IsDetailTerm form value b → a ≡ b
one_detail form value a b left right =
    let same =
    one_parting value left.variant left.name left.size left.alignment right.variant right.name right.size right.alignment
    left.parts right.parts in
    let variant =
    one_variant right.variant a.variant b.variant
    (subst (λ (t : List ℕ). IsVariantTerm t a.variant) same.first left.variant_is) right.variant_is in
    let size =
    one_natural right.size a.size b.size
    (subst (λ (t : List ℕ). IsNatural t a.size) same.third left.size_is) right.size_is in
    let alignment =
    one_alignment right.alignment a.alignment b.alignment
    (subst (λ (t : List ℕ). IsAlignmentTerm t a.alignment) same.fourth left.alignment_is) right.alignment_is in
    let name =
    one_leaf form right.name a.name b.name
    (subst (λ (t : List ℕ). IsLeaf form t a.name) same.second left.text_is) right.text_is in
    λ i. record { variant = variant i; name = name i; size = size i; alignment = alignment i }

-- ---- values that mean no type

-- what means a type is around its first three commas
module _ (form : Form) (value variant name size alignment : List ℕ) (parts : AreParts value variant name size alignment) where
  same_parts : (d : Detail) (is : IsDetailTerm form value d)
      → SameParts variant name size alignment is.variant is.name is.size is.alignment
  same_parts d is = one_parting value variant name size alignment is.variant is.name is.size is.alignment parts is.parts

  pub no_variant : ((v : TypeVariant) → IsVariantTerm variant v → ⊥) → (d : Detail) → IsDetailTerm form value d
      → ⊥
  no_variant none d is =
      none d.variant (subst (λ (t : List ℕ). IsVariantTerm t d.variant) (sym (same_parts d is).first) is.variant_is)

  pub no_size : ((n : ℕ) → IsNatural size n → ⊥) → (d : Detail) → IsDetailTerm form value d → ⊥
  no_size none d is =
      none d.size (subst (λ (t : List ℕ). IsNatural t d.size) (sym (same_parts d is).third) is.size_is)

  pub no_alignment : ((n : ℕ) → IsNatural alignment n → ⊥) → (d : Detail) → IsDetailTerm form value d → ⊥
  no_alignment none d is =
      none d.alignment (subst (λ (t : List ℕ). IsNatural t d.alignment)
      (sym (same_parts d is).fourth) is.alignment_is.0)

  pub no_name : ((text : List ℕ) → IsLeaf form name text → HasNameLength text → ⊥) → (d : Detail) → IsDetailTerm form value d → ⊥
  no_name out d is =
      out d.name (subst (λ (t : List ℕ). IsLeaf form t d.name) (sym (same_parts d is).second) is.text_is) is.name_is

  pub not_aligned : (n : ℕ) → IsNatural alignment n → (IsAlignment n → ⊥) → (d : Detail)
      → IsDetailTerm form value d → ⊥
  not_aligned n number out d is =
      let same =
      one_natural alignment n d.alignment number (subst (λ (t : List ℕ). IsNatural t d.alignment)
      (sym (same_parts d is).fourth) is.alignment_is.0) in
      out (subst (λ (m : ℕ). IsAlignment m) (sym same) is.alignment_is.1)

pub no_parts : (form : Form) (value : List ℕ)
    → ((first second third fourth : List ℕ) → AreParts value first second third fourth → ⊥) → (d : Detail)
    → IsDetailTerm form value d → ⊥
no_parts form value none d is = none is.variant is.name is.size is.alignment is.parts

-- ---- values that have no such parts

pub no_second_comma : (value first rest : List ℕ) → AreAround 44 value first rest
    → ((front back : List ℕ) → AreAround 44 rest front back → ⊥)
    → (a b c d : List ℕ) → AreParts value a b c d → ⊥
no_second_comma value first rest cut none a b c d are =
    none b are.behind_second (subst (λ (t : List ℕ). AreAround 44 t b are.behind_second)
    (one_cut 44 value a first are.behind_first rest are.around_first cut).back are.around_second)

pub no_third_comma : (value first rest second behind : List ℕ) → AreAround 44 value first rest
    → AreAround 44 rest second behind → ((front back : List ℕ) → AreAround 44 behind front back → ⊥)
    → (a b c d : List ℕ) → AreParts value a b c d → ⊥
no_third_comma value first rest second behind cut next none a b c d are =
    let same =
    subst (λ (t : List ℕ). AreAround 44 t b are.behind_second)
    (one_cut 44 value a first are.behind_first rest are.around_first cut).back are.around_second in
    none c d (subst (λ (t : List ℕ). AreAround 44 t c d)
    (one_cut 44 rest b second are.behind_second behind same next).back are.around_third)
