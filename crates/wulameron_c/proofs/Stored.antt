-- How an `RawBox` lies in the machine, and how it is opened and closed.
use Rattle.std.proofs.Common.{◌≡◌, ℕ, List, [], ◌∷◌, ◌++◌, refl, subst}
use mathlib.Core.Bool.{Bool, true, false, ◌&&◌}
use lib.Dec.{T}
use seplogic.Ra.Ura.{Ura}
use mir.Syntax.{impl, tnil, dnil}
use mir.Raw.{raw as bare}
use mir.Val.{Val, vptr, vstruct, vcons, vnil, of_list, has_ty, WT}
use base.Logic.{never, fst∗}
use types.Logic.{Logic, sem}
use types.Kit.{Item, Goal, Seq, Step, step, ‵, ◌$◌, move, drop, fsplit, fjoin, fpick, fpack, feq_i, feq_l}
use denote.RattleType.{RattleType, Valss}
use denote.Builtin.{RawPtr}
use denote.Memory.{lone}
use denote.RawPtr.{Ptr, block_ptr, null_ptr, ptr_val, in_a_block}
use denote.Steps.{nothing}
use denote.Param.{layout}
use denote.Param.Laws.{Laws}
use denote.Struct.Struct.{within}
use denote.Struct.Owning.{shape}
use Rattle.std.specs.declared.alloc.Allocator.{Ghosts}
use Rattle.std.proofs.alloc.Calls.{Al, handle_tells}
use Rattle.std.proofs.cell.Inside.{Good}
use Rattle.std.specs.Box.Ownership.{box_owns}
use Rattle.wulameron_c.specs.contracts.raw_box.RawBox as apart

-- a struct of two fields
abbrev pub pair : Val → Val → Val
pair pointer alloc = vstruct (vcons pointer (vcons alloc vnil))

-- a test that ends in `true`
test_of_one : (fits : Bool) → T fits → T (fits && true)
test_of_one true so = so
test_of_one false so = absurd so

module _ (V A : RattleType) (laws : Laws A) (ghosts : Ghosts A.Denot) where
  abbrev pub row : RattleType
  row = apart.the_row V A ghosts

  abbrev pub allocator : Al
  allocator = record { row = A; laws = laws; g = ghosts; d = impl [] tnil dnil; drops = impl [] tnil dnil }

  -- what the box owned, at the block where its value lies
  abbrev pub Owned : A.Denot → ℕ → ℕ → V.Denot → base.Fml.Fml
  Owned alloc block offset value = box_owns (ghosts.dealloc_token alloc) V (block_ptr block offset) value

  -- a pointer beside an allocator that fits is a struct that fits
  pub pair_fits : (block offset : ℕ) (alloc : Val) → Good (layout A) alloc
      → T (has_ty (layout A) alloc && true) × WT (pair (vptr block offset) alloc)
  pair_fits block offset alloc fits = (test_of_one (has_ty (layout A) alloc) fits.0, (tt, (fits.1, tt)))

  module _ {M : Type 1} {𝓤 : Ura M} {𝓛 : Logic 𝓤} {K : Type 0} {Γ : List (Item 𝓤)} {G : Goal 𝓤 𝓛.H} (t : K) where
    -- one that is owned lies as a pointer into a block, beside its allocator
    pub opened : (d : row.Denot) (words : List Val)
        → ((block offset : ℕ) (alloc : Val) → d.pointer ≡ block_ptr block offset → words ≡ pair (vptr block offset) alloc ∷ [] → Good (layout A) alloc
        → Seq K 𝓛 (‵ (Owned d.alloc block offset d.value) ∷ ‵ (A.own_val d.alloc (alloc ∷ [])) ∷ Γ) G)
        → Seq K 𝓛 (‵ (row.own_val d words) ∷ Γ) G
    opened d words on =
        let of_pointer : Ptr → List Val → List Val = λ p rest. vstruct (of_list (ptr_val p ∷ rest)) ∷ [] in
        fsplit t $ fpick t (λ fields. fsplit t $ feq_l t (λ is_struct. fsplit t $ feq_l t (λ is_pointer. fsplit t $
        handle_tells allocator t d.alloc fields.1.0 (λ alloc is_alloc fits. move t (1 ∷ []) $ drop t $ move t (1 ∷ []) $
        in_a_block t d.pointer (λ p. box_owns (ghosts.dealloc_token d.alloc) V p d.value)
        (fst∗ 𝓤 (never 𝓤) (sem 𝓛 (ghosts.dealloc_token d.alloc (bare (lone V.mir)) null_ptr))) (λ block offset in_block.
        on block offset alloc in_block
        (subst (λ p. words ≡ of_pointer p (alloc ∷ [])) in_block
        (subst (λ ws. words ≡ of_pointer d.pointer (ws ++ [])) is_alloc
        (subst (λ ps. words ≡ vstruct (of_list (ps ++ (fields.1.0 ++ []))) ∷ []) is_pointer is_struct))) fits)))))

    -- and one that lies so is owned
    pub closed : (block offset : ℕ) (word : Val) (alloc : A.Denot) (value : V.Denot)
        → Step K 𝓛 (‵ (row.own_val (record { pointer = block_ptr block offset; alloc = alloc; value = value }) (pair (vptr block offset) word ∷ [])) ∷ Γ) G
        (‵ (Owned alloc block offset value) ∷ ‵ (A.own_val alloc (word ∷ [])) ∷ Γ) G
    closed block offset word alloc value = step (λ rest.
        let pointer : List Val = vptr block offset ∷ [] in let whole : List Val = pair (vptr block offset) word ∷ [] in
        nothing t $ move t (2 ∷ 0 ∷ []) $ fjoin t $ feq_i t (List Val) pointer pointer refl $ fjoin t $ feq_i t (List Val) whole whole refl $ fjoin t $
        fpack t (Valss (RawPtr ∷ A ∷ [])) (within (shape (apart.the_type V A ghosts)) (block_ptr block offset, (alloc, tt)) whole) (pointer, (word ∷ [], tt)) $ fjoin t $ rest)
