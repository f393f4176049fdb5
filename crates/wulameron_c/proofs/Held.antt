-- How a `SessionPointer` lies in the machine, and how it is opened and closed.
use Rattle.std.proofs.Common.{◌≡◌, ℕ, List, [], ◌∷◌, ◌++◌, refl, sym, subst}
use Rattle.std.specs.Prelude.{IsSome}
use mathlib.Core.Bool.{true≢false}
use seplogic.Ra.Ura.{Ura}
use mir.Raw.{raw as bare}
use mir.Val.{Val, vptr, vstruct, of_list}
use base.Logic.{never, fst∗}
use types.Logic.{Logic, sem}
use types.Kit.{Item, Goal, Seq, Step, step, ‵, ◌$◌, move, drop, fsplit, fjoin, fpick, fpack, rewrite, feq_i, feq_l}
use denote.RattleType.{RattleType, Valss}
use denote.Builtin.{RawPtr}
use denote.Memory.{lone}
use denote.RawPtr.{Ptr, block_ptr, null_ptr, ptr_val, in_a_block}
use denote.Steps.{nothing}
use denote.Param.{layout}
use denote.Param.Laws.{Laws}
use denote.Struct.Struct.{within}
use denote.Struct.Owning.{shape}
use Rattle.std.proofs.alloc.Calls.{handle_tells}
use Rattle.std.proofs.cell.Inside.{Good}
use Rattle.std.specs.declared.option.Option.{Option}
use Rattle.std.specs.declared.option.Option.TheVariants.{None, Some}
use Rattle.std.specs.Box.Ownership.{box_owns}
use Rattle.std.specs.contracts.alloc.Global as heap
use Rattle.std.proofs.alloc.Global.TheLaws as heap_laws
use Rattle.std.specs.contracts.impls.GlobalAllocator.TheImpl.{ghosts}
use Rattle.wulameron_c.proofs.Stored as stored
use Rattle.wulameron_c.proofs.Stored.{pair}
use Rattle.wulameron_c.specs.contracts.table_session.TableSession as session
use Rattle.wulameron_c.specs.declared.table_session.TableSession.{TableSession}
use Rattle.wulameron_c.specs.Pointers.{pointer_owns}
use Rattle.wulameron_c.specs.contracts.pointer.SessionPointer as held

-- ---- the rows: of a session, of its allocator, of a box that is taken apart, and of a pointer

abbrev pub V : RattleType
V = session.the_row

abbrev pub A : RattleType
A = heap.the_row

abbrev pub laws : Laws A
laws = heap_laws.the_row_laws

abbrev pub RawBoxRow : RattleType
RawBoxRow = stored.row V A laws ghosts

abbrev pub Row : RattleType
Row = held.the_row

-- the session that is held
pub found : (value : Option TableSession) → IsSome value → (x : TableSession) × (value ≡ Some x)
found None wrong = absurd (true≢false (sym wrong))
found (Some x) is = (x, refl)

module _ {M : Type 1} {𝓤 : Ura M} {𝓛 : Logic 𝓤} {K : Type 0} {Γ : List (Item 𝓤)} {G : Goal 𝓤 𝓛.H} (t : K) where
  -- one that holds a session lies as a pointer into a block, beside its allocator
  pub opened : (d : Row.Denot) (x : TableSession) → d.session ≡ Some x → (words : List Val)
      → ((block offset : ℕ) (word : Val) → words ≡ pair (vptr block offset) word ∷ [] → Good (layout A) word
      → Seq K 𝓛 (‵ (stored.Owned V A laws ghosts d.alloc block offset x) ∷ ‵ (A.own_val d.alloc (word ∷ [])) ∷ Γ) G)
      → Seq K 𝓛 (‵ (Row.own_val d words) ∷ Γ) G
  opened d x holds words on =
      let of_pointer : Ptr → List Val → List Val = λ p rest. vstruct (of_list (ptr_val p ∷ rest)) ∷ [] in
      fsplit t $ fpick t (λ fields. fsplit t $ feq_l t (λ is_struct. fsplit t $ feq_l t (λ is_pointer. fsplit t $
      handle_tells (stored.allocator V A laws ghosts) t d.alloc fields.1.0 (λ word is_alloc fits. move t (1 ∷ []) $ drop t $ move t (1 ∷ []) $
      rewrite t 0 (λ (y : Option TableSession). ‵ (pointer_owns d.alloc d.pointer y)) holds refl $
      in_a_block t d.pointer (λ p. box_owns (ghosts.dealloc_token d.alloc) V p x)
      (fst∗ 𝓤 (never 𝓤) (sem 𝓛 (ghosts.dealloc_token d.alloc (bare (lone V.mir)) null_ptr))) (λ block offset in_block.
      on block offset word
      (subst (λ p. words ≡ of_pointer p (word ∷ [])) in_block
      (subst (λ ws. words ≡ of_pointer d.pointer (ws ++ [])) is_alloc
      (subst (λ ps. words ≡ vstruct (of_list (ps ++ (fields.1.0 ++ []))) ∷ []) is_pointer is_struct))) fits)))))

  -- one that lies so holds that session
  pub closed : (block offset : ℕ) (word : Val) (alloc : A.Denot) (x : TableSession)
      → Step K 𝓛 (‵ (Row.own_val (record { pointer = block_ptr block offset; alloc = alloc; session = Some x }) (pair (vptr block offset) word ∷ [])) ∷ Γ) G
      (‵ (stored.Owned V A laws ghosts alloc block offset x) ∷ ‵ (A.own_val alloc (word ∷ [])) ∷ Γ) G
  closed block offset word alloc x = step (λ rest.
      let pointer : List Val = vptr block offset ∷ [] in let whole : List Val = pair (vptr block offset) word ∷ [] in
      nothing t $ move t (2 ∷ 0 ∷ []) $ fjoin t $ feq_i t (List Val) pointer pointer refl $ fjoin t $ feq_i t (List Val) whole whole refl $ fjoin t $
      fpack t (Valss (RawPtr ∷ A ∷ [])) (within (shape held.the_type) (block_ptr block offset, (heap.the_field.into alloc, tt)) whole) (pointer, (word ∷ [], tt)) $ fjoin t $ rest)

  -- and null holds none
  pub closed_null : (word : Val) (alloc : A.Denot)
      → Step K 𝓛 (‵ (Row.own_val (record { pointer = null_ptr; alloc = alloc; session = None }) (pair (ptr_val null_ptr) word ∷ [])) ∷ Γ) G
      (‵ (A.own_val alloc (word ∷ [])) ∷ Γ) G
  closed_null word alloc = step (λ rest.
      let pointer : List Val = ptr_val null_ptr ∷ [] in let whole : List Val = pair (ptr_val null_ptr) word ∷ [] in
      nothing t $ move t (1 ∷ 0 ∷ []) $ fjoin t $ feq_i t (List Val) pointer pointer refl $ fjoin t $ feq_i t (List Val) whole whole refl $ fjoin t $
      fpack t (Valss (RawPtr ∷ A ∷ [])) (within (shape held.the_type) (null_ptr, (heap.the_field.into alloc, tt)) whole) (pointer, (word ∷ [], tt)) $
      nothing t $ move t (1 ∷ 0 ∷ []) $ fjoin t $ rest)
