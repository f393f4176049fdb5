-- `into_raw_box` gives what the session owns.
use Rattle.std.proofs.Common.{◌≡◌, List, [], ◌∷◌, ◌++◌, refl, sym, subst}
use mir.Val.{Val, vptr}
use base.Logic.{SProp, ent, emp, id⊢}
use base.Fml.{ftrue}
use prog.Wp.{WpFn}
use types.Kit.{‵, raw, ◌⊛◌, ◌$◌, ◌∵◌, !, qed, by, move, keep, split, fsplit, fjoin, suffices, use0}
use types.Run.{stop, fld, of_opd, no_more, and_then, returns, enter}
use types.ByLocal.{alloc_all, pass_all, free_all, look_at, get, get_in, sets}
use types.Part.{agg, sub, whole}
use contract.Monad.{fact, fact_i}
use contract.Running.{tables}
use denote.Exit.{yes}
use denote.RattleType.{owns}
use denote.Signature.{types_at, plain}
use denote.RawPtr.{block_ptr}
use denote.Steps.{nothing, heard}
use denote.Triple.Walked.{Stays, stay_dropped, walk_of, Goes-dropped}
use Rattle.std.specs.declared.option.Option.TheVariants.{Some}
use Rattle.std.specs.Prelude.{IsSome}
use Rattle.wulameron_c.specs.declared.table_session.TableSession.{TableSession}
use Rattle.std.proofs.raw_atomic.Walks.{proved_at, leaves}
use Rattle.std.specs.contracts.impls.GlobalAllocator.TheImpl.{ghosts}
use Rattle.wulameron_c.proofs.Stored as stored
use Rattle.wulameron_c.proofs.Stored.{pair, pair_fits}
use Rattle.wulameron_c.proofs.Held as held
use Rattle.wulameron_c.proofs.Held.{V, A, laws, Row, found}
use Rattle.wulameron_c.specs.contracts.pointer.SessionPointer.into_raw_box.{ended, clauses}
use Rattle.wulameron_c.specs.contracts.pointer.SessionPointer.into_raw_box.Key.{name as #self}
use Rattle.wulameron_c.proofs.pointer.SessionPointer.into_raw_box.Statement.{statement}
use Rattle.wulameron_c.proofs.pointer.SessionPointer.into_raw_box.Code as code

pub into_raw_box_spec : {M : Type 1} → statement M
into_raw_box_spec 𝓤 𝓛 𝓜 𝓡 wired =
    let H = 𝓛.H in let 𝓣 = tables 𝓤 H 𝓜 𝓡 𝓡.env in let c = clauses 𝓛 𝓜.mem 𝓡.returns in let fn = code.function in
    let taken = plain (λ _. Row) in let stays : Stays ended.signature.params ended.kept = (stay_dropped taken yes, tt) in
    proved_at 𝓛 ended stays c 𝓜 𝓡 (Goes-dropped 𝓛 0 taken yes (λ κs x f. refl), tt) #self fn (code.unfolded 𝓤 H 𝓜 𝓡 wired) (λ z are.
    let κs = z.0.0 in let v = z.0.3.0 in let Post : Val → SProp 𝓤 = (walk_of 𝓛 ended stays c).post z in let Run : List Val → SProp 𝓤 = λ ws. WpFn 𝓤 H 𝓣.C 𝓣.Λ fn ws Post in
    qed 𝓛 ((‵ ftrue ⊛ ‵ (owns (types_at ended.signature.params κs) z.0.3 z.0.4)) ∷ raw ((c κs z.0.3).requires z.1) ∷ []) ∵ split ! $ move ! (1 ∷ []) $ fsplit ! $
    move ! (3 ∷ []) $ heard ! (IsSome v.session) (λ is. let x : TableSession = (found v.session is).0 in let holds : v.session ≡ Some x = (found v.session is).1 in
    held.opened ! v x holds z.0.4.0 (λ b o h is_pair fits. let w : Val = pair (vptr b o) h in let typed = pair_fits V A laws ghosts b o h fits in
    suffices ! (Run (w ∷ [])) (subst (λ (us : List Val). ent 𝓤 (Run (w ∷ [])) (Run us)) (sym (λ i. is_pair i ++ [])) (id⊢ 𝓤 (Run (w ∷ [])))) $
    enter ! 𝓣.C 𝓣.Λ fn (w ∷ []) Post $ alloc_all ! (λ l. pass_all ! refl (typed, tt) $
    -- the two fields, the cast, and the struct of them
    sets ! (of_opd ! (get_in ! (fld ! refl (stop !)) (sub ! 0 refl (whole !)))) refl (tt, tt) $ sets ! (of_opd ! (get_in ! (fld ! refl (stop !)) (sub ! 1 refl (whole !)))) refl fits $
    sets ! (of_opd ! (get ! refl)) refl (tt, tt) $ sets ! (agg ! (and_then ! (get ! refl) (and_then ! (get ! refl) (no_more !)))) refl typed $
    stored.closed V A laws ghosts ! b o h v.alloc x $
    use0 𝓛 (raw (fact 𝓤 (Some x ≡ v.session))) (fact_i 𝓤 (Some x ≡ v.session) (emp 𝓤) (sym holds)) $ nothing ! $ nothing ! $ fjoin ! $
    returns ! (look_at ! 0 refl) $ free_all ! refl $ keep ! (4 ∷ 0 ∷ 2 ∷ 1 ∷ []) $ by ! (leaves 𝓛 ended stays c z w (record { pointer = block_ptr b o; alloc = v.alloc; value = x }) (tt, tt) (tt, tt))))))
