use Rattle.std.proofs.Common.{refl, ◌≡◌, ◌∙◌, ◌++◌, ap, sym, subst, inr, append_assoc, append-nil, List, [], arith}
use Rattle.std.proofs.lemmas.Grind.{common_steps}
use Rattle.iceoryx2_log.specs.declared.entry.Entry.{Entry}
use Rattle.iceoryx2_postgres_log.specs.Compacting.{CopiesAll, none, more}
use Rattle.iceoryx2_postgres_log.proofs.Undone.{ends_behind, copies_rows}
use Rattle.iceoryx2_postgres_log.proofs.compacting.ask_copies.Goals as goal

pub loop-round-init : goal.loop-round-init
loop-round-init g c = ([], refl, none refl refl refl refl)

pub loop-round-preserved : goal.loop-round-preserved
loop-round-preserved g c =
    let t = c.loop-round.invariant in
    let some : List Entry = c.split_at.result.0.now in
    let others : List Entry = c.split_at.result.1.now in (
      t.0 ++ some,
      t.1 ∙ ap (λ l. t.0 ++ l) c.split_at.ensures.by_index.0 ∙ sym (append_assoc t.0 some others),
      more t.2 c.in-Ok.ensures.ok refl,
    )

pub returns-then-is_empty-clause-ok : goal.returns-then-is_empty-clause-ok
returns-then-is_empty-clause-ok g c =
    let t = c.loop-round.invariant in
    let e = c.is_empty.ensures in
    let yes = c.if-is_empty.true in
    let nothing : c.loop-round.rest.now ≡ [] = grind (arith, common_steps, e, yes) in
    let split : c.args.entries.now ≡ t.0 = t.1 ∙ ap (λ l. t.0 ++ l) nothing ∙ append-nil t.0 in
    subst (λ (l : List Entry). CopiesAll c.args.at.now l (g.W.Write.contents c.args.questions.now)
    (g.W.Write.contents c.loop-round.questions) (g.R.Read.remaining c.args.replies.now)
    (g.R.Read.remaining c.loop-round.replies) c.loop-round.at) (sym split) t.2

pub returns-in-Err-clause-err : goal.returns-in-Err-clause-err
returns-in-Err-clause-err g c =
    ends_behind _ _ _ _ _ _ _ (copies_rows _ _ _ _ _ _ _ c.loop-round.invariant.2) c.in-Err.ensures.err

pub returns-clause-err : goal.returns-clause-err
returns-clause-err g c = inr (inr (copies_rows _ _ _ _ _ _ _ c.loop-round.invariant.2))
