-- What going on over another handle comes to.
use Rattle.std.proofs.Common.{◌≡◌, ℕ, Bool, true, false, List, [], Option, sym, ap, subst, ◌∙◌}
use Rattle.iceoryx2_log.specs.Log.{Contents}
use Rattle.iceoryx2_world.specs.Interference.{Rely}
use Rattle.iceoryx2_journal.specs.Taking.{is_own}
use Rattle.iceoryx2_journal.specs.Journal.{JournalState, Begins, Resumes}
use Rattle.iceoryx2_journal.proofs.Runs.{begun, not_begun}

module _ {L : Type 0} (contents : L → Option Contents) where
  begins_both : (has_begun : Bool) (old new : JournalState L) → Begins contents true has_begun old new → Rely (is_own old.nodes) old.world new.world × (new.nodes ≡ old.nodes)
  begins_both true old new f = begun f
  begins_both false old new f = not_begun f

  pub resumes_keeps : (log : L) (has_begun : Bool) (old new : JournalState L) → Resumes contents log has_begun old new → Rely (is_own []) old.world new.world
  resumes_keeps log has_begun old new r = (begins_both has_begun (record old { log = log; nodes = [] }) (record new { nodes = [] }) r.takes).0

  -- The state before is seen as j, and the one after all was taken over as k. Meanwhile there are no own nodes, and then
  -- there are the own ones again.
  pub resumed : (log : L) (has_begun : Bool) (j old k between : JournalState L) (none mine : List ℕ) → j ≡ old → k ≡ between → none ≡ [] → mine ≡ j.nodes
      → Begins contents true has_begun (record j { log = log; nodes = none }) between → Resumes contents log has_begun old (record k { nodes = mine })
  resumed log has_begun j old k between none mine before after is_none is_mine f =
      let kept : between.nodes ≡ none = (begins_both has_begun (record j { log = log; nodes = none }) between f).1 in
      let named : Begins contents true has_begun (record j { log = log; nodes = none }) (record between { nodes = none }) =
      subst (λ ns. Begins contents true has_begun (record j { log = log; nodes = none }) (record between { nodes = ns })) kept f in
      let empty : Begins contents true has_begun (record j { log = log; nodes = [] }) (record between { nodes = [] }) =
      subst (λ ns. Begins contents true has_begun (record j { log = log; nodes = ns }) (record between { nodes = ns })) is_none named in
      let seen : Begins contents true has_begun (record j { log = log; nodes = [] }) (record k { nodes = [] }) =
      subst (λ m. Begins contents true has_begun (record j { log = log; nodes = [] }) (record m { nodes = [] })) (sym after) empty in
      record {
        takes = subst (λ o. Begins contents true has_begun (record o { log = log; nodes = [] }) (record k { nodes = [] })) before seen;
        nodes = is_mine ∙ ap (λ (s : JournalState L). s.nodes) before;
      }
