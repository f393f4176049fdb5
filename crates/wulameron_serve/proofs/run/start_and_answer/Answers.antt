use Rattle.std.proofs.Common.{◌≡◌, ℕ, Bool, true, false, List, [], Option, Result, codes, subst}
use Rattle.iceoryx2_journal.specs.Journal.{IsAccessOver, JournalState, Spans}
use Rattle.iceoryx2_journal.specs.Owed.{OwesNothing}
use Rattle.iceoryx2_journal.specs.Replay.{Lives}
use Rattle.iceoryx2_log.specs.Log.{Contents}
use Rattle.iceoryx2_session.specs.CommandWords.{ShowsOthers, SpansTraced}
use Rattle.iceoryx2_testing.specs.Trace.{IsTracedAccess, TracedState}
use Rattle.negotiate_serve.specs.declared.ending.Ending.{Ending}
use Rattle.negotiate_serve.specs.declared.ending.WrongLines.{WrongLines}
use Rattle.explain_serve.specs.Traces.{fresh_trace}
use Rattle.wulameron_place.specs.declared.halt.Halt.{Halt}
use Rattle.wulameron_place.specs.declared.trouble.Trouble.{Trouble}
use Rattle.wulameron_place.specs.Starting.{IsStarted}
use Rattle.wulameron_serve.specs.Served.{ServesLog, ServesStarted, explained, not_serving, not_started, plain, serving, trouble_at}
use Rattle.wulameron_serve.specs.Views.{WritesExplained, WritesPlain}
use Rattle.wulameron_serve.proofs.run.start_and_answer.Goals as goal

-- It serves the log as it serves over the journal that was started, or over one that keeps its accesses.
module _ {L : Type 0} (C : L → Option Contents) (H : L → Bool) (F : L → Option Trouble) (node : ℕ) (ended : Result Ending Halt) (bytes : List ℕ) (old new : Option (List ℕ)) where
  abbrev ServesPlain : WrongLines → JournalState L → Type 0
  ServesPlain w j = ServesStarted (Lives C) ShowsOthers (Spans C) (IsAccessOver C H) (λ j. j.world) (trouble_at F) WritesPlain [] node w (λ j. OwesNothing j.world) j ended bytes old new

  abbrev ServesTraced : WrongLines → TracedState (JournalState L) → Type 0
  ServesTraced w t = ServesStarted (SpansTraced (Lives C)) (SpansTraced ShowsOthers) (SpansTraced (Spans C)) (IsTracedAccess (IsAccessOver C H)) (λ t. t.inner.world) (λ t. trouble_at F t.inner)
      (WritesExplained (IsAccessOver C H) (λ j. j.world)) (codes "\n") node w (λ t. OwesNothing t.inner.world) t ended bytes old new

  module _ (log : L) (counter : ℕ) (w : WrongLines) (explains : Bool) (journal : JournalState L) (started : IsStarted C F log counter node journal) where
    plain_log : explains ≡ false → ServesPlain w journal → ServesLog C H F log counter node w explains ended bytes old new
    plain_log is (serving s) = plain is (record { journal = journal; started = started; first = s.first; cleaned = s.cleaned; served = s.served; left = s.left; settles = s.settles_last; serves = s.serves })
    plain_log is (not_serving halts same) = not_started halts same

    traced_log : explains ≡ true → ServesTraced w (fresh_trace journal) → ServesLog C H F log counter node w explains ended bytes old new
    traced_log is (serving s) = explained is (record { journal = journal; started = started; first = s.first; cleaned = s.cleaned; served = s.served; left = s.left; settles = s.settles_last; serves = s.serves })
    traced_log is (not_serving halts same) = not_started halts same

pub returns-then-not-run : goal.returns-then-not-run
returns-then-not-run g c = λ bytes known.
    plain_log g.L.Log.contents g.L.Log.held g.L.Refusing.refused _ c.answer_started.result bytes (g.W.Write.contents c.args.output.now) (g.W.Write.contents c.answer_started.new.output) _ _ _ _ _ c.in_ok-journal.ensures.ok c.if-not-run.true
    (subst (λ (w : WrongLines). ServesPlain g.L.Log.contents g.L.Log.held g.L.Refusing.refused c.args.log.node c.answer_started.result bytes (g.W.Write.contents c.args.output.now) (g.W.Write.contents c.answer_started.new.output) w c.in_ok-journal.journal)
    c.wrong_lines_of-wrong_lines.ensures (c.answer_started.ensures bytes known))

pub returns-in-Ok : goal.returns-in-Ok
returns-in-Ok g c = λ bytes known.
    traced_log g.L.Log.contents g.L.Log.held g.L.Refusing.refused _ c.answer_started-in-Ok.result bytes (g.W.Write.contents c.args.output.now) (g.W.Write.contents c.answer_started-in-Ok.new.output) _ _ _ _ _ c.in_ok-journal.ensures.ok c.if-not-run.false
    (subst (λ (w : WrongLines). ServesTraced g.L.Log.contents g.L.Log.held g.L.Refusing.refused c.args.log.node c.answer_started-in-Ok.result bytes (g.W.Write.contents c.args.output.now) (g.W.Write.contents c.answer_started-in-Ok.new.output) w (fresh_trace c.in_ok-journal.journal))
    c.wrong_lines_of-wrong_lines.ensures
    (subst (λ (t : TracedState (JournalState g.row.L.Denot)). ServesTraced g.L.Log.contents g.L.Log.held g.L.Refusing.refused c.args.log.node c.answer_started-in-Ok.result bytes (g.W.Write.contents c.args.output.now) (g.W.Write.contents c.answer_started-in-Ok.new.output) c.wrong_lines_of-wrong_lines.result t)
    c.in-Ok.ensures (c.answer_started-in-Ok.ensures bytes known)))
