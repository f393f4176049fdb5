-- What a program answers to an input for its node.
use Rattle.std.specs.Prelude.{◌≡◌, ◌⊎◌, ℕ, Bool, true, false, List, [], codes, Option, Some, None, Result, Ok, Err, IfOk}
use Rattle.std.specs.Prelude.{IsErrAnd}
use Rattle.iceoryx2_access.specs.Letter.{Letter}
use Rattle.iceoryx2_testing.specs.Trace.{TracedState, IsTracedAccess}
use Rattle.iceoryx2_world.specs.World.{World}
use Rattle.iceoryx2_world.specs.Agreement.{Agrees}
use Rattle.iceoryx2_journal.specs.Journal.{JournalState, IsAccessOver, Spans}
use Rattle.iceoryx2_journal.specs.Owed.{OwesNothing}
use Rattle.iceoryx2_journal.specs.Replay.{Lives}
use Rattle.iceoryx2_log.specs.Log.{Contents}
use Rattle.iceoryx2_session.specs.CommandWords.{ClosesHeld, ShowsOthers, SpansSession, SpansTraced}
use Rattle.iceoryx2_session.specs.Sessions.{SessionOver}
use Rattle.iceoryx2_session.specs.SessionStates.{own_state}
use Rattle.negotiate_serve.specs.declared.ending.Ending.{Ending}
use Rattle.negotiate_lines.specs.declared.leaf.Form.{Form}
use Rattle.negotiate_lines.specs.declared.leaf.Form.TheVariants as form
use Rattle.negotiate_serve.specs.declared.ending.WrongLines.{WrongLines}
use Rattle.negotiate_serve.specs.declared.ending.WrongLines.TheVariants as wrong_lines
use Rattle.negotiate_serve.specs.declared.ending.ServeError.{ServeError}
use Rattle.negotiate_serve.specs.Outputs.{Writes}
use Rattle.negotiate_serve.specs.Transcripts.{Answering, AnsweringLines, LinesBy, MayEnd, out_of_memory}
use Rattle.negotiate_serve.specs.Served.{ServesLines}
use Rattle.escaped_serve.specs.Lines.{AnsweringQuestions, AnswersEscapedLine}
use Rattle.explain_serve.specs.Traces.{TracedOver, fresh_trace}
use Rattle.wulameron_place.specs.declared.halt.Halt.{Halt}
use Rattle.wulameron_place.specs.declared.halt.Halt.TheVariants as halt
use Rattle.wulameron_place.specs.declared.trouble.Trouble.{Trouble}
use Rattle.wulameron_place.specs.Halts.{is_of_start}
use Rattle.wulameron_place.specs.Starting.{IsStarted}
use Rattle.wulameron_place.specs.Troubles.{last_of, or_gone, trouble_of}
use Rattle.wulameron_serve.specs.declared.answerer.NodeAnswerer.{NodeAnswerer}
use Rattle.wulameron_serve.specs.Asked.{AsksWith}
use Rattle.wulameron_serve.specs.Lines.{AnswersWhileUsable, TellsTrouble, seen_as, status_with}
use Rattle.wulameron_serve.specs.Own.{AnswersNamed}
use Rattle.wulameron_serve.specs.Shared.{AnswersWith, fresh_session}
use Rattle.wulameron_serve.specs.Telling.{IsLogReply, IsTaken, greeting_of}
use Rattle.wulameron_serve.specs.Views.{Writing, WritesExplained, WritesPlain, writes_in}

-- The writer has taken what is written of an input where lines are answered so, and nothing else. At last the factories
-- of a session's slots are closed, and the world agrees.
pub record ServesBy {S : Type 0} (spans : S → S → Type 0) (step : S → Letter → S → Type 0) (world : S → World)
    {M : Type 0} (Answers : AnsweringLines M) (AtWrong : Type 0) (first : M) (ended : Result Ending Halt) (left : S)
    (input : List ℕ) (old new : Option (List ℕ)) : Type 0 where
  pub unread : List ℕ
  pub serves : ServesLines Answers first (seen_as ended) input unread old new
  pub may_end : IfOk ended (MayEnd AtWrong)
  pub last : SessionOver S
  pub closed : ClosesHeld spans step last.table last.slots left
  pub agrees : Agrees (world left)

module _ {S : Type 0} (settles shows spans : S → S → Type 0) (step : S → Letter → S → Type 0) (world : S → World)
    (trouble : S → Option Trouble) (writes : Writing S) (ending : List ℕ) (node : ℕ) (w : WrongLines) where
  -- how lines are answered for the node, which a `-` in its place names, as long as the log can be used
  abbrev pub AnswersLinesFor : AnsweringLines (SessionOver S)
  AnswersLinesFor = AnswersWhileUsable (λ s. trouble s.table) (AnswersNamed (λ s. node)
      (LinesBy w (λ old line c text new. AnswersWith form.Plain settles shows spans step world writes node line
      ending old c text new)))

  -- The same of an input, and what stands behind it.
  abbrev pub Serves : (first : SessionOver S) → Result Ending Halt → (left : S) → (input : List ℕ)
      → (old new : Option (List ℕ)) → Type 0
  Serves = ServesBy spans step world AnswersLinesFor (w ≡ wrong_lines.End)

-- why it ends if something of the node stays: the log can't be used any more, or has to be cleaned
abbrev pub stays_by : (over : Option Trouble) → Halt
stays_by (Some t) = halt.Log t
stays_by None = halt.Owing

-- What the node still has is given back, and where it ends well it has nothing any more. Else it ends as lines were
-- served, or since something stays.
pub record EndsSettled {S : Type 0} (settles : S → S → Type 0) (trouble : S → Option Trouble)
    (is_settled : S → ℕ → List ℕ → Type 0) (node : ℕ) (left : S) (served ended : Result Ending Halt) : Type 0 where
  pub last : S
  pub gives : settles left last
  pub rest : IfOk ended (λ ending. is_settled last node [])
  pub ends : (ended ≡ served) ⊎ (ended ≡ Err (stays_by (last_of (trouble last))))

module _ {S : Type 0} (settles shows spans : S → S → Type 0) (step : S → Letter → S → Type 0) (world : S → World)
    (trouble : S → Option Trouble) (writes : Writing S) (ending : List ℕ) (node : ℕ) (w : WrongLines)
    (is_settled : S → ℕ → List ℕ → Type 0) (storage : S) where
  -- Over the storage of a node that is started, what dead nodes have is given back, and then it serves.
  pub record CleansAndServes (ended : Result Ending Halt) (input : List ℕ) (old new : Option (List ℕ)) : Type 0 where
    pub first : SessionOver S
    pub cleaned : SpansSession shows (fresh_session storage) first
    pub served : Result Ending Halt
    pub left : S
    pub settles_last : EndsSettled settles trouble is_settled node left served ended
    pub serves : Serves settles shows spans step world trouble writes ending node w first served left input old new

  -- It serves so; or it ends by the log, and nothing is written.
  pub data ServesStarted (ended : Result Ending Halt) (input : List ℕ) (old new : Option (List ℕ)) : Type 0 where
    serving : CleansAndServes ended input old new → ServesStarted ended input old new
    not_serving : IsErrAnd ended (λ h. is_of_start h ≡ true) → new ≡ old → ServesStarted ended input old new

-- what goes wrong at a journal
abbrev pub trouble_at : {L : Type 0} → (refused : L → Option Trouble) → JournalState L → Option Trouble
trouble_at refused j = trouble_of j.is_over (refused j.log)

module _ {L : Type 0} (contents : L → Option Contents) (held : L → Bool) (refused : L → Option Trouble) (log : L)
    (counter node : ℕ) (w : WrongLines) where
  -- The node is started over a journal of the log, what dead nodes have is given back, and then it serves.
  pub record StartsLog (ended : Result Ending Halt) (input : List ℕ) (old new : Option (List ℕ)) : Type 0 where
    pub journal : JournalState L
    pub started : IsStarted contents refused log counter node journal
    pub first : SessionOver (JournalState L)
    pub cleaned : SpansSession ShowsOthers (fresh_session journal) first
    pub served : Result Ending Halt
    pub left : JournalState L
    pub settles : EndsSettled (Lives contents) (trouble_at refused) (λ j. OwesNothing j.world) node left served ended
    pub serves : Serves (Lives contents) ShowsOthers (Spans contents) (IsAccessOver contents held) (λ j. j.world)
        (trouble_at refused) WritesPlain [] node w first served left input old new

  -- The same, with each reply explained.
  pub record StartsLogExplained (ended : Result Ending Halt) (input : List ℕ) (old new : Option (List ℕ)) : Type 0 where
    pub journal : JournalState L
    pub started : IsStarted contents refused log counter node journal
    pub first : TracedOver (JournalState L)
    pub cleaned : SpansSession (SpansTraced ShowsOthers) (fresh_session (fresh_trace journal)) first
    pub served : Result Ending Halt
    pub left : TracedState (JournalState L)
    pub settles : EndsSettled (SpansTraced (Lives contents)) (λ t. trouble_at refused t.inner)
        (λ t. OwesNothing t.inner.world) node left served ended
    pub serves : Serves (SpansTraced (Lives contents)) (SpansTraced ShowsOthers) (SpansTraced (Spans contents))
        (IsTracedAccess (IsAccessOver contents held)) (λ t. t.inner.world) (λ t. trouble_at refused t.inner)
        (WritesExplained (IsAccessOver contents held) (λ j. j.world))
        (codes "\n") node w first served left input old new

  -- It serves so; or it ends by the log or out of memory, and nothing is written.
  pub data ServesLog (explains : Bool) (ended : Result Ending Halt) (input : List ℕ) (old new : Option (List ℕ))
      : Type 0 where
    plain : explains ≡ false → StartsLog ended input old new → ServesLog explains ended input old new
    explained : explains ≡ true → StartsLogExplained ended input old new → ServesLog explains ended input old new
    not_started : IsErrAnd ended (λ h. is_of_start h ≡ true) → new ≡ old → ServesLog explains ended input old new

-- ---- escaped lines

-- what goes wrong with a node, or that what it had is gone
abbrev pub node_trouble : {S D : Type 0} → (trouble : S → Option Trouble) → NodeAnswerer S D → Option Trouble
node_trouble trouble a = or_gone a.is_gone (trouble (own_state a.session).table)

-- The writer fails at the greeting, or there is no memory for it.
pub data NotGreeted (node : ℕ) (old new : Option (List ℕ)) : Type 0 where
  cut : (f : ServeError) → Writes (greeting_of node) (Err f) old new → NotGreeted node old new
  no_memory : IsTaken out_of_memory old new → NotGreeted node old new

module _ {S D : Type 0} (settles shows spans : S → S → Type 0) (step : S → Letter → S → Type 0) (world : S → World)
    (trouble : S → Option Trouble) (writes : Writing S) (ending : List ℕ) where
  -- how a node answers commands of lines in this form
  abbrev pub AnswersCommands : Form → (behind : List ℕ) → Answering (NodeAnswerer S D)
  AnswersCommands how behind old line c text new = (new.node ≡ old.node) × AnswersWith how settles shows spans step
      world (writes_in how writes) old.node line behind (own_state old.session) c text (own_state new.session)

  -- and questions
  abbrev pub AnswersQuestions : AnsweringQuestions (NodeAnswerer S D)
  AnswersQuestions old q text new = (new.node ≡ old.node) × AsksWith settles shows world trouble (own_state old.session)
      q text (own_state new.session)

  -- Escaped lines are answered, as long as the log can be used. A `-` in the place of the node names it. Where the log
  -- can't be used any more after one, it is told why in place of its reply.
  abbrev pub AnswersEscaped : AnsweringLines (NodeAnswerer S D)
  AnswersEscaped = AnswersWhileUsable (node_trouble trouble) (TellsTrouble (node_trouble trouble)
      (AnswersNamed (λ a. a.node) (AnswersEscapedLine (AnswersCommands form.Plain ending)
      (AnswersCommands form.Escaped []) AnswersQuestions)))

  -- The writer has taken what is written of an input for the node, and nothing else. No line ends it.
  abbrev pub ServesEscaped : (first : NodeAnswerer S D) → Result Ending Halt → (left : S) → (input : List ℕ)
      → (old new : Option (List ℕ)) → Type 0
  ServesEscaped = ServesBy spans step world AnswersEscaped ⊥

  -- Escaped lines are served so. What the node still has is given back at last.
  pub record ServesSettled (is_settled : S → ℕ → List ℕ → Type 0) (node : ℕ) (first : NodeAnswerer S D) (status : ℕ)
      (input : List ℕ) (old new : Option (List ℕ)) : Type 0 where
    pub served : Result Ending Halt
    pub ended : Result Ending Halt
    pub left : S
    pub serves : ServesEscaped first served left input old new
    pub rest : EndsSettled settles trouble is_settled node left served ended
    pub is_status : status ≡ status_with ended

  -- The node is greeted before, or isn't.
  pub data ServesGreeted (is_settled : S → ℕ → List ℕ → Type 0) (node : ℕ) (first : NodeAnswerer S D) (status : ℕ)
      (input : List ℕ) (old new : Option (List ℕ)) : Type 0 where
    greeted : (mid : Option (List ℕ)) → Writes (greeting_of node) (Ok tt) old mid
        → ServesSettled is_settled node first status input mid new
        → ServesGreeted is_settled node first status input old new
    not_greeted : NotGreeted node old new → status ≡ 3 → ServesGreeted is_settled node first status input old new

-- It is told why a node isn't started, as far as there is memory.
abbrev pub IsStartReply : Halt → (text : List ℕ) → Type 0
IsStartReply (halt.Log t) text = IsLogReply t text ⊎ (text ≡ out_of_memory)
IsStartReply _ text = text ≡ out_of_memory

-- The node is started over a journal of the log, and what dead nodes have is given back.
pub record StartsNode {L D : Type 0} (contents : L → Option Contents) (refused : L → Option Trouble) (log : L)
    (counter node : ℕ) (first : NodeAnswerer (JournalState L) D) : Type 0 where
  pub journal : JournalState L
  pub started : IsStarted contents refused log counter node journal
  pub named : first.node ≡ node
  pub cleaned : SpansSession ShowsOthers (fresh_session journal) (own_state first.session)

module _ {L : Type 0} (contents : L → Option Contents) (held : L → Bool) (refused : L → Option Trouble) (log : L)
    (counter node : ℕ) where
  -- how a journal's node serves escaped lines
  abbrev pub ServesJournal : {D : Type 0} → NodeAnswerer (JournalState L) D → (status : ℕ) → (input : List ℕ)
      → (old new : Option (List ℕ)) → Type 0
  ServesJournal = ServesGreeted (Lives contents) ShowsOthers (Spans contents) (IsAccessOver contents held)
      (λ j. j.world) (trouble_at refused) WritesPlain [] (λ j. OwesNothing j.world) node

  -- The node is started, and then it serves escaped lines; or it is told why not.
  pub data ServesEscapedLog (D : Type 0) (status : ℕ) (input : List ℕ) (old new : Option (List ℕ)) : Type 0 where
    starts : (first : NodeAnswerer (JournalState L) D) → StartsNode contents refused log counter node first
        → ServesJournal first status input old new → ServesEscapedLog D status input old new
    not_started : (h : Halt) (text : List ℕ) → is_of_start h ≡ true → IsStartReply h text → IsTaken text old new
        → status ≡ 3 → ServesEscapedLog D status input old new
