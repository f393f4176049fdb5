-- What a command makes of the session of a node.
use Rattle.std.proofs.Common.{◌≡◌, ℕ, ◌-◌, Bool, true, false, List, [], ◌++◌, Option, Some, None, Result, Ok, Err, OnOk, if◌then◌else◌, append-nil, append_assoc, refl, sym, ap, subst, ◌∙◌}
use Rattle.std.specs.Result.{is_ok}
use Rattle.std.specs.declared.alloc.AllocError.{AllocError}
use Rattle.iceoryx2_access.specs.Letter.{Letter}
use Rattle.iceoryx2_world.specs.World.{World}
use Rattle.iceoryx2_world.specs.Agreement.{Agrees}
use Rattle.iceoryx2_world.specs.Interference.{Rely}
use Rattle.iceoryx2_builder.specs.declared.command.Call.{Call}
use Rattle.iceoryx2_builder.specs.declared.command.Command.{Command}
use Rattle.iceoryx2_builder.specs.declared.command.Command.TheVariants as command
use Rattle.iceoryx2_builder.specs.declared.command.Reply.{Reply}
use Rattle.iceoryx2_session.specs.CommandWords.{AppliesHeld, SpansSession, SpansTraced}
use Rattle.iceoryx2_session.specs.Resumed.{ResumesSession}
use Rattle.iceoryx2_session.proofs.Shown.{goes_shown}
use Rattle.iceoryx2_testing.specs.Trace.{IsTracedAccess}
use Rattle.explain_serve.specs.Traces.{TracedOver}
use Rattle.explain_serve.proofs.Explaining.{may_have_reason}
use Rattle.iceoryx2_session.specs.Sessions.{SessionOver, AppliesBy, shown_session}
use Rattle.iceoryx2_session.specs.SessionStates.{own_state}
use Rattle.iceoryx2_session.specs.StandingSlots.{SlotsStandInWorld, SlotsStandUnder, IsOfOwn}
use Rattle.iceoryx2_session.proofs.StandingSlots.{stand_kept}
use Rattle.negotiate_lines.specs.declared.leaf.Form.{Form}
use Rattle.negotiate_lines.specs.declared.leaf.Form.TheVariants as form
use Rattle.negotiate_lines.specs.declared.line.Line.TheVariants as parsed
use Rattle.negotiate_lines.specs.Lines.{IsLineIn}
use Rattle.negotiate_serve.specs.declared.ending.Ending.{Ending}
use Rattle.negotiate_serve.specs.declared.ending.ServeError.{ServeError}
use Rattle.negotiate_serve.specs.declared.ending.WrongLines.{WrongLines}
use Rattle.negotiate_serve.specs.Replies.{GrowsBy}
use Rattle.negotiate_serve.specs.Served.{GrowsByAnswer, ServesLines}
use Rattle.negotiate_serve.specs.Transcripts.{Answering, AnsweringLines, LinesBy}
use Rattle.negotiate_serve.proofs.Simulated.{lines_by_along, lines_transcript_along}
use Rattle.wulameron_place.specs.declared.trouble.Trouble.{Trouble}
use Rattle.wulameron_place.specs.Troubles.{or_gone}
use Rattle.wulameron_serve.specs.declared.answerer.NodeAnswerer.{NodeAnswerer}
use Rattle.wulameron_serve.specs.Lines.{AnswersWhileUsable, IsUsable}
use Rattle.wulameron_serve.specs.Own.{AnswersNamed, IsNamed}
use Rattle.wulameron_serve.specs.Served.{AnswersLinesFor}
use Rattle.wulameron_serve.specs.Shared.{StandsFor, AnswersFor, AnswersWith, BeginsAsAnswered, GivesBack, Replies, are_given, are_gone, none_owed, of_another, called, stays, again, closed, listed}
use Rattle.wulameron_serve.specs.Views.{MayWrite, Writing, WritesExplained, WritesPlain}
use Rattle.wulameron_serve.proofs.CallNodes.{caller_named}

-- ---- what stands

module _ {S : Type 0} (world : S → World) (own : S → ℕ → Bool) (ready : S → Type 0) (node : ℕ) where
  -- a call in the node's name is one of an own node
  pub call_of_own : (s : SessionOver S) (call : Call) → StandsFor world own ready node s → call.node ≡ node → IsOfOwn (own s.table) s.config (command.Call call)
  call_of_own s call stands is = ap (own s.table) (caller_named s.config call ∙ is) ∙ stands.of_own

  -- what stands after a command
  pub stands_after : (old new : SessionOver S) → own new.table ≡ own old.table → Agrees (world new.table) → SlotsStandInWorld (own old.table) (shown_session world new)
      → ready new.table → StandsFor world own ready node old → StandsFor world own ready node new
  stands_after old new nodes agrees stand is_ready before = record {
    agrees = agrees;
    stand = subst (λ (o : ℕ → Bool). SlotsStandInWorld o (shown_session world new)) (sym nodes) stand;
    of_own = ap (λ (o : ℕ → Bool). o node) nodes ∙ before.of_own;
    is_ready = is_ready;
  }

  -- and after what others did was shown
  pub stands_shown : (a b : SessionOver S) → b ≡ record a { table = b.table } → own b.table ≡ own a.table → Rely (own a.table) (world a.table) (world b.table)
      → ready b.table → StandsFor world own ready node a → StandsFor world own ready node b
  stands_shown a b same nodes relies is_ready before =
      let kept = relies before.agrees in
      stands_after a b nodes kept.agrees
      (subst (λ slots. SlotsStandUnder (own a.table) (world b.table) slots) (sym (ap (λ (s : SessionOver S). s.slots) same)) (stand_kept kept before.stand))
      is_ready before

-- ---- where the log's session had ended

module _ {S : Type 0} (settles : S → S → Type 0) (old new : SessionOver S) where
  -- what a session that goes on gives back
  pub resumed_gives : (is : Bool) → ResumesSession settles is old new → GivesBack settles old new
  resumed_gives true went = are_given none_owed went
  resumed_gives false went = are_gone none_owed went

  -- and what becomes of its storage
  pub resumed_changes : (is : Bool) → ResumesSession settles is old new → settles old.table new.table
  resumed_changes true went = went.changes
  resumed_changes false went = went.changes

-- What can be used where nothing is gone is usable.
pub usable_unless_gone : (is_gone : Bool) (found : Option Trouble) → IsUsable (or_gone is_gone found) → IsUsable found
usable_unless_gone is_gone None usable = refl
usable_unless_gone is_gone (Some t) usable = usable

-- of the node by another name
pub renamed : {S : Type 0} (world : S → World) (own : S → ℕ → Bool) (ready : S → Type 0) {m n : ℕ} → m ≡ n → (s : SessionOver S) → StandsFor world own ready m s → StandsFor world own ready n s
renamed world own ready same s stands = subst (λ (k : ℕ). StandsFor world own ready k s) same stands

-- ---- what is shown

module _ {S : Type 0} (shows : S → S → Type 0) where
  pub shown_not : ((s : S) → shows s s) → (s : SessionOver S) → SpansSession shows s s
  shown_not same s = record { same = refl; changes = same s.table }

  pub shown_both : ((a b c : S) → shows a b → shows b c → shows a c) → (a b c : SessionOver S) → SpansSession shows a b → SpansSession shows b c → SpansSession shows a c
  shown_both both a b c x y = record {
    same = y.same ∙ ap (λ (s : SessionOver S). record s { table = c.table }) x.same;
    changes = both a.table b.table c.table x.changes y.changes;
  }

-- ---- what is counted

-- the begin and the end of a call are no access
pub made_held : {S : Type 0} (spans : S → S → Type 0) (step : S → Letter → S → Type 0) (world : S → World) (counted : S → ℕ)
    → ((old new : S) → spans old new → counted new ≡ counted old) → (old new : SessionOver S) (c : Command) (answer : Reply) (is : AppliesHeld spans step world old c answer new)
    → (before after made : ℕ) → before ≡ counted old.table → after ≡ counted new.table → made ≡ after - before → made ≡ counted is.last.table - counted is.first.table
made_held {S} spans step world counted keeps old new c answer is before after made from to difference =
    difference ∙ ap (λ n. n - before) (to ∙ keeps is.last.table new.table is.ends.changes)
    ∙ ap (λ n. counted is.last.table - n) (from ∙ sym (keeps old.table is.first.table is.begins.changes))

-- what is ready before a call is so after it
pub ready_held : {S : Type 0} (spans : S → S → Type 0) (step : S → Letter → S → Type 0) (world : S → World) (ready : S → Type 0)
    → ((old new : S) → spans old new → ready old → ready new)
    → ((first last : SessionOver S) (c : Command) (answer : Reply) → AppliesBy step world first c answer last → ready first.table → ready last.table)
    → (old new : SessionOver S) (c : Command) (answer : Reply) → AppliesHeld spans step world old c answer new → ready old.table → ready new.table
ready_held spans step world ready spanned after old new c answer is before =
    spanned is.last.table new.table is.ends.changes (after is.first is.last c answer is.applies (spanned old.table is.first.table is.begins.changes before))

-- ---- texts

-- A reply to a line's command may be written in the line's form.
pub may_write : {S : Type 0} {step : S → Letter → S → Type 0} {world : S → World} {old new : SessionOver S} (how : Form) (line : List ℕ) (c : Command) (reply : Reply) → IsLineIn how line (parsed.Command c) → AppliesBy step world old c reply new
    → MayWrite how line reply
may_write form.Plain line c reply is_line applies = may_have_reason line c reply is_line applies
may_write form.Escaped line c reply is_line applies = tt

-- What a text has grown by is also written otherwise.
pub grows_as : (P Q : List ℕ → Type 0) → ((output : List ℕ) → P output → Q output) → (done : Result (Unit {0}) AllocError) (old new : List ℕ)
    → OnOk done (GrowsBy P old new) → OnOk done (GrowsBy Q old new)
grows_as P Q also (Ok d) old new grows = (grows.0, also grows.0 grows.1, grows.2)
grows_as P Q also (Err e) old new grows = tt

-- It has grown by such a text.
pub grows_by : (P : List ℕ → Type 0) (output : List ℕ) → P output → (done : Result (Unit {0}) AllocError) (old new : List ℕ) → OnOk done (new ≡ old ++ output) → OnOk done (GrowsBy P old new)
grows_by P output is (Ok d) old new grown = (output, is, grown)
grows_by P output is (Err e) old new grown = tt

module _ {M : Type 0} (Answers : Answering M) (m n : M) (line : List ℕ) (c : Command) where
  -- what a text has grown by, and what comes behind it
  pub answers_ended : (P : List ℕ → Type 0) (ending : List ℕ) → ((output : List ℕ) → P output → Answers m line c (output ++ ending) n) → (done : Result (Unit {0}) AllocError)
      (old mid new : List ℕ) → GrowsBy P old mid → new ≡ (if is_ok done then mid ++ ending else mid) → OnOk done (GrowsByAnswer Answers m line c old new n)
  answers_ended P ending answers (Ok d) old mid new grows end = record {
    output = grows.0 ++ ending;
    is_answer = answers grows.0 grows.1;
    grown = end ∙ ap (λ (t : List ℕ). t ++ ending) grows.2 ∙ append_assoc old grows.0 ending;
  }
  answers_ended P ending answers (Err e) old mid new grows end = tt

-- ---- an input

-- how the session of a node answers commands
abbrev AnswersAs : {S : Type 0} (settles shows spans : S → S → Type 0) (step : S → Letter → S → Type 0) (world : S → World) (writes : Writing S) (ending : List ℕ) (node : ℕ)
    → Answering (SessionOver S)
AnswersAs settles shows spans step world writes ending node old line c text new = AnswersWith form.Plain settles shows spans step world writes node line ending old c text new

module _ {S D : Type 0} (settles shows spans : S → S → Type 0) (step : S → Letter → S → Type 0) (world : S → World) (writes : Writing S) (ending : List ℕ) where
  -- how the answerer answers commands
  abbrev pub AnswersNode : Answering (NodeAnswerer S D)
  AnswersNode old line c text new = (new.node ≡ old.node) × AnswersAs settles shows spans step world writes ending old.node (own_state old.session) line c text (own_state new.session)

module _ {S D : Type 0} (settles shows spans : S → S → Type 0) (step : S → Letter → S → Type 0) (world : S → World) (trouble : S → Option Trouble) (writes : Writing S) (ending : List ℕ) where
  -- and lines
  abbrev AnswersIt : Answering (NodeAnswerer S D)
  AnswersIt = AnswersNode settles shows spans step world writes ending

  abbrev pub AnswersOf : WrongLines → AnsweringLines (NodeAnswerer S D)
  AnswersOf w = AnswersWhileUsable (λ a. or_gone a.is_gone (trouble (own_state a.session).table)) (AnswersNamed (λ a. a.node) (LinesBy w AnswersIt))

  module _ (node : ℕ) where
    abbrev Shows : NodeAnswerer S D → SessionOver S → Type 0
    Shows a s = (a.node ≡ node) × (own_state a.session ≡ s)

    along : (a b : NodeAnswerer S D) (line : List ℕ) (c : Command) (text : List ℕ) (s : SessionOver S) → AnswersIt a line c text b → Shows a s
        → (t : SessionOver S) × AnswersAs settles shows spans step world writes ending node s line c text t × Shows b t
    along a b line c text s by seen = (
      own_state b.session,
      subst (λ (r : SessionOver S). AnswersAs settles shows spans step world writes ending node r line c text (own_state b.session)) seen.1
          (subst (λ (n : ℕ). AnswersAs settles shows spans step world writes ending n (own_state a.session) line c text (own_state b.session)) seen.0 by.1),
      (by.0 ∙ seen.0, refl),
    )

    usable_along : (w : WrongLines) (a b : NodeAnswerer S D) (line text : List ℕ) (s : SessionOver S) → AnswersOf w a line text b → Shows a s
        → (t : SessionOver S) × AnswersLinesFor settles shows spans step world trouble writes ending node w s line text t × Shows b t
    usable_along w a b line text s by seen =
        let next = lines_by_along AnswersIt (AnswersAs settles shows spans step world writes ending node) Shows along w a b by.1.0 text s by.1.2 seen in (
          next.0,
          (
            subst (λ (r : SessionOver S). IsUsable (trouble r.table)) seen.1 (usable_unless_gone a.is_gone (trouble (own_state a.session).table) by.0),
            (by.1.0, subst (λ (n : ℕ). IsNamed n line by.1.0) seen.0 by.1.1, next.1),
          ),
          next.2,
        )

    -- what is written of an input is written of the session alone
    pub serves_for : (w : WrongLines) (a : NodeAnswerer S D) (ended : Result Ending ServeError) (input unread : List ℕ) (old new : Option (List ℕ)) → a.node ≡ node
        → ServesLines (AnswersOf w) a ended input unread old new
        → ServesLines (AnswersLinesFor settles shows spans step world trouble writes ending node w) (own_state a.session) ended input unread old new
    serves_for w a ended input unread old new is by = record {
      output = by.output;
      transcript = lines_transcript_along (AnswersOf w) (AnswersLinesFor settles shows spans step world trouble writes ending node w) Shows (usable_along w) a (own_state a.session) input ended by.output unread by.transcript (is, refl);
      written = by.written;
    }

-- ---- it begins as without explanations

module _ {S : Type 0} (settles shows spans : S → S → Type 0) (step : S → Letter → S → Type 0) (world : S → World) (node : ℕ) (line : List ℕ) where
  abbrev inside : TracedOver S → SessionOver S
  inside s = shown_session (λ traced. traced.inner) s

  goes_inside : {old new : TracedOver S} {c : Command} {r : Reply} → AppliesBy (IsTracedAccess step) (λ traced. world traced.inner) old c r new
      → AppliesBy step world (inside old) c r (inside new)
  goes_inside goes = (goes_shown (IsTracedAccess step) step (λ traced. traced.inner) world (λ traced. Unit {0}) (λ s t l p access. (access.inside, tt)) tt goes).0

  span_inside : (changes : S → S → Type 0) {old new : TracedOver S} → SpansSession (SpansTraced changes) old new → SpansSession changes (inside old) (inside new)
  span_inside changes s = record { same = ap inside s.same; changes = s.changes.1 }

  given_inside : {old new : TracedOver S} → GivesBack (SpansTraced settles) old new → GivesBack settles (inside old) (inside new)
  given_inside none_owed = none_owed
  given_inside (are_given before more) = are_given (given_inside before) (span_inside settles more)
  given_inside (are_gone before empties) = are_gone (given_inside before) (record { same = ap inside empties.same; changes = empties.changes.1 })

  abbrev HeldTraced : TracedOver S → Command → Reply → TracedOver S → Type 0
  HeldTraced = AppliesHeld (SpansTraced spans) (IsTracedAccess step) (λ traced. world traced.inner)

  held_inside : {old new : TracedOver S} {c : Command} {r : Reply} → HeldTraced old c r new → AppliesHeld spans step world (inside old) c r (inside new)
  held_inside is = record {
    first = inside is.first;
    last = inside is.last;
    begins = span_inside spans is.begins;
    applies = goes_inside is.applies;
    ends = span_inside spans is.ends;
  }

  abbrev RepliesTraced : TracedOver S → Command → Reply → List ℕ → TracedOver S → Type 0
  RepliesTraced = Replies (SpansTraced spans) (IsTracedAccess step) (λ traced. world traced.inner) (WritesExplained step world) line

  replied_inside : {old new : TracedOver S} {c : Command} {r : Reply} {text : List ℕ} (x : RepliesTraced old c r text new)
      → Replies spans step world WritesPlain line (inside old) c r x.is_written.is_text.output (inside new)
  replied_inside x = record { is = held_inside x.is; is_written = x.is_written.is_text.is_text }

  abbrev AnswersTraced : TracedOver S → Command → List ℕ → TracedOver S → Type 0
  AnswersTraced old c text new = AnswersFor form.Plain (SpansTraced shows) (SpansTraced spans) (IsTracedAccess step) (λ traced. world traced.inner) (WritesExplained step world) node line old c text new

  -- an answer, with an explanation behind it
  record Begins (old : TracedOver S) (c : Command) (text : List ℕ) (new : TracedOver S) : Type 0 where
    output : List ℕ
    explanation : List ℕ
    are : text ≡ output ++ explanation
    answers : AnswersFor form.Plain shows spans step world WritesPlain node line (inside old) c output (inside new)

  begins_as_answered : {old new : TracedOver S} {text : List ℕ} {c : Command} → AnswersTraced old c text new → Begins old c text new
  begins_as_answered (of_another another) = record { output = _; explanation = []; are = sym (append-nil _); answers = of_another another }
  begins_as_answered (called answer same is x) =
      record { output = x.is_written.is_text.output; explanation = _; are = x.is_written.is_text.are; answers = called answer same is (replied_inside x) }
  begins_as_answered (stays answer mid same blocked is shown x) =
      record { output = x.is_text.output; explanation = _; are = x.is_text.are; answers = stays answer (inside mid) same blocked (held_inside is) (span_inside shows shown) x.is_text.is_text }
  begins_as_answered (again refused answer mid cleaned once same blocked is shown line_is own x) =
      record {
        output = x.is_written.is_text.output;
        explanation = _;
        are = x.is_written.is_text.are;
        answers = again refused answer (inside mid) (inside cleaned) once same blocked (held_inside is) (span_inside shows shown) line_is own (replied_inside x);
      }
  begins_as_answered (closed answer x) =
      record { output = x.is_written.is_text.output; explanation = _; are = x.is_written.is_text.are; answers = closed answer (replied_inside x) }
  begins_as_answered (listed answer x) =
      record { output = x.is_written.is_text.output; explanation = _; are = x.is_written.is_text.are; answers = listed answer (replied_inside x) }

  -- and so does what ends with something more
  pub with_ending_as_answered : (ending : List ℕ) {old new : TracedOver S} {text : List ℕ} {c : Command}
      → AnswersWith form.Plain (SpansTraced settles) (SpansTraced shows) (SpansTraced spans) (IsTracedAccess step) (λ traced. world traced.inner) (WritesExplained step world) node line ending old c text new
      → BeginsAsAnswered settles shows spans step world node line old c text new
  with_ending_as_answered ending {old = old} x =
      let begins = begins_as_answered x.answers in
      record {
        output = begins.output;
        explanation = begins.explanation ++ ending;
        are = x.are ∙ ap (λ (t : List ℕ). t ++ ending) begins.are ∙ append_assoc begins.output begins.explanation ending;
        answers = record {
          shown = inside x.shown;
          looks = span_inside shows x.looks;
          settled = inside x.settled;
          gives = given_inside x.gives;
          answered = inside x.answered;
          output = begins.output;
          answers = begins.answers;
          are = sym (append-nil begins.output);
          goes_on = given_inside x.goes_on;
        };
      }
