-- A session over a traced table that explains its replies.
use Rattle.std.proofs.Common.{◌≡◌, ℕ, List, [], replicate, Option, None, Result, Ok, Err, OnOk, refl, sym, ap, ◌∙◌, subst, arith}
use Rattle.std.specs.declared.alloc.AllocError.{AllocError}
use Rattle.iceoryx2_access.specs.Letter.{Letter}
use Rattle.iceoryx2_description.specs.declared.config.Config.{Config}
use Rattle.iceoryx2_description.specs.Defaults.{default_config}
use Rattle.iceoryx2_testing.specs.Trace.{TracedState}
use Rattle.iceoryx2_world.specs.Agreement.{Agrees}
use Rattle.iceoryx2_world.specs.Tables.{TableState, IsTableAccess}
use Rattle.iceoryx2_world.specs.World.{World, empty_world}
use Rattle.iceoryx2_call_laws.specs.Quiet.{Quiet, no_service}
use Rattle.iceoryx2_builder.specs.Commands.{slot_count}
use Rattle.iceoryx2_builder.specs.declared.command.Command.{Command}
use Rattle.iceoryx2_builder.specs.declared.command.Command.TheVariants as command
use Rattle.iceoryx2_builder.specs.declared.command.Reply.{Reply}
use Rattle.iceoryx2_builder.specs.declared.command.Reply.TheVariants as reply
use Rattle.iceoryx2_session.specs.declared.session.Session.{Session}
use Rattle.iceoryx2_session.specs.CommandWords.{AppliesAlong}
use Rattle.iceoryx2_session.specs.QuietSessions.{IsQuiet, IsMoved}
use Rattle.iceoryx2_session.specs.Sessions.{SessionOver, AppliesBy, shown_world, close_past, close_empty, closed, not_closed, listed, not_listed}
use Rattle.iceoryx2_session.specs.SessionStates.{own_state}
use Rattle.iceoryx2_session.specs.StandingSlots.{SlotsStand, OwnsTickets, ClosesTaken}
use Rattle.negotiate_serve.specs.declared.ending.Ending.{Ending}
use Rattle.negotiate_serve.specs.declared.ending.ServeError.{ServeError}
use Rattle.negotiate_serve.specs.Replies.{GrowsBy}
use Rattle.negotiate_serve.specs.Served.{GrowsByAnswer, ServesBy}
use Rattle.negotiate_lines.specs.declared.line.Line.TheVariants as kind
use Rattle.negotiate_lines.specs.Lines.{IsLine}
use Rattle.negotiate_serve.specs.Transcripts.{Machine, slot_named}
use Rattle.negotiate_serve.proofs.Shown.{machine_after, shows_after, machine_moves, shows_first}
use Rattle.negotiate_serve.proofs.Simulated.{transcript_along}
use Rattle.explain_serve.specs.declared.explainer.Explainer.{Explainer}
use Rattle.explain_serve.specs.declared.format.Format.{Format}
use Rattle.explain_serve.specs.Answered.{ExplainState, first_state, Explains, ShowsState, ShowsSomeState, AnswersAs}
use Rattle.explain_serve.specs.declared.format.Format.TheVariants as format
use Rattle.explain_serve.specs.Explained.{node_named, refusal_of, MayHaveReason, IsTextInLines, IsTextInDiagram, IsExplanationText}
use Rattle.explain_serve.specs.Traces.{IsAccess, table_inside, table_world, TracedSession, session_inside, room_kept, made_between, fresh_trace, HasItsRoom}
use Rattle.explain_serve.proofs.Traces.{goes_traced, still_room}

-- ---- a command

-- how an explainer answers
abbrev pub explainer_answers : Explainer → (line : List ℕ) → Command → (text : List ℕ) → Explainer → Type 0
explainer_answers old line c text new = (new.format ≡ old.format) × AnswersAs old.format (own_state old.session) line c text (own_state new.session)

module _ (x y : Explainer) (c : Command) (r : Reply) (own : AppliesBy IsAccess (shown_world table_inside) (own_state x.session) c r (own_state y.session))
    (along : AppliesAlong IsAccess (own_state x.session) c r (own_state y.session))
    (quiet : (q : Quiet) → IsQuiet (session_inside (own_state x.session)) q → SlotsStand (session_inside (own_state x.session))
    → IsMoved (session_inside (own_state x.session)) q c r (session_inside (own_state y.session)))
    (stands : Agrees (session_inside (own_state x.session)).table.world → SlotsStand (session_inside (own_state x.session))
    → Agrees (session_inside (own_state y.session)).table.world × SlotsStand (session_inside (own_state y.session))
    × ClosesTaken (session_inside (own_state x.session)) c (session_inside (own_state y.session)))
    (owns : Agrees (session_inside (own_state x.session)).table.world → SlotsStand (session_inside (own_state x.session)) → OwnsTickets (session_inside (own_state x.session))
    → OwnsTickets (session_inside (own_state y.session))) where
  shows_next : (m : Machine) (state : ShowsState (own_state x.session) m) → ShowsState (own_state y.session) (machine_after (quiet m.services state.shows.quiet state.shows.stand))
  shows_next m state =
      let shows = state.shows in
      record {
        shows = shows_after (session_inside (own_state x.session)) (session_inside (own_state y.session)) m c r shows (quiet m.services shows.quiet shows.stand)
            (stands shows.quiet.agrees shows.stand) (owns shows.quiet.agrees shows.stand shows.owns);
        room = still_room IsTableAccess table_world (own_state x.session) (own_state y.session) c r state.room along;
      }

  pub shows_some : ShowsSomeState (own_state x.session) → ShowsSomeState (own_state y.session)
  shows_some old = (machine_after (quiet old.0.services old.1.shows.quiet old.1.shows.stand), shows_next old.0 old.1)

  explains_reply : (line text : List ℕ) → IsExplanationText x.format line c r (own_state x.session) (own_state y.session) text → AnswersAs x.format (own_state x.session) line c text (own_state y.session)
  explains_reply line text is m state =
      let moved = quiet m.services state.shows.quiet state.shows.stand in
      record {
        machine = machine_after moved;
        explains = record {
          reply = r;
          goes = goes_traced IsTableAccess table_world (own_state x.session) (own_state y.session) c r state.room along own;
          moves = machine_moves (session_inside (own_state x.session)) (session_inside (own_state y.session)) m c r state.shows moved;
          is_text = is;
        };
        shows = shows_next m state;
      }

  -- a text has grown by what is written in lines, or drawn
  module _ (line old new : List ℕ) (slot made : ℕ) (kept : y.format ≡ x.format) (slot_is : slot ≡ slot_named c) (made_is : made ≡ made_between (own_state x.session) (own_state y.session)) where
    pub answers_in_lines : x.format ≡ format.Lines → (done : Result (Unit {0}) AllocError) → OnOk done (GrowsBy (IsTextInLines table_world line slot r made (own_state y.session).table) old new)
        → OnOk done (GrowsByAnswer explainer_answers x line c old new y)
    answers_in_lines is (Ok done) adds =
        let lines : IsTextInLines table_world line (slot_named c) r (made_between (own_state x.session) (own_state y.session)) (own_state y.session).table adds.0 =
        subst (λ s. IsTextInLines table_world line s r (made_between (own_state x.session) (own_state y.session)) (own_state y.session).table adds.0) slot_is
        (subst (λ n. IsTextInLines table_world line slot r n (own_state y.session).table adds.0) made_is adds.1) in
        record {
          output = adds.0;
          is_answer = (kept, explains_reply line adds.0 (subst (λ f. IsExplanationText f line c r (own_state x.session) (own_state y.session) adds.0) (sym is) lines));
          grown = adds.2;
        }
    answers_in_lines is (Err e) adds = tt

    pub answers_in_diagram : (node : ℕ) → node ≡ node_named c → x.format ≡ format.Diagram → (done : Result (Unit {0}) AllocError)
        → OnOk done (GrowsBy (IsTextInDiagram node slot r made (own_state y.session).table) old new) → OnOk done (GrowsByAnswer explainer_answers x line c old new y)
    answers_in_diagram node node_is is (Ok done) adds =
        let drawn : IsTextInDiagram (node_named c) (slot_named c) r (made_between (own_state x.session) (own_state y.session)) (own_state y.session).table adds.0 =
        subst (λ k. IsTextInDiagram k (slot_named c) r (made_between (own_state x.session) (own_state y.session)) (own_state y.session).table adds.0) node_is
        (subst (λ s. IsTextInDiagram node s r (made_between (own_state x.session) (own_state y.session)) (own_state y.session).table adds.0) slot_is
        (subst (λ n. IsTextInDiagram node slot r n (own_state y.session).table adds.0) made_is adds.1)) in
        record {
          output = adds.0;
          is_answer = (kept, explains_reply line adds.0 (subst (λ f. IsExplanationText f line c r (own_state x.session) (own_state y.session) adds.0) (sym is) drawn));
          grown = adds.2;
        }
    answers_in_diagram node node_is is (Err e) adds = tt

-- a refused reply is one to a call, which the line is
pub may_have_reason : {S : Type 0} {step : S → Letter → S → Type 0} {world : S → World} {s t : SessionOver S} (line : List ℕ) (c : Command) (r : Reply)
    → IsLine line (kind.Command c) → AppliesBy step world s c r t → MayHaveReason line (refusal_of r)
may_have_reason line (command.Call call) r is goes = at r
  where
    at : (r : Reply) → MayHaveReason line (refusal_of r)
    at (reply.Opened slot number) = tt
    at (reply.Refused refused) = (call, is)
    at (reply.Closed slot) = tt
    at (reply.NotClosed slot) = tt
    at reply.SlotInUse = tt
    at reply.SlotEmpty = tt
    at reply.NoSuchSlot = tt
    at (reply.Listing entries) = tt
    at reply.OutOfMemory = tt
may_have_reason line (command.Close slot) r is (close_past h) = tt
may_have_reason line (command.Close slot) r is (close_empty h) = tt
may_have_reason line (command.Close slot) r is (closed f h by) = tt
may_have_reason line (command.Close slot) r is (not_closed f h by) = tt
may_have_reason line command.List r is (listed h) = tt
may_have_reason line command.List r is not_listed = tt

-- ---- the start

pub fresh_room : {S : Type 0} {inner : S} → HasItsRoom (fresh_trace inner)
fresh_room = record { room = refl; kept = omega arith }

module _ (session : Session (TracedState TableState)) (config : Config) (table : TableState) (traced : TracedState TableState)
    (state : own_state session ≡ record { config = config; table = traced; slots = replicate slot_count None }) (is_default : config ≡ default_config)
    (traced_is : traced ≡ record { inner = table; entries = []; room = room_kept; total = 0 }) (table_is : table ≡ record { world = empty_world 0; waiting = []; skipped = 0 }) where
  -- an empty table, no access, and free slots
  pub begins : own_state session ≡ first_state.session
  begins =
      state ∙ ap (λ (c : Config). record { config = c; table = traced; slots = replicate slot_count None }) is_default
      ∙ ap (λ (t : TracedState TableState). record { config = default_config; table = t; slots = replicate slot_count None })
      (traced_is ∙ ap (λ (t : TableState). record { inner = t; entries = []; room = room_kept; total = 0 }) table_is)

  inside_is : traced.inner ≡ record { world = empty_world 0; waiting = []; skipped = 0 }
  inside_is = ap (λ (t : TracedState TableState). t.inner) traced_is ∙ table_is

  pub shows_begin : SlotsStand (session_inside (own_state session))
      → ((n : ℕ) → traced.inner.world ≡ empty_world n → traced.inner.waiting ≡ []
      → IsQuiet (session_inside (own_state session)) (no_service n) × OwnsTickets (session_inside (own_state session)))
      → ShowsState (own_state session) first_state.machine
  shows_begin stand fresh = record {
    shows = shows_first (session_inside (own_state session)) config traced.inner
        (ap (λ (s : TracedSession). session_inside s) state) is_default stand
        (fresh 0 (ap (λ (t : TableState). t.world) inside_is) (ap (λ (t : TableState). t.waiting) inside_is));
    room = subst (λ (s : TracedSession). HasItsRoom s.table) (sym begins) fresh_room;
  }

-- ---- the program

-- what an explainer writes is written by a session beside its machine
pub serves_explained : (format : Format) (x : Explainer) (ended : Result Ending ServeError) (input unread : List ℕ) (old new : Option (List ℕ)) → x.format ≡ format
    → own_state x.session ≡ first_state.session → ShowsState (own_state x.session) first_state.machine → ServesBy explainer_answers x ended input unread old new
    → ServesBy (Explains format) first_state ended input unread old new
serves_explained format x ended input unread old new is begins shows served = record {
  output = served.output;
  transcript = transcript_along explainer_answers (Explains format) Beside beside x first_state input ended served.output unread served.transcript (is, begins, shows);
  written = served.written;
}
  where
    Beside : Explainer → ExplainState → Type 0
    Beside a s = (a.format ≡ format) × (own_state a.session ≡ s.session) × ShowsState (own_state a.session) s.machine

    beside : (a b : Explainer) (line : List ℕ) (c : Command) (text : List ℕ) (s : ExplainState) → explainer_answers a line c text b → Beside a s
        → (n : ExplainState) × Explains format s line c text n × Beside b n
    beside a b line c text s by shows =
        let next = by.1 s.machine shows.2 in
        let n : ExplainState = record { session = own_state b.session; machine = next.machine } in (
          n,
          subst (λ own. Explains format (record { session = own; machine = s.machine }) line c text n) shows.1
              (subst (λ f. Explains f (record { session = own_state a.session; machine = s.machine }) line c text n) shows.0 next.explains),
          (by.0 ∙ shows.0, refl, next.shows),
        )
