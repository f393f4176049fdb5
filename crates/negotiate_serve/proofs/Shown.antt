-- A session that shows a machine, and what becomes of it.
use Rattle.std.proofs.Common.{◌≡◌, ℕ, true, List, [], Option, None, Result, Ok, Err, OnOk, refl, sym, ap, subst, ◌∙◌, append-nil, replicate}
use Rattle.std.specs.declared.alloc.AllocError.{AllocError}
use Rattle.iceoryx2_access.specs.Registered.{Registered}
use Rattle.iceoryx2_description.specs.declared.config.Config.{Config}
use Rattle.iceoryx2_description.specs.Defaults.{default_config}
use Rattle.iceoryx2_world.specs.Agreement.{Agrees}
use Rattle.iceoryx2_world.specs.Tables.{TableState}
use Rattle.iceoryx2_call_laws.specs.Quiet.{Quiet, no_service}
use Rattle.iceoryx2_builder.specs.Commands.{slot_count}
use Rattle.iceoryx2_builder.specs.declared.command.Command.{Command}
use Rattle.iceoryx2_builder.specs.declared.command.Reply.{Reply}
use Rattle.iceoryx2_session.specs.Sessions.{SessionState}
use Rattle.iceoryx2_session.specs.StandingSlots.{SlotsStand, OwnsTickets, ClosesTaken}
use Rattle.iceoryx2_session.specs.QuietSessions.{IsQuiet, IsMoved, Moves}
use Rattle.negotiate_lines.specs.declared.line.Line.{Line}
use Rattle.negotiate_lines.specs.declared.line.Line.TheVariants as line
use Rattle.negotiate_lines.specs.Lines.{IsLine}
use Rattle.iceoryx2_session.specs.declared.session.Session.{Session}
use Rattle.iceoryx2_session.specs.SessionStates.{own_state}
use Rattle.negotiate_serve.specs.declared.ending.Ending.{Ending}
use Rattle.negotiate_serve.specs.declared.ending.ServeError.{ServeError}
use Rattle.negotiate_serve.specs.declared.ending.WrongLines.{WrongLines}
use Rattle.negotiate_serve.specs.declared.ending.WrongLines.TheVariants as wrong_lines
use Rattle.negotiate_serve.specs.Replies.{GrowsBy, IsReplyText}
use Rattle.negotiate_serve.specs.Transcripts.{Answering, AnswersLineBy, LinesBy, as_command, blank, answered, Machine, first_machine, Replies, slot_named}
use Rattle.negotiate_serve.proofs.Simulated.{transcript_along}
use Rattle.negotiate_serve.specs.Served.{GrowsByAnswer, GrowsByLine, ServesBy, Serves, ShowsMachine, ShowsSome, SessionReplies}

-- what a session shows after a command
abbrev pub machine_after : {s n : SessionState} {q : Quiet} {c : Command} {r : Reply} → IsMoved s q c r n → Machine
machine_after {n = n} moved = record { services = moved.state; slots = n.slots }

pub shows_after : (s n : SessionState) (m : Machine) (c : Command) (r : Reply) → ShowsMachine s m → (moved : IsMoved s m.services c r n)
    → Agrees n.table.world × SlotsStand n × ClosesTaken s c n → OwnsTickets n → ShowsMachine n (machine_after moved)
shows_after s n m c r shows moved stand owns = record {
  configured = moved.configured ∙ shows.configured;
  quiet = moved.quiet;
  slots = refl;
  stand = stand.1;
  owns = owns;
}

-- the machine moves as the session does
pub machine_moves : (s n : SessionState) (m : Machine) (c : Command) (r : Reply) → ShowsMachine s m → (moved : IsMoved s m.services c r n)
    → Moves default_config m.services m.slots c r moved.state n.slots
machine_moves s n m c r shows moved =
    subst (λ (config : Config). Moves config m.services m.slots c r moved.state n.slots) shows.configured
    (subst (λ (slots : List (Option Registered)). Moves s.config m.services slots c r moved.state n.slots) shows.slots moved.moves)

-- ---- a command

module _ (a b : Session TableState) (c : Command) (r : Reply) (quiet : (q : Quiet) → IsQuiet (own_state a) q → SlotsStand (own_state a) → IsMoved (own_state a) q c r (own_state b))
    (stands : Agrees (own_state a).table.world → SlotsStand (own_state a) → Agrees (own_state b).table.world × SlotsStand (own_state b) × ClosesTaken (own_state a) c (own_state b))
    (owns : Agrees (own_state a).table.world → SlotsStand (own_state a) → OwnsTickets (own_state a) → OwnsTickets (own_state b)) where
  shows_next : (m : Machine) (shows : ShowsMachine (own_state a) m) → ShowsMachine (own_state b) (machine_after (quiet m.services shows.quiet shows.stand))
  shows_next m shows =
      shows_after (own_state a) (own_state b) m c r shows (quiet m.services shows.quiet shows.stand) (stands shows.quiet.agrees shows.stand) (owns shows.quiet.agrees shows.stand shows.owns)

  -- a session that shows a machine shows another one after a command
  pub shows_some : ShowsSome (own_state a) → ShowsSome (own_state b)
  shows_some old = (machine_after (quiet old.0.services old.1.quiet old.1.stand), shows_next old.0 old.1)

  -- and its reply is that of the machine
  pub answers_reply : (slot : ℕ) (bytes old new : List ℕ) → slot ≡ slot_named c → (done : Result (Unit {0}) AllocError) → OnOk done (GrowsBy (IsReplyText slot r) old new)
      → OnOk done (GrowsByAnswer (λ a line c text b. SessionReplies (own_state a) line c text (own_state b)) a bytes c old new b)
  answers_reply slot bytes old new slot_is (Ok done) grows = record {
    output = grows.0;
    is_answer = λ m shows.
        let moved = quiet m.services shows.quiet shows.stand in
        record {
          machine = machine_after moved;
          replies = record { reply = r; moves = machine_moves (own_state a) (own_state b) m c r shows moved; is_text = subst (λ (k : ℕ). IsReplyText k r grows.0) slot_is grows.1 };
          shows = shows_next m shows;
        };
    grown = grows.2;
  }
  answers_reply slot bytes old new slot_is (Err e) grows = tt

-- ---- a line

module _ {M : Type 0} (Answers : Answering M) (m : M) (k : ℕ) (bytes old : List ℕ) where
  in_lines : (w : WrongLines) (n : M) (text : List ℕ) → AnswersLineBy Answers m bytes text n → LinesBy w Answers m bytes text n
  in_lines wrong_lines.End n text by = by
  in_lines wrong_lines.Reply n text by = as_command by
  in_lines wrong_lines.ReplyAndEmptyLine n text by = as_command by

  module _ (w : WrongLines) (l : Line) (is : IsLine bytes l) where
    pub answers_nothing : l ≡ line.Blank → GrowsByLine (LinesBy w Answers) true m k bytes old old m
    answers_nothing nothing = record { output = []; is_answer = in_lines w m [] (blank (subst (IsLine bytes) nothing is)); grown = sym (append-nil old) }

    pub answers_command : (n : M) (new : List ℕ) (c : Command) → l ≡ line.Command c → GrowsByAnswer Answers m bytes c old new n
        → GrowsByLine (LinesBy w Answers) true m k bytes old new n
    answers_command n new c command adds = record { output = adds.output; is_answer = in_lines w n adds.output (answered (subst (IsLine bytes) command is) adds.is_answer); grown = adds.grown }

-- ---- the start

pub shows_first : (s : SessionState) (config : Config) (table : TableState) → s ≡ record { config = config; table = table; slots = replicate slot_count None }
    → config ≡ default_config → SlotsStand s → IsQuiet s (no_service 0) × OwnsTickets s → ShowsMachine s first_machine
shows_first s config table state is_default stand fresh = record {
  configured = ap (λ (x : SessionState). x.config) state ∙ is_default;
  quiet = fresh.0;
  slots = ap (λ (x : SessionState). x.slots) state;
  stand = stand;
  owns = fresh.1;
}

-- ---- the end

-- what a session writes is what the machine that it shows writes
pub serves_as_machine : (s : Session TableState) (ended : Result Ending ServeError) (input unread : List ℕ) (old new : Option (List ℕ)) → ShowsMachine (own_state s) first_machine
    → ServesBy (λ a line c text b. SessionReplies (own_state a) line c text (own_state b)) s ended input unread old new → Serves ended input unread old new
serves_as_machine s ended input unread old new shows served = record {
  output = served.output;
  transcript = transcript_along (λ a line c text b. SessionReplies (own_state a) line c text (own_state b)) Replies (λ a m. ShowsMachine (own_state a) m)
      (λ a b line c text m by shown. let next = by m shown in (next.machine, next.replies, next.shows))
      s first_machine input ended served.output unread served.transcript shows;
  written = served.written;
}
