-- A session over a table that shows the machine of `negotiate`, and what becomes of it.
use Rattle.std.proofs.Common.{◌≡◌, ℕ, List, Option, None, Result, Ok, Err, OnOk, refl, sym, ap, subst, ◌∙◌, replicate}
use Rattle.std.specs.declared.alloc.AllocError.{AllocError}
use Rattle.iceoryx2_access.specs.Registered.{Registered}
use Rattle.iceoryx2_description.specs.declared.config.Config.{Config}
use Rattle.iceoryx2_description.specs.Defaults.{default_config}
use Rattle.iceoryx2_world.specs.Agreement.{Agrees}
use Rattle.iceoryx2_world.specs.Tables.{TableState}
use Rattle.iceoryx2_call_laws.specs.Quiet.{Quiet, no_service}
use Rattle.iceoryx2_builder.specs.Commands.{slot_count}
use Rattle.iceoryx2_builder.specs.declared.command.Command.{Command}
use Rattle.iceoryx2_builder.specs.declared.command.Reply.{Reply}
use Rattle.iceoryx2_session.specs.Sessions.{SessionState}
use Rattle.iceoryx2_session.specs.StandingSlots.{SlotsStand, ClosesTaken, OwnsTickets}
use Rattle.iceoryx2_session.specs.QuietSessions.{IsQuiet, IsMoved, Moves}
use Rattle.negotiate_serve.specs.Replies.{GrowsBy}
use Rattle.negotiate_serve.specs.Served.{GrowsByAnswer}
use Rattle.negotiate_serve.specs.Transcripts.{Machine, first_machine, slot_named}
use Rattle.escaped_serve.specs.Answered.{ShowsMachine, ShowsSome, SessionReplies}

-- ---- the start

pub shows_first : (s : SessionState) (config : Config) (table : TableState) → s ≡ record { config = config; table = table; slots = replicate slot_count None }
    → config ≡ default_config → SlotsStand s → IsQuiet s (no_service 0) × OwnsTickets s → ShowsSome s
shows_first s config table state is_default stand fresh = (
  first_machine,
  record {
    configured = ap (λ (x : SessionState). x.config) state ∙ is_default;
    quiet = fresh.0;
    slots = ap (λ (x : SessionState). x.slots) state;
    stand = stand;
  },
)

-- ---- a command

module _ (a b : SessionState) (c : Command) (r : Reply) (quiet : (q : Quiet) → IsQuiet a q → SlotsStand a → IsMoved a q c r b)
    (stands : Agrees a.table.world → SlotsStand a → Agrees b.table.world × SlotsStand b × ClosesTaken a c b) where
  abbrev machine_next : (m : Machine) → ShowsMachine a m → Machine
  machine_next m shows = record { services = (quiet m.services shows.quiet shows.stand).state; slots = b.slots }

  shows_next : (m : Machine) (shows : ShowsMachine a m) → ShowsMachine b (machine_next m shows)
  shows_next m shows =
      let moved = quiet m.services shows.quiet shows.stand in
      record {
        configured = moved.configured ∙ shows.configured;
        quiet = moved.quiet;
        slots = refl;
        stand = (stands shows.quiet.agrees shows.stand).1;
      }

  -- a session that shows a machine shows another one after a command
  pub shows_some : ShowsSome a → ShowsSome b
  shows_some old = (machine_next old.0 old.1, shows_next old.0 old.1)

  machine_moves : (m : Machine) (shows : ShowsMachine a m) → Moves default_config m.services m.slots c r (machine_next m shows).services b.slots
  machine_moves m shows =
      let moved = quiet m.services shows.quiet shows.stand in
      subst (λ (config : Config). Moves config m.services m.slots c r moved.state b.slots) shows.configured
      (subst (λ (slots : List (Option Registered)). Moves a.config m.services slots c r moved.state b.slots) shows.slots moved.moves)

  -- and its reply is that of the machine
  pub replies_as : (IsText : ℕ → Reply → List ℕ → Type 0) (slot : ℕ) (text : List ℕ) → slot ≡ slot_named c → IsText slot r text → SessionReplies IsText a c text b
  replies_as IsText slot text slot_is is = λ m shows. record {
    machine = machine_next m shows;
    reply = r;
    moves = machine_moves m shows;
    is_text = subst (λ (k : ℕ). IsText k r text) slot_is is;
    shows = shows_next m shows;
  }

  pub answers_reply : (IsText : ℕ → Reply → List ℕ → Type 0) {M : Type 0} (state : M → SessionState) (old new : M) → state old ≡ a → state new ≡ b
      → (slot : ℕ) (bytes before after : List ℕ) → slot ≡ slot_named c → (done : Result (Unit {0}) AllocError) → OnOk done (GrowsBy (IsText slot r) before after)
      → OnOk done (GrowsByAnswer (λ x line d text y. SessionReplies IsText (state x) d text (state y)) old bytes c before after new)
  answers_reply IsText state old new old_is new_is slot bytes before after slot_is (Ok done) grows = record {
    output = grows.0;
    is_answer = subst (λ (s : SessionState). SessionReplies IsText s c grows.0 (state new)) (sym old_is)
        (subst (λ (t : SessionState). SessionReplies IsText a c grows.0 t) (sym new_is) (replies_as IsText slot grows.0 slot_is grows.1));
    grown = grows.2;
  }
  answers_reply IsText state old new old_is new_is slot bytes before after slot_is (Err e) grows = tt
