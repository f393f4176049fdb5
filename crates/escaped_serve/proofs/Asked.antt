-- What questions leave of a session.
use Rattle.std.proofs.Common.{◌≡◌, ℕ, List, None, Result, Ok, Err, OnOk, OnErr, refl, sym, ap, subst, ◌∙◌}
use Rattle.std.specs.Prelude.{slice_set}
use Rattle.std.specs.declared.alloc.AllocError.{AllocError}
use Rattle.iceoryx2_call_laws.specs.Quiet.{Shows}
use Rattle.iceoryx2_session.specs.Sessions.{SessionOver, SessionState}
use Rattle.iceoryx2_session.specs.StandingSlots.{SlotsStand}
use Rattle.iceoryx2_world.specs.Agreement.{Agrees}
use Rattle.iceoryx2_world.specs.Tables.{TableState}
use Rattle.iceoryx2_world.specs.World.{World}
use Rattle.negotiate_lines.specs.declared.question.Question.{Question}
use Rattle.negotiate_lines.specs.declared.question.Question.TheVariants as question
use Rattle.negotiate_serve.specs.Replies.{GrowsBy}
use Rattle.escaped_serve.specs.Answered.{ShowsSome}
use Rattle.escaped_serve.specs.Questions.{AnswersQuestion}

-- ---- over a table

module _ (s n : SessionState) where
  kept_shows : n ≡ s → ShowsSome s → ShowsSome n
  kept_shows same shows = subst ShowsSome (sym same) shows

  abandoned_shows : (slot : ℕ) → n ≡ record s { slots = slice_set s.slots slot None } → (SlotsStand s → SlotsStand n) → ShowsSome s → ShowsSome n
  abandoned_shows slot same stands shows =
      let table : n.table ≡ s.table = ap (λ (x : SessionState). x.table) same in
      let was = shows.1 in (
        record { services = shows.0.services; slots = n.slots },
        record {
          configured = ap (λ (x : SessionState). x.config) same ∙ was.configured;
          quiet = record {
            shows = subst (λ (t : TableState). Shows t.world shows.0.services) (sym table) was.quiet.shows;
            agrees = subst (λ (t : TableState). Agrees t.world) (sym table) was.quiet.agrees;
            waiting = ap (λ (t : TableState). t.waiting) table ∙ was.quiet.waiting;
          };
          slots = refl;
          stand = stands was.stand;
        },
      )

  asked_shows : (q : Question) (text : List ℕ) → AnswersQuestion (λ (t : TableState). t.world) s q text n → (SlotsStand s → SlotsStand n) → ShowsSome s → ShowsSome n
  asked_shows (question.Show slot) text answer stands = kept_shows answer.0
  asked_shows (question.Bytes slot) text answer stands = kept_shows answer.0
  asked_shows (question.Abandon slot) text answer stands = abandoned_shows slot answer.0 stands
  asked_shows question.Entries text answer stands = kept_shows answer.0
  asked_shows (question.Refusal number) text answer stands = kept_shows answer.0
  asked_shows question.Nodes text answer stands = kept_shows answer.0
  asked_shows (question.Clean only) text answer stands = kept_shows answer.0
  asked_shows (question.Rehearse only) text answer stands = kept_shows answer.0
  asked_shows (question.Plain line) text answer stands = absurd answer

  -- a session that shows a machine shows one after a question
  pub shows_asked : (q : Question) (old new : List ℕ) (r : Result (Unit {0}) AllocError) → OnOk r (GrowsBy (λ added. AnswersQuestion (λ (t : TableState). t.world) s q added n) old new)
      → OnErr r (n ≡ s) → (SlotsStand s → SlotsStand n) → ShowsSome s → ShowsSome n
  shows_asked q old new (Ok x) grown same stands = asked_shows q grown.0 grown.1 stands
  shows_asked q old new (Err e) grown same stands = kept_shows same
