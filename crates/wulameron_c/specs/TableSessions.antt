-- What a session over a table is, and how a line is answered into a place.
use Rattle.std.specs.Prelude.{◌≡◌, ◌≢◌, ◌<◌, ◌≤◌, ◌++◌, ℕ, List, [], drop, length, string_bytes}
use Rattle.iceoryx2_session.specs.SessionStates.{own_state}
use Rattle.escaped_serve.specs.declared.answerer.TableAnswerer.{TableAnswerer}
use Rattle.escaped_serve.specs.Answered.{SessionReplies, ShowsSome}
use Rattle.escaped_serve.specs.Lines.{AnswersEscapedLine}
use Rattle.escaped_serve.specs.Questions.{AnswersQuestion}
use Rattle.escaped_serve.specs.Replies.{IsEscapedReply}
use Rattle.negotiate_serve.specs.Replies.{IsReplyText}
use Rattle.negotiate_serve.specs.Transcripts.{AnsweringLines}
use Rattle.wulameron_c.specs.declared.table_session.TableSession.{TableSession}

-- What holds of it between two lines: its session shows a machine, in which the factories of all slots stand.
abbrev pub Stands : TableSession → Type 0
Stands s = ShowsSome (own_state s.answerer.session)

-- A session of which nothing was asked: it stands, and there is no reply.
pub record IsFresh (s : TableSession) : Type 0 where
  pub stands : Stands s
  pub reply : string_bytes s.reply ≡ []

-- how an escaped session over a table answers lines
abbrev pub TableLines : AnsweringLines TableAnswerer
TableLines = AnswersEscapedLine
    (λ old line c text new. SessionReplies IsReplyText (own_state old.session) c text (own_state new.session))
    (λ old line c text new. SessionReplies IsEscapedReply (own_state old.session) c text (own_state new.session))
    (λ old q text new. AnswersQuestion (λ table. table.world) (own_state old.session) q text (own_state new.session))

-- The line is answered as an escaped session answers it, and this is the reply.
abbrev pub Replies : (line : List ℕ) → TableSession → TableSession → Type 0
Replies line old new = TableLines old.answerer line (string_bytes new.reply) new.answerer

-- A reply is at the front of its place, and what stood behind stays; or it has more bytes than the place, which is as
-- it was.
pub data WritesReply (reply place : List ℕ) : (code : ℕ) → List ℕ → (written : ℕ) → Type 0 where
  fits : {new : List ℕ} {written : ℕ} → length reply ≤ length place → new ≡ reply ++ drop (length reply) place
      → written ≡ length reply → WritesReply reply place 0 new written
  is_longer : {new : List ℕ} {written : ℕ} → length place < length reply → new ≡ place
      → written ≡ length reply → WritesReply reply place 5 new written

-- A line is answered, or asks for the last reply again, and the reply is written into its place. Or memory runs out,
-- after which there is no reply. What holds of the session between two lines still does.
pub data AnswersInto (line : List ℕ) (old : TableSession) (code : ℕ) (place : List ℕ) (length_place : ℕ)
    (new : TableSession) (new_place : List ℕ) (written : ℕ) : Type 0 where
  answered : line ≢ [] → (Stands old → Replies line old new × Stands new)
      → WritesReply (string_bytes new.reply) place code new_place written
      → AnswersInto line old code place length_place new new_place written
  again : line ≡ [] → new ≡ old → WritesReply (string_bytes old.reply) place code new_place written
      → AnswersInto line old code place length_place new new_place written
  no_memory : code ≡ 4 → string_bytes new.reply ≡ [] → new_place ≡ place → written ≡ length_place
      → (Stands old → Stands new)
      → AnswersInto line old code place length_place new new_place written
