-- How a node over a log is asked.
use Rattle.std.specs.Prelude.{◌≡◌, ℕ, List, Option}
use Rattle.iceoryx2_session.specs.CommandWords.{SpansSession}
use Rattle.iceoryx2_session.specs.Sessions.{SessionOver}
use Rattle.iceoryx2_world.specs.World.{World}
use Rattle.escaped_serve.specs.Questions.{AnswersQuestion}
use Rattle.negotiate_lines.specs.declared.question.Question.{Question}
use Rattle.negotiate_lines.specs.declared.question.Question.TheVariants as question
use Rattle.wulameron_place.specs.declared.trouble.Trouble.{Trouble}
use Rattle.wulameron_serve.specs.Cleaning.{CleansAsked, RehearsesAsked}
use Rattle.wulameron_serve.specs.Nodes.{IsNodesReply}
use Rattle.wulameron_serve.specs.Shared.{GivesBack}

module _ {S : Type 0} (shows : S → S → Type 0) (world : S → World) (trouble : S → Option Trouble) where
  -- How a question is answered: about the nodes at the log, as they stand in the session's world, by what dead ones
  -- have, which is given back or would be,
  -- and else of the session alone.
  abbrev pub AsksFor : SessionOver S → Question → (text : List ℕ) → SessionOver S → Type 0
  AsksFor old question.Nodes text new = (new ≡ old) × IsNodesReply (world old.table) text
  AsksFor old (question.Clean named) text new = CleansAsked shows world trouble named old text new
  AsksFor old (question.Rehearse named) text new = (new ≡ old) × RehearsesAsked named text
  AsksFor old q text new = AnswersQuestion world old q text new

-- A question is answered after what others did was shown, and after what the node owes was given back. Where the log's
-- session ended meanwhile, it goes on in another one.
pub record AsksWith {S : Type 0} (settles shows : S → S → Type 0) (world : S → World) (trouble : S → Option Trouble)
    (old : SessionOver S) (q : Question) (text : List ℕ) (new : SessionOver S) : Type 0 where
  pub shown : SessionOver S
  pub looks : SpansSession shows old shown
  pub settled : SessionOver S
  pub gives : GivesBack settles shown settled
  pub answered : SessionOver S
  pub answers : AsksFor shows world trouble settled q text answered
  pub goes_on : GivesBack settles answered new
