-- What is written of a line that is neither blank nor a command.
use Rattle.std.proofs.Common.{◌≡◌, ℕ, Bool, true, false, List, [], Result, Ok, Err, codes, refl, sym, subst, ◌∙◌}
use Rattle.std.specs.Prelude.{IfOk}
use Rattle.std.proofs.lemmas.Bool.{true≢false}
use Rattle.std.specs.declared.alloc.AllocError.{AllocError}
use Rattle.negotiate_lines.specs.declared.line.Line.TheVariants as line
use Rattle.negotiate_lines.specs.declared.line_error.LineError.{LineError}
use Rattle.negotiate_lines.specs.Lines.{IsLine}
use Rattle.negotiate_serve.specs.declared.ending.WrongLines.{WrongLines}
use Rattle.negotiate_serve.specs.declared.ending.WrongLines.TheVariants as wrong_lines
use Rattle.negotiate_serve.specs.Replies.{GrowsBy}
use Rattle.negotiate_serve.specs.Served.{IsAnswerTo, IsAnswerToWrong, GrowsByLine}
use Rattle.negotiate_serve.specs.Transcripts.{Answering, AnswersLineBy, AnswersEachBy, LinesBy, IsErrorReply, IsReplyToWrong, refused}

module _ (k : ℕ) (x : LineError) (old new : List ℕ) where
  module _ {M : Type 0} (Answers : Answering M) (m : M) (bytes : List ℕ) (is : IsLine bytes (line.NotACommand x)) where
    answers_each : (end : List ℕ) (goes_on : Bool) → GrowsBy (λ output. (goes_on ≡ true) × IsReplyToWrong end x output) old new
        → GrowsByLine (AnswersEachBy end Answers) goes_on m k bytes old new m
    answers_each end goes_on grows =
        let reply : IsErrorReply end bytes grows.0 = record { wrong = x; no_command = is; is_reply = grows.1.1 } in
        record { output = grows.0; is_answer = subst (λ (b : Bool). IsAnswerTo (AnswersEachBy end Answers) b m k bytes grows.0 m) (sym grows.1.0) (refused reply); grown = grows.2 }

    answers_wrong : (w : WrongLines) (goes_on : Bool) → GrowsBy (IsAnswerToWrong w goes_on k x) old new → GrowsByLine (LinesBy w Answers) goes_on m k bytes old new m
    answers_wrong wrong_lines.End goes_on grows =
        record { output = grows.0; is_answer = subst (λ (b : Bool). IsAnswerTo (AnswersLineBy Answers) b m k bytes grows.0 m) (sym grows.1.0) (is.0, grows.1.1); grown = grows.2 }
    answers_wrong wrong_lines.Reply goes_on grows = answers_each [] goes_on grows
    answers_wrong wrong_lines.ReplyAndEmptyLine goes_on grows = answers_each (codes "\n") goes_on grows

    pub wrong_answered : (w : WrongLines) (r : Result Bool AllocError) → IfOk r (λ goes_on. GrowsBy (IsAnswerToWrong w goes_on k x) old new)
        → IfOk r (λ goes_on. GrowsByLine (LinesBy w Answers) goes_on m k bytes old new m)
    wrong_answered w (Ok goes_on) grows = answers_wrong w goes_on grows
    wrong_answered w (Err e) grows = tt

  -- the program ends only where such a line has no reply
  wrong_may_end : (w : WrongLines) (goes_on : Bool) → GrowsBy (IsAnswerToWrong w goes_on k x) old new → goes_on ≡ false → w ≡ wrong_lines.End
  wrong_may_end wrong_lines.End goes_on grows ends = refl
  wrong_may_end wrong_lines.Reply goes_on grows ends = absurd (true≢false (sym grows.1.0 ∙ ends))
  wrong_may_end wrong_lines.ReplyAndEmptyLine goes_on grows ends = absurd (true≢false (sym grows.1.0 ∙ ends))

  pub wrong_ends : (w : WrongLines) (r : Result Bool AllocError) → IfOk r (λ goes_on. GrowsBy (IsAnswerToWrong w goes_on k x) old new)
      → IfOk r (λ goes_on. goes_on ≡ false → w ≡ wrong_lines.End)
  wrong_ends w (Ok goes_on) grows = wrong_may_end w goes_on grows
  wrong_ends w (Err e) grows = tt
