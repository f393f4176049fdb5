-- Lines of an escaped session, and what is written of them.
use Rattle.std.proofs.Common.{◌≡◌, ℕ, List, [], ◌++◌, Result, Ok, Err, OnOk, codes, refl, sym, ap, subst, ◌∙◌, append-nil}
use Rattle.std.specs.declared.alloc.AllocError.{AllocError}
use Rattle.iceoryx2_builder.specs.declared.command.Command.{Command}
use Rattle.negotiate_lines.specs.Leaves.{leaf_of}
use Rattle.negotiate_lines.specs.Lines.{IsLine}
use Rattle.negotiate_lines.specs.WrongTexts.{IsWrongText}
use Rattle.negotiate_lines.specs.declared.line.Line.{Line}
use Rattle.negotiate_lines.specs.declared.line.Line.TheVariants as line
use Rattle.negotiate_lines.specs.declared.line_error.LineError.{LineError}
use Rattle.negotiate_serve.specs.Replies.{GrowsBy}
use Rattle.negotiate_serve.specs.Served.{GrowsByAnswer}
use Rattle.negotiate_serve.specs.Transcripts.{Answering, blank, answered as answered_line}
use Rattle.escaped_serve.specs.Lines.{AnsweringQuestions, AnswersKnown, AnswersPlain, answered, wrong, plain_reply, wrong_reply}

pub known_blank : {M : Type 0} (Answers Escaped : Answering M) (Asks : AnsweringQuestions M) (m : M) (bytes old : List ℕ) (l : Line) → l ≡ line.Blank
    → GrowsBy (λ added. AnswersKnown Answers Escaped Asks m bytes l added m) old old
known_blank Answers Escaped Asks m bytes old l is =
    subst (λ (k : Line). GrowsBy (λ added. AnswersKnown Answers Escaped Asks m bytes k added m) old old) (sym is) ([], (refl, refl), sym (append-nil old))

module _ {M : Type 0} (Answers : Answering M) (m : M) (bytes old new : List ℕ) (l : Line) (is_line : IsLine bytes l) where
  pub plain_blank : l ≡ line.Blank → (r : Result (Unit {0}) AllocError) → OnOk r (new ≡ old ++ plain_reply []) → OnOk r (GrowsBy (λ added. AnswersPlain Answers m bytes added m) old new)
  plain_blank is (Ok x) grown = (plain_reply [], answered (blank (subst (IsLine bytes) is is_line)) refl, grown)
  plain_blank is (Err e) grown = tt

  pub plain_answered : (n : M) (c : Command) (before told lent : List ℕ) → l ≡ line.Command c → before ≡ [] → GrowsByAnswer Answers m bytes c before told n → lent ≡ told
      → (r : Result (Unit {0}) AllocError) → OnOk r (new ≡ old ++ (codes "plain " ++ (leaf_of lent ++ codes "\n"))) → OnOk r (GrowsBy (λ added. AnswersPlain Answers m bytes added n) old new)
  plain_answered n c before told lent is empty adds same (Ok x) grown =
      let told_is : lent ≡ adds.output = same ∙ adds.grown ∙ ap (λ (t : List ℕ). t ++ adds.output) empty in
      (plain_reply lent, answered (answered_line (subst (IsLine bytes) is is_line) adds.is_answer) (ap plain_reply told_is), grown)
  plain_answered n c before told lent is empty adds same (Err e) grown = tt

  pub plain_wrong : (w : LineError) (told lent : List ℕ) → l ≡ line.NotACommand w → IsWrongText w told → lent ≡ told
      → (r : Result (Unit {0}) AllocError) → OnOk r (new ≡ old ++ (codes "wrong " ++ (leaf_of lent ++ codes "\n"))) → OnOk r (GrowsBy (λ added. AnswersPlain Answers m bytes added m) old new)
  plain_wrong w told lent is tells same (Ok x) grown = (wrong_reply lent, wrong (subst (IsLine bytes) is is_line) tells (ap wrong_reply same), grown)
  plain_wrong w told lent is tells same (Err e) grown = tt
