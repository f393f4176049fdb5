-- Lines that are answered one after the other, and how it ends.
use Rattle.std.proofs.Common.{◌≡◌, ℕ, ◌+◌, List, [], ◌∷◌, ◌++◌, Option, Some, None, Result, Ok, Err, length, refl, sym, ap, subst, ◌∙◌, append_assoc, append-nil, length-append, arith, cond, eqb}
use Rattle.std.specs.List.{concat}
use Rattle.std.specs.Io.KnownBytes.{Appends, prepend_known}
use Rattle.std.proofs.KnownBytes.{Appends-nil, Appends-trans}
use Rattle.iceoryx2_session.specs.CommandLists.{CarriesOut, none}
use Rattle.iceoryx2_session.proofs.CommandLists.{one_more}
use Rattle.negotiate_serve.specs.declared.ending.Ending.{Ending}
use Rattle.negotiate_serve.specs.declared.ending.ServeError.{ServeError}
use Rattle.negotiate_serve.specs.declared.ending.ServeError.TheVariants as failure
use Rattle.negotiate_serve.specs.Endings.{IsOfReading}
use Rattle.negotiate_serve.specs.Inputs.{lines_of, BeginsWith}
use Rattle.negotiate_serve.specs.Outputs.{IsFrontOf}
use Rattle.negotiate_serve.specs.Transcripts.{AnsweringLines, no_memory, IsAnswered, IsCut, EndsWith, most_lines, out_of_memory}
use Rattle.negotiate_serve.specs.Served.{EndsBeforeReport, GoesOn, Stops, TakesTurn, AnswersAll, IsFailureText, WritesFailure, ServesLines}

-- ---- the first lines of an input

pub no_line_yet : (input : List ℕ) → BeginsWith input [] input
no_line_yet input = record { front = []; parts = refl; are = refl }

pub one_line_more : (input rest behind line : List ℕ) (lines : List (List ℕ)) → BeginsWith input lines rest → BeginsWith rest (line ∷ []) behind
    → BeginsWith input (lines ++ line ∷ []) behind
one_line_more input rest behind line lines a b = record {
  front = a.front ++ b.front;
  parts = a.parts ∙ ap (λ l. a.front ++ l) b.parts ∙ sym (append_assoc a.front b.front behind);
  are = a.are ∙ ap (λ l. lines ++ l) b.are ∙ sym (append_assoc lines (line ∷ []) (lines_of behind));
}

one_text_more : (texts : List (List ℕ)) (text : List ℕ) → concat texts ++ text ≡ concat (texts ++ text ∷ [])
one_text_more [] text = sym (append-nil text)
one_text_more (t ∷ ts) text = append_assoc t (concat ts) text ∙ ap (λ l. t ++ l) (one_text_more ts text)

-- The transcript so far. The next line has this number, and the reader has it and those behind it left.
pub record SoFar {M : Type 0} (Answers : AnsweringLines M) (first : M) (input : List ℕ) (number : ℕ) (left old now : Option (List ℕ)) (m : M) : Type 0 where
  pub lines : List (List ℕ)
  pub rest : List ℕ
  pub begins : BeginsWith input lines rest
  pub texts : List (List ℕ)
  pub answered : CarriesOut Answers first lines texts m
  pub counted : number ≡ length lines + 1
  pub left_is : left ≡ Some rest
  pub written : Appends old now (concat texts)

module _ {M : Type 0} (Answers : AnsweringLines M) (first : M) (input : List ℕ) where
  pub nothing_so_far : (left old : Option (List ℕ)) → left ≡ Some input → SoFar Answers first input 1 left old old first
  nothing_so_far left old left_is = record {
    lines = [];
    rest = input;
    begins = no_line_yet input;
    texts = [];
    answered = none;
    counted = refl;
    left_is = left_is;
    written = Appends-nil old;
  }

  -- a turn that goes on
  one_turn_more : (k n : ℕ) (left next old mid new : Option (List ℕ)) (m p : M) → (a : SoFar Answers first input k left old mid m) (output : List ℕ)
      → GoesOn Answers m a.rest output next p → Appends mid new output → n ≡ k + 1 → SoFar Answers first input n next old new p
  one_turn_more k n left next old mid new m p a output turn written is = record {
    lines = a.lines ++ turn.bytes ∷ [];
    rest = turn.behind;
    begins = one_line_more input a.rest turn.behind turn.bytes a.lines a.begins turn.begins;
    texts = a.texts ++ output ∷ [];
    answered = one_more a.answered turn.answered;
    counted = omega (arith, is, a.counted, length-append a.lines (turn.bytes ∷ []));
    left_is = turn.left_is;
    written = subst (Appends old new) (one_text_more a.texts output) (Appends-trans old mid new (concat a.texts) output a.written written);
  }

  -- a turn that ends it
  it_ends : (k : ℕ) (left last_left old mid new : Option (List ℕ)) (m : M) (ended : Result Ending ServeError) → (a : SoFar Answers first input k left old mid m) (output : List ℕ)
      → Stops Answers ended m k a.rest output last_left → Appends mid new output → AnswersAll Answers first ended input last_left old new
  it_ends k left last_left old mid new m ended a output stop written = record {
    output = concat a.texts ++ output;
    unread = stop.unread;
    answered = record {
      lines = a.lines;
      rest = a.rest;
      begins = a.begins;
      texts = a.texts;
      machine = m;
      answered = a.answered;
      last = output;
      ends = subst (λ (n : ℕ). EndsBeforeReport Answers ended m n a.rest output stop.unread) a.counted stop.ends;
      are = refl;
    };
    left_is = stop.left_is;
    written = Appends-trans old mid new (concat a.texts) output a.written written;
  }

  module _ (k : ℕ) (left next old mid new : Option (List ℕ)) (m p : M) (a : SoFar Answers first input k left old mid m) where
    -- what a turn comes to
    pub turn_goes_on : (n : ℕ) (o : Option Ending) → TakesTurn Answers (Ok o) m k a.rest next p mid new → o ≡ None → n ≡ k + 1 → SoFar Answers first input n next old new p
    turn_goes_on n o turn is more =
        let on : TakesTurn Answers (Ok None) m k a.rest next p mid new = subst (λ (x : Option Ending). TakesTurn Answers (Ok x) m k a.rest next p mid new) is turn in
        one_turn_more k n left next old mid new m p a on.output on.answers on.written more

    pub turn_ends : (o : Option Ending) (e : Ending) → TakesTurn Answers (Ok o) m k a.rest next p mid new → o ≡ Some e → AnswersAll Answers first (Ok e) input next old new
    turn_ends o e turn is =
        let last : TakesTurn Answers (Ok (Some e)) m k a.rest next p mid new = subst (λ (x : Option Ending). TakesTurn Answers (Ok x) m k a.rest next p mid new) is turn in
        it_ends k left next old mid new m (Ok e) a last.output last.answers last.written

    pub turn_fails : (f : ServeError) → TakesTurn Answers (Err f) m k a.rest next p mid new → AnswersAll Answers first (Err f) input next old new
    turn_fails f turn = it_ends k left next old mid new m (Err f) a turn.output turn.answers turn.written

  -- as many lines as are answered at most
  pub too_many : (k : ℕ) (left last_left old new : Option (List ℕ)) (m : M) → k ≡ most_lines + 1 → SoFar Answers first input k left old new m
      → AnswersAll Answers first (Err failure.TooManyLines) input last_left old new
  too_many k left last_left old new m most a =
      it_ends k left last_left old new new m (Err failure.TooManyLines) a [] (record { unread = []; ends = (most, refl); left_is = tt }) (Appends-nil new)

  -- ---- a failure is written

  -- what is written last grows by what is written of the failure
  last_more : (Ends Then : M → ℕ → List ℕ → List ℕ → List ℕ → Type 0) (output unread more : List ℕ)
      → ((m : M) (k : ℕ) (rest last : List ℕ) → Ends m k rest last unread → Then m k rest (last ++ more) unread)
      → IsAnswered Answers first Ends input output unread → IsAnswered Answers first Then input (output ++ more) unread
  last_more Ends Then output unread more goes a = record {
    lines = a.lines;
    rest = a.rest;
    begins = a.begins;
    texts = a.texts;
    machine = a.machine;
    answered = a.answered;
    last = a.last ++ more;
    ends = goes a.machine (length a.lines + 1) a.rest a.last a.ends;
    are = ap (λ l. l ++ more) a.are ∙ append_assoc (concat a.texts) a.last more;
  }

  ends_written : (before after : ServeError) (more unread : List ℕ) (m : M) (k : ℕ) (rest last : List ℕ) → IsFailureText before after more
      → EndsBeforeReport Answers (Err before) m k rest last unread → EndsWith Answers (Err after) m k rest (last ++ more) unread
  ends_written failure.OutOfMemory failure.OutOfMemory more unread m k rest last is_text kept = ap (λ l. l ++ more) kept ∙ is_text
  ends_written failure.OutOfMemory failure.Writing more unread m k rest last is_text kept =
      (out_of_memory, no_memory, subst (λ l. IsFrontOf (l ++ more) out_of_memory) (sym kept) is_text.1)
  ends_written failure.OutOfMemory failure.TooManyTries more unread m k rest last is_text kept =
      (out_of_memory, no_memory, subst (λ l. IsFrontOf (l ++ more) out_of_memory) (sym kept) is_text.1)
  ends_written failure.OutOfMemory failure.Reading more unread m k rest last is_text kept = absurd is_text.0
  ends_written failure.OutOfMemory failure.TooManyLines more unread m k rest last is_text kept = absurd is_text.0
  ends_written failure.Reading after more unread m k rest last is_text kept =
      subst (λ f. EndsWith Answers (Err f) m k rest (last ++ more) unread) (sym is_text.0) (ap (λ l. last ++ l) is_text.1 ∙ append-nil last ∙ kept)
  ends_written failure.TooManyLines after more unread m k rest last is_text kept =
      subst (λ f. EndsWith Answers (Err f) m k rest (last ++ more) unread) (sym is_text.0) (kept.0, ap (λ l. last ++ l) is_text.1 ∙ append-nil last ∙ kept.1)
  ends_written failure.Writing after more unread m k rest last is_text cut =
      subst (λ f. EndsWith Answers (Err f) m k rest (last ++ more) unread) (sym is_text.0)
      (subst (IsCut Answers m k rest) (sym (ap (λ l. last ++ l) is_text.1 ∙ append-nil last)) cut)
  ends_written failure.TooManyTries after more unread m k rest last is_text cut =
      subst (λ f. EndsWith Answers (Err f) m k rest (last ++ more) unread) (sym is_text.0)
      (subst (IsCut Answers m k rest) (sym (ap (λ l. last ++ l) is_text.1 ∙ append-nil last)) cut)

  pub served : (e : Ending) (left old new : Option (List ℕ)) → AnswersAll Answers first (Ok e) input left old new
      → (unread : List ℕ) × ServesLines Answers first (Ok e) input unread old new × (left ≡ Some unread)
  served e left old new a = (a.unread, record { output = a.output; transcript = a.answered; written = a.written }, a.left_is)

  pub served_to_failure : (before after : ServeError) (left old mid new : Option (List ℕ)) → AnswersAll Answers first (Err before) input left old mid → WritesFailure before after mid new
      → (unread : List ℕ) × ServesLines Answers first (Err after) input unread old new
  served_to_failure before after left old mid new a b = (
    a.unread,
    record {
      output = a.output ++ b.output;
      transcript = last_more (EndsBeforeReport Answers (Err before)) (EndsWith Answers (Err after)) a.output a.unread b.output
          (λ m k rest last. ends_written before after b.output a.unread m k rest last b.is_text) a.answered;
      written = Appends-trans old mid new a.output b.output a.written b.written;
    },
  )

  nothing_written : (f : ServeError) → IsOfReading f → EndsBeforeReport Answers (Err f) first 1 input [] []
  nothing_written failure.Reading h = refl
  nothing_written failure.OutOfMemory h = refl
  nothing_written failure.Writing h = absurd h
  nothing_written failure.TooManyLines h = absurd h
  nothing_written failure.TooManyTries h = absurd h

  -- nothing is read
  pub served_nothing : (before after : ServeError) (old new : Option (List ℕ)) → IsOfReading before → WritesFailure before after old new
      → (unread : List ℕ) × ServesLines Answers first (Err after) input unread old new
  served_nothing before after old new is b = served_to_failure before after None old old new (record {
    output = [];
    unread = [];
    answered = record {
      lines = [];
      rest = input;
      begins = no_line_yet input;
      texts = [];
      machine = first;
      answered = none;
      last = [];
      ends = nothing_written before is;
      are = refl;
    };
    left_is = tt;
    written = Appends-nil old;
  }) b

-- a reader's bytes behind an empty buffer
pub read_ahead : (capacity : ℕ) (buffer : List ℕ) (left : Option (List ℕ)) (bytes : List ℕ) → capacity ≡ 8192 → buffer ≡ [] → left ≡ Some bytes
    → cond (eqb capacity 0) None (prepend_known buffer left) ≡ Some bytes
read_ahead capacity buffer left bytes room empty known =
    ap (λ (n : ℕ). cond (eqb n 0) None (prepend_known buffer left)) room ∙ ap (λ (b : List ℕ). prepend_known b left) empty ∙ ap (λ (o : Option (List ℕ)). prepend_known [] o) known
