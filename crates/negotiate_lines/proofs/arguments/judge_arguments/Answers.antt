use Rattle.std.proofs.Common.{ℕ, List, [], ◌∷◌, ◌++◌, append_assoc, refl, sym, ap, subst, ◌∙◌, rules}
use Rattle.iceoryx2_access.specs.Run.{done}
use Rattle.iceoryx2_access.proofs.Run.{one, both}
use Rattle.negotiate_lines.specs.Terms.{terms_of}
use Rattle.negotiate_lines.specs.CallTerms.{Arguments, TakesTerm, TakesTerms, no_arguments}
use Rattle.negotiate_lines.specs.Commands.{admitted_of}
use Rattle.negotiate_lines.specs.Wrongs.{WrongArguments, WrongTerm}
use Rattle.negotiate_lines.proofs.CallSteps.{step_before, step_behind, cannot_be_taken, all_taken}
use Rattle.negotiate_lines.proofs.Judging.{passed}
use Rattle.negotiate_lines.proofs.arguments.judge_arguments.Goals as goal

pub loop-term-init : goal.loop-term-init
loop-term-init g c =
    let v = g.V.HasVocabulary.vocabulary in
    let Takes = TakesTerms c.args.form v (admitted_of v.has_clock c.args.how) in
    record {
      text = search rules;
      reaches = λ new run. subst (λ (a : Arguments g.row.V-Setter.Denot). Takes a (terms_of c.args.text.now) new) c.new-arguments.ensures run;
      only = λ new run. subst (λ (a : Arguments g.row.V-Setter.Denot). Takes a (terms_of c.args.text.now) new) (sym c.new-arguments.ensures) run;
      so_far = ([], refl, subst (λ (a : Arguments g.row.V-Setter.Denot). Takes no_arguments [] a) (sym c.new-arguments.ensures) done);
    }

pub loop-term-preserved : goal.loop-term-preserved
loop-term-preserved g c =
    let v = g.V.HasVocabulary.vocabulary in
    let admitted = admitted_of v.has_clock c.args.how in
    let taken = c.in_ok-judge_term.ensures in
    let so_far = c.loop-term.invariant.so_far in
    let term = c.in-Some.term.now in
    record {
      text = search rules;
      reaches = λ new run. c.loop-term.invariant.reaches new (step_before c.args.form v admitted c.loop-term.arguments _ _ _ c.in-Some.ensures.term c.judge_term.new.arguments new taken.0 taken.1 taken.2 run);
      only = λ new run. step_behind c.args.form v admitted c.loop-term.arguments _ _ _ c.in-Some.ensures.term c.judge_term.new.arguments new taken.0 taken.1 taken.2 (c.loop-term.invariant.only new run);
      so_far = (
        so_far.0 ++ term ∷ [],
        so_far.1 ∙ ap (λ (ts : List (List ℕ)). so_far.0 ++ ts) c.in-Some.ensures.term ∙ sym (append_assoc so_far.0 (term ∷ []) (terms_of c.in-Some.after.now)),
        both so_far.2 (one taken),
      );
    }

pub returns-in_err-judge_term : goal.returns-in_err-judge_term
returns-in_err-judge_term g c =
    let v = g.V.HasVocabulary.vocabulary in
    let admitted = admitted_of v.has_clock c.args.how in
    let so_far = c.loop-term.invariant.so_far in
    passed (TakesTerm c.args.form v admitted c.loop-term.arguments c.in-Some.term.now) (TakesTerms c.args.form v admitted no_arguments (terms_of c.args.text.now))
    (WrongTerm c.args.form v c.args.how c.loop-term.arguments c.in-Some.term.now) (WrongArguments c.args.form v c.args.how (terms_of c.args.text.now)) _ _
    c.from_residual.ensures.1 c.in_err-judge_term.ensures
    (λ none new run. cannot_be_taken c.args.form v admitted c.loop-term.arguments _ _ _ c.in-Some.ensures.term none new (c.loop-term.invariant.only new run))
    (λ w is. record {
      front = so_far.0;
      term = c.in-Some.term.now;
      behind = terms_of c.in-Some.after.now;
      are = so_far.1 ∙ ap (λ (ts : List (List ℕ)). so_far.0 ++ ts) c.in-Some.ensures.term;
      mid = c.loop-term.arguments;
      taken = so_far.2;
      is_wrong = is;
    })

pub returns : goal.returns
returns g c =
    c.loop-term.invariant.reaches c.loop-term.arguments
    (all_taken c.args.form g.V.HasVocabulary.vocabulary (admitted_of g.V.HasVocabulary.vocabulary.has_clock c.args.how) c.loop-term.arguments _ c.in_default.ensures.term)
