use denote.Text.{Utf8}
use denote.Shadow.{shadow}
use Rattle.std.proofs.Common.{◌≡◌, ℕ, List, ◌++◌, length}
use Rattle.negotiate_lines.specs.Terms.{terms_of}
use Rattle.negotiate_lines.specs.Commands.{admitted_of}
use Rattle.negotiate_lines.specs.CallTerms.{Arguments, TakesTerms, no_arguments}
use Rattle.negotiate_lines.proofs.arguments.judge_arguments.Given as goal

abbrev pub invariant-loop-term : goal.invariant-loop-term
invariant-loop-term g l =
    let v = g.V.HasVocabulary.vocabulary in
    let admitted = admitted_of v.has_clock l.how in
    record {
      text : shadow (Utf8 l.rest);
      reaches : (new : Arguments g.row.V-Setter.Denot) → TakesTerms l.form v admitted l.arguments (terms_of l.rest) new → TakesTerms l.form v admitted no_arguments (terms_of l.text) new;
      only : (new : Arguments g.row.V-Setter.Denot) → TakesTerms l.form v admitted no_arguments (terms_of l.text) new → TakesTerms l.form v admitted l.arguments (terms_of l.rest) new;
      so_far : (front : List (List ℕ)) × (terms_of l.text ≡ front ++ terms_of l.rest) × TakesTerms l.form v admitted no_arguments front l.arguments;
    }

abbrev pub decreases-loop-term : goal.decreases-loop-term
decreases-loop-term g l = length l.rest
