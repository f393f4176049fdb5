use Rattle.std.proofs.Common.{◌≡◌, ℕ, List, Err, inl, inr, sym, subst}
use Rattle.negotiate_lines.specs.CallTerms.{Arguments, Follows, PairTexts, attribute, in_place}
use Rattle.negotiate_lines.specs.Leaves.{IsLeaf}
use Rattle.negotiate_lines.specs.Wrongs.{Judges, WrongStep}
use Rattle.negotiate_lines.proofs.Additions.{broken_in_place, pair_judged_with}
use Rattle.negotiate_lines.proofs.arguments.CallArguments.judge_pair.Goals as goal

pub returns-in_err-key_text : goal.returns-in_err-key_text
returns-in_err-key_text g c =
    let step = attribute c.args.key.now c.args.value.now in
    broken_in_place c.args.form c.args.key.now (Follows c.args.form c.args.self.now step) (WrongStep c.args.form c.args.self.now step) _ _ _
    c.from_residual.ensures.1 c.in_err-key_text.ensures
    (λ none new follows. none (follows.0.0.key_text, follows.0.0.key_is)) (λ none t same. inl (same, none))

pub returns-in_err-value_text : goal.returns-in_err-value_text
returns-in_err-value_text g c =
    let step = attribute c.args.key.now c.args.value.now in
    broken_in_place c.args.form c.args.value.now (Follows c.args.form c.args.self.now step) (WrongStep c.args.form c.args.self.now step) _ _ _
    c.from_residual-in_err-value_text.ensures.1 c.in_err-value_text.ensures
    (λ none new follows. none (follows.0.0.value_text, follows.0.0.value_is))
    (λ none t same. inr (same, (_, c.in_ok-key_text.ensures), none))

pub returns : goal.returns
returns g c =
    let p : PairTexts c.args.form c.args.key.now c.args.value.now = record {
      key_text = c.deref.result.now;
      value_text = c.deref-2.result.now;
      key_is = subst (λ (t : List ℕ). IsLeaf c.args.form c.args.key.now t) (sym c.deref.ensures.value) c.in_ok-key_text.ensures;
      value_is = subst (λ (t : List ℕ). IsLeaf c.args.form c.args.value.now t) (sym c.deref-2.ensures.value) c.in_ok-value_text.ensures;
    } in
    let step = attribute c.args.key.now c.args.value.now in
    let inside : Arguments g.row.S.Denot = record { settings = c.self.inside.settings.items; requirements = c.self.inside.attributes; now = c.self.inside.now } in
    let new : Arguments g.row.S.Denot = record { settings = c.self.inside.settings.items; requirements = c.require-answer.new.self; now = c.self.inside.now } in
    subst (λ (old : Arguments g.row.S.Denot). Judges (Follows c.args.form old step) (WrongStep c.args.form old step) (in_place c.pair_answer.result new))
    c.self.view_is
    (pair_judged_with c.args.form inside c.args.key.now c.args.value.now p c.require-answer.result c.require-answer.new.self
    c.pair_answer.result c.require-answer.ensures.pairs c.require-answer.ensures.keys c.pair_answer.ensures)
