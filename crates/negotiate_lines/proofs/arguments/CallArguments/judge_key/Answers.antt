use Rattle.std.proofs.Common.{◌≡◌, ℕ, List, Err, sym, subst}
use Rattle.negotiate_lines.specs.CallTerms.{Arguments, Follows, LeafText, in_place, required_key}
use Rattle.negotiate_lines.specs.Leaves.{IsLeaf}
use Rattle.negotiate_lines.specs.Wrongs.{Judges, WrongStep}
use Rattle.negotiate_lines.proofs.Additions.{broken_in_place, key_judged_with}
use Rattle.negotiate_lines.proofs.arguments.CallArguments.judge_key.Goals as goal

pub returns-in_err-key_text : goal.returns-in_err-key_text
returns-in_err-key_text g c =
    let step = required_key c.args.key.now in
    broken_in_place c.args.form c.args.key.now (Follows c.args.form c.args.self.now step) (WrongStep c.args.form c.args.self.now step) _ _ _
    c.from_residual.ensures.1 c.in_err-key_text.ensures
    (λ none new follows. none follows.0.0) (λ none t same. (same, none))

pub returns : goal.returns
returns g c =
    let text : LeafText c.args.form c.args.key.now = (
      c.deref.result.now,
      subst (λ (t : List ℕ). IsLeaf c.args.form c.args.key.now t) (sym c.deref.ensures.value) c.in_ok-key_text.ensures,
    ) in
    let step = required_key c.args.key.now in
    let inside : Arguments g.row.S.Denot = record { settings = c.self.inside.settings.items; requirements = c.self.inside.attributes; now = c.self.inside.now } in
    let new : Arguments g.row.S.Denot = record { settings = c.self.inside.settings.items; requirements = c.require_key-answer.new.self; now = c.self.inside.now } in
    subst (λ (old : Arguments g.row.S.Denot). Judges (Follows c.args.form old step) (WrongStep c.args.form old step) (in_place c.key_answer.result new))
    c.self.view_is
    (key_judged_with c.args.form inside c.args.key.now text c.require_key-answer.result c.require_key-answer.new.self
    c.key_answer.result c.require_key-answer.ensures.keys c.require_key-answer.ensures.pairs c.key_answer.ensures)
