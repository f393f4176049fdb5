use Rattle.std.proofs.Common.{◌≡◌, ◌++◌, ℕ, List, if◌then◌else◌, string_bytes, refl, sym, subst, ◌∙◌}
use Rattle.std.specs.Result.{is_ok}
use Rattle.iceoryx2_session.specs.SessionStates.{own_state}
use Rattle.negotiate_lines.specs.declared.leaf.Form.TheVariants as form
use Rattle.wulameron_serve.specs.Shared.{AnswersFor}
use Rattle.wulameron_serve.proofs.NodeAnswers.{AnswersNode, answers_ended, renamed}
use Rattle.wulameron_serve.proofs.answerer.NodeAnswererAnswerer.answer.Goals as goal

pub returns-clause-answered : goal.returns-clause-answered
returns-clause-answered g c = λ before.
    let W = g.S.WorldStorage.world in
    let O = g.S.WorldStorage.own in
    let R = g.S.Viewed.ready in
    let line = c.args.line.now in
    let shown = own_state c.look.new.self.session in
    let settled = own_state c.settle.new.self.session in
    let answered = own_state c.answer_alone.new.self.session in
    let shown_stands = renamed W O R (sym c.look.ensures.node) shown (c.look.ensures.stands before) in
    let named = c.settle.ensures.node ∙ c.look.ensures.node in
    answers_ended (AnswersNode g.S.WorldStorage.settles g.S.WorldStorage.shows g.S.WorldStorage.spans g.S.Storage.step W g.S.Viewed.writes g.S.Viewed.ending) c.args.self.now c.go_on_unless.new.self line c.args.command
    (λ output. AnswersFor form.Plain g.S.WorldStorage.shows g.S.WorldStorage.spans g.S.Storage.step W g.S.Viewed.writes c.settle.new.self.node line settled c.args.command output answered) g.S.Viewed.ending
    (λ output answers. (
      c.go_on_unless.ensures.node ∙ c.answer_alone.ensures.node ∙ named,
      record {
        shown = shown;
        looks = c.look.ensures.shows;
        settled = settled;
        gives = c.settle.ensures.gives;
        answered = answered;
        output = output;
        answers = subst (λ (n : ℕ). AnswersFor form.Plain g.S.WorldStorage.shows g.S.WorldStorage.spans g.S.Storage.step W g.S.Viewed.writes n line settled c.args.command output answered) named answers;
        are = refl;
        goes_on = c.go_on_unless.ensures.gives;
      },
    ))
    c.push_str.result (string_bytes c.args.text.now) (string_bytes c.answer_alone.new.text) (string_bytes c.push_str.new.self)
    (c.in_ok-answer_alone.ensures.answered (renamed W O R (sym c.settle.ensures.node) settled (c.settle.ensures.stands shown_stands)))
    (subst (λ (e : List ℕ). string_bytes c.push_str.new.self ≡ (if is_ok c.push_str.result then string_bytes c.answer_alone.new.text ++ e else string_bytes c.answer_alone.new.text)) c.ending.ensures c.push_str.ensures.bytes)
