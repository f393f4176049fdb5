use Rattle.std.proofs.Common.{string_bytes, sym, subst}
use Rattle.iceoryx2_builder.specs.declared.command.Command.{Command}
use Rattle.iceoryx2_builder.specs.declared.command.Command.TheVariants as command
use Rattle.iceoryx2_builder.specs.declared.command.Reply as declared-reply
use Rattle.iceoryx2_session.specs.SessionStates.{own_state}
use Rattle.wulameron_serve.specs.Shared.{AnswersFor, Replies, closed, listed}
use Rattle.wulameron_serve.specs.Views.{writes_in}
use Rattle.wulameron_serve.proofs.NodeAnswers.{grows_as}
use Rattle.wulameron_serve.proofs.answerer.NodeAnswerer.answer_alone.Goals as goal

pub returns-in-Close-clause-answered : goal.returns-in-Close-clause-answered
returns-in-Close-clause-answered g c = λ before.
    let W = g.S.WorldStorage.world in
    let node = c.args.self.now.node in
    let old = own_state c.args.self.now.session in
    let new = own_state c.reply.new.self.session in
    grows_as (λ output. (answer : declared-reply.Reply) × Replies g.S.WorldStorage.spans g.S.Storage.step W (writes_in c.args.form g.S.Viewed.writes) c.args.line.now old (command.Close c.in-Close.slot) answer output new)
    (λ output. AnswersFor c.args.form g.S.WorldStorage.shows g.S.WorldStorage.spans g.S.Storage.step W (writes_in c.args.form g.S.Viewed.writes) node c.args.line.now old c.args.command output new)
    (λ output is. subst (λ (k : Command). AnswersFor c.args.form g.S.WorldStorage.shows g.S.WorldStorage.spans g.S.Storage.step W (writes_in c.args.form g.S.Viewed.writes) node c.args.line.now old k output new)
    (sym c.in-Close.is) (closed is.0 is.1))
    c.reply.result (string_bytes c.args.text.now) (string_bytes c.reply.new.text) (c.reply.ensures.answered before.is_ready)

pub returns-in-List-clause-answered : goal.returns-in-List-clause-answered
returns-in-List-clause-answered g c = λ before.
    let W = g.S.WorldStorage.world in
    let node = c.args.self.now.node in
    let old = own_state c.args.self.now.session in
    let new = own_state c.reply-in-List.new.self.session in
    grows_as (λ output. (answer : declared-reply.Reply) × Replies g.S.WorldStorage.spans g.S.Storage.step W (writes_in c.args.form g.S.Viewed.writes) c.args.line.now old command.List answer output new)
    (λ output. AnswersFor c.args.form g.S.WorldStorage.shows g.S.WorldStorage.spans g.S.Storage.step W (writes_in c.args.form g.S.Viewed.writes) node c.args.line.now old c.args.command output new)
    (λ output is. subst (λ (k : Command). AnswersFor c.args.form g.S.WorldStorage.shows g.S.WorldStorage.spans g.S.Storage.step W (writes_in c.args.form g.S.Viewed.writes) node c.args.line.now old k output new)
    (sym c.in-List.is) (listed is.0 is.1))
    c.reply-in-List.result (string_bytes c.args.text.now) (string_bytes c.reply-in-List.new.text) (c.reply-in-List.ensures.answered before.is_ready)
