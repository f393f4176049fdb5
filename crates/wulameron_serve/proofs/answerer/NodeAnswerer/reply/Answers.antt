use Rattle.std.proofs.Common.{string_bytes}
use Rattle.iceoryx2_builder.specs.declared.command.Reply as declared-reply
use Rattle.iceoryx2_session.specs.SessionStates.{own_state}
use Rattle.wulameron_serve.specs.Shared.{Replies}
use Rattle.wulameron_serve.specs.Views.{writes_in}
use Rattle.wulameron_serve.proofs.NodeAnswers.{may_write, grows_as}
use Rattle.wulameron_serve.proofs.answerer.NodeAnswerer.reply.Goals as goal

pub write-requires : goal.write-requires
write-requires g c = may_write c.args.form c.args.line.now c.args.command c.carry_out-carried.result.reply c.requires c.carry_out-carried.ensures.held.0.applies

pub returns-clause-answered : goal.returns-clause-answered
returns-clause-answered g c = λ ready.
    let old = own_state c.args.self.now.session in
    let new = own_state c.carry_out-carried.new.self.session in
    let reply = c.carry_out-carried.result.reply in
    let is = c.carry_out-carried.ensures.held.0 in
    grows_as (writes_in c.args.form g.S.Viewed.writes c.args.line.now c.args.command reply is.first is.last new.table)
    (λ output. (answer : declared-reply.Reply) × Replies g.S.WorldStorage.spans g.S.Storage.step g.S.WorldStorage.world (writes_in c.args.form g.S.Viewed.writes) c.args.line.now old c.args.command answer output new)
    (λ output written. (reply, record { is = is; is_written = written }))
    c.write.result (string_bytes c.args.text.now) (string_bytes c.write.new.text)
    (c.write.ensures c.args.command is.first is.last c.carry_out-carried.ensures.slot (g.met.S.Viewed.ready_spanned old.table is.first.table is.begins.changes ready) is.applies c.carry_out-carried.ensures.held.1)
