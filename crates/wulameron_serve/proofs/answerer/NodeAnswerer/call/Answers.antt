use Rattle.std.proofs.Common.{◌≡◌, ◌∙◌, string_bytes, arith, sym, subst}
use Rattle.iceoryx2_builder.specs.declared.command.Command.TheVariants as command
use Rattle.iceoryx2_builder.specs.declared.command.Reply as declared-reply
use Rattle.iceoryx2_session.specs.SessionStates.{own_state}
use Rattle.wulameron_serve.specs.Shared.{AnswersFor, Replies, of_another, called, stays, again, not_ours}
use Rattle.wulameron_serve.specs.Views.{writes_in}
use Rattle.wulameron_serve.proofs.NodeAnswers.{may_write, call_of_own, renamed, grows_as}
use Rattle.wulameron_serve.proofs.answerer.NodeAnswerer.call.Goals as goal

pub returns-then-node-self-clause-answered : goal.returns-then-node-self-clause-answered
returns-then-node-self-clause-answered g c = λ before.
    let another : c.args.call.node ≡ c.args.self.now.node → ⊥ = λ e. absurd (grind (arith, c.if-node-self.true, e)) in
    let W = g.S.WorldStorage.world in
    let node = c.args.self.now.node in
    let old = own_state c.args.self.now.session in
    grows_as (λ output. output ≡ not_ours c.args.call.node)
    (λ output. AnswersFor c.args.form g.S.WorldStorage.shows g.S.WorldStorage.spans g.S.Storage.step W (writes_in c.args.form g.S.Viewed.writes) node c.args.line.now old (command.Call c.args.call) output old)
    (λ output is. subst (λ output. AnswersFor c.args.form g.S.WorldStorage.shows g.S.WorldStorage.spans g.S.Storage.step W (writes_in c.args.form g.S.Viewed.writes) node c.args.line.now old (command.Call c.args.call) output old) (sym is) (of_another another))
    c.refuse_node.result (string_bytes c.args.text.now) (string_bytes c.refuse_node.new.text) c.refuse_node.ensures

pub write-requires : goal.write-requires
write-requires g c =
    may_write c.args.form c.args.line.now (command.Call c.args.call) c.carry_out-carried.result.reply c.requires c.carry_out-carried.ensures.held.0.applies

pub write-requires-then-not-clean : goal.write-requires-then-not-clean
write-requires-then-not-clean g c =
    may_write c.args.form c.args.line.now (command.Call c.args.call) c.carry_out-carried.result.reply c.requires c.carry_out-carried.ensures.held.0.applies

pub write-requires-in-None : goal.write-requires-in-None
write-requires-in-None g c =
    may_write c.args.form c.args.line.now (command.Call c.args.call) c.carry_out-carried.result.reply c.requires c.carry_out-carried.ensures.held.0.applies

pub returns-then-not-is_blocked-clause-answered : goal.returns-then-not-is_blocked-clause-answered
returns-then-not-is_blocked-clause-answered g c = λ before.
    let W = g.S.WorldStorage.world in
    let O = g.S.WorldStorage.own in
    let R = g.S.Viewed.ready in
    let node = c.args.self.now.node in
    let old = own_state c.args.self.now.session in
    let carried = c.carry_out-carried.ensures in
    let mid = own_state c.carry_out-carried.new.self.session in
    let reply = c.carry_out-carried.result.reply in
    let is = carried.held.0 in
    let same : c.args.call.node ≡ c.args.self.now.node = grind (arith, c.if-node-self.false) in
    grows_as (writes_in c.args.form g.S.Viewed.writes c.args.line.now (command.Call c.args.call) reply is.first is.last (mid).table)
    (λ output. AnswersFor c.args.form g.S.WorldStorage.shows g.S.WorldStorage.spans g.S.Storage.step W (writes_in c.args.form g.S.Viewed.writes) node c.args.line.now old (command.Call c.args.call) output (mid))
    (λ output written. called reply same (sym c.if-not-is_blocked.ensures) (record { is = is; is_written = written }))
    c.write.result (string_bytes c.args.text.now) (string_bytes c.write.new.text)
    (c.write.ensures (command.Call c.args.call) is.first is.last carried.slot (g.met.S.Viewed.ready_spanned old.table is.first.table is.begins.changes before.is_ready) is.applies carried.held.1)

pub returns-then-not-is_blocked-clause-stands : goal.returns-then-not-is_blocked-clause-stands
returns-then-not-is_blocked-clause-stands g c = λ before.
    let W = g.S.WorldStorage.world in
    let O = g.S.WorldStorage.own in
    let R = g.S.Viewed.ready in
    let node = c.args.self.now.node in
    let old = own_state c.args.self.now.session in
    let carried = c.carry_out-carried.ensures in
    let mid = own_state c.carry_out-carried.new.self.session in
    let reply = c.carry_out-carried.result.reply in
    let is = carried.held.0 in
    let same : c.args.call.node ≡ c.args.self.now.node = grind (arith, c.if-node-self.false) in
    carried.stands before (call_of_own W O R node old c.args.call before same)

pub returns-then-not-clean-clause-answered : goal.returns-then-not-clean-clause-answered
returns-then-not-clean-clause-answered g c = λ before.
    let W = g.S.WorldStorage.world in
    let O = g.S.WorldStorage.own in
    let R = g.S.Viewed.ready in
    let node = c.args.self.now.node in
    let old = own_state c.args.self.now.session in
    let carried = c.carry_out-carried.ensures in
    let mid = own_state c.carry_out-carried.new.self.session in
    let reply = c.carry_out-carried.result.reply in
    let is = carried.held.0 in
    let same : c.args.call.node ≡ c.args.self.now.node = grind (arith, c.if-node-self.false) in
    grows_as (writes_in c.args.form g.S.Viewed.writes c.args.line.now (command.Call c.args.call) reply is.first is.last (own_state c.clean.new.self.session).table)
    (λ output. AnswersFor c.args.form g.S.WorldStorage.shows g.S.WorldStorage.spans g.S.Storage.step W (writes_in c.args.form g.S.Viewed.writes) node c.args.line.now old (command.Call c.args.call) output (own_state c.clean.new.self.session))
    (λ output written. stays reply mid same (sym c.if-not-is_blocked.ensures) is c.clean.ensures.shows written)
    c.write-then-not-clean.result (string_bytes c.args.text.now) (string_bytes c.write-then-not-clean.new.text)
    (c.write-then-not-clean.ensures (command.Call c.args.call) is.first is.last carried.slot (g.met.S.Viewed.ready_spanned old.table is.first.table is.begins.changes before.is_ready) is.applies carried.held.1)

pub returns-then-not-clean-clause-stands : goal.returns-then-not-clean-clause-stands
returns-then-not-clean-clause-stands g c = λ before.
    let W = g.S.WorldStorage.world in
    let O = g.S.WorldStorage.own in
    let R = g.S.Viewed.ready in
    let node = c.args.self.now.node in
    let old = own_state c.args.self.now.session in
    let carried = c.carry_out-carried.ensures in
    let mid = own_state c.carry_out-carried.new.self.session in
    let reply = c.carry_out-carried.result.reply in
    let is = carried.held.0 in
    let same : c.args.call.node ≡ c.args.self.now.node = grind (arith, c.if-node-self.false) in
    let mid_stands = renamed W O R (sym carried.node) mid (carried.stands before (call_of_own W O R node old c.args.call before same)) in
    renamed W O R carried.node (own_state c.clean.new.self.session) (c.clean.ensures.stands mid_stands)

pub returns-in-None-clause-answered : goal.returns-in-None-clause-answered
returns-in-None-clause-answered g c = λ before.
    let W = g.S.WorldStorage.world in
    let O = g.S.WorldStorage.own in
    let R = g.S.Viewed.ready in
    let node = c.args.self.now.node in
    let old = own_state c.args.self.now.session in
    let carried = c.carry_out-carried.ensures in
    let mid = own_state c.carry_out-carried.new.self.session in
    let reply = c.carry_out-carried.result.reply in
    let is = carried.held.0 in
    let same : c.args.call.node ≡ c.args.self.now.node = grind (arith, c.if-node-self.false) in
    grows_as (writes_in c.args.form g.S.Viewed.writes c.args.line.now (command.Call c.args.call) reply is.first is.last (own_state c.clean.new.self.session).table)
    (λ output. AnswersFor c.args.form g.S.WorldStorage.shows g.S.WorldStorage.spans g.S.Storage.step W (writes_in c.args.form g.S.Viewed.writes) node c.args.line.now old (command.Call c.args.call) output (own_state c.clean.new.self.session))
    (λ output written. stays reply mid same (sym c.if-not-is_blocked.ensures) is c.clean.ensures.shows written)
    c.write-in-None.result (string_bytes c.args.text.now) (string_bytes c.write-in-None.new.text)
    (c.write-in-None.ensures (command.Call c.args.call) is.first is.last carried.slot (g.met.S.Viewed.ready_spanned old.table is.first.table is.begins.changes before.is_ready) is.applies carried.held.1)

pub returns-in-None-clause-stands : goal.returns-in-None-clause-stands
returns-in-None-clause-stands g c = λ before.
    let W = g.S.WorldStorage.world in
    let O = g.S.WorldStorage.own in
    let R = g.S.Viewed.ready in
    let node = c.args.self.now.node in
    let old = own_state c.args.self.now.session in
    let carried = c.carry_out-carried.ensures in
    let mid = own_state c.carry_out-carried.new.self.session in
    let reply = c.carry_out-carried.result.reply in
    let is = carried.held.0 in
    let same : c.args.call.node ≡ c.args.self.now.node = grind (arith, c.if-node-self.false) in
    let mid_stands = renamed W O R (sym carried.node) mid (carried.stands before (call_of_own W O R node old c.args.call before same)) in
    renamed W O R carried.node (own_state c.clean.new.self.session) (c.clean.ensures.stands mid_stands)

pub returns-clause-answered : goal.returns-clause-answered
returns-clause-answered g c = λ before.
    let W = g.S.WorldStorage.world in
    let O = g.S.WorldStorage.own in
    let R = g.S.Viewed.ready in
    let node = c.args.self.now.node in
    let old = own_state c.args.self.now.session in
    let carried = c.carry_out-carried.ensures in
    let mid = own_state c.carry_out-carried.new.self.session in
    let reply = c.carry_out-carried.result.reply in
    let is = carried.held.0 in
    let same : c.args.call.node ≡ c.args.self.now.node = grind (arith, c.if-node-self.false) in
    let mid_stands = renamed W O R (sym carried.node) mid (carried.stands before (call_of_own W O R node old c.args.call before same)) in
    let cleaned = own_state c.clean.new.self.session in
    let new = own_state c.reply.new.self.session in
    let once = c.in-Some.call in
    grows_as (λ output. (answer : declared-reply.Reply) × Replies g.S.WorldStorage.spans g.S.Storage.step W (writes_in c.args.form g.S.Viewed.writes) c.args.line.now cleaned (command.Call once) answer output new)
    (λ output. AnswersFor c.args.form g.S.WorldStorage.shows g.S.WorldStorage.spans g.S.Storage.step W (writes_in c.args.form g.S.Viewed.writes) node c.args.line.now old (command.Call c.args.call) output new)
    (λ output replied. again reply replied.0 mid cleaned once same (sym c.if-not-is_blocked.ensures) is c.clean.ensures.shows c.in-Some.ensures.0 (c.in-Some.ensures.1 ∙ same) replied.1)
    c.reply.result (string_bytes c.args.text.now) (string_bytes c.reply.new.text) (c.reply.ensures.answered (c.clean.ensures.stands mid_stands).is_ready)

pub returns-clause-stands : goal.returns-clause-stands
returns-clause-stands g c = λ before.
    let W = g.S.WorldStorage.world in
    let O = g.S.WorldStorage.own in
    let R = g.S.Viewed.ready in
    let node = c.args.self.now.node in
    let old = own_state c.args.self.now.session in
    let carried = c.carry_out-carried.ensures in
    let mid = own_state c.carry_out-carried.new.self.session in
    let reply = c.carry_out-carried.result.reply in
    let is = carried.held.0 in
    let same : c.args.call.node ≡ c.args.self.now.node = grind (arith, c.if-node-self.false) in
    let mid_stands = renamed W O R (sym carried.node) mid (carried.stands before (call_of_own W O R node old c.args.call before same)) in
    let cleaned = own_state c.clean.new.self.session in
    let stands = renamed W O R (sym c.clean.ensures.node) cleaned (c.clean.ensures.stands mid_stands) in
    renamed W O R (c.clean.ensures.node ∙ carried.node) (own_state c.reply.new.self.session)
    (c.reply.ensures.stands stands
    (call_of_own W O R c.clean.new.self.node cleaned c.in-Some.call stands (c.in-Some.ensures.1 ∙ same ∙ sym (c.clean.ensures.node ∙ carried.node))))
