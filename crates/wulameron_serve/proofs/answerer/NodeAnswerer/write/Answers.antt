use Rattle.std.proofs.Common.{OnOk, string_bytes, sym, subst}
use Rattle.negotiate_lines.specs.declared.leaf.Form.{Form}
use Rattle.negotiate_serve.specs.Replies.{GrowsBy}
use Rattle.escaped_serve.specs.Replies.{IsEscapedReply}
use Rattle.iceoryx2_session.specs.SessionStates.{own_state}
use Rattle.wulameron_serve.specs.Views.{writes_in}
use Rattle.wulameron_serve.proofs.answerer.NodeAnswerer.write.Goals as goal

pub returns-in-Plain : goal.returns-in-Plain
returns-in-Plain g c = λ command first last slot ready applies made.
    subst (λ (h : Form). OnOk c.write_reply.result (GrowsBy (writes_in h g.S.Viewed.writes c.args.line.now command c.args.carried.now.reply first last (own_state c.args.self.now.session).table) (string_bytes c.args.text.now) (string_bytes c.write_reply.new.text)))
    (sym c.in-Plain.is)
    (subst (λ t. OnOk c.write_reply.result (GrowsBy (g.S.Viewed.writes c.args.line.now command c.args.carried.now.reply first last t) (string_bytes c.args.text.now) (string_bytes c.write_reply.new.text)))
    c.storage.ensures (c.write_reply.ensures command first last slot ready applies made))

pub returns-in-Escaped : goal.returns-in-Escaped
returns-in-Escaped g c = λ command first last slot ready applies made.
    subst (λ (h : Form). OnOk c.describe_escaped.result (GrowsBy (writes_in h g.S.Viewed.writes c.args.line.now command c.args.carried.now.reply first last (own_state c.args.self.now.session).table) (string_bytes c.args.text.now) (string_bytes c.describe_escaped.new.text)))
    (sym c.in-Escaped.is)
    (subst (λ k. OnOk c.describe_escaped.result (GrowsBy (IsEscapedReply k c.args.carried.now.reply) (string_bytes c.args.text.now) (string_bytes c.describe_escaped.new.text)))
    slot c.describe_escaped.ensures)
