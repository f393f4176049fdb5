use Rattle.std.proofs.Common.{string_bytes, sym, ◌∙◌}
use Rattle.explain_serve.proofs.Described.{refused_described, granted_described}
use Rattle.explain_serve.proofs.lines.describe_lines.Goals as goal

pub returns-in-Some : goal.returns-in-Some
returns-in-Some g c =
    refused_described g.S.WorldStorage.world c.args.line.now c.args.slot c.args.made c.args.reply.now c.args.traced.now (string_bytes c.args.text.now) (string_bytes c.describe.new.text)
    (string_bytes c.describe_accesses.new.text) c.in_ok-describe.ensures c.in_ok-describe_accesses.ensures c.in-Some.refusal (string_bytes c.describe_refusal.new.text)
    (sym c.refusal_of.ensures ∙ c.in-Some.is) c.describe_refusal.result c.describe_refusal.ensures

pub returns-in-None : goal.returns-in-None
returns-in-None g c =
    granted_described g.S.WorldStorage.world c.args.line.now c.args.slot c.args.made c.args.reply.now c.args.traced.now (string_bytes c.args.text.now) (string_bytes c.describe.new.text)
    (string_bytes c.describe_accesses.new.text) c.in_ok-describe.ensures c.in_ok-describe_accesses.ensures (sym c.refusal_of.ensures ∙ c.in-None.is)
