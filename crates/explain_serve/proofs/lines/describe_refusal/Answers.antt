use Rattle.std.proofs.Common.{string_bytes, sym, ◌∙◌}
use Rattle.explain_serve.proofs.Calls.{is_call_line, no_other_call}
use Rattle.explain_serve.proofs.Described.{refusal_described}
use Rattle.explain_serve.proofs.lines.describe_refusal.Goals as goal

pub returns-in-Some : goal.returns-in-Some
returns-in-Some g c =
    refusal_described c.args.line.now c.in-Some.call c.args.refusal (g.S.WorldStorage.world c.args.traced.now.inner) (string_bytes c.args.text.now) (string_bytes c.describe_row.new.text)
    (string_bytes c.describe_found.new.text) (is_call_line c.args.line.now c.in_ok-parse.field-0 c.in-Some.call c.in_ok-parse.ensures (sym c.call_of.ensures ∙ c.in-Some.is))
    c.in_ok-describe_row.ensures c.describe_found.result c.describe_found.ensures

pub returns-in-None : goal.returns-in-None
returns-in-None g c =
    absurd (no_other_call c.args.line.now c.in_ok-parse.field-0 c.requires.0 c.in_ok-parse.ensures c.requires.1 (sym c.call_of.ensures ∙ c.in-None.is))
