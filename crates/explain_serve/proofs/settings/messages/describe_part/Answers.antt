use Rattle.std.proofs.Common.{string_bytes}
use Rattle.explain_serve.proofs.Parts.{part_described}
use Rattle.explain_serve.proofs.settings.messages.describe_part.Goals as goal

pub returns : goal.returns
returns c =
    part_described c.args.name.now c.args.required.now c.args.offered.now (string_bytes c.args.text.now) _ _ _ _ (string_bytes c.writeln.new.self)
    c.in_ok-write.ensures.bytes c.in_ok-describe_type.ensures c.in_ok-write-2.ensures.bytes c.in_ok-describe_type-2.ensures c.writeln.result c.writeln.ensures.bytes
