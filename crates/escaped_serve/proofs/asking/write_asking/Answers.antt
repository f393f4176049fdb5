use Rattle.std.proofs.Common.{◌∙◌}
use Rattle.escaped_serve.proofs.AskingTexts.{then, whole}
use Rattle.escaped_serve.proofs.asking.write_asking.Goals as goal

pub returns : goal.returns
returns c =
    then c.write_pairs.result c.write_pairs.ensures (λ h.
    whole _ _ _ _ _ _ c.args.node c.args.slot c.args.description.now _ _ _ _ c.messaging_pattern.ensures.value
    (c.as_str.ensures.value ∙ c.name.ensures.value) c.messaging_pattern-2.ensures.value (c.pairs.ensures.value ∙ c.attributes.ensures.value)
    c.in_ok-write_pattern.ensures c.in_ok-write_place.ensures c.in_ok-write_name.ensures c.in_ok-write_settings.ensures h)
