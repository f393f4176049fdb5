use Rattle.std.proofs.Common.{refl, sym}
use Rattle.iceoryx2_builder.specs.declared.command.Call.{Call}
use Rattle.negotiate_lines.proofs.line.NamedCall.into_command.Goals as goal

pub returns : goal.returns
returns g c =
    let named = c.args.self in
    let parts = c.into_parts-setters.result in
    let are = c.into_parts-setters.ensures in
    let call : Call = record { how = named.how; node = named.node; slot = named.slot; name = named.name; settings = c.settings.result; attributes = parts.1; now = parts.2 } in (
      call,
      parts.0,
      refl,
      c.settings.ensures,
      λ i. record {
        how = named.how;
        node = named.node;
        slot = named.slot;
        name = named.name;
        arguments = record { settings = sym are.settings i; requirements = sym are.requirements i; now = sym are.now i };
      },
    )
