use Rattle.std.proofs.Common.{string_bytes, sym, subst}
use Rattle.iceoryx2_world.specs.Listing.{Lists}
use Rattle.explain_serve.proofs.Described.{none_described}
use Rattle.explain_serve.proofs.lines.describe_found.Goals as goal

pub returns : goal.returns
returns g c =
    none_described c.args.call.now c.args.refusal (g.S.WorldStorage.world c.args.traced.now.inner) c.deref.result.now
    (subst (λ es. Lists (g.S.WorldStorage.world c.args.traced.now.inner) es) (sym c.deref.ensures.value) c.in_ok-entries.ensures) c.in_ok-existing.field-0 c.in_ok-existing.ensures
    (string_bytes c.args.text.now) c.in-None.is
