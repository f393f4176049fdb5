use Rattle.std.proofs.Common.{refl}
use Rattle.explain_serve.proofs.Explaining.{begins, shows_begin}
use Rattle.explain_serve.proofs.explainer.Explainer.new.Goals as goal

pub returns-in-Ok : goal.returns-in-Ok
returns-in-Ok c = (
  refl,
  begins c.new-in-Ok.result c.default.result c.new.result c.in-Ok.traced c.new-in-Ok.ensures.state c.default.ensures c.in-Ok.ensures c.new.ensures.state,
  shows_begin c.new-in-Ok.result c.default.result c.new.result c.in-Ok.traced c.new-in-Ok.ensures.state c.default.ensures c.in-Ok.ensures c.new.ensures.state
      c.new-in-Ok.ensures.stands c.new-in-Ok.ensures.fresh,
)
