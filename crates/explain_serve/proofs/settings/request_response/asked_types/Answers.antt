use Rattle.std.proofs.Common.{◌∙◌}
use Rattle.explain_serve.proofs.Asked.{next_request, last_request}
use Rattle.explain_serve.proofs.settings.request_response.asked_types.Goals as goal

pub loop-setter-preserved : goal.loop-setter-preserved
loop-setter-preserved c =
    next_request c.loop-setter.types c.in_ok-types.types c.in-Some.setter.now c.in-Some.later.now c.loop-setter.left.now c.args.setters.now
    c.in-Some.ensures.cases.0 c.in_ok-types.ensures c.loop-setter.invariant

pub returns : goal.returns
returns c = last_request c.loop-setter.types c.loop-setter.left.now c.in_default.ensures.cases ∙ c.loop-setter.invariant
