use Rattle.std.proofs.Common.{◌∙◌}
use Rattle.explain_serve.proofs.Asked.{next_sample, last_sample}
use Rattle.explain_serve.proofs.settings.publish_subscribe.asked_message.Goals as goal

pub loop-setter-preserved : goal.loop-setter-preserved
loop-setter-preserved c =
    next_sample c.loop-setter.types c.in_ok-types.types c.in-Some.setter.now c.in-Some.later.now c.loop-setter.left.now c.args.setters.now
    c.in-Some.ensures.cases.0 c.in_ok-types.ensures c.loop-setter.invariant

pub returns : goal.returns
returns c =
    let last = last_sample c.loop-setter.types c.loop-setter.left.now c.in_default.ensures.cases in
    rw (← (last ∙ c.loop-setter.invariant)) c.prepare.ensures
