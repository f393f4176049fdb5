use Rattle.std.proofs.Common.{string_bytes, refl, rules}
use Rattle.explain_serve.specs.declared.explainer.Explainer.{Explainer}
use Rattle.explain_serve.proofs.Explaining.{may_have_reason, shows_some, answers_in_lines, answers_in_diagram}
use Rattle.explain_serve.proofs.explainer.ExplainerAnswerer.answer.Goals as goal

pub describe_lines-requires : goal.describe_lines-requires
describe_lines-requires c = may_have_reason c.args.line.now c.args.command c.apply-reply.result c.requires c.apply-reply.ensures.own

pub returns-in-Lines-clause-answered : goal.returns-in-Lines-clause-answered
returns-in-Lines-clause-answered c = λ stands.
    let after : Explainer = record { format = c.args.self.now.format; session = c.apply-reply.new.self } in
    let done = c.apply-reply.ensures in
    answers_in_lines c.args.self.now after c.args.command c.apply-reply.result done.own done.along done.quiet done.stands done.owns
    c.args.line.now (string_bytes c.args.text.now) (string_bytes c.describe_lines.new.text) c.slot_of-slot.result c.saturating_sub-made.result refl c.slot_of-slot.ensures
    (search rules) c.in-Lines.is c.describe_lines.result (search rules)

pub returns-in-Lines-clause-stands : goal.returns-in-Lines-clause-stands
returns-in-Lines-clause-stands c = λ stands.
    let after : Explainer = record { format = c.args.self.now.format; session = c.apply-reply.new.self } in
    let done = c.apply-reply.ensures in
    shows_some c.args.self.now after c.args.command c.apply-reply.result done.own done.along done.quiet done.stands done.owns stands

pub returns-clause-answered : goal.returns-clause-answered
returns-clause-answered c = λ stands.
    let after : Explainer = record { format = c.args.self.now.format; session = c.apply-reply.new.self } in
    let done = c.apply-reply.ensures in
    answers_in_diagram c.args.self.now after c.args.command c.apply-reply.result done.own done.along done.quiet done.stands done.owns
    c.args.line.now (string_bytes c.args.text.now) (string_bytes c.draw_reply.new.text) c.slot_of-slot.result c.saturating_sub-made.result refl c.slot_of-slot.ensures
    (search rules) c.node_of-node.result c.node_of-node.ensures c.in-Diagram.is c.draw_reply.result (search rules)

pub returns-clause-stands : goal.returns-clause-stands
returns-clause-stands c = λ stands.
    let after : Explainer = record { format = c.args.self.now.format; session = c.apply-reply.new.self } in
    let done = c.apply-reply.ensures in
    shows_some c.args.self.now after c.args.command c.apply-reply.result done.own done.along done.quiet done.stands done.owns stands
