use Rattle.std.proofs.Common.{◌∙◌, sym, arith}
use Rattle.negotiate_lines.proofs.TermsOf.{term_found, shorter_after, last_term, no_term, not_empty}
use Rattle.negotiate_lines.proofs.term.next_term.Goals as goal

pub returns-then-not-is_empty-clause-term : goal.returns-then-not-is_empty-clause-term
returns-then-not-is_empty-clause-term c =
    c.loop-part.invariant.same ∙ term_found c.loop-part.rest.now c.in-Some.part c.in-Some.after c.in-Some.ensures.cases (sym c.is_empty.ensures ∙ c.if-not-is_empty.true)

pub returns-then-not-is_empty-clause-shorter : goal.returns-then-not-is_empty-clause-shorter
returns-then-not-is_empty-clause-shorter c =
    omega (arith, shorter_after c.loop-part.rest.now c.in-Some.part c.in-Some.after c.in-Some.ensures.cases, c.loop-part.invariant.shorter)

pub returns-then-is_empty-clause-term : goal.returns-then-is_empty-clause-term
returns-then-is_empty-clause-term c =
    c.loop-part.invariant.same ∙ no_term c.loop-part.rest.now c.in_default.ensures.cases (sym c.is_empty-2.ensures ∙ c.if-is_empty.true)

pub returns-else-is_empty-clause-term : goal.returns-else-is_empty-clause-term
returns-else-is_empty-clause-term c =
    c.loop-part.invariant.same ∙ last_term c.loop-part.rest.now c.in_default.ensures.cases (sym c.is_empty-2.ensures ∙ c.if-is_empty.false)

pub returns-else-is_empty-clause-shorter : goal.returns-else-is_empty-clause-shorter
returns-else-is_empty-clause-shorter c =
    omega (arith, not_empty c.loop-part.rest.now (sym c.is_empty-2.ensures ∙ c.if-is_empty.false), c.loop-part.invariant.shorter)
