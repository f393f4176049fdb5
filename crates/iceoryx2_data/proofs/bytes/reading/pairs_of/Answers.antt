use Rattle.std.proofs.Common.{ℕ, [], subst, arith}
use Rattle.std.proofs.lemmas.Result.{err_from_is_err_and}
use Rattle.iceoryx2_attribute.specs.Attributes.{AreAttributes}
use Rattle.iceoryx2_data.specs.Reading.{pairs_at}
use Rattle.iceoryx2_data.proofs.Pairs.{Stands, starts, ends, goes_on_from, is_done}
use Rattle.iceoryx2_data.proofs.bytes.reading.pairs_of.Goals as goal

pub loop-init : goal.loop-init
loop-init c =
    let none = c.new-pairs.ensures.value in
    let whole = starts c.args.count c.args.bytes.now (subst AreAttributes none c.new-pairs.ensures.limits) c.requires in
    rw none (subst (λ (n : ℕ). Stands [] n c.args.bytes.now (pairs_at c.args.count c.args.bytes.now)) (omega arith) whole)

pub returns-in_err-rest : goal.returns-in_err-rest
returns-in_err-rest c =
    let total = pairs_at c.args.count c.args.bytes.now in
    let p = err_from_is_err_and c.from_residual.result c.from_residual.ensures.1 in
    rw (p.1, p.2) (ends c.in_err-rest.field-0.0 c.loop.pairs c.args.count c.loop.counter c.loop.rest.now total c.loop-test.true c.in_err-rest.ensures.pushed c.loop.invariant)

pub loop-preserved : goal.loop-preserved
loop-preserved c =
    let total = pairs_at c.args.count c.args.bytes.now in
    goes_on_from c.loop.pairs c.push_pair_of.new.pairs c.args.count c.loop.counter c.loop.rest.now c.in_ok-rest.rest.now total c.loop-test.true c.loop.invariant c.in_ok-rest.ensures.pushed c.in_ok-rest.ensures.still

pub returns : goal.returns
returns c = is_done c.loop.pairs c.args.count c.loop.counter c.loop.rest.now (pairs_at c.args.count c.args.bytes.now) c.loop-test.false c.loop.invariant
