use Rattle.std.proofs.Common.{ap, length, arith, ◌≡◌, sym, ◌∙◌}
use Rattle.iceoryx2_log.specs.declared.form.reading.EntryError.TheVariants as error
use Rattle.iceoryx2_postgres_log.proofs.first.entry_of.Goals as goal

pub returns-then-count-form-clause-only : goal.returns-then-count-form-clause-only
returns-then-count-form-clause-only c = λ e h. ap (λ p. p.0) (c.in-Ok.ensures.only e (length c.args.form.now) h)

pub returns-else-count-form-clause-only : goal.returns-else-count-form-clause-only
returns-else-count-form-clause-only c = λ e h.
    let same : c.in-Ok.count ≡ length c.args.form.now = ap (λ p. p.1) (c.in-Ok.ensures.only e (length c.args.form.now) h) in
    absurd (omega (arith, same, c.if-count-form.false))

pub returns-in-CutShort-clause-only : goal.returns-in-CutShort-clause-only
returns-in-CutShort-clause-only c = λ e h.
    let no : error.CutShort ≡ error.OutOfMemory = sym c.in-CutShort.is ∙ c.in-Err.ensures.only e (length c.args.form.now) h in cc

pub returns-in-Malformed-clause-only : goal.returns-in-Malformed-clause-only
returns-in-Malformed-clause-only c = λ e h.
    let no : error.Malformed ≡ error.OutOfMemory = sym c.in-Malformed.is ∙ c.in-Err.ensures.only e (length c.args.form.now) h in cc
