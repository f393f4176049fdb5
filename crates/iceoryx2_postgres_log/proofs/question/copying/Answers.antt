use Rattle.std.proofs.Common.{◌≡◌, ◌+◌, ◌++◌, arith, ap, ◌∙◌, take_all, codes}
use Rattle.iceoryx2_postgres_log.specs.Questions.{inserting, insertings}
use Rattle.iceoryx2_postgres_log.proofs.Inserts.{insertings-next}
use Rattle.iceoryx2_postgres_log.proofs.question.copying.Goals as goal

pub loop-form-preserved : goal.loop-form-preserved
loop-form-preserved c =
    let next : c.in-Some.next ≡ c.args.number + c.loop-form.form-index + 1 =
    omega (arith, c.in-Some.ensures, c.loop-form.invariant.last_is) in
    record {
      last_is = omega (arith, next);
      text = insertings-next c.args.log c.args.generation c.args.number c.in-Some.next c.loop-form.form-index c.args.forms.now
          c.form-item.result _ c.deref.result.now _ c.loop-form-test.true c.form-item.is next c.loop-form.invariant.text
          (c.deref.ensures ∙ c.in_ok-part.ensures ∙ ap (inserting c.args.log c.args.generation c.in-Some.next) c.as_slice.ensures)
          c.in_ok-push_str.ensures.bytes;
    }

pub returns : goal.returns
returns c =
    c.in_ok-push_str-2.ensures.bytes
    ∙ ap (λ l. l ++ codes "select 1 where false;\n\\echo copied :SQLSTATE\n")
    (c.loop-form.invariant.text ∙ ap (insertings c.args.log c.args.generation c.args.number)
    (take_all c.loop-form.form-index c.args.forms.now c.loop-form-test.false))
