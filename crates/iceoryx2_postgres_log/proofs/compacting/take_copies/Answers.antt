use Rattle.std.proofs.Common.{refl, ap, ◌∙◌, sym, [], ◌≡◌, List, ℕ, take_all, append-nil, arith, ◌++◌}
use Rattle.std.proofs.lemmas.Grind.{common_steps}
use Rattle.iceoryx2_postgres_log.specs.Compacting.{forms_in, past_all}
use Rattle.iceoryx2_postgres_log.proofs.Copies.{taken-next}
use Rattle.iceoryx2_postgres_log.proofs.compacting.take_copies.Goals as goal

pub loop-form-init : goal.loop-form-init
loop-form-init c = ([], refl, refl, refl)

pub loop-form-preserved : goal.loop-form-preserved
loop-form-preserved c =
    taken-next c.args.rows.items c.loop-form.rest.items c.pop_front.new.self.items c.args.forms.now c.loop-form.form-index
    c.args.at.now c.loop-form.at _ c.in-Some.row c.form-item.result c.loop-form.invariant c.in-Some.ensures.items
    c.loop-form-test.true c.form-item.is
    (sym c.as_slice.ensures ∙ c.is_same.ensures c.if-not-is_same.false ∙ c.as_slice-in-loop-form.ensures)
    (ap (λ (p : List ℕ). record c.loop-form.at { number = c.in-Some.row.number; place = p }) c.into_place.ensures)

pub returns : goal.returns
returns c = λ empty.
    let t = c.loop-form.invariant in
    let e = c.is_empty.ensures in
    let none : c.loop-form.rest.items ≡ [] = grind (arith, common_steps, e, empty) in
    let split : c.args.rows.items ≡ t.0 = t.1 ∙ ap (λ l. t.0 ++ l) none ∙ append-nil t.0 in
    record {
      same = ap forms_in split ∙ t.2 ∙ take_all c.loop-form.form-index c.args.forms.now c.loop-form-test.false;
      is = t.3 ∙ ap (past_all c.args.at.now) (sym split);
    }
