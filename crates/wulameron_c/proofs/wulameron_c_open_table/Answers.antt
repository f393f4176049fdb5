use Rattle.std.proofs.Common.{Some, ap, ◌∙◌}
use Rattle.wulameron_c.specs.Pointers.{is_open, no_memory, opened}
use Rattle.wulameron_c.proofs.wulameron_c_open_table.Goals as goal

pub returns-then-handle-eq-OPEN-clause-opens : goal.returns-then-handle-eq-OPEN-clause-opens
returns-then-handle-eq-OPEN-clause-opens c = is_open c.if-handle-eq-OPEN.true

pub returns-in-Ok-clause-opens : goal.returns-in-Ok-clause-opens
returns-in-Ok-clause-opens c = rw (c.of-handle.ensures ∙ ap Some (c.take.ensures ∙ c.in-Ok.ensures.ok)) (opened c.if-handle-eq-OPEN.false c.new.ensures)

pub returns-clause-opens : goal.returns-clause-opens
returns-clause-opens c = no_memory c.if-handle-eq-OPEN.false
