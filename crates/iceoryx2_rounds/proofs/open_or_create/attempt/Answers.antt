use Rattle.std.proofs.Common.{sym, ◌∙◌}
use Rattle.iceoryx2_access.proofs.Run.{joins, both}
use Rattle.iceoryx2_rounds.specs.OpenOrCreates.{look_faulty, not_opened, opened, open_retried, not_created, created, create_retried}
use Rattle.iceoryx2_rounds.proofs.LookSteps.{sees_fault, sees_none, sees_service}
use Rattle.iceoryx2_rounds.proofs.open_or_create.attempt.Goals as goal

pub returns-in-AtFault : goal.returns-in-AtFault
returns-in-AtFault g c = let seen = c.look.ensures in rw c.open_error_of-error.ensures (joins (look_faulty (sees_fault _ c.in-AtFault.ensures seen.is_word)) seen.run)

pub returns-in-Ok : goal.returns-in-Ok
returns-in-Ok g c = let seen = c.look.ensures in let more = c.in-Ok.ensures in joins (opened (sees_service _ c.in-Present.ensures seen.is_word).look more.is_word) (both seen.run more.run)

pub returns-then-retries_open : goal.returns-then-retries_open
returns-then-retries_open g c =
    let seen = c.look.ensures in
    let more = c.in-Err.ensures in
    joins (open_retried (sees_service _ c.in-Present.ensures seen.is_word).look more.is_word (sym c.retries_open.ensures ∙ c.if-retries_open.true)) (both seen.run more.run)

pub returns-in-Err : goal.returns-in-Err
returns-in-Err g c =
    let seen = c.look.ensures in
    let more = c.in-Err.ensures in
    joins (not_opened (sees_service _ c.in-Present.ensures seen.is_word).look more.is_word (sym c.retries_open.ensures ∙ c.if-retries_open.false)) (both seen.run more.run)

pub returns-in-Ok-create : goal.returns-in-Ok-create
returns-in-Ok-create g c =
    let seen = c.look.ensures in
    let more = rw c.required_attributes-attributes.ensures.value at c.in-Ok-create.ensures.word in
    joins (created (sees_none _ c.in-Absent.ensures seen.is_word) more.is_word) (both seen.run more.run)

pub returns-then-retries_create : goal.returns-then-retries_create
returns-then-retries_create g c =
    let seen = c.look.ensures in
    let more = rw c.required_attributes-attributes.ensures.value at c.in-Err-create.ensures.word in
    rw c.in-Err-create.ensures.adjusted (joins (create_retried (sees_none _ c.in-Absent.ensures seen.is_word) more.is_word (sym c.retries_create.ensures ∙ c.if-retries_create.true)) (both seen.run more.run))

pub returns-in-Err-create : goal.returns-in-Err-create
returns-in-Err-create g c =
    let seen = c.look.ensures in
    let more = rw c.required_attributes-attributes.ensures.value at c.in-Err-create.ensures.word in
    joins (not_created (sees_none _ c.in-Absent.ensures seen.is_word) more.is_word (sym c.retries_create.ensures ∙ c.if-retries_create.false)) (both seen.run more.run)
