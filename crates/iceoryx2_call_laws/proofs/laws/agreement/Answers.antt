use Rattle.std.specs.Prelude.{refl}
use Rattle.iceoryx2_access.specs.MayRefuse.{MayRefuse}
use Rattle.iceoryx2_world.specs.Access.{IsOwnPart}
use Rattle.iceoryx2_world.specs.Interference.{Others, After, IsFallibleUnder, everyone}
use Rattle.iceoryx2_world.specs.Tables.{IsTableAccess}
use Rattle.iceoryx2_world.proofs.agreement.Interference.{among_others}
use Rattle.iceoryx2_call_laws.proofs.calls.Words.{close_spares, hands_back_its_own, close_is_short}
use Rattle.iceoryx2_call_laws.proofs.calls.Closed.{closes_what_stands}
use Rattle.iceoryx2_call_laws.proofs.calls.CloseLeft.{close_leaves}
use Rattle.iceoryx2_call_laws.proofs.calls.Tickets.{takes_its_ticket, takes_ticket_out}
use Rattle.iceoryx2_call_laws.proofs.calls.Standing.{stands_among, carry_the_same}
use Rattle.iceoryx2_call_laws.proofs.calls.Headline.{open_until_released, as_promised, runs_over_world, of_table}
use Rattle.iceoryx2_call_laws.proofs.calls.AnyCalls.{each_is_short}
use Rattle.iceoryx2_call_laws.proofs.calls.AnyLeft.{adds_its_ticket, refuses_calmly, grants_at_last, leaves_what_is_refused, gives_everything_back}
use Rattle.iceoryx2_call_laws.proofs.calls.OverStorages.{access_keeps_standing, call_keeps_agreement, call_keeps_standing, close_keeps_agreement, close_keeps_standing}
use Rattle.iceoryx2_call_laws.proofs.laws.agreement.Goals as goal

pub returns-clause-of_tables : goal.returns-clause-of_tables
returns-clause-of_tables g c = runs_over_world

pub returns-clause-among : goal.returns-clause-among
returns-clause-among g c = stands_among

pub returns-clause-keeps_agreement : goal.returns-clause-keeps_agreement
returns-clause-keeps_agreement g c = λ call. call_keeps_agreement everyone IsTableAccess (λ u. u.world) (of_table everyone) call

pub returns-clause-close_keeps_agreement : goal.returns-clause-close_keeps_agreement
returns-clause-close_keeps_agreement g c = close_keeps_agreement everyone IsTableAccess (λ u. u.world) (of_table everyone)

pub returns-clause-keeps_standing : goal.returns-clause-keeps_standing
returns-clause-keeps_standing g c = λ call. call_keeps_standing everyone IsTableAccess (λ u. u.world) (of_table everyone) call

pub returns-clause-close_keeps_standing : goal.returns-clause-close_keeps_standing
returns-clause-close_keeps_standing g c = close_keeps_standing everyone IsTableAccess (λ u. u.world) (of_table everyone)

pub returns-clause-access_keeps_standing : goal.returns-clause-access_keeps_standing
returns-clause-access_keeps_standing g c = access_keeps_standing everyone IsTableAccess (λ u. u.world) (of_table everyone)

pub returns-clause-every_open_factory_stands : goal.returns-clause-every_open_factory_stands
returns-clause-every_open_factory_stands g c = λ call. as_promised everyone IsTableAccess (λ u. u.world) (of_table everyone) call refl

pub returns-clause-in_any_world : goal.returns-clause-in_any_world
returns-clause-in_any_world g c = λ own call mine. as_promised own (IsFallibleUnder own) (λ u. u) (λ s t l a. a) call mine

pub returns-clause-among_others : goal.returns-clause-among_others
returns-clause-among_others g c = λ own call mine. as_promised own (After (Others own) (MayRefuse IsOwnPart)) (λ u. u) (λ s t l a. among_others own s l t a) call mine

pub returns-clause-open_until_released : goal.returns-clause-open_until_released
returns-clause-open_until_released g c = λ call. open_until_released everyone IsTableAccess (λ u. u.world) (of_table everyone) call refl

pub returns-clause-open_in_any_world : goal.returns-clause-open_in_any_world
returns-clause-open_in_any_world g c = λ own call mine. open_until_released own (IsFallibleUnder own) (λ u. u) (λ s t l a. a) call mine

pub returns-clause-is_short : goal.returns-clause-is_short
returns-clause-is_short g c = λ call. each_is_short call call.way

pub returns-clause-one_description : goal.returns-clause-one_description
returns-clause-one_description g c = carry_the_same

pub returns-clause-tickets : goal.returns-clause-tickets
returns-clause-tickets g c = adds_its_ticket

pub returns-clause-refused : goal.returns-clause-refused
returns-clause-refused g c = refuses_calmly

pub returns-clause-granted : goal.returns-clause-granted
returns-clause-granted g c = grants_at_last

pub returns-clause-leaves : goal.returns-clause-leaves
returns-clause-leaves g c = λ own call. leaves_what_is_refused own call call.way

pub returns-clause-gives_back : goal.returns-clause-gives_back
returns-clause-gives_back g c = gives_everything_back

pub returns-clause-close_spares : goal.returns-clause-close_spares
returns-clause-close_spares g c = close_spares

pub returns-clause-not_here : goal.returns-clause-not_here
returns-clause-not_here g c = hands_back_its_own

pub returns-clause-close_tickets : goal.returns-clause-close_tickets
returns-clause-close_tickets g c = takes_its_ticket

pub returns-clause-closed : goal.returns-clause-closed
returns-clause-closed g c = closes_what_stands

pub returns-clause-taken_out : goal.returns-clause-taken_out
returns-clause-taken_out g c = takes_ticket_out

pub returns-clause-close_leaves : goal.returns-clause-close_leaves
returns-clause-close_leaves g c = close_leaves

pub returns-clause-close_is_short : goal.returns-clause-close_is_short
returns-clause-close_is_short g c = close_is_short
