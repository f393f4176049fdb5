use Rattle.std.proofs.Common.{inl, refl}
use Rattle.iceoryx2_journal.proofs.GivingBack.{stepped}
use Rattle.iceoryx2_journal.proofs.journal.Journal.clean_next.Goals as goal

pub returns-then-not-begin-clause-next : goal.returns-then-not-begin-clause-next
returns-then-not-begin-clause-next g c = inl c.if-not-begin.ensures.begins

pub returns-clause-next : goal.returns-clause-next
returns-clause-next g c =
    stepped c.args.node c.self.view_is c.step_of.ensures c.if-not-begin.ensures.begins c.holding.ensures c.in-Some.is c.give_back.ensures.gives refl refl refl
