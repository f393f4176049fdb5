use Rattle.std.proofs.Common.{true, refl, ap, ◌∙◌}
use Rattle.iceoryx2_journal.specs.Journal.{JournalState}
use Rattle.iceoryx2_journal.proofs.Begins.{same_short, listed_some, may_begin, stopped_from}
use Rattle.iceoryx2_journal.proofs.journal.Journal.take_in.Goals as goal

pub returns-in-Err-clause-takes : goal.returns-in-Err-clause-takes
returns-in-Err-clause-takes g c =
    let going = ap (λ (j : JournalState _). j.is_over) c.self.view_is ∙ c.requires in
    stopped_from c.self.view_is (may_begin true c.self.inside.is_over refl going) (listed_some c.deref.ensures.value (same_short _ _ _ c.in-Err.ensures c.let_go.ensures.same)) refl c.ends-self-inside.ensures
