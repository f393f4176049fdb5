use Rattle.std.proofs.Common.{Option, Ok, ap, ◌∙◌}
use Rattle.iceoryx2_log.specs.declared.entry.Entry.{Entry}
use Rattle.iceoryx2_log.specs.declared.log.LogError.{LogError}
use Rattle.iceoryx2_log.specs.Log.{is_shown}
use Rattle.iceoryx2_journal.proofs.Logs.{next_shown, next_taken}
use Rattle.iceoryx2_journal.proofs.snapshot.restore_next.Goals as goal

pub returns-in-Ok-follow : goal.returns-in-Ok-follow
returns-in-Ok-follow g c =
    let n = next_shown c.in-Some.entry _ _ _ c.in-Some.is c.in-Ok.ensures.same c.in-Ok.ensures.shows in
    let shown = c.in-Ok.ensures.shown ∙ ap (λ (o : Option Entry). is_shown {E = LogError} (Ok o)) c.in-Some.is in
    (c.in-Some.entry, c.in-Ok-follow.ensures, next_taken c.in-Some.entry _ _ _ n c.in-Ok.ensures.same (c.accept.ensures.shown shown))
