use Rattle.std.proofs.Common.{true, ap, sym, ◌∙◌, arith}
use Rattle.iceoryx2_log.specs.Memory.{LogState}
use Rattle.iceoryx2_log.specs.contracts.memory.MemoryLog.{the_view}
use Rattle.iceoryx2_log.proofs.Unread.{accepted_one, with_contents, with_accepted}
use Rattle.iceoryx2_log.proofs.memory.MemoryLogLog.accept.Goals as goal

pub returns-then-self-len : goal.returns-then-self-len
returns-then-self-len c =
    let shown = sym c.if-not-self.false ∙ ap (λ (s : LogState). s.shown) c.self.view_is in
    ap (with_contents (the_view c.self.inside)) (accepted_one c.self.inside.taken c.self.inside.entries.items (omega (arith, c.if-self-len.true, c.len.ensures)))
    ∙ ap (with_accepted true) c.self.view_is
    ∙ ap (λ shown. with_accepted shown c.args.self.now) shown
