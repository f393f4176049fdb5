use Rattle.std.proofs.Common.{drop, sym, ap, ◌∙◌, drop-drop}
use Rattle.iceoryx2_testing.proofs.script.queue.Queue.skip.Goals as goal

pub returns-then-self-len : goal.returns-then-self-len
returns-then-self-len c =
    sym (drop-drop 1 c.self.inside.taken c.self.inside.answers.items) ∙ ap (drop 1) c.self.view_is
