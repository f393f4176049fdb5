use Rattle.std.proofs.Common.{sym, ◌∙◌, rules}
use Rattle.iceoryx2_table.proofs.NumbersSpent.{not_idle, is_spent}
use Rattle.iceoryx2_table.proofs.table.stored.StoredWorld.spend.Goals as goal

pub returns-then-is_ok-clause-refused : goal.returns-then-is_ok-clause-refused
returns-then-is_ok-clause-refused c = λ e new s. not_idle c.args.node c.args.hash.now c.self.view_is c.position-position.ensures (sym c.is_ok.ensures.value ∙ c.if-is_ok.true) s.idle

pub returns-clause-spent : goal.returns-clause-spent
returns-clause-spent c = λ e. is_spent c.args.node c.args.hash.now c.self.view_is c.position-position.ensures (sym c.is_ok.ensures.value ∙ c.if-is_ok.false)
    (search rules) (search rules) (search rules) c.go_on_at.ensures
