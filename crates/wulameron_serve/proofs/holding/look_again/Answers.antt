use Rattle.std.proofs.Common.{Ok, sym, ◌∙◌}
use Rattle.iceoryx2_session.specs.SessionStates.{own_state}
use Rattle.wulameron_serve.proofs.Wakes.{looked, lost, went_on}
use Rattle.wulameron_serve.specs.declared.holding.WaitError.TheVariants as wait
use Rattle.wulameron_serve.proofs.holding.look_again.Goals as goal

pub returns-then-not-is_cut : goal.returns-then-not-is_cut
returns-then-not-is_cut g c =
    looked g.S.WorldStorage.settles g.S.WorldStorage.shows (own_state c.args.answerer.now.session) (own_state c.look.new.self.session) (Ok tt) c.look.ensures.shows

pub returns-then-is_cut : goal.returns-then-is_cut
returns-then-is_cut g c =
    lost g.S.WorldStorage.settles g.S.WorldStorage.shows (Unit {0}) (own_state c.args.answerer.now.session) (own_state c.look.new.self.session) (own_state c.go_on.new.self.session)
    wait.Lost c.look.ensures.shows c.go_on.ensures.gives

pub returns : goal.returns
returns g c =
    went_on g.S.WorldStorage.settles g.S.WorldStorage.shows (own_state c.args.answerer.now.session) (own_state c.look.new.self.session) (own_state c.go_on.new.self.session)
    (Ok tt) c.go_on.new.self.is_gone c.look.ensures.shows c.go_on.ensures.gives c.go_on.ensures.gone (sym c.is_gone.ensures ∙ c.if-is_gone.false)
