use Rattle.std.proofs.Common.{sym, ap, subst, ◌∙◌}
use Rattle.iceoryx2_world.specs.Agreement.{Agrees}
use Rattle.wulameron_serve.proofs.answerer.NodeAnswerer.new.Goals as goal

pub returns-clause-stands : goal.returns-clause-stands
returns-clause-stands g c = λ agrees mine ready. record {
  agrees = subst (λ s. Agrees (g.S.WorldStorage.world s.table)) (sym c.over.ensures.state) agrees;
  stand = c.over.ensures.stands;
  of_own = ap (λ s. g.S.WorldStorage.own s.table c.args.node) c.over.ensures.state ∙ mine;
  is_ready = subst (λ s. g.S.Viewed.ready s.table) (sym c.over.ensures.state) ready;
}
