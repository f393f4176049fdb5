use Rattle.std.proofs.Common.{refl}
use Rattle.std.specs.FinMap as map
use Rattle.iceoryx2_world.specs.Orders.{place_cmp}
use Rattle.iceoryx2_table.proofs.Changes.{read_starves, reads}
use Rattle.iceoryx2_large_table.proofs.Found.{free}
use Rattle.iceoryx2_large_table.proofs.services.ServicesSteps.read.Goals as goal

pub returns-in_default : goal.returns-in_default
returns-in_default g c =
    read_starves c.args.participant c.args.hash.now refl refl (free (map.get (g.M.Phases.FiniteMap.seen place_cmp c.args.self.now.phases) (c.args.participant, c.args.hash.now)) c.position_of-position.ensures.phase c.begins.ensures c.if-not-begins.false) c.args.number c.requires
    c.in_default.ensures.absent c.in_default.ensures.same

pub returns : goal.returns
returns g c =
    reads c.args.participant c.args.hash.now refl refl (free (map.get (g.M.Phases.FiniteMap.seen place_cmp c.args.self.now.phases) (c.args.participant, c.args.hash.now)) c.position_of-position.ensures.phase c.begins.ensures c.if-not-begins.false) c.args.number c.requires
    c.insert_at.ensures c.in-Ok.ensures.same
