use Rattle.std.proofs.Common.{refl}
use Rattle.wulameron_trail.specs.Showings.{shown_change}
use Rattle.wulameron_trail.proofs.showing.ChangesShows.show.Goals as goal

pub returns-in-Ok : goal.returns-in-Ok
returns-in-Ok c = (
  shown_change c.args.self.now.is_json c.in_ok-change.change,
  record {
    followed = c.in_ok-follow_entry.ensures;
    change = c.in_ok-change.change;
    changes = c.in_ok-change.ensures c.args.self.now.world c.in_ok-before.ensures;
    line_is = refl;
    same = refl;
  },
  c.in-Ok.ensures,
)
