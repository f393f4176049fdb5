use Rattle.std.proofs.Common.{string_bytes, true}
use Rattle.wulameron_trail.proofs.Showings.{followed_stale}
use Rattle.wulameron_trail.proofs.listing.ListingShows.show.Goals as goal

pub returns : goal.returns
returns g c =
    followed_stale c.args.self.now (record c.args.self.now { world = c.follow_entry.new.world; is_stale = true }) c.args.entry.now (string_bytes c.args.text.now)
    c.follow_entry.result c.follow_entry.ensures
