use Rattle.std.proofs.Common.{string_bytes}
use Rattle.wulameron_trail.proofs.Showings.{followed_silently}
use Rattle.wulameron_trail.proofs.showing.SilenceShows.show.Goals as goal

pub returns : goal.returns
returns c =
    followed_silently c.args.self.now c.args.entry.now c.follow_entry.new.world (string_bytes c.args.text.now) c.follow_entry.result c.follow_entry.ensures
