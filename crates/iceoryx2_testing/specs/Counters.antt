-- How often three of the accesses were asked for.
use Rattle.std.specs.Prelude.{List, [], ◌∷◌}
use Rattle.iceoryx2_testing.specs.declared.script.counters.Counters.{Counters}
use Rattle.iceoryx2_access.specs.Letter.{Letter}
use Rattle.iceoryx2_access.specs.Letter as letter
use Rattle.iceoryx2_access.specs.Counts.{count_up}

-- what an access makes of the counts
abbrev pub counters_after : Letter → Counters → Counters
counters_after (letter.Exists h a) c = record c { looks = count_up c.looks }
counters_after (letter.MakeSegment i h n m a) c = record c { makings = count_up c.makings }
counters_after (letter.OpenSegment i h n a) c = record c { openings = count_up c.openings }
counters_after _ c = c

-- what a word of accesses makes of them
abbrev pub counters_along : List Letter → Counters → Counters
counters_along [] c = c
counters_along (l ∷ word) c = counters_along word (counters_after l c)
