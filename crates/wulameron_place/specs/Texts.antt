-- What is written of cleaning up for nodes.
use Rattle.std.specs.Prelude.{◌≡◌, ℕ, Bool, ◌==◌, ◌&&◌, cond, List, [], ◌++◌, map, Some, codes, decimal}
use Rattle.std.specs.List.{flat_map}
use Rattle.iceoryx2_access.specs.Run.{Run}
use Rattle.iceoryx2_world.specs.World.{World}
use Rattle.iceoryx2_journal.specs.declared.cleaning.Cleaned.{Cleaned}
use Rattle.wulameron_place.specs.Rehearsal.{Rehearses}

-- nothing was given back
abbrev pub is_nothing : Cleaned → Bool
is_nothing c = (c.releases == 0) && (c.removals == 0)

abbrev pub counts_text : Cleaned → List ℕ
counts_text c = decimal c.releases ++ codes " releases, " ++ decimal c.removals ++ codes " removals\n"

-- the line of what was given back for a node
abbrev pub cleaned_line : (node : ℕ) → Cleaned → List ℕ
cleaned_line node c = codes "node " ++ decimal node ++ codes ": " ++ counts_text c

-- the line of what would be given back for a node
abbrev pub rehearsed_line : (node : ℕ) → Cleaned → List ℕ
rehearsed_line node c = codes "node " ++ decimal node ++ codes ": would be " ++ counts_text c

-- its line, where that is something
abbrev pub rehearsed_text : ℕ × Cleaned → List ℕ
rehearsed_text x = cond (is_nothing x.1) [] (rehearsed_line x.0 x.1)

-- All that a node has is given back in a world.
abbrev pub RehearsesOne : World → ℕ × Cleaned → World → Type 0
RehearsesOne w x v = Rehearses x.0 (Some x.1) w v

-- One of these nodes after the other gives all back that it has, each in the world that the one before leaves, and the
-- text has the line of each for which that is something.
pub record RehearsesAll (nodes : List ℕ) (w : World) (text : List ℕ) (v : World) : Type 0 where
  pub given : List (ℕ × Cleaned)
  pub run : Run RehearsesOne w given v
  pub of_nodes : map (λ x. x.0) given ≡ nodes
  pub is : text ≡ flat_map rehearsed_text given
