-- What is given back at a question, and what is replied.
use Rattle.std.specs.Prelude.{◌≡◌, ℕ, ◌+◌, ◌-◌, ◌^◌, Bool, true, false, cond, List, [], ◌∷◌, ◌++◌, map, min, codes, decimal}
use Rattle.std.specs.Prelude.{Option, Some, None, Result, Ok, Err}
use Rattle.iceoryx2_access.specs.Run.{Run}
use Rattle.iceoryx2_journal.specs.declared.cleaning.CleanError.{CleanError}
use Rattle.iceoryx2_journal.specs.declared.cleaning.Cleaned.{Cleaned}
use Rattle.iceoryx2_session.specs.CommandWords.{SpansSession}
use Rattle.iceoryx2_session.specs.Sessions.{SessionOver}
use Rattle.iceoryx2_table.specs.Holdings.{IsHolding}
use Rattle.iceoryx2_world.specs.World.{World}
use Rattle.wulameron_place.specs.declared.clean.Found.{Found}
use Rattle.wulameron_place.specs.declared.clean.Found.TheVariants as found
use Rattle.wulameron_place.specs.declared.clean.Unfound.{Unfound}
use Rattle.wulameron_place.specs.declared.clean.Unfound.TheVariants as unfound
use Rattle.wulameron_place.specs.declared.dead.NotDead.{NotDead}
use Rattle.wulameron_place.specs.declared.dead.NotDead.TheVariants as not_dead
use Rattle.wulameron_place.specs.declared.trouble.Trouble.{Trouble}
use Rattle.wulameron_place.specs.Clean.{AreWanted}
use Rattle.wulameron_place.specs.Dead.{not_dead_text}
use Rattle.wulameron_place.specs.Texts.{RehearsesOne, is_nothing}
use Rattle.wulameron_serve.specs.declared.cleaning.Given.{Given}
use Rattle.wulameron_serve.specs.declared.cleaning.Outcome.{Outcome}
use Rattle.wulameron_serve.specs.Telling.{IsRefusal, node_why, refused_line}

-- ---- sums

abbrev pub nothing_given : Given
nothing_given = record { nodes = 0; releases = 0; removals = 0 }

-- a sum stops at the last number of 64 bits
abbrev pub sum_up : ℕ → ℕ → ℕ
sum_up m n = min (m + n) (2 ^ 64 - 1)

-- with what a node gave back, which counts where that is something
abbrev pub with_given : Given → Cleaned → Given
with_given g c = cond (is_nothing c) g (record {
  nodes = sum_up g.nodes 1;
  releases = sum_up g.releases c.releases;
  removals = sum_up g.removals c.removals;
})

abbrev pub given_line : Given → List ℕ
given_line g =
    codes "cleaned nodes=" ++ decimal g.nodes ++ codes " releases=" ++ decimal g.releases ++ codes " removals="
    ++ decimal g.removals ++ codes "\n"

-- ---- nodes that aren't cleaned up for

abbrev pub not_dead_line : NotDead → List ℕ
not_dead_line why = not_dead_text why ++ codes "\n"

-- It is told why there are no nodes to clean up for. That there was no memory isn't told.
abbrev pub IsUnfoundReply : Unfound → (text : List ℕ) → Type 0
IsUnfoundReply (unfound.NotDead why) text = text ≡ not_dead_line why
IsUnfoundReply (unfound.Failed e) text = text ≡ refused_line (node_why e)
IsUnfoundReply unfound.OutOfMemory text = ⊥

-- ---- what they have is given back

-- what became of a dead node
abbrev pub IsFoundBy : Result Cleaned CleanError → Found → Type 0
IsFoundBy (Ok c) x = x ≡ found.Cleaned c
IsFoundBy (Err e) x = x ≡ found.Refused

abbrev pub outcome_of_none : Outcome
outcome_of_none = record { given = nothing_given; some_alive = false; some_refused = false }

abbrev pub outcome_with : Outcome → Found → Outcome
outcome_with o found.Alive = record o { some_alive = true }
outcome_with o (found.Cleaned c) = record o { given = with_given o.given c }
outcome_with o found.Refused = record o { some_refused = true }

-- what became of nodes, one after the other
abbrev pub outcome_from : Outcome → List (ℕ × Found) → Outcome
outcome_from o [] = o
outcome_from o (x ∷ xs) = outcome_from (outcome_with o x.1) xs

module _ {S : Type 0} (shows : S → S → Type 0) (world : S → World) where
  -- One that was cleaned up for has nothing then.
  abbrev pub Leaves : (node : ℕ) → Found → SessionOver S → Type 0
  Leaves node (found.Cleaned c) s = IsHolding (world s.table) node None
  Leaves node _ s = Unit {0}

  -- What a node has is given back, where it is dead. All else that changes is what others did.
  abbrev pub CleansOne : SessionOver S → ℕ × Found → SessionOver S → Type 0
  CleansOne old x new = SpansSession shows old new × Leaves x.0 x.1 new

  -- One of these nodes after the other.
  pub record CleansAll (nodes : List ℕ) (old : SessionOver S) (o : Outcome) (new : SessionOver S) : Type 0 where
    pub found : List (ℕ × Found)
    pub run : Run CleansOne old found new
    pub of_nodes : map (λ x. x.0) found ≡ nodes
    pub is : o ≡ outcome_from outcome_of_none found

-- The log refused for this reason, or else a node's file.
abbrev pub IsRefusalBy : Option Trouble → (text : List ℕ) → Type 0
IsRefusalBy (Some t) text = IsRefusal t text
IsRefusalBy None text =
    text ≡ refused_line (codes "a dead node's file can't be locked; see the rights of the log's folder")

-- The reply by what became of the nodes, or of the one that was named.
abbrev pub IsOutcomeReply : Option Trouble → (named : Option ℕ) → Given → (some_alive some_refused : Bool)
    → (text : List ℕ) → Type 0
IsOutcomeReply trouble named g alive true text = IsRefusalBy trouble text
IsOutcomeReply trouble None g alive false text = text ≡ given_line g
IsOutcomeReply trouble (Some node) g true false text = text ≡ not_dead_line (not_dead.IsAlive node)
IsOutcomeReply trouble (Some node) g false false text = text ≡ given_line g

module _ {S : Type 0} (shows : S → S → Type 0) (world : S → World) (trouble : S → Option Trouble) where
  -- What dead nodes have is given back, or the one that is named, and told; or it is told why there are none.
  pub data CleansAsked (named : Option ℕ) (old : SessionOver S) (text : List ℕ) : SessionOver S → Type 0 where
    cleaned : (nodes : List ℕ) (o : Outcome) {new : SessionOver S} → AreWanted named nodes
        → CleansAll shows world nodes old o new
        → IsOutcomeReply (trouble new.table) named o.given o.some_alive o.some_refused text
        → CleansAsked named old text new
    not_cleaned : (why : Unfound) → IsUnfoundReply why text → CleansAsked named old text old

-- ---- what they have would be given back

abbrev pub given_from : Given → List (ℕ × Cleaned) → Given
given_from g [] = g
given_from g (x ∷ xs) = given_from (with_given g x.1) xs

-- One of these nodes after the other gives all back that it has, each in the world that the one before leaves.
pub record RehearsesSum (nodes : List ℕ) (w : World) (g : Given) (v : World) : Type 0 where
  pub given : List (ℕ × Cleaned)
  pub run : Run RehearsesOne w given v
  pub of_nodes : map (λ x. x.0) given ≡ nodes
  pub is : g ≡ given_from nothing_given given

abbrev pub stays_why : List ℕ
stays_why = codes "the log refuses to release what a dead node has; run `check`"

-- It is told what would be given back in a world; or why there are no nodes; or that the world isn't had, or refuses.
pub data RehearsesAsked (named : Option ℕ) (text : List ℕ) : Type 0 where
  given : (nodes : List ℕ) (w v : World) (g : Given) → AreWanted named nodes → RehearsesSum nodes w g v
      → text ≡ given_line g → RehearsesAsked named text
  not_rehearsed : (why : Unfound) → IsUnfoundReply why text → RehearsesAsked named text
  not_whole : text ≡ refused_line (codes "the log can't be read to its end; run `check`")
      → RehearsesAsked named text
  stays : text ≡ refused_line stays_why → RehearsesAsked named text
