-- What a process makes of a log that others share, and what each of its accesses does.
use Rattle.std.specs.Prelude.{◌≡◌, ℕ, Bool, true, false, ◌&&◌, not, List, [], Option, refl}
use Rattle.std.specs.Coded.{Coded, code_by, coded×, coded_ℕ, coded_bool, coded_list}
use Rattle.iceoryx2_access.specs.Letter.{Letter, acting_node}
use Rattle.iceoryx2_access.specs.Letter as letter
use Rattle.iceoryx2_access.specs.MayRefuse.{IsFault}
use Rattle.iceoryx2_world.specs.World.{World}
use Rattle.iceoryx2_world.specs.Codes.{coded_world}
use Rattle.iceoryx2_log.specs.Log.{Contents}
use Rattle.iceoryx2_journal.specs.declared.taking.Stop.{Stop}
use Rattle.iceoryx2_journal.specs.Taking.{is_own, IsAllTaken, Reaches, Stops, ends, seen}
use Rattle.iceoryx2_journal.specs.Logged.{IsLoggedPart}

-- the world, the log from which it comes, the own nodes, whether nothing is followed or appended any more, and whether
-- the world isn't what is taken in the log's place
pub record JournalState (L : Type 0) : Type 0 where
  pub world : World
  pub log : L
  pub nodes : List ℕ
  pub is_over : Bool
  pub is_lost : Bool

-- a code of it, so that it can be a model's value
abbrev pub coded_journal : {L : Type 0} → Coded L → Coded (JournalState L)
coded_journal {L} coded_log = code_by (World × (L × (List ℕ × (Bool × Bool))))
    (coded× coded_world (coded× coded_log (coded× (coded_list coded_ℕ) (coded× coded_bool coded_bool))))
    (λ j. (j.world, (j.log, (j.nodes, (j.is_over, j.is_lost)))))
    (λ p. record { world = p.0; log = p.1.0; nodes = p.1.1.0; is_over = p.1.1.1.0; is_lost = p.1.1.1.1 })
    (λ _. refl)

-- An access is in an own node's name. `exists` is in nobody's.
abbrev pub is_mine : List ℕ → Letter → Bool
is_mine nodes (letter.Exists h a) = true
is_mine nodes l = is_own nodes (acting_node l)

module _ {L : Type 0} (contents : L → Option Contents) where
  -- All that others appended has had its effect, and is taken over. Nothing is unread.
  pub record TakesAll (old mid : JournalState L) : Type 0 where
    pub takes : Reaches old.nodes old.is_lost mid.is_lost old.world mid.world (contents old.log) (contents mid.log)
    pub all : IsAllTaken (contents mid.log)
    pub nodes : mid.nodes ≡ old.nodes
    pub was_not_over : old.is_over ≡ false
    pub is_not_over : mid.is_over ≡ false
    pub is_not_lost : mid.is_lost ≡ false

  -- There is no own part: the journal is over or the node isn't own, and nothing changes; or not all was taken over.
  pub data Fails (mine : Bool) (old new : JournalState L) : Type 0 where
    barred : mine && not old.is_over ≡ false → new ≡ old → Fails mine old new
    stopped : (between : World) (s : Stop) → mine && not old.is_over ≡ true
        → Reaches old.nodes old.is_lost new.is_lost old.world between (contents old.log) (contents new.log)
        → Stops old.nodes (seen new.is_lost (contents new.log)) between s new.world
        → new.nodes ≡ old.nodes → new.is_over ≡ ends s → Fails mine old new

  -- What comes before an own part, by whether there is one: all was taken over, or not.
  abbrev pub Begins : (mine has_begun : Bool) → JournalState L → JournalState L → Type 0
  Begins mine true old new = (mine ≡ true) × TakesAll old new
  Begins mine false old new = Fails mine old new

  -- It goes on over this handle of its log. More is taken over as by one without nodes of its own, so in whoever's name
  -- it is, and the own nodes stay.
  pub record Resumes (log : L) (has_begun : Bool) (old new : JournalState L) : Type 0 where
    pub takes : Begins true has_begun (record old { log = log; nodes = [] }) (record new { nodes = [] })
    pub nodes : new.nodes ≡ old.nodes

  -- An access: it is its general fault where there was no own part. Else all that others appended was taken over,
  -- and then the own part was made, or refused.
  pub data IsJournalAccess (old : JournalState L) (l : Letter) (new : JournalState L) : Type 0 where
    fails : IsFault l → Fails (is_mine old.nodes l) old new → IsJournalAccess old l new
    acts : (mid : JournalState L) → is_mine old.nodes l ≡ true → TakesAll old mid
        → IsLoggedPart contents mid.world l new.world mid.log new.log → new.nodes ≡ mid.nodes
        → new.is_over ≡ mid.is_over → new.is_lost ≡ mid.is_lost → IsJournalAccess old l new

  -- A call begins or ends: the log may be held for it, and all else stays.
  pub record Spans (old new : JournalState L) : Type 0 where
    pub same : new ≡ record old { log = new.log }
    pub stays : contents new.log ≡ contents old.log

module _ {L : Type 0} (held : L → Bool) where
  -- The log is held after exactly if it was held before.
  abbrev pub KeepsHold : JournalState L → JournalState L → Type 0
  KeepsHold old new = held new.log ≡ held old.log

module _ {L : Type 0} (contents : L → Option Contents) (held : L → Bool) where
  -- An access, which leaves the log held exactly if it was held before.
  abbrev pub IsAccessOver : JournalState L → Letter → JournalState L → Type 0
  IsAccessOver old l new = IsJournalAccess contents old l new × KeepsHold held old new
