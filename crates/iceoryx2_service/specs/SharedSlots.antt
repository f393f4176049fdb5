-- What sessions hold together whose processes share a log.
use Rattle.std.specs.Prelude.{◌≡◌, ℕ, ◌≤◌, nat_eq, List, length, Option}
use Rattle.std.specs.List.{IsDistinct}
use Rattle.iceoryx2_description.specs.Description.{max_nodes_of}
use Rattle.iceoryx2_access.specs.Registered.{Registered}
use Rattle.iceoryx2_access.specs.Run.{Each}
use Rattle.iceoryx2_log.specs.declared.entry.Entry.{Entry}
use Rattle.iceoryx2_log.specs.Log.{Contents}
use Rattle.iceoryx2_journal.specs.Taking.{is_own}
use Rattle.iceoryx2_journal.specs.Journal.{JournalState}
use Rattle.iceoryx2_journal.specs.Replay.{HasTaken}
use Rattle.iceoryx2_journal.specs.Processes.{HasRead, AreOfOthers, ReadsOn}
use Rattle.iceoryx2_session.specs.Sessions.{SessionOver}
use Rattle.iceoryx2_session.specs.Slots.{HoldsAt}
use Rattle.iceoryx2_session.specs.StandingSlots.{SlotsStandUnder}

module _ {L : Type 0} (contents : L → Option Contents) (counter : ℕ) (entries : List Entry) where
  -- A slot holds the factory, of a session of which each slot's factory is of an own node and stands, over a journal
  -- that has read a front of these entries.
  pub record IsHeld (f : Registered) : Type 0 where
    pub session : SessionOver (JournalState L)
    pub slot : ℕ
    pub holds : HoldsAt session.slots slot f
    pub stand : SlotsStandUnder (is_own session.table.nodes) session.table.world session.slots
    pub read : HasRead contents counter entries session.table

  -- And the rest of them is of nodes that aren't own there.
  pub record IsHeldAtTheEnd (f : Registered) : Type 0 where
    pub held : IsHeld f
    pub others : AreOfOthers held.session.table.nodes held.read.rest

  -- The node has a factory of this one's service and number in a slot, of whichever session.
  pub record HoldsOne (f : Registered) (i : ℕ) : Type 0 where
    pub factory : Registered
    pub node : factory.node ≡ i
    pub hash : factory.description.hash ≡ f.description.hash
    pub number : factory.number ≡ f.number
    pub held : IsHeldAtTheEnd factory

  -- In the slots of all sessions factories of one service and number carry one description.
  abbrev pub HoldsOneDescription : Type 0
  HoldsOneDescription = (f g : Registered) → IsHeld f → IsHeld g
      → f.description.hash ≡ g.description.hash → f.number ≡ g.number → f.description ≡ g.description

  -- No more nodes hold any of these than their description allows.
  abbrev pub FewHold : Type 0
  FewHold = (f : Registered) (nodes : List ℕ) → IsHeldAtTheEnd f → IsDistinct nat_eq nodes → Each (HoldsOne f) nodes
      → length nodes ≤ max_nodes_of f.description.pattern

-- ---- across compactions

-- A slot of the session holds the factory, and each slot's factory is of an own node and stands.
pub record IsInSlot {L : Type 0} (session : SessionOver (JournalState L)) (f : Registered) : Type 0 where
  pub slot : ℕ
  pub holds : HoldsAt session.slots slot f
  pub stand : SlotsStandUnder (is_own session.table.nodes) session.table.world session.slots

module _ {L : Type 0} (contents : L → Option Contents) where
  -- In a slot of a session, and of one whose process has read more, over any number of compactions, factories of one
  -- service and number carry one description.
  abbrev pub HoldsOneAcross : Type 0
  HoldsOneAcross = (more : List Entry) (s t : SessionOver (JournalState L)) (f g : Registered)
      → ReadsOn contents more s.table t.table → IsInSlot s f → IsInSlot t g
      → f.description.hash ≡ g.description.hash → f.number ≡ g.number → f.description ≡ g.description

  -- The node has a factory of this one's service and number in a slot of some session, from whose process this one's
  -- has read more, all of it of nodes that aren't own there.
  pub record HoldsOneBefore (t : SessionOver (JournalState L)) (f : Registered) (i : ℕ) : Type 0 where
    pub factory : Registered
    pub node : factory.node ≡ i
    pub hash : factory.description.hash ≡ f.description.hash
    pub number : factory.number ≡ f.number
    pub session : SessionOver (JournalState L)
    pub in_slot : IsInSlot session factory
    pub more : List Entry
    pub reads_on : ReadsOn contents more session.table t.table
    pub others : AreOfOthers session.table.nodes more

  -- No more nodes hold any of these than their description allows, over any number of compactions.
  abbrev pub FewHoldAcross : Type 0
  FewHoldAcross = (counter : ℕ) (entries : List Entry) (t : SessionOver (JournalState L)) (f : Registered)
      (nodes : List ℕ) → HasTaken contents counter entries t.table → IsInSlot t f → IsDistinct nat_eq nodes
      → Each (HoldsOneBefore t f) nodes → length nodes ≤ max_nodes_of f.description.pattern
