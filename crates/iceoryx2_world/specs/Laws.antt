-- The laws of a table's world that take more than two lines. Each stands here once, for its clause and for the lemma
-- that proves it.
use Rattle.std.specs.Prelude.{◌≡◌, ◌≢◌, ℕ, ◌+◌, ◌≤◌, Bool, true, false, List, [], ◌∷◌, ◌++◌, length, drop}
use Rattle.std.specs.Prelude.{Some, None, Result, Ok, Err, unwrap_or}
use Rattle.iceoryx2_description.specs.declared.description.ServiceHash.{ServiceHash}
use Rattle.iceoryx2_description.specs.Description.{Description}
use Rattle.iceoryx2_data.specs.Form.{IsForm}
use Rattle.iceoryx2_access.specs.declared.storage.Release.{Release as Released}
use Rattle.iceoryx2_access.specs.declared.storage.ReleaseError.{ReleaseError}
use Rattle.iceoryx2_access.specs.declared.storage.RemoveError.{RemoveError}
use Rattle.iceoryx2_access.specs.Letter.{Letter, Lock, Publish, Fetch, OpenSegment, RemoveDescription, Release}
use Rattle.iceoryx2_access.specs.Registered.{Registered}
use Rattle.iceoryx2_access.specs.Run.{Run, Each}
use Rattle.iceoryx2_access.specs.MayRefuse.{MayRefuse}
use Rattle.iceoryx2_world.specs.declared.world.Participant.{Participant}
use Rattle.iceoryx2_world.specs.declared.world.Participant.TheVariants.{Node, Peer}
use Rattle.iceoryx2_world.specs.declared.world.Ticket.{Ticket}
use Rattle.iceoryx2_world.specs.World.{World, Tickets, phase_of, locked_number, ticket_of, count_of}
use Rattle.iceoryx2_world.specs.Sets.{FinSet}
use Rattle.iceoryx2_world.specs.Orders.{tag_cmp}
use Rattle.iceoryx2_world.specs.Acts.{Act, IsAct}
use Rattle.iceoryx2_world.specs.Steps.{world_after, last_number}
use Rattle.iceoryx2_world.specs.Access.{IsOwnPart}
use Rattle.iceoryx2_world.specs.ServiceAgreement.{AgreesEverywhere, Later, IsSpent}
use Rattle.iceoryx2_world.specs.Agreement.{AgreesOnNumbers, Agrees}
use Rattle.iceoryx2_world.specs.Calm.{SameServices}
use Rattle.iceoryx2_world.specs.Standing.{ticket_for, Stands, Spares}
use Rattle.iceoryx2_world.specs.Interference.{Rely, Others, After, IsAccessUnder, IsFallibleUnder}
use Rattle.iceoryx2_world.specs.Interference.{SameTickets, SameTags, everyone}
use Rattle.iceoryx2_world.specs.declared.batches.Step.{Step}
use Rattle.iceoryx2_world.specs.Batches.{effect, act_of, NeedsNoRoom, IsPeerStep, IsBatch}
use Rattle.iceoryx2_world.specs.Tables.{TableState, IsTableAccess}

-- ---- steps
-- A step of anyone keeps everything but the tickets of nodes, and gives a later world.
abbrev pub EachStepKeeps : Type 0
EachStepKeeps = (w v : World) (p : Participant) (h : ServiceHash) (act : Act)
    → IsAct act → world_after w p h act ≡ Some v
    → AgreesEverywhere w → AgreesOnNumbers w → AgreesEverywhere v × AgreesOnNumbers v × Later w v

-- What is later than a later world is later, where the first one agrees at each service.
abbrev pub StaysLater : (u v w : World) → Type 0
StaysLater u v w = AgreesEverywhere u → Later u v → Later v w → Later u w

-- A step of anyone but its node leaves a standing factory standing.
abbrev pub StandsAfterOthers : Type 0
StandsAfterOthers = (w v : World) (p : Participant) (h : ServiceHash) (act : Act) (f : Registered)
    → Node f.node ≢ p → IsAct act → world_after w p h act ≡ Some v → Agrees w → Stands w f → Stands v f

-- ---- accesses of own nodes
module _ (own : ℕ → Bool) where
  -- Peers, and nodes that aren't one's own, keep all that own nodes rely on.
  abbrev pub OthersKeepOwn : (w v : World) → Type 0
  OthersKeepOwn w v = Others own w v → Rely own w v

  -- So do two things that happen one after the other.
  abbrev pub BothKeepOwn : (u v w : World) → Type 0
  BothKeepOwn u v w = Rely own u v → Rely own v w → Rely own u w

  -- What keeps all that more nodes rely on keeps what these do.
  abbrev pub KeepsOfMore : (more : ℕ → Bool) → (w v : World) → Type 0
  KeepsOfMore more w v = ((i : ℕ) → own i ≡ true → more i ≡ true) → Rely more w v → Rely own w v

  -- A number that is spent at a service stays so.
  abbrev pub StaysSpent : World → Letter → World → ServiceHash → ℕ → Type 0
  StaysSpent w l v h n = IsFallibleUnder own w l v → Agrees w → IsSpent w h n → IsSpent v h n

  -- A granted release takes its ticket out.
  abbrev pub ReleaseTakesTicketOut : (w v : World) (node number ticket : ℕ) → ServiceHash → Released → Type 0
  ReleaseTakesTicketOut w v node number ticket h left =
      IsFallibleUnder own w (Release ticket node h number (Ok left)) v → ticket_of v ticket ≡ None

-- The same tickets of every node are all the same, and the same tags.
abbrev pub SameTicketsOfAll : Type 0
SameTicketsOfAll = (j k : Tickets) → SameTickets everyone j k → k ≡ j

abbrev pub SameTagsOfAll : Type 0
SameTagsOfAll = (s t : FinSet tag_cmp) → SameTags everyone s t → t ≡ s

-- ---- what stands
-- Each ticket is one of a factory that stands.
abbrev pub EachTicketStands : Type 0
EachTicketStands = (w : World) (t : ℕ) (x : Ticket)
    → Agrees w → ticket_of w t ≡ Some x → (f : Registered) × (f.ticket ≡ t) × (ticket_for f ≡ x) × Stands w f

module _ (own : ℕ → Bool) where
  -- An own node's factory that stands goes on standing whatever accesses follow, anybody's and refused ones among them,
  -- as long as none of them is a granted release of its own ticket.
  abbrev pub StandsUntilReleased : (w v : World) → List Letter → Registered → Type 0
  StandsUntilReleased w v word f =
      own f.node ≡ true → Run (IsFallibleUnder own) w word v → Each (Spares f) word
      → Agrees w → Stands w f → Stands v f

  -- The table grants an own node the release of a standing factory's ticket.
  abbrev pub IsReleased : Type 0
  IsReleased = (w v : World) (f : Registered) (e : ReleaseError)
      → own f.node ≡ true → Agrees w → Stands w f
      → IsAccessUnder own w (Release f.ticket f.node f.description.hash f.number (Err e)) v → ⊥

  -- Who locks a service and publishes a description under the lock's number has a factory that stands with it. Its
  -- ticket is not below the counter at the beginning: no factory had it.
  abbrev pub StandsAsCreated : Type 0
  StandsAsCreated = (w v : World) (node : ℕ) (h : ServiceHash) (number : ℕ) (d : Description) (ticket : ℕ)
      (word : List Letter)
      → Run (IsFallibleUnder own) w
      (Lock node h (Ok number) ∷ (word ++ Publish node h number d (Ok ticket) ∷ [])) v → Agrees w
      → Stands v (record { node = node; number = number; ticket = ticket; description = d })
      × (d.hash ≡ h) × (w.counter ≤ ticket)

  -- Who fetches a description and opens the segment of its number has a factory that stands with that very
  -- description, and a new ticket.
  abbrev pub StandsAsOpened : Type 0
  StandsAsOpened = (w v : World) (node : ℕ) (h : ServiceHash) (number : ℕ) (d : Description) (bytes : List ℕ)
      (ticket : ℕ) (word : List Letter)
      → Run (IsFallibleUnder own) w
      (Fetch node h (Ok (number, bytes)) ∷ (word ++ OpenSegment node h number (Ok ticket) ∷ [])) v
      → IsForm d bytes → d.hash ≡ h → Agrees w
      → Stands v (record { node = node; number = number; ticket = ticket; description = d }) × (w.counter ≤ ticket)

-- ---- what is counted
-- A node that holds the lock removes nothing that is published.
abbrev pub UnlocksCalmly : Type 0
UnlocksCalmly = (w v : World) (node : ℕ) (h : ServiceHash) (number : ℕ) (answer : Result (Unit {0}) RemoveError)
    → locked_number (phase_of w (Node node) h) ≡ Some number → Agrees w
    → IsOwnPart w (RemoveDescription node h answer) v → SameServices w v

-- A granted publishing raises its node's count by one,
abbrev pub PublishingCounts : Type 0
PublishingCounts = (w v : World) (node : ℕ) (h : ServiceHash) (number : ℕ) (d : Description) (ticket : ℕ)
    → IsOwnPart w (Publish node h number d (Ok ticket)) v
    → count_of v (Node node) h ≡ count_of w (Node node) h + 1

-- so does a granted opening,
abbrev pub OpeningCounts : Type 0
OpeningCounts = (w v : World) (node : ℕ) (h : ServiceHash) (number ticket : ℕ)
    → IsOwnPart w (OpenSegment node h number (Ok ticket)) v
    → count_of v (Node node) h ≡ count_of w (Node node) h + 1

-- and a granted release lowers it by one.
abbrev pub ReleasingCounts : Type 0
ReleasingCounts = (w v : World) (ticket node : ℕ) (h : ServiceHash) (number : ℕ) (left : Released)
    → IsOwnPart w (Release ticket node h number (Ok left)) v → Agrees w
    → count_of w (Node node) h ≡ count_of v (Node node) h + 1

-- ---- batches that wait at a table
module _ (own : ℕ → Bool) where
  -- A batch is steps of peers: others take them, whichever nodes are one's own.
  abbrev pub BatchIsOfOthers : (s t : World × ℕ) → List Step → Type 0
  BatchIsOfOthers s t batch = IsBatch s batch t → Others own s.0 t.0

  -- Each access of a run over a table, with its batch, is one of the world, after what others do,
  abbrev pub RunsInWorld : (s t : TableState) → List Letter → Type 0
  RunsInWorld s t word = Run IsTableAccess s word t → Run (After (Others own) IsOwnPart) s.world word t.world

  -- and so it is where any of them may be refused.
  abbrev pub RunsRefusablyInWorld : (s t : TableState) → List Letter → Type 0
  RunsRefusablyInWorld s t word = Run (MayRefuse IsTableAccess) s word t
      → Run (After (Others own) (MayRefuse IsOwnPart)) s.world word t.world

-- Where nothing waits there are the nodes' own parts alone, nothing waits afterwards, and nothing was skipped.
abbrev pub RunsAlone : (s t : TableState) → List Letter → Type 0
RunsAlone s t word = s.waiting ≡ [] → Run IsTableAccess s word t
    → Run IsOwnPart s.world word t.world × ((t.waiting ≡ []) × (t.skipped ≡ s.skipped))

-- Each own part is an access there.
abbrev pub OwnPartIsAccess : Type 0
OwnPartIsAccess = (s : TableState) (l : Letter) (w : World)
    → s.waiting ≡ [] → IsOwnPart s.world l w → IsTableAccess s l (record s { world = w })

-- Each access takes one batch off, in order.
abbrev pub TakesBatchesOff : (s t : TableState) → List Letter → Type 0
TakesBatchesOff s t word = Run IsTableAccess s word t → t.waiting ≡ drop (length word) s.waiting

-- The count of skipped steps never falls, and stops at the last number.
abbrev pub CountsSkipped : (s t : TableState) → List Letter → Type 0
CountsSkipped s t word = Run (MayRefuse IsTableAccess) s word t → s.skipped ≤ last_number
    → (s.skipped ≤ t.skipped) × (t.skipped ≤ last_number)

-- A step that needs no room is never skipped: where it is allowed it has its effect, and else nothing changes.
abbrev pub HasItsEffect : Type 0
HasItsEffect = (s t : World × ℕ) (x : Step)
    → NeedsNoRoom (act_of x.act) (phase_of s.0 (Peer x.peer) x.hash) → IsPeerStep s x t
    → t ≡ (unwrap_or (effect s.0 x) s.0, s.1)
