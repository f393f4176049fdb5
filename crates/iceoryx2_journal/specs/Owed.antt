-- What a node has besides the factories with some tickets, and how it gives that back by accesses of its own.
use Rattle.std.specs.Prelude.{◌≡◌, ◌≢◌, ◌≤◌, ◌⊎◌, ℕ, Bool, true, false, ◌==◌, ◌&&◌, not, nat_eq, List}
use Rattle.std.specs.Prelude.{Option, Some, None, Result, Ok, Err}
use Rattle.std.specs.List.{find}
use Rattle.std.specs.Option.{option_map}
use Rattle.iceoryx2_access.specs.Letter.{Letter}
use Rattle.iceoryx2_access.specs.Registered.{Registered}
use Rattle.iceoryx2_access.specs.Run.{Run}
use Rattle.iceoryx2_description.specs.declared.description.ServiceHash.{ServiceHash}
use Rattle.iceoryx2_world.specs.declared.world.Participant.TheVariants.{Node}
use Rattle.iceoryx2_world.specs.declared.world.Ticket.{Ticket}
use Rattle.iceoryx2_world.specs.World.{World, Tickets, phase_of, tag_of, ticket_count, ticket_of}
use Rattle.iceoryx2_world.specs.Interference.{IsFallibleUnder}
use Rattle.iceoryx2_table.specs.declared.holdings.Holding.{Holding}
use Rattle.iceoryx2_table.specs.declared.holdings.Holding.TheVariants as holding
use Rattle.iceoryx2_table.specs.Holdings.{is_unfinished, HasFinished}
use Rattle.iceoryx2_journal.specs.declared.cleaning.Cleaned.{Cleaned}
use Rattle.iceoryx2_journal.specs.declared.cleaning.CleanError.{CleanError}
use Rattle.iceoryx2_journal.specs.declared.cleaning.CleanError.TheVariants as errors
use Rattle.iceoryx2_journal.specs.declared.cleaning.Step.{Step}
use Rattle.iceoryx2_journal.specs.declared.cleaning.Step.TheVariants as step
use Rattle.iceoryx2_journal.specs.Cleaning.{GivesUp, given_back, given_by, nothing_given}
use Rattle.iceoryx2_journal.specs.Taking.{is_own}

-- the number is one of these
abbrev pub is_among : List ℕ → ℕ → Bool
is_among spared t = is_own spared t

-- the first entry that the node owes, as what it has
abbrev pub owed_ticket : ℕ → (spared : List ℕ) → List (ℕ × Ticket) → Option Holding
owed_ticket i spared es = option_map (λ e. holding.Ticket e.0 e.1.hash e.1.number)
    (find (λ e. e.1.node == i && not (is_among spared e.0)) es)

abbrev pub owed_tag : ℕ → Tickets → List ((ℕ × ServiceHash) × Unit {0}) → Option Holding
owed_tag i tickets es = option_map (λ e. holding.Tag e.0.1)
    (find (λ e. e.0.0 == i && ticket_count tickets i e.0.1 == 0) es)

module _ (w : World) (i : ℕ) (spared : List ℕ) where
  -- Something that the node has: a ticket that isn't one of these, a service that it is creating or has to remove, or a
  -- tag for a service for which it has no ticket.
  abbrev pub IsOwed : Holding → Type 0
  IsOwed (holding.Ticket t h n) =
      (ticket_of w t ≡ Some (record { node = i; hash = h; number = n })) × (is_among spared t ≡ false)
  IsOwed (holding.Service h x) = (phase_of w (Node i) h ≡ x) × (is_unfinished x ≡ true)
  IsOwed (holding.Tag h) = (tag_of w i h ≡ true) × (ticket_count w.tickets i h ≡ 0)

  -- The node has nothing besides: its tickets are among these, it is creating no service and has none to remove, and
  -- it has a tag only for a service for which it has a ticket.
  pub record OwesNothing : Type 0 where
    pub tickets : (t : ℕ) (x : Ticket) → ticket_of w t ≡ Some x → x.node ≡ i → is_among spared t ≡ true
    pub finished : HasFinished w i
    pub tags : (h : ServiceHash) → tag_of w i h ≡ true → 1 ≤ ticket_count w.tickets i h

  -- what a search for it finds
  abbrev pub IsOwedOrNone : Option Holding → Type 0
  IsOwedOrNone (Some held) = IsOwed held
  IsOwedOrNone None = OwesNothing

-- The factory is another node's, or its ticket is one of these.
abbrev pub IsSpared : ℕ → (spared : List ℕ) → Registered → Type 0
IsSpared i spared f = (f.node ≢ i) ⊎ (is_among spared f.ticket ≡ true)

-- the own nodes but this one
abbrev pub others_own : (own : ℕ → Bool) → ℕ → ℕ → Bool
others_own own i j = own j && not (nat_eq j i)

module _ (i : ℕ) (spared : List ℕ) {S : Type 0} (world : S → World) (steps : S → Letter → S → Type 0) where
  -- An access of the node that gives back something that it owes, or is refused.
  pub record GivesOwed (old : S) (l : Letter) (new : S) : Type 0 where
    pub held : Holding
    pub owes : IsOwed (world old) i spared held
    pub gives : GivesUp i held l
    pub access : steps old l new

  -- One step, by how it ends.
  abbrev pub SettlesNext : Step → S → S → Type 0
  SettlesNext (step.Gave g) old new = (l : Letter) × GivesOwed old l new × (given_back l ≡ Some g)
  SettlesNext step.Finished old new = (new ≡ old) × OwesNothing (world new) i spared
  SettlesNext step.Refused old new = (l : Letter) × GivesOwed old l new × (given_back l ≡ None)

  -- Such accesses one after the other, and how many things they gave back; or one was refused, and what was given back
  -- before it stays so.
  abbrev pub SettlesBy : Result Cleaned CleanError → S → S → Type 0
  SettlesBy (Ok c) old new = (word : List Letter) × Run GivesOwed old word new × (c ≡ given_by nothing_given word)
  SettlesBy (Err e) old new = (word : List Letter) × Run GivesOwed old word new × (e ≡ errors.Refused)

-- of a world, whatever others do before an access of it, and whichever of these is refused
abbrev pub SettlesInWorld : (own : ℕ → Bool) → ℕ → (spared : List ℕ) → Result Cleaned CleanError
    → World → World → Type 0
SettlesInWorld own i spared = SettlesBy i spared (λ w. w) (IsFallibleUnder own)
