-- The calls of the quiet machine: what each answers, and the state after it. One line a row.
use Rattle.std.specs.Prelude.{◌≡◌, ℕ, ◌+◌, ◌-◌, ◌<◌, ◌≤◌, ◌⊎◌, true, false, nat_lt, Option, Some, None}
use Rattle.std.specs.Prelude.{Result, Ok, Err, is_some, unwrap_or, if◌then◌else◌}
use Rattle.std.specs.FinMap as map
use Rattle.iceoryx2_description.specs.declared.description.ServiceHash.{ServiceHash}
use Rattle.iceoryx2_description.specs.Description.{Description, max_nodes_of}
use Rattle.iceoryx2_world.specs.World.{set_to}
use Rattle.iceoryx2_world.specs.Steps.{last_number}
use Rattle.iceoryx2_rounds.specs.declared.pattern.CreateRefusal.TheVariants as create_refusal
use Rattle.iceoryx2_rounds.specs.declared.pattern.OpenRefusal.TheVariants as open_refusal
use Rattle.iceoryx2_rounds.specs.PatternRules.{PatternRules}
use Rattle.iceoryx2_rounds.specs.Verdict.{verdict}
use Rattle.iceoryx2_access.specs.Registered.{Registered}
use Rattle.iceoryx2_rounds.specs.declared.caller.Caller.{Caller}
use Rattle.iceoryx2_rounds.specs.Creates.{clock_stops, description_of}
use Rattle.iceoryx2_call_laws.specs.Quiet.{NodeCounts, QuietService, Quiet, service_at, times_counted}

-- a service that a node has just created
abbrev pub first_counts : ℕ → NodeCounts
first_counts i = map.insert map.empty i 1

abbrev pub created_by : ℕ → Description → ℕ → QuietService
created_by i d n = record { description = d; number = n; counts = first_counts i }

-- a node has opened it once more
abbrev pub more_counts : NodeCounts → ℕ → NodeCounts
more_counts m i = map.insert m i (unwrap_or (map.get m i) 0 + 1)

abbrev pub opened_by : ℕ → QuietService → QuietService
opened_by i x = record x { counts = more_counts x.counts i }

-- a node that had opened it so often has closed it once; who has no more of it goes
abbrev pub fewer_counts : NodeCounts → ℕ → ℕ → NodeCounts
fewer_counts m i k = if nat_lt 1 k then map.insert m i (k - 1) else map.remove m i

-- a service without nodes goes
abbrev pub with_counts : QuietService → NodeCounts → Option QuietService
with_counts x m = if nat_lt 0 (map.len m) then Some (record x { counts = m }) else None

abbrev pub closed_by : ℕ → ℕ → QuietService → Option QuietService
closed_by i k x = with_counts x (fewer_counts x.counts i k)

-- this service under the hash, or none
abbrev pub with_service : Quiet → ServiceHash → Option QuietService → Quiet
with_service q h o = record q { services = set_to q.services h o }

-- one number is spent
abbrev pub spend : Quiet → Quiet
spend q = record q { counter = q.counter + 1 }

-- A number is left, or none.
abbrev pub HasNumber : Quiet → Type 0
HasNumber q = q.counter < last_number

abbrev pub HasNoNumber : Quiet → Type 0
HasNoNumber q = last_number ≤ q.counter

-- The service takes this node: it has it already, or may have one more.
abbrev pub HasPlace : QuietService → ℕ → Type 0
HasPlace x i = (is_some (times_counted x i) ≡ true) ⊎ (map.len x.counts < max_nodes_of x.description.pattern)

abbrev pub HasNoPlace : QuietService → ℕ → Type 0
HasNoPlace x i = (times_counted x i ≡ None) × (max_nodes_of x.description.pattern ≤ map.len x.counts)

-- this node creates a service of this description under this hash: the factory, and the machine after it
abbrev pub factory_created : Quiet → ℕ → Description → Registered
factory_created q node d = record { node = node; number = q.counter; ticket = q.counter; description = d }

abbrev pub with_created : Quiet → ℕ → ServiceHash → Description → Quiet
with_created q node hash d = spend (with_service q hash (Some (created_by node d q.counter)))

-- Create.
module _ {E C : Type 0} (m : PatternRules E C) (q : Quiet) (caller : Caller) where
  pub data Creates : Result Registered C → Quiet → Type 0 where
    forbidden : {error : C} → m.settings_refusal ≡ Some error → Creates (Err error) q
    exists : (x : QuietService) → m.settings_refusal ≡ None → service_at q caller.hash ≡ Some x
        → Creates (Err (m.create_refusal create_refusal.AlreadyExists)) q
    no_time : m.settings_refusal ≡ None → service_at q caller.hash ≡ None
        → clock_stops m.needs_clock caller.clock ≡ true
        → Creates (Err (m.create_refusal create_refusal.InternalFailure)) q
    no_number : m.settings_refusal ≡ None → service_at q caller.hash ≡ None
        → clock_stops m.needs_clock caller.clock ≡ false → HasNoNumber q
        → Creates (Err (m.create_refusal create_refusal.InternalFailure)) q
    created : m.settings_refusal ≡ None → service_at q caller.hash ≡ None
        → clock_stops m.needs_clock caller.clock ≡ false → HasNumber q
        → Creates (Ok (factory_created q caller.node (description_of m caller)))
        (with_created q caller.node caller.hash (description_of m caller))
    -- memory may run out in place of each answer from the look on; after the lock its number is spent
    no_memory : m.settings_refusal ≡ None → Creates (Err (m.create_refusal create_refusal.OutOfMemory)) q
    no_memory_locked : m.settings_refusal ≡ None → service_at q caller.hash ≡ None
        → clock_stops m.needs_clock caller.clock ≡ false → HasNumber q
        → Creates (Err (m.create_refusal create_refusal.OutOfMemory)) (spend q)

module _ {E C : Type 0} (m : PatternRules E C) (q : Quiet) (node : ℕ) (hash : ServiceHash) where
  -- this node opens a service: the factory, and the machine after it
  abbrev pub factory_opened : QuietService → Registered
  factory_opened x = record { node = node; number = x.number; ticket = q.counter; description = x.description }

  abbrev pub with_opened : QuietService → Quiet
  with_opened x = spend (with_service q hash (Some (opened_by node x)))

  -- Open.
  pub data Opens : Result Registered E → Quiet → Type 0 where
    absent : service_at q hash ≡ None → Opens (Err (m.open_refusal open_refusal.DoesNotExist)) q
    misfit : {error : E} (x : QuietService) → service_at q hash ≡ Some x → m.misfit x.description ≡ Some error
        → Opens (Err error) q
    not_accepted : {error : E} (x : QuietService) → service_at q hash ≡ Some x → m.misfit x.description ≡ None
        → verdict (m.requirement x.description) ≡ Err error
        → Opens (Err error) q
    no_place : (x : QuietService) → service_at q hash ≡ Some x → m.misfit x.description ≡ None
        → verdict (m.requirement x.description) ≡ Ok tt → HasNoPlace x node
        → Opens (Err (m.open_refusal open_refusal.ExceedsMaxNumberOfNodes)) q
    no_number : (x : QuietService) → service_at q hash ≡ Some x → m.misfit x.description ≡ None
        → verdict (m.requirement x.description) ≡ Ok tt → HasPlace x node → HasNoNumber q
        → Opens (Err (m.open_refusal open_refusal.InternalFailure)) q
    opened : (x : QuietService) → service_at q hash ≡ Some x → m.misfit x.description ≡ None
        → verdict (m.requirement x.description) ≡ Ok tt → HasPlace x node → HasNumber q
        → Opens (Ok (factory_opened x)) (with_opened x)
    -- memory may run out in place of each answer where the service is there
    no_memory : (x : QuietService) → service_at q hash ≡ Some x
        → Opens (Err (m.open_refusal open_refusal.OutOfMemory)) q

-- Close, of a factory of this node.
pub data Closes (q : Quiet) (node : ℕ) (hash : ServiceHash) : Quiet → Type 0 where
  closed : (x : QuietService) (k : ℕ) → service_at q hash ≡ Some x → times_counted x node ≡ Some k
      → Closes q node hash (with_service q hash (closed_by node k x))
