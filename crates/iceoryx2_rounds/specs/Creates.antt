-- The words of create, with their answers.
use Rattle.std.specs.Prelude.{◌≡◌, ℕ, Bool, true, false, List, [], ◌∷◌, ◌++◌, Result, Ok, Err, Some, None}
use Rattle.iceoryx2_description.specs.declared.description.ServiceHash.{ServiceHash}
use Rattle.iceoryx2_description.specs.declared.time.ClockFault.{ClockFault}
use Rattle.iceoryx2_description.specs.Description.{Description, max_nodes_of}
use Rattle.iceoryx2_description.specs.Span.{Span, zero_span}
use Rattle.iceoryx2_access.specs.declared.storage.Tag.{Tag}
use Rattle.iceoryx2_access.specs.declared.storage.TagError.{TagError}
use Rattle.iceoryx2_access.specs.declared.storage.LockError.{LockError}
use Rattle.iceoryx2_access.specs.declared.storage.PublishError.{PublishError}
use Rattle.iceoryx2_access.specs.Letter.{Letter, Counts, MakeTag, Lock, Publish}
use Rattle.iceoryx2_rounds.specs.declared.look.Fault.{Fault}
use Rattle.iceoryx2_rounds.specs.declared.look.Outcome.TheVariants.{Nothing, Found, Faulty}
use Rattle.iceoryx2_rounds.specs.declared.create.Created.{Created}
use Rattle.iceoryx2_rounds.specs.declared.pattern.CreateRefusal.{CreateRefusal}
use Rattle.iceoryx2_rounds.specs.declared.pattern.CreateRefusal.TheVariants as refusal
use Rattle.iceoryx2_rounds.specs.PatternRules.{PatternRules}
use Rattle.iceoryx2_access.specs.Registered.{Registered}
use Rattle.iceoryx2_rounds.specs.declared.caller.Caller.{Caller}
use Rattle.iceoryx2_rounds.specs.Looks.{IsLookWord}
use Rattle.iceoryx2_rounds.specs.GivesBack.{GivesBack, OwnLock, OwnSegment, own_tag}
use Rattle.iceoryx2_rounds.specs.Refusals.{of_tag, of_lock, of_publish, create_error_of}
use Rattle.iceoryx2_rounds.specs.Segments.{IsSegmentWord}

-- Whether the clock stops a create: one that needs it, and a clock that can't be read.
abbrev pub clock_stops : Bool → Result Span ClockFault → Bool
clock_stops true (Err fault) = true
clock_stops true (Ok time) = false
clock_stops false now = false

-- the time of a create; a create that doesn't need the time publishes none
abbrev pub time_of : Result Span ClockFault → Span
time_of (Ok time) = time
time_of (Err fault) = zero_span

-- what a create of this caller publishes, and carries
abbrev pub description_of : {E C : Type 0} → PatternRules E C → Caller → Description
description_of m caller = record {
  hash = caller.hash;
  name = caller.name;
  attributes = m.attributes;
  pattern = m.published (time_of caller.clock);
  creator = Some caller.node;
}

-- what the node holds that created a service of this description
abbrev pub factory_of : ℕ → Description → Created → Registered
factory_of node d created = record { node = node; number = created.number; ticket = created.ticket; description = d }

module _ {E C : Type 0} (m : PatternRules E C) (node : ℕ) (hash : ServiceHash) where
  -- The words up to the tag: nothing is found, the node isn't counted, and it has its tag; or what is in the way.
  pub data IsEntryWord : List Letter → Result Tag C → Type 0 where
    look_faulty : {u : List Letter} {fault : Fault E} → IsLookWord m node hash u (Faulty fault)
        → IsEntryWord u (Err (create_error_of m fault))
    look_found : {u : List Letter} {n : ℕ} {d : Description} → IsLookWord m node hash u (Found n d)
        → IsEntryWord u (Err (m.create_refusal refusal.AlreadyExists))
    counted : {u : List Letter} → IsLookWord m node hash u Nothing
        → IsEntryWord (u ++ Counts node hash true ∷ []) (Err (m.create_refusal refusal.ServiceInCorruptedState))
    no_copies : {u : List Letter} → IsLookWord m node hash u Nothing
        → IsEntryWord (u ++ Counts node hash false ∷ []) (Err (m.create_refusal refusal.OutOfMemory))
    no_tag : {u : List Letter} (e : TagError) → IsLookWord m node hash u Nothing
        → IsEntryWord (u ++ Counts node hash false ∷ MakeTag node hash (Err e) ∷ [])
        (Err (m.create_refusal (of_tag e)))
    entered : {u : List Letter} (tag : Tag) → IsLookWord m node hash u Nothing
        → IsEntryWord (u ++ Counts node hash false ∷ MakeTag node hash (Ok tag) ∷ []) (Ok tag)

  -- The words from the lock on, of a create that has this tag: it publishes this description, or gives back what it
  -- made.
  pub data IsServiceWord (d : Description) (tag : Tag) : List Letter → Result Registered C → Type 0 where
    not_locked : {v : List Letter} (e : LockError) → GivesBack node hash (own_tag tag) v
        → IsServiceWord d tag (Lock node hash (Err e) ∷ v) (Err (m.create_refusal (of_lock e)))
    no_segment : {v w : List Letter} {n : ℕ} {why : CreateRefusal}
        → IsSegmentWord node hash n (max_nodes_of d.pattern) v (Err why)
        → GivesBack node hash (OwnLock ∷ own_tag tag) w
        → IsServiceWord d tag (Lock node hash (Ok n) ∷ (v ++ w)) (Err (m.create_refusal why))
    not_published : {v w : List Letter} {n : ℕ} (e : PublishError)
        → IsSegmentWord node hash n (max_nodes_of d.pattern) v (Ok tt)
        → GivesBack node hash (OwnSegment ∷ OwnLock ∷ own_tag tag) w
        → IsServiceWord d tag (Lock node hash (Ok n) ∷ (v ++ Publish node hash n d (Err e) ∷ w))
        (Err (m.create_refusal (of_publish e)))
    published : {v : List Letter} (n t : ℕ) → IsSegmentWord node hash n (max_nodes_of d.pattern) v (Ok tt)
        → IsServiceWord d tag (Lock node hash (Ok n) ∷ (v ++ Publish node hash n d (Ok t) ∷ []))
        (Ok (record { node = node; number = n; ticket = t; description = d }))

  -- The words of a create that publishes this description.
  pub data IsCreating (stopped : Bool) (d : Description) : List Letter → Result Registered C → Type 0 where
    forbidden : {error : C} → m.settings_refusal ≡ Some error → IsCreating stopped d [] (Err error)
    not_entered : {u : List Letter} {error : C} → m.settings_refusal ≡ None → IsEntryWord u (Err error)
        → IsCreating stopped d u (Err error)
    clock_fault : {tag : Tag} {u v : List Letter} → m.settings_refusal ≡ None → stopped ≡ true
        → IsEntryWord u (Ok tag) → GivesBack node hash (own_tag tag) v
        → IsCreating stopped d (u ++ v) (Err (m.create_refusal refusal.InternalFailure))
    made : {tag : Tag} {u v : List Letter} {answer : Result Registered C}
        → m.settings_refusal ≡ None → stopped ≡ false
        → IsEntryWord u (Ok tag) → IsServiceWord d tag v answer → IsCreating stopped d (u ++ v) answer

-- The words of create.
abbrev pub IsCreateWord
    : {E C : Type 0} → PatternRules E C → Caller → List Letter → Result Registered C → Type 0
IsCreateWord m caller word answer =
    IsCreating m caller.node caller.hash (clock_stops m.needs_clock caller.clock) (description_of m caller) word answer
