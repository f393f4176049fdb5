-- What an allowed step does to locks and counts.
use Rattle.std.proofs.Common.{◌≡◌, ℕ, ◌+◌, ◌<◌, ◌≤◌, true, Option, Some, None, ◌⊎◌, inl, inr, refl, arith}
use Rattle.std.specs.Prelude.{option_map}
use Rattle.iceoryx2_world.specs.declared.world.Participant.{Participant}
use Rattle.iceoryx2_description.specs.declared.description.ServiceHash.{ServiceHash}
use Rattle.iceoryx2_world.specs.declared.world.Phase.{Phase}
use Rattle.iceoryx2_world.specs.declared.world.Phase.TheVariants as at
use Rattle.iceoryx2_world.specs.declared.world.Row.{Row}
use Rattle.iceoryx2_world.specs.declared.world.Row.TheVariants as row
use Rattle.iceoryx2_world.specs.World.{World, Segment, row_of, segment_of, phase_of, begins, joined_number, phase_number, locked_number, is_last, join_count}
use Rattle.iceoryx2_world.specs.Acts.{Act, Publish, Join, Leave}
use Rattle.iceoryx2_world.specs.Steps.{ServiceView, view_after, put, world_after}
use Rattle.iceoryx2_world.specs.StepCases.{IsStep, reads, locks, clears, makes, unmakes, unlocks, publishes, joins, joins_again, leaves_once, leaves, leaves_last, clears_last, ends}
use Rattle.iceoryx2_world.proofs.agreement.StepCases.{step_case}

-- one use more, of the number that the phase had
pub record Gains (x y : Phase) : Type 0 where
  pub count : join_count y ≡ join_count x + 1
  pub number : joined_number y ≡ phase_number x
  pub same : (m : ℕ) → joined_number x ≡ Some m → joined_number y ≡ Some m

-- one use less
pub record Loses (x y : Phase) : Type 0 where
  pub count : 1 ≤ join_count x → join_count x ≡ join_count y + 1
  pub same : (join_count y ≡ 0) ⊎ (joined_number y ≡ joined_number x)

-- no use, before and after
pub record Idles (x y : Phase) : Type 0 where
  pub before : join_count x ≡ 0
  pub now : join_count y ≡ 0
  pub unjoined : joined_number x ≡ None
  pub still : joined_number y ≡ None

abbrev pub PhaseChange : Act → Phase → Phase → Type 0
PhaseChange Join x y = Gains x y
PhaseChange (Publish d) x y = Gains x y
PhaseChange Leave x y = Loses x y
PhaseChange _ x y = Idles x y

pub record Effect (act : Act) (x : Phase) (r : Option Row) (c : ℕ) (new : ServiceView) : Type 0 where
  pub rises : c ≤ new.counter
  pub locks : (n : ℕ) → new.row ≡ Some (row.Locked n) → (r ≡ Some (row.Locked n)) ⊎ ((n ≡ c) × (c < new.counter))
  pub change : PhaseChange act x new.phase

idles : {x y : Phase} → join_count x ≡ 0 → join_count y ≡ 0 → joined_number x ≡ None → joined_number y ≡ None → Idles x y
idles a b c d = record { before = a; now = b; unjoined = c; still = d }

-- who begins, holds a lock or was the last one to leave, has not joined
begins_idle : (x : Phase) → begins x ≡ true → (join_count x ≡ 0) × (joined_number x ≡ None)
begins_idle at.Idle e = (refl, refl)
begins_idle (at.Read n) e = (refl, refl)
begins_idle _ e = absurd (cc)

locked_idle : (x : Phase) (n : ℕ) → locked_number x ≡ Some n → (join_count x ≡ 0) × (joined_number x ≡ None)
locked_idle (at.Locked m) n e = (refl, refl)
locked_idle (at.Made m) n e = (refl, refl)
locked_idle _ n e = absurd (cc)

last_idle : (x : Phase) → is_last x ≡ true → (join_count x ≡ 0) × (joined_number x ≡ None)
last_idle (at.Leaving n) e = (refl, refl)
last_idle (at.Cleared n) e = (refl, refl)
last_idle _ e = absurd (cc)

calms : {act : Act} {x : Phase} {r : Option Row} {c : ℕ} {y : Phase} {s : Option Segment} → PhaseChange act x y
    → Effect act x r c (record { phase = y; row = r; segment = s; counter = c })
calms change = record { rises = omega arith; locks = λ n l. inl l; change = change }

row_effect : {p : Participant} {h : ServiceHash} {act : Act} {x : Phase} {r : Option Row} {s : Option Segment} {c : ℕ} {new : ServiceView} → IsStep p h act x r s c new
    → Effect act x r c new
row_effect (reads {x = x} free) = let i = begins_idle x free in calms (idles i.0 refl i.1 refl)
row_effect (locks {x = x} free below) = let i = begins_idle x free in
    record { rises = omega arith; locks = λ n l. inr (grind arith, omega arith); change = idles i.0 refl i.1 refl }
row_effect clears = calms (idles refl refl refl refl)
row_effect (makes some) = calms (idles refl refl refl refl)
row_effect unmakes = calms (idles refl refl refl refl)
row_effect (unlocks {x = x} {n = n} lock) = let i = locked_idle x n lock in
    record { rises = omega arith; locks = λ n l. absurd (cc); change = idles i.0 refl i.1 refl }
row_effect (publishes hash nodes) =
    record { rises = omega arith; locks = λ n l. absurd (cc); change = record { count = refl; number = refl; same = λ m e. absurd (cc) } }
row_effect (joins number unmarked room) = calms (record { count = refl; number = refl; same = λ m e. absurd (cc) })
row_effect (joins_again below) = calms (record { count = refl; number = refl; same = λ m e. e })
row_effect (leaves_once more) = calms (record { count = λ _. omega arith; same = inr refl })
row_effect (leaves one others) = calms (record { count = λ _. omega arith; same = inl refl })
row_effect (leaves_last one alone) = calms (record { count = λ _. omega arith; same = inl refl })
row_effect clears_last = calms (idles refl refl refl refl)
row_effect (ends {x = x} last) = let i = last_idle x last in
    record { rises = omega arith; locks = λ n l. absurd (cc); change = idles i.0 refl i.1 refl }

pub step_effect : (p : Participant) (h : ServiceHash) (act : Act) (x : Phase) (r : Option Row) (s : Option Segment) (c : ℕ) (new : ServiceView)
    → view_after p h act x r s c ≡ Some new → Effect act x r c new
step_effect p h act x r s c new e = row_effect (step_case p h act x r s c new e)

-- an allowed step of a world
pub record AllowedStep (w v : World) (p : Participant) (h : ServiceHash) (act : Act) : Type 0 where
  pub view : ServiceView
  pub is : view_after p h act (phase_of w p h) (row_of w h) (segment_of w h) w.counter ≡ Some view
  pub world : put w p h view ≡ v

of_option : (w v : World) (p : Participant) (h : ServiceHash) (act : Act) (o : Option ServiceView) → view_after p h act (phase_of w p h) (row_of w h) (segment_of w h) w.counter ≡ o → option_map (put w p h) o ≡ Some v → AllowedStep w v p h act
of_option w v p h act None is e = absurd (cc)
of_option w v p h act (Some s) is e = record { view = s; is = is; world = cc }

pub allowed_step : (w v : World) (p : Participant) (h : ServiceHash) (act : Act) → world_after w p h act ≡ Some v → AllowedStep w v p h act
allowed_step w v p h act e = of_option w v p h act _ refl e
