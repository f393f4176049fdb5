-- Each step keeps what is true at its hash.
use Rattle.std.proofs.Common.{◌≡◌, ℕ, ◌+◌, ◌-◌, ◌≤◌, List, Option, Some, None, refl, ap, ◌∙◌, arith}
use Rattle.iceoryx2_world.specs.declared.world.Participant.{Participant}
use Rattle.iceoryx2_description.specs.declared.description.ServiceHash.{ServiceHash}
use Rattle.iceoryx2_world.specs.declared.world.Phase.{Phase}
use Rattle.iceoryx2_world.specs.declared.world.Row.{Row}
use Rattle.iceoryx2_world.specs.declared.world.Row.TheVariants as row
use Rattle.iceoryx2_world.specs.World.{Segment, begins, locked_number, is_last}
use Rattle.iceoryx2_data.specs.Form as form
use Rattle.iceoryx2_world.specs.Acts.{Act, IsAct}
use Rattle.iceoryx2_world.specs.Steps.{ServiceView, view_after}
use Rattle.iceoryx2_world.specs.ServiceAgreement.{AgreesAt, LaterAt}
use Rattle.iceoryx2_world.proofs.agreement.Moved.{moved}
use Rattle.iceoryx2_world.specs.StepCases.{IsStep, reads, locks, clears, makes, unmakes, unlocks, publishes, joins, joins_again, leaves_once, leaves, leaves_last, clears_last, ends}
use Rattle.iceoryx2_world.proofs.agreement.StepCases.{step_case}
use Rattle.iceoryx2_world.proofs.agreement.Preserved.{read_keeps, lock_keeps, make_keeps, unmake_keeps, unlock_keeps, publish_keeps, join_keeps, recount_keeps, leave_keeps, last_keeps, clear_keeps, end_keeps}

-- what a step keeps, and that the row is a later one
pub record StepKeeps (c : ℕ) (r : Option Row) (h : ServiceHash) (f : Participant → Phase) (p : Participant) (new : ServiceView) : Type 0 where
  pub rises : c ≤ new.counter
  pub later : LaterAt c r new.row
  pub agrees : AgreesAt new.counter h new.row new.segment (moved f p new.phase)

pub later_same : (c : ℕ) (r : Option Row) → LaterAt c r r
later_same c r = record { no_new = λ x e below. (x, e, refl); not_relocked = λ n e g. cc (e.1); same_bytes = λ n a b e g. grind arith }

later_none : (c : ℕ) (r : Option Row) → LaterAt c r None
later_none c r = record { no_new = λ x e below. absurd (cc); not_relocked = λ n e g. cc; same_bytes = λ n a b e g. absurd (cc) }

later_locked : (c : ℕ) → LaterAt c None (Some (row.Locked c))
later_locked c = record { no_new = λ x e below. absurd (grind arith); not_relocked = λ n e g. cc (e.1); same_bytes = λ n a b e g. absurd (cc) }

later_published : (c n : ℕ) (b : List ℕ) (r : Option Row) → r ≡ Some (row.Locked n) → LaterAt c r (Some (row.Published n b))
later_published c n b r was = record { no_new = λ x e below. (row.Locked n, was, grind arith); not_relocked = λ m e g. cc; same_bytes = λ m x y e g. absurd (cc) }

stays : {c : ℕ} {r : Option Row} {h : ServiceHash} {f : Participant → Phase} {p : Participant} {x : Phase} {s : Option Segment}
    → AgreesAt c h r s (moved f p x) → StepKeeps c r h f p (record { phase = x; row = r; segment = s; counter = c })
stays a = record { rises = omega arith; later = later_same _ _; agrees = a }

goes : {c : ℕ} {r : Option Row} {h : ServiceHash} {f : Participant → Phase} {p : Participant} {x : Phase} {s : Option Segment}
    → AgreesAt c h None s (moved f p x) → StepKeeps c r h f p (record { phase = x; row = None; segment = s; counter = c })
goes a = record { rises = omega arith; later = later_none _ _; agrees = a }

row_keeps : {p : Participant} {h : ServiceHash} {act : Act} {x : Phase} {r : Option Row} {s : Option Segment} {c : ℕ} {new : ServiceView} → IsStep p h act x r s c new
    → (f : Participant → Phase) → f p ≡ x → IsAct act → AgreesAt c h r s f → StepKeeps c r h f p new
row_keeps {p} {h} (reads {n = n} {c = c} {b = b} {s = s} free) f was ok a = stays (read_keeps c h f p n b s (ap begins was ∙ free) a)
row_keeps {p} {h} (locks {c = c} {s = s} free below) f was ok a =
    record { rises = omega arith; later = later_locked c; agrees = lock_keeps c h f p s a }
row_keeps {p} {h} (clears {n = n} {c = c} {r = r} {s = s}) f was ok a = stays (unmake_keeps c h f p n r s (ap locked_number was) a)
row_keeps {p} {h} (makes {n = n} {m = m} {c = c} {r = r} some) f was ok a = stays (make_keeps c h f p n m r was some a)
row_keeps {p} {h} (unmakes {n = n} {c = c} {r = r} {s = s}) f was ok a = stays (unmake_keeps c h f p n r s (ap locked_number was) a)
row_keeps {p} {h} (unlocks {n = n} {c = c} {r = r} {s = s} lock) f was ok a = goes (unlock_keeps c h f p n r s (ap locked_number was ∙ lock) a)
row_keeps {p} {h} (publishes {n = n} {c = c} {d = d} {r = r} {s = s} hash nodes) f was ok a = record {
  rises = omega arith;
  later = later_published c n (form.description d) r (a.locked p n (ap locked_number was));
  agrees = publish_keeps c h f p n d (form.description d) r s was (ok, refl) hash nodes a;
}
row_keeps {p} {h} (joins {n = n} {c = c} {r = r} {s = s} number unmarked room) f was ok a = stays (join_keeps c h f p n r s was number unmarked room a)
row_keeps {p} {h} (joins_again {n = n} {k = k} {c = c} {r = r} {s = s} below) f was ok a = stays (recount_keeps c h f p n k (k + 1) r s was (omega arith) a)
row_keeps {p} {h} (leaves_once {n = n} {k = k} {c = c} {r = r} {s = s} more) f was ok a = stays (recount_keeps c h f p n k (k - 1) r s was (omega arith) a)
row_keeps {p} {h} (leaves {n = n} {k = k} {c = c} {r = r} {s = s} one others) f was ok a = stays (leave_keeps c h f p n k r s was a)
row_keeps {p} {h} (leaves_last {n = n} {k = k} {c = c} {r = r} {s = s} one alone) f was ok a = stays (last_keeps c h f p n k r s was alone a)
row_keeps {p} {h} (clears_last {n = n} {c = c} {r = r} {s = s}) f was ok a = stays (clear_keeps c h f p n r s was a)
row_keeps {p} {h} (ends {c = c} {r = r} {s = s} last) f was ok a = goes (end_keeps c h f p r s (ap is_last was ∙ last) a)

pub step_keeps : (p : Participant) (h : ServiceHash) (act : Act) (x : Phase) (r : Option Row) (s : Option Segment) (c : ℕ) (new : ServiceView)
    (f : Participant → Phase) → f p ≡ x → IsAct act → view_after p h act x r s c ≡ Some new → AgreesAt c h r s f → StepKeeps c r h f p new
step_keeps p h act x r s c new f was ok e a = row_keeps (step_case p h act x r s c new e) f was ok a
