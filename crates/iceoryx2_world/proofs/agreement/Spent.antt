-- A number that is spent at a service never comes back there.
use Rattle.std.proofs.Common.{◌≡◌, ℕ, ◌⊎◌, inl, inr, Option, Some, None, refl, sym, ap, subst, ◌∙◌, arith}
use Rattle.iceoryx2_description.specs.declared.description.ServiceHash.{ServiceHash}
use Rattle.iceoryx2_world.specs.declared.world.Participant.{Participant}
use Rattle.iceoryx2_world.specs.declared.world.Participant.TheVariants.{Node}
use Rattle.iceoryx2_world.specs.declared.world.Phase.{Phase}
use Rattle.iceoryx2_world.specs.declared.world.Row.{Row}
use Rattle.iceoryx2_world.specs.declared.world.Row.TheVariants as row
use Rattle.iceoryx2_world.specs.Orders.{hash_total, hash_exact}
use Rattle.iceoryx2_world.specs.World.{World, Segment, row_of, segment_of, phase_of, locked_number}
use Rattle.iceoryx2_world.specs.Acts.{Act, IsAct, Read, Lock, RemoveSegment, RemoveDescription, Make, Publish, Join, Leave}
use Rattle.iceoryx2_world.specs.Acts as act
use Rattle.iceoryx2_world.specs.Steps.{ServiceView, put, world_after, with_one, without_one, without_any}
use Rattle.iceoryx2_world.specs.ServiceAgreement.{AgreesEverywhere, IsSpent}
use Rattle.iceoryx2_world.specs.Agreement.{Agrees}
use Rattle.iceoryx2_access.specs.Letter.{Letter}
use Rattle.iceoryx2_world.specs.Access.{IsOwnPart}
use Rattle.iceoryx2_world.proofs.agreement.Whole.{after_keeps}
use Rattle.iceoryx2_world.specs.StepCases.{IsStep, reads, locks, clears, makes, unmakes, unlocks, publishes, joins as adds, joins_again, leaves_once, leaves, leaves_last, clears_last, ends}
use Rattle.iceoryx2_world.proofs.agreement.StepCases.{step_case}
use Rattle.iceoryx2_world.proofs.agreement.Maps.{set_cases}
use Rattle.iceoryx2_world.proofs.agreement.Effects.{allowed_step}
use Rattle.iceoryx2_world.proofs.agreement.Parts.{IsCalm, Part, stays, tagged, calm, removed, publishes, joins, releases, own_part}

-- a segment after a step has its number from the one before, or from the lock of who acts
abbrev pub Origin : Option ℕ → Option Segment → Option Segment → Type 0
Origin lock s t = (y : Segment) → t ≡ Some y → ((z : Segment) × (s ≡ Some z) × (z.number ≡ y.number)) ⊎ (lock ≡ Some y.number)

same_origin : (x : Option ℕ) (s : Option Segment) → Origin x s s
same_origin x s y e = inl (y, e, refl)

no_origin : (x : Option ℕ) (s : Option Segment) → Origin x s None
no_origin x s y e = absurd (cc)

some_origin : (x : Option ℕ) (z t : Segment) → z.number ≡ t.number → Origin x (Some z) (Some t)
some_origin x z t e y is = let same : t ≡ y = cc in inl (z, refl, e ∙ ap (λ (k : Segment). k.number) same)

row_segment : {p : Participant} {h : ServiceHash} {act : Act} {x : Phase} {r : Option Row} {s : Option Segment} {c : ℕ} {new : ServiceView} → IsStep p h act x r s c new
    → Origin (locked_number x) s new.segment
row_segment (reads free) = same_origin _ _
row_segment (locks free below) = same_origin _ _
row_segment clears = no_origin _ _
row_segment (makes some) = λ y is. inr (cc)
row_segment unmakes = no_origin _ _
row_segment (unlocks lock) = same_origin _ _
row_segment (publishes hash nodes) = same_origin _ _
row_segment {p} (adds {s = s} number unmarked room) = some_origin _ s (with_one p s) refl
row_segment (joins_again below) = same_origin _ _
row_segment (leaves_once more) = same_origin _ _
row_segment {p} (leaves {s = s} one others) = some_origin _ s (without_one p s) refl
row_segment (leaves_last {s = s} one alone) = some_origin _ s (without_any s) refl
row_segment clears_last = no_origin _ _
row_segment (ends last) = same_origin _ _

-- the same in worlds, at each service
pub world_segment : (w v : World) (p : Participant) (g : ServiceHash) (a : Act) → world_after w p g a ≡ Some v → (h : ServiceHash) (y : Segment) → segment_of v h ≡ Some y → ((z : Segment) × (segment_of w h ≡ Some z) × (z.number ≡ y.number)) ⊎ (locked_number (phase_of w p h) ≡ Some y.number)
world_segment w v p g a e h y is =
    let st = allowed_step w v p g a e in
    let there : segment_of (put w p g st.view) h ≡ Some y = ap (λ u. segment_of u h) st.world ∙ is in
    elim (set_cases hash_total hash_exact w.segments g st.view.segment h) [
      | inl k ↦ elim (row_segment (step_case p g a (phase_of w p g) (row_of w g) (segment_of w g) w.counter st.view st.is) y (sym k.1 ∙ there)) [
        | inl z ↦ inl (z.0, ap (segment_of w) k.0 ∙ z.1, z.2)
        | inr l ↦ inr (ap (λ f. locked_number (phase_of w p f)) k.0 ∙ l)
      ]
      | inr k ↦ inl (y, sym k.1 ∙ there, refl)
    ]

-- No step brings a spent number back.
pub spent_step : (w v : World) (p : Participant) (g : ServiceHash) (a : Act) (h : ServiceHash) (n : ℕ) → IsAct a → world_after w p g a ≡ Some v → AgreesEverywhere w → IsSpent w h n → IsSpent v h n
spent_step w v p g a h n ok e each s =
    let later = (after_keeps w v p g a ok e each).1 in
    record {
      below = grind (arith, s.below, later.counter);
      row = λ x is same. let old = (later.rows h).no_new x is (grind (arith, s.below, same)) in s.row old.0 old.1 (old.2 ∙ same);
      segment = λ y is same. elim (world_segment w v p g a e h y is) [
        | inl z ↦ s.segment z.0 z.1 (z.2 ∙ same)
        | inr l ↦ s.row (row.Locked y.number) ((each h).locked p y.number l) same
      ];
    }

spent_same : (w v : World) (h : ServiceHash) (n : ℕ) → v ≡ w → IsSpent w h n → IsSpent v h n
spent_same w v h n e s = subst (λ u. IsSpent u h n) (sym e) s

calm_is : (a : Act) → IsCalm a → IsAct a
calm_is act.Read ok = tt
calm_is act.Lock ok = tt
calm_is act.RemoveSegment ok = tt
calm_is (act.Make m) ok = tt
calm_is act.RemoveDescription ok = absurd ok
calm_is (act.Publish d) ok = absurd ok
calm_is act.Join ok = absurd ok
calm_is act.Leave ok = absurd ok

part_spent : (w : World) (l : Letter) (v : World) (h : ServiceHash) (n : ℕ) → Part w l v → Agrees w → IsSpent w h n → IsSpent v h n
part_spent w l v h n (stays e) old s = spent_same w v h n e s
part_spent w l v h n (tagged t e) old s = subst (λ u. IsSpent u h n) (sym e) (record { below = s.below; row = s.row; segment = s.segment })
part_spent w l v h n (calm i g a who ok e) old s = spent_step w v (Node i) g a h n (calm_is a ok) e old.everywhere s
part_spent w l v h n (removed i g is e) old s = spent_step w v (Node i) g act.RemoveDescription h n tt e old.everywhere s
part_spent w l v h n (publishes i g m d t is p) old s = let new = spent_step w p.mid (Node i) g (act.Publish d) h n p.limits p.step old.everywhere s in subst (λ u. IsSpent u h n) (sym p.is) (record { below = new.below; row = new.row; segment = new.segment })
part_spent w l v h n (joins i g m t is p) old s = let new = spent_step w p.mid (Node i) g act.Join h n tt p.step old.everywhere s in subst (λ u. IsSpent u h n) (sym p.is) (record { below = grind (arith, s.below); row = new.row; segment = new.segment })
part_spent w l v h n (releases t i g m a is p) old s = let new = spent_step w p.mid (Node i) g act.Leave h n tt p.step old.everywhere s in subst (λ u. IsSpent u h n) (sym p.is) (record { below = new.below; row = new.row; segment = new.segment })

pub spent_own : (w : World) (l : Letter) (v : World) (h : ServiceHash) (n : ℕ) → IsOwnPart w l v → Agrees w → IsSpent w h n → IsSpent v h n
spent_own w l v h n o old s = part_spent w l v h n (own_part w l v o) old s
