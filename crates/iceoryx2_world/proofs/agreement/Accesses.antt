-- Each access keeps the agreement, and so does each run of accesses.
use Rattle.std.proofs.Common.{◌≡◌, ◌≢◌, ℕ, ◌+◌, ◌<◌, Bool, ◌⊎◌, inl, inr, List, Option, Some, None, refl, sym, ap, subst, ◌∙◌, arith}
use Rattle.iceoryx2_description.specs.declared.description.ServiceHash.{ServiceHash}
use Rattle.iceoryx2_world.specs.Sets as set
use Rattle.iceoryx2_world.specs.declared.world.Participant.{Participant}
use Rattle.iceoryx2_world.specs.declared.world.Participant.TheVariants.{Node}
use Rattle.iceoryx2_world.specs.declared.world.Phase.{Phase}
use Rattle.iceoryx2_world.specs.declared.world.Phase.TheVariants as at
use Rattle.iceoryx2_world.specs.declared.world.Row.{Row}
use Rattle.iceoryx2_world.specs.declared.world.Row.TheVariants as row
use Rattle.iceoryx2_world.specs.Orders.{tag_cmp}
use Rattle.iceoryx2_world.specs.World.{World, Segment, row_of, segment_of, phase_of, joined_number, locked_number, phase_number, row_number, ticket_of}
use Rattle.iceoryx2_world.specs.Acts.{Act, IsAct}
use Rattle.iceoryx2_world.specs.Acts as act
use Rattle.iceoryx2_world.specs.Steps.{ServiceView, world_after}
use Rattle.iceoryx2_world.specs.ServiceAgreement.{AgreesAt, AgreesEverywhere, Later, IsPublished}
use Rattle.iceoryx2_world.specs.Agreement.{Agrees, KeepsAgreement}
use Rattle.iceoryx2_access.specs.Letter.{Letter}
use Rattle.iceoryx2_world.specs.Access.{IsOwnPart}
use Rattle.iceoryx2_world.specs.Interference.{After, IsAccessUnder, IsFallibleUnder}
use Rattle.iceoryx2_world.specs.Laws.{StaysLater}
use Rattle.iceoryx2_access.specs.MayRefuse.{IsFault, MayRefuse}
use Rattle.iceoryx2_access.specs.Run.{Run, done, next}
use Rattle.iceoryx2_world.proofs.agreement.Whole.{after_keeps}
use Rattle.iceoryx2_world.specs.StepCases.{IsStep, joins as row_joins, joins_again}
use Rattle.iceoryx2_world.proofs.agreement.StepCases.{step_case}
use Rattle.iceoryx2_world.proofs.agreement.Step.{later_same}
use Rattle.iceoryx2_world.proofs.agreement.Effects.{allowed_step}
use Rattle.iceoryx2_world.proofs.agreement.Worlds.{ticket_put, is_none, idle_keeps, gain_keeps, lose_keeps, step_locks, step_places}
use Rattle.iceoryx2_world.proofs.agreement.Parts.{mine, Publishing, Joining, IsCalm, Part, stays, tagged, calm, removed, publishes, joins, releases, own_part}

pub later_refl : (w : World) → Later w w
later_refl w = record { counter = omega arith; rows = λ h. later_same _ _ }

published_or_locked : (r : Row) → ((b : List ℕ) × (r ≡ row.Published (row_number r) b)) ⊎ (r ≡ row.Locked (row_number r))
published_or_locked (row.Locked n) = inr refl
published_or_locked (row.Published n b) = inl (b, refl)

pub later_trans : (u v w : World) → StaysLater u v w
later_trans u v w each a b = record {
  counter = grind (arith, a.counter, b.counter);
  rows = λ h. record {
    no_new = λ x e below.
        let m = (b.rows h).no_new x e (grind (arith, a.counter, below)) in
        let k = (a.rows h).no_new m.0 m.1 (grind (arith, m.2, below)) in
        (k.0, k.1, k.2 ∙ m.2);
    not_relocked = λ n is e.
        let below : n < u.counter = (each h).row_below (row.Published n is.0) is.1 in
        let m = (b.rows h).no_new (row.Locked n) e (grind (arith, a.counter, below)) in
        elim (published_or_locked m.0) [
          | inl p ↦ (b.rows h).not_relocked n (p.0, m.1 ∙ ap Some (p.1 ∙ ap (λ k. row.Published k p.0) m.2)) e
          | inr p ↦ (a.rows h).not_relocked n is (m.1 ∙ ap Some (p ∙ ap row.Locked m.2))
        ];
    same_bytes = λ n c d is e.
        let below : n < u.counter = (each h).row_below (row.Published n c) is in
        let m = (b.rows h).no_new (row.Published n d) e (grind (arith, a.counter, below)) in
        elim (published_or_locked m.0) [
          | inl p ↦ let mid : row_of v h ≡ Some (row.Published n p.0) = m.1 ∙ ap Some (p.1 ∙ ap (λ k. row.Published k p.0) m.2) in (a.rows h).same_bytes n c p.0 is mid ∙ (b.rows h).same_bytes n p.0 d mid e
          | inr p ↦ absurd ((a.rows h).not_relocked n (c, is) (m.1 ∙ ap Some (p ∙ ap row.Locked m.2)))
        ];
  };
}

pub same_keeps : (w v : World) → v ≡ w → KeepsAgreement w v
same_keeps w v e old = subst (λ u. Agrees u × Later w u) (sym e) (old, later_refl w)

tags_keep : (w : World) (t : set.FinSet tag_cmp) → KeepsAgreement w (record w { tags = t })
tags_keep w t old = (record { everywhere = old.everywhere; numbered = record { below = old.numbered.below; apart = old.numbered.apart; free = old.numbered.free }; held = record { number = old.held.number; count = old.held.count } }, record { counter = omega arith; rows = λ h. later_same _ _ })

-- a Join changes neither row nor counter
join_counter : {p : Participant} {h : ServiceHash} {x : Phase} {r : Option Row} {s : Option Segment} {c : ℕ} {new : ServiceView} → IsStep p h act.Join x r s c new → new.counter ≡ c
join_counter (row_joins number unmarked room) = refl
join_counter (joins_again below) = refl

pub joined_means : (x : Phase) (n : ℕ) → joined_number x ≡ Some n → (k : ℕ) × (x ≡ at.Joined n k)
joined_means (at.Joined m k) n e = let is : m ≡ n = cc in (k, ap (λ i. at.Joined i k) is)
joined_means _ n e = absurd (cc)

joined_published : (u : World) (id : ℕ) (h : ServiceHash) (n : ℕ) → AgreesAt u.counter h (row_of u h) (segment_of u h) (λ q. phase_of u q h) → joined_number (phase_of u (Node id) h) ≡ Some n → IsPublished n (row_of u h)
joined_published u id h n a e = let j = joined_means _ n e in (a.joined (Node id) n j.0 j.1).1

published_keeps : (w v : World) (id : ℕ) (h : ServiceHash) (n : ℕ) (d : _) (t : ℕ) → Publishing w id h n d t v → KeepsAgreement w v
published_keeps w v id h n d t p old =
    let u = p.mid in
    let locked : row_of w h ≡ Some (row.Locked n) = (old.everywhere h).locked (Node id) n (ap locked_number p.phase) in
    let below : n < w.counter = (old.everywhere h).row_below (row.Locked n) locked in
    let st = allowed_step w u (Node id) h (act.Publish d) p.step in
    let kept = after_keeps w u (Node id) h (act.Publish d) p.limits p.step old.everywhere in
    let places = step_places w u id h (act.Publish d) st in
    let joined : joined_number (phase_of u (Node id) h) ≡ Some n = elim (places id h) [ inl q ↦ q.2.number ∙ ap phase_number p.phase | inr q ↦ absurd (q.0 refl refl) ] in
    let there : IsPublished n (row_of u h) = joined_published u id h n (kept.0 h) joined in
    let free : (g : ServiceHash) → row_of u g ≢ Some (row.Locked n) = λ g l. elim (step_locks w u (Node id) h (act.Publish d) st g n l) [
      | inl i ↦ let own : row_of u h ≡ Some (row.Locked n) = subst (λ k. row_of u k ≡ Some (row.Locked n)) (old.numbered.apart g h n i locked) l in absurd (grind (arith, there.1))
      | inr i ↦ grind (arith, i.1, below)
    ] in
    subst (λ z. Agrees z × Later w z) (sym (p.is ∙ ap (λ s. ticket_put u s (mine id h n)) p.ticket)) (gain_keeps w u id h (act.Publish d) n n u.counter p.limits (λ x y g. g) p.step (ap phase_number p.phase) (old.numbered.free h n locked) (grind (arith, below, kept.1.counter)) (omega arith) free old)

opened_keeps : (w v : World) (id : ℕ) (h : ServiceHash) (n t : ℕ) → Joining w id h n t v → KeepsAgreement w v
opened_keeps w v id h n t p old =
    let u = p.mid in
    let st = allowed_step w u (Node id) h act.Join p.step in
    let kept = after_keeps w u (Node id) h act.Join tt p.step old.everywhere in
    let still : u.counter ≡ w.counter = subst (λ (z : World). z.counter ≡ w.counter) st.world (join_counter (step_case (Node id) h act.Join (phase_of w (Node id) h) (row_of w h) (segment_of w h) w.counter st.view st.is)) in
    let free : (g : ServiceHash) → row_of u g ≢ Some (row.Locked w.counter) = λ g l. absurd (grind (arith, (kept.0 g).row_below (row.Locked w.counter) l, still)) in
    let fresh : ticket_of w w.counter ≡ None = is_none _ (λ x i. grind (arith, old.numbered.below w.counter x i)) in
    subst (λ z. Agrees z × Later w z) (sym (p.is ∙ ap (λ s. ticket_put (record u { counter = w.counter + 1 }) s (mine id h n)) p.ticket)) (gain_keeps w u id h act.Join n w.counter (w.counter + 1) tt (λ x y g. g) p.step p.number fresh (omega arith) (omega (arith, still)) free old)

calm_keeps : (w v : World) (id : ℕ) (h : ServiceHash) (a : Act) → IsCalm a → world_after w (Node id) h a ≡ Some v → KeepsAgreement w v
calm_keeps w v id h act.Read ok e old = idle_keeps w v id h act.Read tt (λ x y i. i) e old
calm_keeps w v id h act.Lock ok e old = idle_keeps w v id h act.Lock tt (λ x y i. i) e old
calm_keeps w v id h act.RemoveSegment ok e old = idle_keeps w v id h act.RemoveSegment tt (λ x y i. i) e old
calm_keeps w v id h (act.Make m) ok e old = idle_keeps w v id h (act.Make m) tt (λ x y i. i) e old
calm_keeps w v id h act.RemoveDescription ok e old = absurd ok
calm_keeps w v id h (act.Publish d) ok e old = absurd ok
calm_keeps w v id h act.Join ok e old = absurd ok
calm_keeps w v id h act.Leave ok e old = absurd ok

part_keeps : (w : World) (l : Letter) (v : World) → Part w l v → KeepsAgreement w v
part_keeps w l v (stays e) old = same_keeps w v e old
part_keeps w l v (tagged t e) old = subst (λ u. Agrees u × Later w u) (sym e) (tags_keep w t old)
part_keeps w l v (calm i h a who ok e) old = calm_keeps w v i h a ok e old
part_keeps w l v (removed i h is e) old = idle_keeps w v i h act.RemoveDescription tt (λ x y i. i) e old
part_keeps w l v (publishes i h n d t is p) old = published_keeps w v i h n d t p old
part_keeps w l v (joins i h n t is p) old = opened_keeps w v i h n t p old
part_keeps w l v (releases t i h n a is p) old = subst (λ z. Agrees z × Later w z) (sym p.is) (lose_keeps w p.mid i h n t p.step p.ticket old)

pub own_keeps : (w : World) (l : Letter) (v : World) → IsOwnPart w l v → KeepsAgreement w v
own_keeps w l v o old = part_keeps w l v (own_part w l v o) old

-- what each step keeps a run keeps
pub keeps_along : {step : World → Letter → World → Type 0} → ((w : World) (l : Letter) (v : World) → step w l v → KeepsAgreement w v) → {w v : World} {word : List Letter} → Run step w word v → KeepsAgreement w v
keeps_along keeps done old = (old, later_refl _)
keeps_along keeps {w = u} {v = w} (next {mid = v} {letter = l} a rest) old =
    let one = keeps u l v a old in
    let more = keeps_along keeps rest one.0 in
    (more.0, later_trans u v w old.everywhere one.1 more.1)

-- an access that is not refused is one that may be
pub unrefused : {happens : World → World → Type 0} {step : World → Letter → World → Type 0} {w v : World} {l : Letter} → After happens step w l v → After happens (MayRefuse step) w l v
unrefused a = record { between = a.between; before = a.before; part = inl a.part }

-- and so is one of which the whole may be refused
pub refusable : {happens : World → World → Type 0} {step : World → Letter → World → Type 0} → ((w : World) → happens w w) → (w : World) (l : Letter) (v : World) → MayRefuse (After happens step) w l v → After happens (MayRefuse step) w l v
refusable still w l v (inl a) = unrefused a
refusable still w l v (inr e) = record { between = w; before = still w; part = inr e }

pub faulty_keeps : {own : ℕ → Bool} (w : World) (l : Letter) (v : World) → IsFallibleUnder own w l v → KeepsAgreement w v
faulty_keeps w l v a old =
    let first = a.before old in
    let second : Agrees v × Later a.between v = elim a.part [
      | inl o ↦ own_keeps a.between l v o first.agrees
      | inr f ↦ same_keeps a.between v f.1 first.agrees
    ] in
    (second.0, later_trans w a.between v old.everywhere first.later second.1)

pub access_keeps : {own : ℕ → Bool} (w : World) (l : Letter) (v : World) → IsAccessUnder own w l v → KeepsAgreement w v
access_keeps w l v a old = faulty_keeps w l v (unrefused a) old

pub run_keeps : {own : ℕ → Bool} {w v : World} {word : List Letter} → Run (IsFallibleUnder own) w word v → KeepsAgreement w v
run_keeps = keeps_along faulty_keeps

-- an answer that isn't the general fault is the table's own
pub granted : {own : ℕ → Bool} (w : World) (l : Letter) (v : World) → (IsFault l → ⊥) → IsFallibleUnder own w l v → IsAccessUnder own w l v
granted w l v other a = elim a.part [
  | inl o ↦ record { between = a.between; before = a.before; part = o }
  | inr f ↦ absurd (other f.0)
]

pub unrefused_run : {own : ℕ → Bool} {w v : World} {word : List Letter} → Run (IsAccessUnder own) w word v → Run (IsFallibleUnder own) w word v
unrefused_run done = done
unrefused_run (next a rest) = next (unrefused a) (unrefused_run rest)
