-- Accesses that change nothing published and no count, and words of such.
use Rattle.std.proofs.Common.{◌≡◌, ℕ, ◌+◌, ◌≤◌, Bool, true, false, inl, inr, List, [], ◌∷◌, ◌++◌, Option, Some, None, Result, Ok, refl, sym, ap, subst, ◌∙◌}
use Rattle.iceoryx2_description.specs.declared.description.ServiceHash.{ServiceHash}
use Rattle.iceoryx2_world.specs.declared.world.Participant.{Participant}
use Rattle.iceoryx2_world.specs.declared.world.Participant.TheVariants.{Node}
use Rattle.iceoryx2_world.specs.declared.world.Phase.{Phase}
use Rattle.iceoryx2_world.specs.declared.world.Phase.TheVariants as at
use Rattle.iceoryx2_access.specs.declared.storage.RemoveError.{RemoveError}
use Rattle.iceoryx2_world.specs.declared.world.Row.{Row}
use Rattle.iceoryx2_world.specs.Orders.{hash_total, hash_exact}
use Rattle.iceoryx2_world.specs.World.{World, Segment, row_of, segment_of, phase_of, begins, locked_number, join_count}
use Rattle.iceoryx2_world.specs.Acts.{Act}
use Rattle.iceoryx2_world.specs.Acts as act
use Rattle.iceoryx2_world.specs.Steps.{ServiceView, world_after}
use Rattle.iceoryx2_world.specs.Agreement.{Agrees}
use Rattle.iceoryx2_access.specs.Letter.{Letter}
use Rattle.iceoryx2_access.specs.Letter as letter
use Rattle.iceoryx2_world.specs.Access.{IsOwnPart}
use Rattle.iceoryx2_world.specs.Calm.{published_of, SameServices, IsCalmLetter}
use Rattle.iceoryx2_world.specs.StepCases.{IsStep, reads, locks as row_locks, clears, makes, unmakes, unlocks as row_unlocks, publishes as row_publishes, joins as row_joins, joins_again, leaves_once, leaves, leaves_last, clears_last, ends as row_ends}
use Rattle.iceoryx2_world.specs.Laws.{UnlocksCalmly, PublishingCounts, OpeningCounts, ReleasingCounts}
use Rattle.iceoryx2_world.proofs.agreement.StepCases.{step_case}
use Rattle.iceoryx2_world.proofs.agreement.Maps.{set_cases}
use Rattle.iceoryx2_world.proofs.agreement.Effects.{PhaseChange, Gains, Idles, AllowedStep, allowed_step, step_effect}
use Rattle.iceoryx2_world.proofs.agreement.Worlds.{place_cases, step_places}
use Rattle.iceoryx2_world.proofs.agreement.Parts.{IsCalm, Part, stays, tagged, calm, removed, publishes, joins, releases, own_part, publishing, joining, releasing}
use Rattle.iceoryx2_world.proofs.agreement.Accesses.{joined_means}

record Calmly (x : Phase) (r : Option Row) (new : ServiceView) : Type 0 where
  pub row : published_of new.row ≡ published_of r
  pub lock : (n : ℕ) → locked_number x ≡ Some n → locked_number new.phase ≡ Some n

pub begins_unlocked : (x : Phase) → begins x ≡ true → locked_number x ≡ None
begins_unlocked at.Idle e = refl
begins_unlocked (at.Read m) e = refl
begins_unlocked _ e = absurd (cc)

calm_row : {p : Participant} {h : ServiceHash} {act : Act} {x : Phase} {r : Option Row} {s : Option Segment} {c : ℕ} {new : ServiceView} → IsStep p h act x r s c new
    → IsCalm act → Calmly x r new
calm_row (reads {x = x} free) ok = record { row = refl; lock = λ m l. let none = begins_unlocked x free in absurd (cc) }
calm_row (row_locks {x = x} free below) ok = record { row = refl; lock = λ m l. let none = begins_unlocked x free in absurd (cc) }
calm_row clears ok = record { row = refl; lock = λ m l. l }
calm_row (makes some) ok = record { row = refl; lock = λ m l. l }
calm_row unmakes ok = record { row = refl; lock = λ m l. l }
calm_row clears_last ok = record { row = refl; lock = λ m l. absurd (cc) }
calm_row (row_unlocks lock) ok = absurd ok
calm_row (row_publishes hash nodes) ok = absurd ok
calm_row (row_joins number unmarked room) ok = absurd ok
calm_row (joins_again below) ok = absurd ok
calm_row (leaves_once more) ok = absurd ok
calm_row (leaves one others) ok = absurd ok
calm_row (leaves_last one alone) ok = absurd ok
calm_row (row_ends last) ok = absurd ok

calm_idles : (a : Act) (x y : Phase) → IsCalm a → PhaseChange a x y → Idles x y
calm_idles act.Read x y ok i = i
calm_idles act.Lock x y ok i = i
calm_idles act.RemoveSegment x y ok i = i
calm_idles (act.Make m) x y ok i = i
calm_idles act.RemoveDescription x y ok i = i
calm_idles (act.Publish d) x y ok i = absurd ok
calm_idles act.Join x y ok i = absurd ok
calm_idles act.Leave x y ok i = absurd ok

unlock_row : {p : Participant} {h : ServiceHash} {x : Phase} {r : Option Row} {s : Option Segment} {c : ℕ} {new : ServiceView} → IsStep p h act.RemoveDescription x r s c new → new.row ≡ None
unlock_row (row_unlocks lock) = refl
unlock_row (row_ends last) = refl

step_same : (w v : World) (p : Participant) (g : ServiceHash) (a : Act) → (st : AllowedStep w v p g a) → published_of st.view.row ≡ published_of (row_of w g) → join_count st.view.phase ≡ join_count (phase_of w p g) → SameServices w v
step_same w v p g a st row count = subst (λ u. SameServices w u) st.world (record {
  published = λ h. elim (set_cases hash_total hash_exact w.rows g st.view.row h) [
    | inl e ↦ ap published_of e.1 ∙ row ∙ ap (λ k. published_of (row_of w k)) (sym e.0)
    | inr e ↦ ap published_of e.1
  ];
  counts = λ q h. elim (place_cases w p g st.view q h) [
    | inl e ↦ ap join_count e.2 ∙ count ∙ (λ i. join_count (phase_of w (sym e.0 i) (sym e.1 i)))
    | inr e ↦ ap join_count e.1
  ];
})

-- nothing published or counted changes, and who has a lock keeps it
pub record Calmed (w v : World) : Type 0 where
  pub same : SameServices w v
  pub locks : (q : Participant) (h : ServiceHash) (n : ℕ) → locked_number (phase_of w q h) ≡ Some n → locked_number (phase_of v q h) ≡ Some n

calmed_same : (w v : World) → v ≡ w → Calmed w v
calmed_same w v e = subst (λ u. Calmed w u) (sym e) (record { same = record { published = λ h. refl; counts = λ p h. refl }; locks = λ q h n l. l })

calmed : (w v : World) (id : ℕ) (g : ServiceHash) (a : Act) → IsCalm a → world_after w (Node id) g a ≡ Some v → Calmed w v
calmed w v id g a ok e =
    let st = allowed_step w v (Node id) g a e in
    let c = calm_row (step_case (Node id) g a (phase_of w (Node id) g) (row_of w g) (segment_of w g) w.counter st.view st.is) ok in
    let i = calm_idles a _ _ ok (step_effect (Node id) g a (phase_of w (Node id) g) (row_of w g) (segment_of w g) w.counter st.view st.is).change in
    record {
      same = step_same w v (Node id) g a st c.row (i.now ∙ sym i.before);
      locks = λ q h n l. subst (λ u. locked_number (phase_of u q h) ≡ Some n) st.world (elim (place_cases w (Node id) g st.view q h) [
        | inl k ↦ ap locked_number k.2 ∙ c.lock n ((λ j. locked_number (phase_of w (sym k.0 j) (sym k.1 j))) ∙ l)
        | inr k ↦ ap locked_number k.1 ∙ l
      ]);
    }

part_calmed : (w : World) (l : Letter) (v : World) → IsCalmLetter l → Part w l v → Calmed w v
part_calmed w l v ok (stays e) = calmed_same w v e
part_calmed w l v ok (tagged t e) = subst (λ u. Calmed w u) (sym e) (record { same = record { published = λ h. refl; counts = λ p h. refl }; locks = λ q h n l. l })
part_calmed w l v ok (calm i h a who is e) = calmed w v i h a is e
part_calmed w l v ok (removed i h is e) = absurd (subst IsCalmLetter is ok)
part_calmed w l v ok (publishes i h n d t is p) = absurd (subst IsCalmLetter is ok)
part_calmed w l v ok (joins i h n t is p) = absurd (subst IsCalmLetter is ok)
part_calmed w l v ok (releases t i h n a is p) = absurd (subst IsCalmLetter is ok)

pub own_calmed : (w : World) (l : Letter) (v : World) → IsCalmLetter l → IsOwnPart w l v → Calmed w v
own_calmed w l v ok o = part_calmed w l v ok (own_part w l v o)

part_unlocks : (w v : World) (i : ℕ) (h : ServiceHash) (n : ℕ) (a : Result (Unit {0}) RemoveError) → locked_number (phase_of w (Node i) h) ≡ Some n → Agrees w → Part w (letter.RemoveDescription i h a) v → SameServices w v
part_unlocks w v i h n a lock old (stays e) = (calmed_same w v e).same
part_unlocks w v i h n a lock old (tagged t e) = subst (λ u. SameServices w u) (sym e) (record { published = λ h. refl; counts = λ p h. refl })
part_unlocks w v i h n a lock old (calm j g b who is e) = (calmed w v j g b is e).same
part_unlocks w v i h n a lock old (removed j g is e) =
    let node : i ≡ j = cc in
    let hash : h ≡ g = cc in
    let here : world_after w (Node i) h act.RemoveDescription ≡ Some v = (λ k. world_after w (Node (node k)) (hash k) act.RemoveDescription) ∙ e in
    let st = allowed_step w v (Node i) h act.RemoveDescription here in
    let row = unlock_row (step_case (Node i) h act.RemoveDescription (phase_of w (Node i) h) (row_of w h) (segment_of w h) w.counter st.view st.is) in
    let was = (old.everywhere h).locked (Node i) n lock in
    let c = (step_effect (Node i) h act.RemoveDescription (phase_of w (Node i) h) (row_of w h) (segment_of w h) w.counter st.view st.is).change in
    step_same w v (Node i) h act.RemoveDescription st (ap published_of row ∙ ap published_of (sym was)) (c.now ∙ sym c.before)
part_unlocks w v i h n a lock old (publishes j g m d t is p) = absurd (cc)
part_unlocks w v i h n a lock old (joins j g m t is p) = absurd (cc)
part_unlocks w v i h n a lock old (releases t j g m b is p) = absurd (cc)

-- who holds the lock takes away no description but its own lock
pub own_unlocks : UnlocksCalmly
own_unlocks w v i h n a lock old o = part_unlocks w v i h n a lock old (own_part w (letter.RemoveDescription i h a) v o)

-- the count at a step's place, in a world with the same phases
gained : (w u : World) (i : ℕ) (h : ServiceHash) (a : Act) → ((x y : Phase) → PhaseChange a x y → Gains x y) → world_after w (Node i) h a ≡ Some u → join_count (phase_of u (Node i) h) ≡ join_count (phase_of w (Node i) h) + 1
gained w u i h a gain e = elim (step_places w u i h a (allowed_step w u (Node i) h a e) i h) [ inl k ↦ (gain _ _ k.2).count | inr k ↦ absurd (k.0 refl refl) ]

-- A publishing and an opening raise the count of their node by one.
pub publishing_counts : PublishingCounts
publishing_counts w v i h n d t o = let p = publishing w v i h n d t o in ap (λ z. join_count (phase_of z (Node i) h)) p.is ∙ gained w p.mid i h (act.Publish d) (λ x y g. g) p.step

pub joining_counts : OpeningCounts
joining_counts w v i h n t o = let p = joining w v i h n t o in ap (λ z. join_count (phase_of z (Node i) h)) p.is ∙ gained w p.mid i h act.Join (λ x y g. g) p.step

-- A release lowers it by one.
pub releasing_counts : ReleasingCounts
releasing_counts w v t i h n a o old =
    let p = releasing w v t i h n a o in
    let j = joined_means _ n (old.held.number t _ p.ticket) in
    let some : 1 ≤ join_count (phase_of w (Node i) h) = subst (λ x. 1 ≤ join_count x) (sym j.1) ((old.everywhere h).joined (Node i) n j.0 j.1).0 in
    elim (step_places w p.mid i h act.Leave (allowed_step w p.mid (Node i) h act.Leave p.step) i h) [
      | inl k ↦ k.2.count some ∙ ap (λ z. join_count (phase_of z (Node i) h) + 1) (sym p.is)
      | inr k ↦ absurd (k.0 refl refl)
    ]

-- Words in which a description is only removed while the node holds the lock: the flags say whether it does.
module _ (node : ℕ) (hash : ServiceHash) where
  pub data Tame : Bool → List Letter → Bool → Type 0 where
    ends : {b : Bool} → Tame b [] b
    goes : {b c : Bool} {l : Letter} {word : List Letter} → IsCalmLetter l → Tame b word c → Tame b (l ∷ word) c
    locks : {b c : Bool} {n : ℕ} {word : List Letter} → Tame true word c → Tame b (letter.Lock node hash (Ok n) ∷ word) c
    unlocks : {c : Bool} {word : List Letter} (a : Result (Unit {0}) RemoveError) → Tame false word c → Tame true (letter.RemoveDescription node hash a ∷ word) c

  abbrev pub WhileLocked : Bool → World → Type 0
  WhileLocked true w = (n : ℕ) × (locked_number (phase_of w (Node node) hash) ≡ Some n)
  WhileLocked false w = Unit {0}

pub tame_both : {node : ℕ} {hash : ServiceHash} {b c d : Bool} {u v : List Letter} → Tame node hash b u c → Tame node hash c v d → Tame node hash b (u ++ v) d
tame_both ends t = t
tame_both (goes k r) t = goes k (tame_both r t)
tame_both (locks r) t = locks (tame_both r t)
tame_both (unlocks a r) t = unlocks a (tame_both r t)

lock_view : {p : Participant} {h : ServiceHash} {x : Phase} {r : Option Row} {s : Option Segment} {c : ℕ} {new : ServiceView} → IsStep p h act.Lock x r s c new → locked_number new.phase ≡ Some c
lock_view (row_locks free below) = refl

-- who locks has the lock, and its number
pub locked_now : (w v : World) (id : ℕ) (h : ServiceHash) → world_after w (Node id) h act.Lock ≡ Some v → locked_number (phase_of v (Node id) h) ≡ Some w.counter
locked_now w v id h e = let st = allowed_step w v (Node id) h act.Lock e in
    subst (λ u. locked_number (phase_of u (Node id) h) ≡ Some w.counter) st.world (elim (place_cases w (Node id) h st.view (Node id) h) [
      | inl k ↦ ap locked_number k.2 ∙ lock_view (step_case (Node id) h act.Lock (phase_of w (Node id) h) (row_of w h) (segment_of w h) w.counter st.view st.is)
      | inr k ↦ absurd (k.0 refl refl)
    ])
