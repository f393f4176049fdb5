-- Each access keeps the agreement.
use Rattle.std.proofs.Common.{◌≡◌, ◌≢◌, ℕ, ◌<◌, ◌≤◌, ◌⊎◌, inl, inr, Option, Some, None, refl, sym, ap, subst, ◌∙◌, arith}
use Rattle.std.specs.FinMap as map
use Rattle.std.proofs.lemmas.Cmp.{nat_cmp_total}
use Rattle.std.proofs.lemmas.Map.Lookups.{exact_unsigned}
use Rattle.iceoryx2_world.specs.declared.world.Participant.{Participant}
use Rattle.iceoryx2_world.specs.declared.world.Participant.TheVariants.{Node, Peer}
use Rattle.iceoryx2_description.specs.declared.description.ServiceHash.{ServiceHash}
use Rattle.iceoryx2_world.specs.declared.world.Phase.{Phase}
use Rattle.iceoryx2_world.specs.declared.world.Row.TheVariants as row
use Rattle.iceoryx2_world.specs.declared.world.Ticket.{Ticket}
use Rattle.iceoryx2_world.specs.Orders.{hash_total, hash_exact, place_total, place_exact}
use Rattle.iceoryx2_world.specs.World.{World, row_of, segment_of, phase_of, or_idle, unless_idle, joined_number, phase_number, ticket_of, join_count}
use Rattle.iceoryx2_world.specs.Acts.{Act, IsAct}
use Rattle.iceoryx2_world.specs.Acts as act
use Rattle.iceoryx2_world.specs.Steps.{ServiceView, put, world_after}
use Rattle.iceoryx2_world.specs.ServiceAgreement.{AgreesEverywhere, Later}
use Rattle.iceoryx2_world.proofs.agreement.Whole.{AgreesAt-later, after_keeps, stored}
use Rattle.iceoryx2_world.specs.Agreement.{AgreesOnNumbers, Agrees, KeepsAgreement}
use Rattle.iceoryx2_world.specs.Laws.{EachStepKeeps}
use Rattle.iceoryx2_world.proofs.agreement.Maps.{set_cases}
use Rattle.iceoryx2_world.proofs.agreement.Effects.{Gains, Idles, PhaseChange, AllowedStep, allowed_step, step_effect}
use Rattle.iceoryx2_world.proofs.agreement.Holding.{Places, held_same, held_more, held_less}

-- the world with a ticket more
abbrev pub ticket_put : World → ℕ → Ticket → World
ticket_put w t x = record w { tickets = map.insert w.tickets t x }

abbrev pub ticket_removed : World → ℕ → World
ticket_removed w t = record w { tickets = map.remove w.tickets t }

pub same_node : (i j : ℕ) → Node i ≡ Node j → i ≡ j
same_node i j e = cc

pub not_peer : (i j : ℕ) → Node i ≡ Peer j → ⊥
not_peer i j e = cc

-- the phases after a put
pub place_cases : (w : World) (p : Participant) (h : ServiceHash) (s : ServiceView) (q : Participant) (g : ServiceHash) → ((q ≡ p) × (g ≡ h) × (phase_of (put w p h s) q g ≡ s.phase)) ⊎ (((q ≡ p) → (g ≡ h) → ⊥) × (phase_of (put w p h s) q g ≡ phase_of w q g))
place_cases w p h s q g = elim (set_cases place_total place_exact w.phases (p, h) (unless_idle s.phase) (q, g)) [
  | inl e ↦ inl (ap (λ (x : Participant × ServiceHash). x.0) e.0, ap (λ (x : Participant × ServiceHash). x.1) e.0, ap or_idle e.1 ∙ stored s.phase)
  | inr e ↦ inr (λ a b. e.0 (λ i. (a i, b i)), ap or_idle e.1)
]

-- a step moves one place of a node
pub step_places : (w v : World) (id : ℕ) (h : ServiceHash) (a : Act) → AllowedStep w v (Node id) h a → Places w v id h (PhaseChange a)
step_places w v id h a st = subst (λ u. Places w u id h (PhaseChange a)) st.world (λ i g. elim (place_cases w (Node id) h st.view (Node i) g) [
  | inl e ↦ inl (same_node i id e.0, e.1, rw (ap (λ q. phase_of (put w (Node id) h st.view) q h) (sym e.0) ∙ ap (phase_of (put w (Node id) h st.view) (Node i)) (sym e.1) ∙ e.2) (step_effect (Node id) h a (phase_of w (Node id) h) (row_of w h) (segment_of w h) w.counter st.view st.is).change)
  | inr e ↦ inr (λ x y. e.0 (ap Node x) y, e.1)
])

-- no peer moves a node
pub peer_places : (w v : World) (id : ℕ) (h : ServiceHash) (a : Act) → AllowedStep w v (Peer id) h a → (i : ℕ) (g : ServiceHash) → phase_of v (Node i) g ≡ phase_of w (Node i) g
peer_places w v id h a st i g = subst (λ (u : World). phase_of u (Node i) g ≡ phase_of w (Node i) g) st.world (elim (place_cases w (Peer id) h st.view (Node i) g) [
  | inl e ↦ absurd (not_peer i id e.0)
  | inr e ↦ e.1
])

pub step_tickets : (w v : World) (p : Participant) (h : ServiceHash) (a : Act) → AllowedStep w v p h a → v.tickets ≡ w.tickets
step_tickets w v p h a st = subst (λ (u : World). u.tickets ≡ w.tickets) st.world refl

pub step_counter : (w v : World) (p : Participant) (h : ServiceHash) (a : Act) → AllowedStep w v p h a → w.counter ≤ v.counter
step_counter w v p h a st = subst (λ (u : World). w.counter ≤ u.counter) st.world (step_effect p h a (phase_of w p h) (row_of w h) (segment_of w h) w.counter st.view st.is).rises

-- Each lock of the new world is an old one, or the step's with the counter as number.
pub step_locks : (w v : World) (p : Participant) (h : ServiceHash) (a : Act) → AllowedStep w v p h a → (g : ServiceHash) (n : ℕ) → row_of v g ≡ Some (row.Locked n) → (row_of w g ≡ Some (row.Locked n)) ⊎ ((g ≡ h) × (n ≡ w.counter) × (n < v.counter))
step_locks w v p h a st g n = subst (λ (u : World). row_of u g ≡ Some (row.Locked n) → (row_of w g ≡ Some (row.Locked n)) ⊎ ((g ≡ h) × (n ≡ w.counter) × (n < u.counter))) st.world (λ l. elim (set_cases hash_total hash_exact w.rows h st.view.row g) [
  | inl e ↦ elim ((step_effect p h a (phase_of w p h) (row_of w h) (segment_of w h) w.counter st.view st.is).locks n (sym e.1 ∙ l)) [
    | inl same ↦ inl (ap (row_of w) e.0 ∙ same)
    | inr new ↦ inr (e.0, new.0, grind (arith, new.1))
  ]
  | inr e ↦ inl (sym e.1 ∙ l)
])

pub is_none : (o : Option Ticket) → ((x : Ticket) → o ≡ Some x → ⊥) → o ≡ None
is_none None f = refl
is_none (Some x) f = absurd (f x refl)

pub step_numbered : (w v : World) (p : Participant) (h : ServiceHash) (a : Act) → AllowedStep w v p h a → AgreesEverywhere w → AgreesOnNumbers w → AgreesOnNumbers v
step_numbered w v p h a st each old =
    let tickets = step_tickets w v p h a st in
    let rises = step_counter w v p h a st in
    let locks = step_locks w v p h a st in
    let was : (t : ℕ) (x : Ticket) → ticket_of v t ≡ Some x → ticket_of w t ≡ Some x = λ t x e. ap (λ m. map.get m t) (sym tickets) ∙ e in
    record {
      below = λ t x e. grind (arith, rises, old.below t x (was t x e));
      apart = λ g k n x y. elim (locks g n x) [
        | inl i ↦ elim (locks k n y) [
          | inl j ↦ old.apart g k n i j
          | inr j ↦ absurd (grind (arith, (each g).row_below (row.Locked n) i, j.1))
        ]
        | inr i ↦ elim (locks k n y) [
          | inl j ↦ absurd (grind (arith, (each k).row_below (row.Locked n) j, i.1))
          | inr j ↦ i.0 ∙ sym j.0
        ]
      ];
      free = λ g n l. elim (locks g n l) [
        | inl i ↦ ap (λ m. map.get m n) tickets ∙ old.free g n i
        | inr i ↦ is_none _ (λ x e. grind (arith, old.below n x (was n x e), i.1))
      ];
    }

-- a ticket more
numbered_more : (w v : World) (t : ℕ) (x : Ticket) → v.tickets ≡ map.insert w.tickets t x → v.rows ≡ w.rows → w.counter ≤ v.counter → t < v.counter → ((g : ServiceHash) → row_of w g ≢ Some (row.Locked t)) → AgreesOnNumbers w → AgreesOnNumbers v
numbered_more w v t x tickets rows rises below free old =
    let lock : (g : ServiceHash) (n : ℕ) → row_of v g ≡ Some (row.Locked n) → row_of w g ≡ Some (row.Locked n) = λ g n e. ap (λ m. map.get m g) (sym rows) ∙ e in
    let from : (s : ℕ) (y : Ticket) → ticket_of v s ≡ Some y → (s ≡ t) ⊎ (ticket_of w s ≡ Some y) = λ s y e. elim (set_cases nat_cmp_total exact_unsigned w.tickets t (Some x) s) [
      | inl i ↦ inl i.0
      | inr i ↦ inr (sym i.1 ∙ ap (λ m. map.get m s) (sym tickets) ∙ e)
    ] in
    record {
      below = λ s y e. elim (from s y e) [ inl i ↦ grind (arith, below) | inr i ↦ grind (arith, rises, old.below s y i) ];
      apart = λ g k n a b. old.apart g k n (lock g n a) (lock k n b);
      free = λ g n l. is_none _ (λ y e. elim (from n y e) [ inl i ↦ free g (lock g n l ∙ ap (λ m. Some (row.Locked m)) i) | inr i ↦ let gone = old.free g n (lock g n l) in cc ]);
    }

numbered_less : (w v : World) (t : ℕ) (x : Ticket) → ticket_of w t ≡ Some x → v.tickets ≡ map.remove w.tickets t → v.rows ≡ w.rows → w.counter ≤ v.counter → AgreesOnNumbers w → AgreesOnNumbers v
numbered_less w v t x there tickets rows rises old =
    let lock : (g : ServiceHash) (n : ℕ) → row_of v g ≡ Some (row.Locked n) → row_of w g ≡ Some (row.Locked n) = λ g n e. ap (λ m. map.get m g) (sym rows) ∙ e in
    let from : (s : ℕ) (y : Ticket) → ticket_of v s ≡ Some y → ticket_of w s ≡ Some y = λ s y e. elim (set_cases nat_cmp_total exact_unsigned w.tickets t None s) [
      | inl i ↦ let none : ticket_of v s ≡ None = ap (λ m. map.get m s) tickets ∙ i.1 in absurd (cc)
      | inr i ↦ sym i.1 ∙ ap (λ m. map.get m s) (sym tickets) ∙ e
    ] in
    record {
      below = λ s y e. grind (arith, rises, old.below s y (from s y e));
      apart = λ g k n a b. old.apart g k n (lock g n a) (lock k n b);
      free = λ g n l. is_none _ (λ y e. let was = from n y e in let gone = old.free g n (lock g n l) in cc);
    }

-- any step keeps all but the tickets of nodes
pub bare_keeps : EachStepKeeps
bare_keeps w v p h a ok e each numbered =
    let kept = after_keeps w v p h a ok e each in
    (kept.0, step_numbered w v p h a (allowed_step w v p h a e) each numbered, kept.1)

-- a step of a peer keeps all
pub peer_keeps : (w v : World) (id : ℕ) (h : ServiceHash) (a : Act) → IsAct a → world_after w (Peer id) h a ≡ Some v → KeepsAgreement w v
peer_keeps w v id h a ok e old =
    let st = allowed_step w v (Peer id) h a e in
    let kept = after_keeps w v (Peer id) h a ok e old.everywhere in (
      record {
        everywhere = kept.0;
        numbered = step_numbered w v (Peer id) h a st old.everywhere old.numbered;
        held = held_same w v (step_tickets w v (Peer id) h a st) (λ i g. let same = peer_places w v id h a st i g in (ap join_count same, ap joined_number same)) old.held;
      },
      kept.1,
    )

-- a node's step that counts nothing
pub idle_keeps : (w v : World) (id : ℕ) (h : ServiceHash) (a : Act) → IsAct a → ((x y : Phase) → PhaseChange a x y → Idles x y) → world_after w (Node id) h a ≡ Some v → KeepsAgreement w v
idle_keeps w v id h a ok idle e old =
    let st = allowed_step w v (Node id) h a e in
    let kept = after_keeps w v (Node id) h a ok e old.everywhere in
    let places = step_places w v id h a st in (
      record {
        everywhere = kept.0;
        numbered = step_numbered w v (Node id) h a st old.everywhere old.numbered;
        held = held_same w v (step_tickets w v (Node id) h a st) (λ i g. elim (places i g) [
          | inl p ↦ let c = idle _ _ p.2 in subst (λ j. (join_count (phase_of v (Node j) g) ≡ join_count (phase_of w (Node j) g)) × (joined_number (phase_of v (Node j) g) ≡ joined_number (phase_of w (Node j) g))) (sym p.0) (subst (λ f. (join_count (phase_of v (Node id) f) ≡ join_count (phase_of w (Node id) f)) × (joined_number (phase_of v (Node id) f) ≡ joined_number (phase_of w (Node id) f))) (sym p.1) (c.now ∙ sym c.before, c.still ∙ sym c.unjoined))
          | inr p ↦ (ap join_count p.1, ap joined_number p.1)
        ]) old.held;
      },
      kept.1,
    )

-- a node's step by which it gains a use, with a new ticket
pub gain_keeps : (w u : World) (id : ℕ) (h : ServiceHash) (a : Act) (n t c : ℕ) → IsAct a → ((x y : Phase) → PhaseChange a x y → Gains x y) → world_after w (Node id) h a ≡ Some u → phase_number (phase_of w (Node id) h) ≡ Some n → ticket_of w t ≡ None → t < c → u.counter ≤ c → ((g : ServiceHash) → row_of u g ≢ Some (row.Locked t)) → KeepsAgreement w (ticket_put (record u { counter = c }) t (record { node = id; hash = h; number = n }))
gain_keeps w u id h a n t c ok gain e is fresh below rises free old =
    let st = allowed_step w u (Node id) h a e in
    let kept = after_keeps w u (Node id) h a ok e old.everywhere in
    let places = step_places w u id h a st in
    let tickets = step_tickets w u (Node id) h a st in
    let mine : Ticket = record { node = id; hash = h; number = n } in
    let v : World = ticket_put (record u { counter = c }) t mine in
    let gains : Places w v id h Gains = λ i g. elim (places i g) [ inl p ↦ inl (p.0, p.1, gain _ _ p.2) | inr p ↦ inr p ] in
    let here : joined_number (phase_of v (Node id) h) ≡ Some n = elim (gains id h) [ inl p ↦ p.2.number ∙ is | inr p ↦ absurd (p.0 refl refl) ] in (
      record {
        everywhere = λ g. AgreesAt-later u.counter c g (row_of u g) (segment_of u g) (λ q. phase_of u q g) rises (kept.0 g);
        numbered = numbered_more u v t mine refl refl rises below free (step_numbered w u (Node id) h a st old.everywhere old.numbered);
        held = held_more w v id h n t fresh (ap (λ m. map.insert m t mine) tickets) gains here old.held;
      },
      record { counter = grind (arith, kept.1.counter, rises); rows = kept.1.rows },
    )

pub lose_keeps : (w u : World) (id : ℕ) (h : ServiceHash) (n t : ℕ) → world_after w (Node id) h act.Leave ≡ Some u → ticket_of w t ≡ Some (record { node = id; hash = h; number = n }) → KeepsAgreement w (ticket_removed u t)
lose_keeps w u id h n t e there old =
    let st = allowed_step w u (Node id) h act.Leave e in
    let kept = after_keeps w u (Node id) h act.Leave tt e old.everywhere in
    let tickets = step_tickets w u (Node id) h act.Leave st in (
      record {
        everywhere = kept.0;
        numbered = numbered_less u (ticket_removed u t) t (record { node = id; hash = h; number = n }) (ap (λ m. map.get m t) tickets ∙ there) refl refl (omega arith) (step_numbered w u (Node id) h act.Leave st old.everywhere old.numbered);
        held = held_less w (ticket_removed u t) id h n t there (ap (λ m. map.remove m t) tickets) (step_places w u id h act.Leave st) old.held;
      },
      record { counter = kept.1.counter; rows = kept.1.rows },
    )
