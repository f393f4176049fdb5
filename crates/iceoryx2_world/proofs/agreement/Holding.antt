-- Tickets and phases change together.
use Rattle.std.proofs.Common.{◌≡◌, ℕ, ◌+◌, ◌≤◌, ◌⊎◌, inl, inr, Some, None, sym, ap, subst, ◌∙◌, arith}
use Rattle.std.specs.FinMap as map
use Rattle.std.proofs.lemmas.Cmp.{nat_cmp_total}
use Rattle.std.proofs.lemmas.Map.Lookups.{exact_unsigned}
use Rattle.iceoryx2_description.specs.declared.description.ServiceHash.{ServiceHash}
use Rattle.iceoryx2_world.specs.declared.world.Participant.TheVariants.{Node}
use Rattle.iceoryx2_world.specs.declared.world.Phase.{Phase}
use Rattle.iceoryx2_world.specs.declared.world.Ticket.{Ticket}
use Rattle.iceoryx2_world.specs.World.{World, phase_of, joined_number, ticket_of, join_count, belongs, ticket_count}
use Rattle.iceoryx2_world.specs.Agreement.{AgreesOnTickets}
use Rattle.iceoryx2_world.proofs.agreement.Maps.{set_cases}
use Rattle.iceoryx2_world.proofs.agreement.Effects.{Gains, Loses}
use Rattle.iceoryx2_world.proofs.agreement.Tickets.{one_if, count_insert, count_remove, belongs_own, belongs_other, one_or_more}

-- how the places of nodes change, where only one does
abbrev pub Places : World → World → ℕ → ServiceHash → (Phase → Phase → Type 0) → Type 0
Places w v id h Changes = (i : ℕ) (g : ServiceHash) → ((i ≡ id) × (g ≡ h) × Changes (phase_of w (Node id) h) (phase_of v (Node id) h)) ⊎ (((i ≡ id) → (g ≡ h) → ⊥) × (phase_of v (Node i) g ≡ phase_of w (Node i) g))

-- nothing of tickets changes
pub held_same : (w v : World) → v.tickets ≡ w.tickets → ((i : ℕ) (g : ServiceHash) → (join_count (phase_of v (Node i) g) ≡ join_count (phase_of w (Node i) g)) × (joined_number (phase_of v (Node i) g) ≡ joined_number (phase_of w (Node i) g))) → AgreesOnTickets w → AgreesOnTickets v
held_same w v tickets phases held = record {
  number = λ t x e. (phases x.node x.hash).1 ∙ held.number t x (sym (ap (λ m. map.get m t) tickets) ∙ e);
  count = λ i g. ap (λ m. ticket_count m i g) tickets ∙ held.count i g ∙ sym (phases i g).0;
}

module _ (w v : World) (id : ℕ) (h : ServiceHash) (n t : ℕ) where
  abbrev mine : Ticket
  mine = record { node = id; hash = h; number = n }

  not_mine : (i : ℕ) (g : ServiceHash) → ((i ≡ id) → (g ≡ h) → ⊥) → one_if (belongs i g (t, mine)) ≡ 0
  not_mine i g apart = ap (λ b. one_if b) (belongs_other i g t mine (λ a b. apart (sym a) (sym b)))

  -- a new ticket, and a use more
  pub held_more : ticket_of w t ≡ None → v.tickets ≡ map.insert w.tickets t mine → Places w v id h Gains → joined_number (phase_of v (Node id) h) ≡ Some n → AgreesOnTickets w → AgreesOnTickets v
  held_more fresh tickets places number held =
      let counts : (i : ℕ) (g : ServiceHash) → ticket_count v.tickets i g ≡ one_if (belongs i g (t, mine)) + ticket_count w.tickets i g = λ i g. ap (λ m. ticket_count m i g) tickets ∙ count_insert w.tickets t mine i g fresh in
      record {
        number = λ s x e. elim (set_cases nat_cmp_total exact_unsigned w.tickets t (Some mine) s) [
          | inl is ↦ let here = ap (λ m. map.get m s) tickets ∙ is.1 in let same : x ≡ mine = cc in subst (λ (y : Ticket). joined_number (phase_of v (Node y.node) y.hash) ≡ Some y.number) (sym same) number
          | inr is ↦ let was = held.number s x (sym is.1 ∙ sym (ap (λ m. map.get m s) tickets) ∙ e) in elim (places x.node x.hash) [
            | inl p ↦ subst (λ i. joined_number (phase_of v (Node i) x.hash) ≡ Some x.number) (sym p.0) (subst (λ g. joined_number (phase_of v (Node id) g) ≡ Some x.number) (sym p.1) (p.2.same x.number (subst (λ g. joined_number (phase_of w (Node id) g) ≡ Some x.number) p.1 (subst (λ i. joined_number (phase_of w (Node i) x.hash) ≡ Some x.number) p.0 was))))
            | inr p ↦ ap joined_number p.1 ∙ was
          ]
        ];
        count = λ i g. elim (places i g) [
          | inl p ↦ subst (λ j. ticket_count v.tickets j g ≡ join_count (phase_of v (Node j) g)) (sym p.0) (subst (λ f. ticket_count v.tickets id f ≡ join_count (phase_of v (Node id) f)) (sym p.1) (let here = counts id h ∙ ap (λ b. one_if b + ticket_count w.tickets id h) (belongs_own id h t n) in omega (arith, held.count id h, p.2.count)))
          | inr p ↦ omega (arith, counts i g, not_mine i g p.0, held.count i g, ap join_count p.1)
        ];
      }

  -- a ticket goes, and a use with it
  pub held_less : ticket_of w t ≡ Some mine → v.tickets ≡ map.remove w.tickets t → Places w v id h Loses → AgreesOnTickets w → AgreesOnTickets v
  held_less there tickets places held =
      let counts : (i : ℕ) (g : ServiceHash) → ticket_count w.tickets i g ≡ one_if (belongs i g (t, mine)) + ticket_count v.tickets i g = λ i g. count_remove w.tickets t mine i g there ∙ ap (λ m. one_if (belongs i g (t, mine)) + ticket_count m i g) (sym tickets) in
      let here : ticket_count w.tickets id h ≡ 1 + ticket_count v.tickets id h = counts id h ∙ ap (λ b. one_if b + ticket_count v.tickets id h) (belongs_own id h t n) in
      let left : Loses (phase_of w (Node id) h) (phase_of v (Node id) h) → ticket_count v.tickets id h ≡ join_count (phase_of v (Node id) h) = λ l. omega (arith, here, held.count id h, l.count (omega (arith, here, held.count id h))) in
      record {
        number = λ s x e. elim (set_cases nat_cmp_total exact_unsigned w.tickets t None s) [
          | inl is ↦ let gone = ap (λ m. map.get m s) tickets ∙ is.1 in absurd (cc)
          | inr is ↦ let was = held.number s x (sym is.1 ∙ sym (ap (λ m. map.get m s) tickets) ∙ e) in elim (places x.node x.hash) [
            | inl p ↦ let then : joined_number (phase_of w (Node id) h) ≡ Some x.number = subst (λ g. joined_number (phase_of w (Node id) g) ≡ Some x.number) p.1 (subst (λ i. joined_number (phase_of w (Node i) x.hash) ≡ Some x.number) p.0 was) in
                let now : joined_number (phase_of v (Node id) h) ≡ Some x.number = elim p.2.same [
                  | inl zero ↦ let some : 1 ≤ ticket_count v.tickets id h = subst (λ i. 1 ≤ ticket_count v.tickets i h) p.0 (subst (λ g. 1 ≤ ticket_count v.tickets x.node g) p.1 (one_or_more v.tickets s x.node x.hash x.number e)) in absurd (omega (arith, left p.2, zero))
                  | inr same ↦ same ∙ then
                ] in
                subst (λ i. joined_number (phase_of v (Node i) x.hash) ≡ Some x.number) (sym p.0) (subst (λ g. joined_number (phase_of v (Node id) g) ≡ Some x.number) (sym p.1) now)
            | inr p ↦ ap joined_number p.1 ∙ was
          ]
        ];
        count = λ i g. elim (places i g) [
          | inl p ↦ subst (λ j. ticket_count v.tickets j g ≡ join_count (phase_of v (Node j) g)) (sym p.0) (subst (λ f. ticket_count v.tickets id f ≡ join_count (phase_of v (Node id) f)) (sym p.1) (left p.2))
          | inr p ↦ omega (arith, counts i g, not_mine i g p.0, held.count i g, ap join_count p.1)
        ];
      }
