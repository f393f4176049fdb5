-- Where every ticket is below the counter, no node has more of them than the counter says.
use Rattle.std.proofs.Common.{◌≡◌, ◌≢◌, ℕ, zero, suc, ◌<◌, ◌≤◌, Bool, true, false, inl, inr, Option, Some, None, refl, sym, ap, ◌∙◌, arith}
use Rattle.std.specs.FinMap as map
use Rattle.std.specs.FinMap.{same_map}
use Rattle.std.specs.Ordering.{nat_cmp}
use Rattle.std.proofs.lemmas.Cmp.{nat_cmp_total}
use Rattle.std.proofs.lemmas.Map.Lookups.{exact_unsigned}
use Rattle.iceoryx2_description.specs.declared.description.ServiceHash.{ServiceHash}
use Rattle.iceoryx2_world.specs.declared.world.Ticket.{Ticket}
use Rattle.iceoryx2_world.specs.World.{World, Tickets, belongs, ticket_count}
use Rattle.iceoryx2_world.specs.Agreement.{AgreesOnNumbers}
use Rattle.iceoryx2_world.proofs.agreement.Maps.{set_cases}
use Rattle.iceoryx2_world.proofs.agreement.Worlds.{is_none}
use Rattle.iceoryx2_world.proofs.agreement.Empty.{no_count}
use Rattle.iceoryx2_world.proofs.agreement.Tickets.{one_if, count_remove}

under : (c t : ℕ) → t < suc c → t ≢ c → t < c
under c t less other = omega (arith, less, other)

abbrev AreBelow : ℕ → Tickets → Type 0
AreBelow c k = (t : ℕ) (x : Ticket) → map.get k t ≡ Some x → t < c

at_most_one : (b : Bool) → one_if b ≤ 1
at_most_one true = omega arith
at_most_one false = omega arith

-- without the ticket just below
less_below : (c : ℕ) (k : Tickets) → AreBelow (suc c) k → AreBelow c (map.remove k c)
less_below c k below t x e = elim (set_cases nat_cmp_total exact_unsigned k c None t) [
  | inl i ↦ let gone = i.1 in absurd (cc)
  | inr i ↦ under c t (below t x (sym i.1 ∙ e)) i.0
]

same_below : (c : ℕ) (k : Tickets) → AreBelow (suc c) k → map.get k c ≡ None → AreBelow c k
same_below c k below none t x e = under c t (below t x e) (λ same. let there : map.get k c ≡ Some x = ap (λ z. map.get k z) (sym same) ∙ e in absurd (cc))

-- by taking them out, the last one first
one_less : (c : ℕ) (k : Tickets) (i : ℕ) (h : ServiceHash) → AreBelow (suc c) k → ((m : Tickets) → AreBelow c m → ticket_count m i h ≤ c)
    → (o : Option Ticket) → map.get k c ≡ o → ticket_count k i h ≤ suc c
one_less c k i h below few None e = omega (arith, few k (same_below c k below e))
one_less c k i h below few (Some x) e = omega (arith, count_remove k c x i h e, at_most_one (belongs i h (c, x)), few (map.remove k c) (less_below c k below))

few_below : (c : ℕ) (k : Tickets) (i : ℕ) (h : ServiceHash) → AreBelow c k → ticket_count k i h ≤ c
few_below zero k i h below =
    let all_gone : k ≡ map.empty = same_map nat_cmp_total exact_unsigned k map.empty (λ t. is_none (map.get k t) (λ x e. absurd (omega (arith, below t x e))) ∙ sym (map.get-empty {X = Ticket} nat_cmp t)) in
    let nothing : ticket_count k i h ≡ 0 = ap (λ m. ticket_count m i h) all_gone ∙ no_count 0 i h in
    omega (arith, nothing)
few_below (suc c) k i h below = one_less c k i h below (λ m fits. few_below c m i h fits) (map.get k c) refl

pub few_tickets : (w : World) → AgreesOnNumbers w → (i : ℕ) (h : ServiceHash) → ticket_count w.tickets i h ≤ w.counter
few_tickets w numbered i h = few_below w.counter w.tickets i h numbered.below
