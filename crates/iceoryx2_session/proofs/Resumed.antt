-- The slots of a session that goes on.
use Rattle.std.proofs.Common.{◌≡◌, ◌<◌, ◌≤◌, ◌+◌, ◌⊎◌, ℕ, zero, suc, Bool, List, Option, Some, None, inl, inr, length, refl, sym, ap, subst, ◌∙◌, arith}
use Rattle.std.specs.Option.{option_flatten}
use Rattle.std.specs.Prelude.{is_some}
use Rattle.iceoryx2_access.specs.Registered.{Registered}
use Rattle.iceoryx2_world.specs.World.{World, ticket_of}
use Rattle.iceoryx2_world.specs.Agreement.{Agrees}
use Rattle.iceoryx2_world.specs.ServiceAgreement.{Later}
use Rattle.iceoryx2_world.specs.Standing.{ticket_for}
use Rattle.iceoryx2_world.proofs.agreement.Stands.{stands_by_ticket}
use Rattle.iceoryx2_builder.specs.Commands.{slot_count}
use Rattle.iceoryx2_session.specs.Resumed.{HaveTickets}
use Rattle.iceoryx2_session.specs.Slots.{HoldsAt, held_at}
use Rattle.iceoryx2_session.specs.StandingSlots.{SlotsStandUnder}
use Rattle.iceoryx2_session.proofs.SlotLists.{held_below, no_factory, same_factory}

below_next : (k n : ℕ) → k < suc n → (k < n) ⊎ (k ≡ n)
below_next zero zero lt = inr refl
below_next zero (suc n) lt = inl (omega arith)
below_next (suc k) zero lt = absurd (omega (arith, lt))
below_next (suc k) (suc n) lt = elim (below_next k n (omega (arith, lt))) [
  | inl a ↦ inl (omega (arith, a))
  | inr e ↦ inr (ap suc e)
]

module _ (w : World) (slots : List (Option Registered)) where
  -- The factories of the first slots have their tickets.
  abbrev pub HaveFirst : ℕ → Type 0
  HaveFirst n = (k : ℕ) (f : Registered) → k < n → HoldsAt slots k f → ticket_of w f.ticket ≡ Some (ticket_for f)

  -- So they have, and once a slot was looked at it is known how many there are.
  pub record Looked (n : ℕ) : Type 0 where
    pub have : HaveFirst n
    pub long : 0 < n → length slots ≡ slot_count

  pub looked_none : Looked 0
  looked_none = record { have = λ k f lt at. absurd (omega (arith, lt)); long = λ lt. absurd (omega (arith, lt)) }

  -- what a slot holds
  held : (k : ℕ) (f : Registered) → HoldsAt slots k f → held_at slots k ≡ Some f
  held k f at = ap option_flatten at

  have_free : (n m : ℕ) → m ≡ n + 1 → held_at slots n ≡ None → HaveFirst n → HaveFirst m
  have_free n m is free before k f lt at = elim (below_next k n (omega (arith, lt, is))) [
    | inl less ↦ before k f less at
    | inr same ↦ absurd (no_factory f (sym (subst (λ (i : ℕ). held_at slots i ≡ None) (sym same) free) ∙ held k f at))
  ]

  pub looked_free : (n m : ℕ) → m ≡ n + 1 → length slots ≡ slot_count → held_at slots n ≡ None → Looked n → Looked m
  looked_free n m is long free before = record { have = have_free n m is free before.have; long = λ lt. long }

  have_next : (n m : ℕ) (g : Registered) → m ≡ n + 1 → held_at slots n ≡ Some g → ticket_of w g.ticket ≡ Some (ticket_for g) → HaveFirst n → HaveFirst m
  have_next n m g is at_n has before k f lt at = elim (below_next k n (omega (arith, lt, is))) [
    | inl less ↦ before k f less at
    | inr same ↦ subst (λ (h : Registered). ticket_of w h.ticket ≡ Some (ticket_for h)) (same_factory g f (sym (subst (λ (i : ℕ). held_at slots i ≡ Some g) (sym same) at_n) ∙ held k f at)) has
  ]

  pub looked_next : (n m : ℕ) (g : Registered) → m ≡ n + 1 → length slots ≡ slot_count → held_at slots n ≡ Some g → ticket_of w g.ticket ≡ Some (ticket_for g)
      → Looked n → Looked m
  looked_next n m g is long at has before = record { have = have_next n m g is at has before.have; long = λ lt. long }

  pub looked_all : (n : ℕ) → slot_count ≤ n → Looked n → HaveTickets w slots
  looked_all n all l k f at = l.have k f (omega (arith, all, l.long (omega (arith, all)), held_below slots k (ap is_some (held k f at)))) at

-- Where they have them in a later world that agrees, they stand there.
pub stand_again : {own : ℕ → Bool} {w v : World} {slots : List (Option Registered)} → Agrees v × Later w v → HaveTickets v slots
    → SlotsStandUnder own w slots → SlotsStandUnder own v slots
stand_again {w = w} {v = v} kept have old = record {
  of_own = old.of_own;
  stand = λ k f at. stands_by_ticket w v f kept.1 (old.stand k f at).limits (old.stand k f at).row kept.0 (have k f at);
  apart = old.apart;
}
