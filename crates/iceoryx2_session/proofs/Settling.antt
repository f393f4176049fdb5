-- The slots' factories stand while a node gives back what it owes besides.
use Rattle.std.proofs.Common.{◌≡◌, ◌∷◌, ℕ, zero, suc, Bool, true, false, List, [], Option, Some, None, Result, inr, refl, sym, ap}
use Rattle.std.specs.Prelude.{◌||◌, nat_eq}
use Rattle.std.proofs.lemmas.Bool.{eq-eqb}
use Rattle.iceoryx2_access.specs.Registered.{Registered}
use Rattle.iceoryx2_world.specs.World.{World}
use Rattle.iceoryx2_world.specs.Agreement.{Agrees}
use Rattle.iceoryx2_journal.specs.declared.cleaning.Cleaned.{Cleaned}
use Rattle.iceoryx2_journal.specs.declared.cleaning.CleanError.{CleanError}
use Rattle.iceoryx2_journal.specs.Owed.{is_among, SettlesInWorld}
use Rattle.iceoryx2_journal.proofs.Settled.{settled_stands}
use Rattle.iceoryx2_session.specs.Slots.{HoldsAt, tickets_of}
use Rattle.iceoryx2_session.specs.StandingSlots.{SlotsStandUnder}
use Rattle.iceoryx2_session.proofs.SlotLists.{same_factory}

or_first : (a b : Bool) → a ≡ true → (a || b) ≡ true
or_first true b e = refl
or_first false b e = absurd (cc)

or_second : (a b : Bool) → b ≡ true → (a || b) ≡ true
or_second true b e = refl
or_second false b e = e

-- the ticket of what a slot holds is among theirs
pub held_among : (slots : List (Option Registered)) (k : ℕ) (f : Registered) → HoldsAt slots k f → is_among (tickets_of slots) f.ticket ≡ true
held_among [] k f at = absurd (cc)
held_among (None ∷ slots) zero f at = absurd (cc)
held_among (Some g ∷ slots) zero f at =
    or_first (nat_eq f.ticket g.ticket) _ (eq-eqb f.ticket g.ticket (ap (λ (u : Registered). u.ticket) (sym (same_factory g f (cc)))))
held_among (None ∷ slots) (suc k) f at = held_among slots k f at
held_among (Some g ∷ slots) (suc k) f at = or_second (nat_eq f.ticket g.ticket) _ (held_among slots k f at)

pub settled_slots : (own : ℕ → Bool) (i : ℕ) (slots : List (Option Registered)) (w v : World) (r : Result Cleaned CleanError) → SettlesInWorld own i (tickets_of slots) r w v
    → Agrees w → SlotsStandUnder own w slots → SlotsStandUnder own v slots
settled_slots own i slots w v r settles agrees old = record {
  of_own = old.of_own;
  stand = λ k f at. settled_stands i (tickets_of slots) own w v r settles f (old.of_own k f at) (inr (held_among slots k f at)) agrees (old.stand k f at);
  apart = old.apart;
}
