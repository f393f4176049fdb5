-- Worlds in which nothing is there agree.
use Rattle.std.proofs.Common.{◌≡◌, ℕ, List, [], ◌∷◌, None, refl, sym, ap, subst, ◌∙◌, arith}
use Rattle.std.specs.Prelude.{filter, length}
use Rattle.std.specs.FinMap as map
use Rattle.std.specs.Ordering.{nat_cmp}
use Rattle.iceoryx2_description.specs.declared.description.ServiceHash.{ServiceHash}
use Rattle.iceoryx2_world.specs.declared.world.Participant.{Participant}
use Rattle.iceoryx2_world.specs.declared.world.Participant.TheVariants.{Node}
use Rattle.iceoryx2_world.specs.declared.world.Phase.TheVariants as at
use Rattle.iceoryx2_world.specs.declared.world.Ticket.{Ticket}
use Rattle.iceoryx2_world.specs.Orders.{hash_cmp, place_cmp}
use Rattle.iceoryx2_world.specs.World.{row_of, segment_of, phase_of, or_idle, empty_world, ticket_of, belongs, ticket_count, join_count}
use Rattle.iceoryx2_world.specs.ServiceAgreement.{AgreesAt}
use Rattle.iceoryx2_world.specs.Agreement.{Agrees}

nothing_agrees : (c : ℕ) (h : ServiceHash) → AgreesAt c h None None (λ p. at.Idle)
nothing_agrees c h = record {
  row_below = λ x e. absurd (cc);
  segment_below = λ x e. absurd (cc);
  phase_below = λ p n e. absurd (cc);
  locked = λ p n e. absurd (cc);
  holder = λ n e. absurd (cc);
  one_holder = λ p q m n e g. absurd (cc);
  made = λ p n e. absurd (cc);
  joined = λ p n k e. absurd (cc);
  leaving = λ p n e. absurd (cc);
  cleared = λ p n e. absurd (cc);
  one_last = λ p q e g. absurd (cc);
  read_row = λ p n e g. cc;
  read_segment = λ p n x e g k l. absurd (cc);
  published = λ n b e. absurd (cc);
}

no_row : (c : ℕ) (h : ServiceHash) → row_of (empty_world c) h ≡ None
no_row c h = map.get-empty hash_cmp h

no_segment : (c : ℕ) (h : ServiceHash) → segment_of (empty_world c) h ≡ None
no_segment c h = map.get-empty hash_cmp h

all_idle : (c : ℕ) (p : Participant) (h : ServiceHash) → phase_of (empty_world c) p h ≡ at.Idle
all_idle c p h = ap or_idle (map.get-empty place_cmp (p, h))

no_ticket : (c : ℕ) (t : ℕ) → ticket_of (empty_world c) t ≡ None
no_ticket c t = map.get-empty nat_cmp t

none_pass : (i : ℕ) (h : ServiceHash) (es : List (ℕ × Ticket)) → length es ≡ 0 → length (filter (belongs i h) es) ≡ 0
none_pass i h [] e = refl
none_pass i h (x ∷ es) e = absurd (omega arith)

pub no_count : (c : ℕ) (i : ℕ) (h : ServiceHash) → ticket_count (empty_world c).tickets i h ≡ 0
no_count c i h = none_pass i h _ (sym (map.len-entries (map.empty {R = nat_cmp})) ∙ map.len-empty nat_cmp Ticket)

pub empty_agrees : (c : ℕ) → Agrees (empty_world c)
empty_agrees c = record {
  everywhere = λ h. let moved_along : ◌≡◌ {A = Type 0} (AgreesAt c h None None (λ p. at.Idle)) (AgreesAt c h (row_of (empty_world c) h) (segment_of (empty_world c) h) (λ p. phase_of (empty_world c) p h)) = λ i. AgreesAt c h (sym (no_row c h) i) (sym (no_segment c h) i) (λ p. sym (all_idle c p h) i) in subst (λ (X : Type 0). X) moved_along (nothing_agrees c h);
  numbered = record {
    below = λ t x e. let gone = no_ticket c t in absurd (cc);
    apart = λ g h n e f. let gone = no_row c g in absurd (cc);
    free = λ h n e. no_ticket c n;
  };
  held = record {
    number = λ t x e. let gone = no_ticket c t in absurd (cc);
    count = λ i h. no_count c i h ∙ sym (ap join_count (all_idle c (Node i) h));
  };
}
