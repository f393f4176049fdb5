-- What a search for what a node owes finds, and what giving it back keeps.
use Rattle.std.proofs.Common.{◌≡◌, ℕ, zero, suc, ◌≤◌, Bool, true, false, List, Option, Some, None, refl, sym, ap, subst, ◌∙◌, arith}
use Rattle.std.specs.Prelude.{◌&&◌, ◌==◌, not, is_some}
use Rattle.std.specs.List.{find as first}
use Rattle.std.specs.FinMap as map
use Rattle.std.proofs.lemmas.Bool.{eqb-true, eq-eqb}
use Rattle.std.proofs.lemmas.Cmp.{nat_cmp_total}
use Rattle.std.proofs.lemmas.Map.Lookups.{exact_unsigned}
use Rattle.iceoryx2_description.specs.declared.description.ServiceHash.{ServiceHash}
use Rattle.iceoryx2_world.specs.declared.world.Ticket.{Ticket}
use Rattle.iceoryx2_world.specs.Orders.{tag_total, tag_exact}
use Rattle.iceoryx2_world.specs.Sets as set
use Rattle.iceoryx2_world.specs.World.{World, ticket_count, ticket_of, tag_of}
use Rattle.iceoryx2_table.specs.Holdings.{held_service}
use Rattle.iceoryx2_table.specs.declared.holdings.Holding.{Holding}
use Rattle.iceoryx2_table.specs.declared.holdings.Holding.TheVariants as holding
use Rattle.iceoryx2_table.proofs.Held.{both_of, finished, found_in, mapped, none_in, service_found, unmapped, with_node}
use Rattle.iceoryx2_journal.specs.Owed.{is_among, owed_tag, owed_ticket, IsOwed, IsOwedOrNone}

-- ---- what is found

not_so : (b : Bool) → not b ≡ true → b ≡ false
not_so false e = refl
not_so true e = absurd (cc)

so : (a b : Bool) → a ≡ true → (a && not b) ≡ false → b ≡ true
so true true e f = refl
so true false e f = absurd (cc)
so false b e f = absurd (cc)

and_not : (a b : Bool) → a ≡ true → (a && b) ≡ false → b ≡ false
and_not true b e f = f
and_not false b e f = absurd (cc)

some_left : (n : ℕ) → (n == 0) ≡ false → 1 ≤ n
some_left zero e = absurd (cc)
some_left (suc n) e = omega (arith)

module _ (w : World) (i : ℕ) (spared : List ℕ) where
  abbrev is_owed_ticket : ℕ × Ticket → Bool
  is_owed_ticket e = e.1.node == i && not (is_among spared e.0)

  abbrev is_owed_tag : (ℕ × ServiceHash) × Unit {0} → Bool
  is_owed_tag e = e.0.0 == i && ticket_count w.tickets i e.0.1 == 0

  ticket_by : (e : ℕ × Ticket) → map.get w.tickets e.0 ≡ Some e.1 → e.1.node ≡ i → is_among spared e.0 ≡ false → IsOwed w i spared (holding.Ticket e.0 e.1.hash e.1.number)
  ticket_by e there is other = (there ∙ ap (λ n. Some (with_node n e.1)) is, other)

  tag_by : (e : (ℕ × ServiceHash) × Unit {0}) → map.get w.tags e.0 ≡ Some e.1 → e.0.0 ≡ i → ticket_count w.tickets i e.0.1 ≡ 0 → IsOwed w i spared (holding.Tag e.0.1)
  tag_by e there is none = (subst (λ n. set.contains w.tags (n, e.0.1) ≡ true) is (ap is_some there), none)

  ticket_is : (h : Holding) → owed_ticket i spared (map.entries w.tickets) ≡ Some h → IsOwed w i spared h
  ticket_is h is =
      let m = mapped (λ e. holding.Ticket e.0 e.1.hash e.1.number) (first is_owed_ticket (map.entries w.tickets)) h is in
      let f = found_in nat_cmp_total is_owed_ticket w.tickets m.0 m.1 in
      let b = both_of _ _ f.1 in
      subst (λ x. IsOwed w i spared x) m.2 (ticket_by m.0 f.0 (eqb-true m.0.1.node i b.0) (not_so _ b.1))

  no_ticket : owed_ticket i spared (map.entries w.tickets) ≡ None → (t : ℕ) (x : Ticket) → ticket_of w t ≡ Some x → x.node ≡ i → is_among spared t ≡ true
  no_ticket is t x there e =
      let n = unmapped (λ e. holding.Ticket e.0 e.1.hash e.1.number) (first is_owed_ticket (map.entries w.tickets)) is in
      so (x.node == i) (is_among spared t) (eq-eqb x.node i e) (none_in nat_cmp_total is_owed_ticket w.tickets exact_unsigned n t x there)

  service_is : (h : Holding) → held_service i (map.entries w.phases) ≡ Some h → IsOwed w i spared h
  service_is h is =
      let found = service_found w i h is in
      subst (λ x. IsOwed w i spared x) found.1 (found.2, found.3)

  tag_is : (h : Holding) → owed_tag i w.tickets (map.entries w.tags) ≡ Some h → IsOwed w i spared h
  tag_is h is =
      let m = mapped (λ e. holding.Tag e.0.1) (first is_owed_tag (map.entries w.tags)) h is in
      let f = found_in tag_total is_owed_tag w.tags m.0 m.1 in
      let b = both_of _ _ f.1 in
      subst (λ x. IsOwed w i spared x) m.2 (tag_by m.0 f.0 (eqb-true m.0.0.0 i b.0) (eqb-true (ticket_count w.tickets i m.0.0.1) 0 b.1))

  tagged : (h : ServiceHash) (o : Option (Unit {0})) → ((x : Unit {0}) → o ≡ Some x → (i == i && ticket_count w.tickets i h == 0) ≡ false) → is_some o ≡ true → 1 ≤ ticket_count w.tickets i h
  tagged h None f there = absurd (cc)
  tagged h (Some x) f there = some_left (ticket_count w.tickets i h) (and_not (i == i) _ (eq-eqb i i refl) (f x refl))

  tags_have : owed_tag i w.tickets (map.entries w.tags) ≡ None → (h : ServiceHash) → tag_of w i h ≡ true → 1 ≤ ticket_count w.tickets i h
  tags_have is h there =
      let n = unmapped (λ e. holding.Tag e.0.1) (first is_owed_tag (map.entries w.tags)) is in
      tagged h (map.get w.tags (i, h)) (λ x at. none_in tag_total is_owed_tag w.tags tag_exact n (i, h) x at) there

  tag_or_none : (o : Option Holding) → owed_ticket i spared (map.entries w.tickets) ≡ None → held_service i (map.entries w.phases) ≡ None → owed_tag i w.tickets (map.entries w.tags) ≡ o → IsOwedOrNone w i spared o
  tag_or_none (Some h) none done is = tag_is h is
  tag_or_none None none done is = record { tickets = no_ticket none; finished = finished w i done; tags = tags_have is }

-- The three searches, by the first that finds something.
module _ (w : World) (i : ℕ) (spared : List ℕ) where
  pub by_ticket : {o : Option Holding} {h : Holding} → o ≡ owed_ticket i spared (map.entries w.tickets) → o ≡ Some h → IsOwedOrNone w i spared (Some h)
  by_ticket {o} {h} is some = ticket_is w i spared h (sym is ∙ some)

  pub by_service : {s : Option Holding} {h : Holding} → s ≡ held_service i (map.entries w.phases) → s ≡ Some h → IsOwedOrNone w i spared (Some h)
  by_service {s} {h} there some = service_is w i spared h (sym there ∙ some)

  pub by_tag : {o s t : Option Holding} → o ≡ owed_ticket i spared (map.entries w.tickets) → o ≡ None → s ≡ held_service i (map.entries w.phases) → s ≡ None → t ≡ owed_tag i w.tickets (map.entries w.tags) → IsOwedOrNone w i spared t
  by_tag {o} {s} {t} is has there ends tags = tag_or_none w i spared t (sym is ∙ has) (sym there ∙ ends) (sym tags)
