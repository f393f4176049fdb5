-- How many tickets a node has for a service, after one more or one less.
use Rattle.std.proofs.Common.{◌≡◌, ℕ, ◌+◌, ◌≤◌, Bool, true, false, cond, Some, None, refl, sym, ap, ◌∙◌, arith}
use Rattle.std.specs.Prelude.{filter, length, ◌==◌, ◌&&◌}
use Rattle.std.specs.FinMap as map
use Rattle.std.specs.FinMap.{same_map, get-insert, get-remove, entries-insert}
use Rattle.std.specs.Ordering.{is_eq, eq_by_cmp, nat_cmp}
use Rattle.std.specs.Cmp.{Equal-is}
use Rattle.std.proofs.lemmas.Bool.Decides.{nat_tests}
use Rattle.std.proofs.lemmas.Cmp.{nat_cmp_total}
use Rattle.std.proofs.lemmas.Map.Lookups.{exact_unsigned}
use Rattle.iceoryx2_description.specs.declared.description.ServiceHash.{ServiceHash}
use Rattle.iceoryx2_world.specs.declared.world.Ticket.{Ticket}
use Rattle.iceoryx2_world.specs.Orders.{hash_cmp, hash_total, hash_exact}
use Rattle.iceoryx2_world.specs.World.{Tickets, belongs, ticket_count}
use Rattle.iceoryx2_world.proofs.agreement.Counts.{passing_put}
use Rattle.iceoryx2_world.proofs.agreement.Maps.{self}

abbrev pub one_if : Bool → ℕ
one_if b = cond b 1 0

pub count_insert : (k : Tickets) (t : ℕ) (x : Ticket) (i : ℕ) (h : ServiceHash) → map.get k t ≡ None → ticket_count (map.insert k t x) i h ≡ one_if (belongs i h (t, x)) + ticket_count k i h
count_insert k t x i h none = ap (λ es. length (filter (belongs i h) es)) (entries-insert nat_cmp_total k t x) ∙ passing_put nat_cmp (belongs i h) t x (map.entries k) (sym (map.get-entries k t) ∙ none)

removed_none : (k : Tickets) (t : ℕ) → map.get (map.remove k t) t ≡ None
removed_none k t = get-remove nat_cmp_total k t t ∙ ap (λ b. cond b None (map.get k t)) (self nat_cmp_total exact_unsigned t)

put_back : (k : Tickets) (t : ℕ) (x : Ticket) → map.get k t ≡ Some x → map.insert (map.remove k t) t x ≡ k
put_back k t x e = same_map nat_cmp_total exact_unsigned _ _ (λ q. get-insert nat_cmp_total (map.remove k t) t x q ∙
    elim (eq_by_cmp nat_cmp q t) as (λ b. eq_by_cmp nat_cmp q t ≡ b → cond b (Some x) (map.get (map.remove k t) q) ≡ map.get k q) [
      | true ↦ λ s. sym (ap (λ z. map.get k z) (exact_unsigned q t ((Equal-is (nat_cmp q t)).0 s)) ∙ e)
      | false ↦ λ s. get-remove nat_cmp_total k t q ∙ ap (λ b. cond b None (map.get k q)) s
    ] refl)

pub count_remove : (k : Tickets) (t : ℕ) (x : Ticket) (i : ℕ) (h : ServiceHash) → map.get k t ≡ Some x → ticket_count k i h ≡ one_if (belongs i h (t, x)) + ticket_count (map.remove k t) i h
count_remove k t x i h e = ap (λ m. ticket_count m i h) (sym (put_back k t x e)) ∙ count_insert (map.remove k t) t x i h (removed_none k t)

pub belongs_means : (i : ℕ) (h : ServiceHash) (t : ℕ) (x : Ticket) → belongs i h (t, x) ≡ true → (x.node ≡ i) × (x.hash ≡ h)
belongs_means i h t x e = elim (is_eq (hash_cmp x.hash h)) as (λ b. is_eq (hash_cmp x.hash h) ≡ b → (x.node == i && b) ≡ true → (x.node ≡ i) × (x.hash ≡ h)) [
  | true ↦ λ s n. (grind (arith, nat_tests), hash_exact x.hash h ((Equal-is (hash_cmp x.hash h)).0 s))
  | false ↦ λ s n. absurd (grind (arith, nat_tests))
] refl e

pub belongs_own : (i : ℕ) (h : ServiceHash) (t n : ℕ) → belongs i h (t, record { node = i; hash = h; number = n }) ≡ true
belongs_own i h t n = rw (self hash_total hash_exact h) (grind (arith, nat_tests))

not_true : (b : Bool) → (b ≡ true → ⊥) → b ≡ false
not_true true f = absurd (f refl)
not_true false f = refl

-- a ticket of another node or another service
pub belongs_other : (i : ℕ) (h : ServiceHash) (t : ℕ) (x : Ticket) → ((x.node ≡ i) → (x.hash ≡ h) → ⊥) → belongs i h (t, x) ≡ false
belongs_other i h t x apart = not_true _ (λ e. let m = belongs_means i h t x e in apart m.0 m.1)

-- who has a ticket has one or more
pub one_or_more : (k : Tickets) (t : ℕ) (i : ℕ) (h : ServiceHash) (n : ℕ) → map.get k t ≡ Some (record { node = i; hash = h; number = n }) → 1 ≤ ticket_count k i h
one_or_more k t i h n e = let is = count_remove k t _ i h e ∙ ap (λ b. one_if b + ticket_count (map.remove k t) i h) (belongs_own i h t n) in omega arith
