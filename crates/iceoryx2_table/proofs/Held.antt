-- What a search finds among a map's entries, and so what a node has.
use Rattle.std.proofs.Common.{◌≡◌, ◌≢◌, ℕ, Bool, true, false, cond, List, [], ◌∷◌, Option, Some, None, refl, sym, ap, subst, ◌∙◌}
use Rattle.std.specs.Prelude.{T, ◌&&◌, ◌==◌, is_some, unwrap_or}
use Rattle.std.specs.List.{find as first}
use Rattle.std.specs.FinMap as map
use Rattle.std.specs.FinMap.Entries.{find, is_sorted, below_all}
use Rattle.std.specs.Option.{option_map}
use Rattle.std.specs.Ordering.{eq_by_cmp, is_lt, is_eq, ordering_reverse}
use Rattle.std.specs.Cmp.{IsTotalOrder, Equal-is, tied_itself}
use Rattle.std.specs.declared.cmp.Ordering.{Ordering}
use Rattle.std.specs.declared.cmp.Ordering.TheVariants.{Less, Equal, Greater}
use Rattle.std.proofs.lemmas.Bool.{eqb-true, eq-eqb}
use Rattle.std.proofs.lemmas.Cmp.{nat_cmp_total}
use Rattle.std.proofs.lemmas.Map.Lookups.{exact_unsigned}
use Rattle.iceoryx2_description.specs.declared.description.ServiceHash.{ServiceHash}
use Rattle.iceoryx2_world.specs.declared.world.Participant.{Participant}
use Rattle.iceoryx2_world.specs.declared.world.Participant.TheVariants.{Node}
use Rattle.iceoryx2_world.specs.declared.world.Phase.{Phase}
use Rattle.iceoryx2_world.specs.declared.world.Ticket.{Ticket}
use Rattle.iceoryx2_world.specs.Orders.{participant_cmp, participant_total, participant_exact, place_total, place_exact, tag_total, tag_exact}
use Rattle.iceoryx2_world.specs.Sets as set
use Rattle.iceoryx2_world.specs.World.{World, or_idle, phase_of}
use Rattle.iceoryx2_table.specs.Holdings.{is_unfinished, held_ticket, held_service, held_tag, HasNoTicket, HasFinished, HasNoTag, IsHolding}
use Rattle.iceoryx2_table.specs.declared.holdings.Holding.{Holding}
use Rattle.iceoryx2_table.specs.declared.holdings.Holding.TheVariants as holding

pub less_of : (o : Ordering) → T (is_lt o) → o ≡ Less
less_of Less h = refl
less_of Equal h = absurd h
less_of Greater h = absurd h

pub parts : (a b : Bool) → T (a && b) → T a × T b
parts true b h = (tt, h)
parts false b h = absurd h

pub some_is : {A : Type 0} (x y : A) → Some x ≡ Some y → x ≡ y
some_is x y e = ap (λ o. unwrap_or o x) e

pub not_some : {A : Type 0} {P : Type 0} (x : A) → None ≡ Some x → P
not_some x e = absurd (cc)

module _ {K X : Type 0} {R : K → K → Ordering} (o : IsTotalOrder R) (p : K × X → Bool) where
  -- what is found among entries of greater keys has a greater key
  above : (q : K) (e : K × X) (es : List (K × X)) → T (below_all R q es) → first p es ≡ Some e → R q e.0 ≡ Less
  above q e [] h is = not_some e is
  above q e (f ∷ es) h is =
      let b = parts _ _ h in
      elim (p f) as (λ (t : Bool). cond t (Some f) (first p es) ≡ Some e → R q e.0 ≡ Less) [
        | true ↦ λ s. subst (λ (x : K × X). R q x.0 ≡ Less) (some_is f e s) (less_of (R q f.0) b.0)
        | false ↦ λ s. above q e es b.1 s
      ] is

  -- it stands at its key
  found : (e : K × X) (es : List (K × X)) → T (is_sorted R es) → first p es ≡ Some e → find R e.0 es ≡ Some e.1
  found e [] h is = not_some e is
  found e (f ∷ es) h is =
      let b = parts _ _ h in
      elim (p f) as (λ (t : Bool). cond t (Some f) (first p es) ≡ Some e → find R e.0 (f ∷ es) ≡ Some e.1) [
        | true ↦ λ s. subst (λ (x : K × X). find R x.0 (f ∷ es) ≡ Some x.1) (some_is f e s)
            (ap (λ (r : Ordering). cond (is_eq r) (Some f.1) (find R f.0 es)) (tied_itself o f.0))
        | false ↦ λ s.
            let more = above f.0 e es b.0 s in
            let greater : R e.0 f.0 ≡ Greater = o.antisymm e.0 f.0 ∙ ap ordering_reverse more in
            ap (λ (r : Ordering). cond (is_eq r) (Some f.1) (find R e.0 es)) greater ∙ found e es b.1 s
      ] is

  passes : (e : K × X) (es : List (K × X)) → first p es ≡ Some e → p e ≡ true
  passes e [] is = not_some e is
  passes e (f ∷ es) is =
      elim (p f) as (λ (t : Bool). p f ≡ t → cond t (Some f) (first p es) ≡ Some e → p e ≡ true) [
        | true ↦ λ t s. subst (λ (x : K × X). p x ≡ true) (some_is f e s) t
        | false ↦ λ t s. passes e es s
      ] refl is

  -- where nothing is found no entry passes
  none : (q : K) (x : X) (es : List (K × X)) → first p es ≡ None → find R q es ≡ Some x → (k : K) × (R q k ≡ Equal) × (p (k, x) ≡ false)
  none q x [] n is = not_some x is
  none q x (f ∷ es) n is =
      elim (p f) as (λ (t : Bool). p f ≡ t → cond t (Some f) (first p es) ≡ None → (k : K) × (R q k ≡ Equal) × (p (k, x) ≡ false)) [
        | true ↦ λ t s. not_some f (sym s)
        | false ↦ λ t s. elim (eq_by_cmp R q f.0) as (λ (b : Bool). eq_by_cmp R q f.0 ≡ b → cond b (Some f.1) (find R q es) ≡ Some x → (k : K) × (R q k ≡ Equal) × (p (k, x) ≡ false)) [
          | true ↦ λ b y. (f.0, (Equal-is (R q f.0)).0 b, subst (λ (z : X). p (f.0, z) ≡ false) (some_is f.1 x y) t)
          | false ↦ λ b y. none q x es s y
        ] refl is
      ] refl n

  module _ (m : map.FinMap R X) where
    pub found_in : (e : K × X) → first p (map.entries m) ≡ Some e → (map.get m e.0 ≡ Some e.1) × (p e ≡ true)
    found_in e is = (map.get-entries m e.0 ∙ found e (map.entries m) (map.entries_sorted m) is, passes e (map.entries m) is)

    pub none_in : ((a b : K) → R a b ≡ Equal → a ≡ b) → first p (map.entries m) ≡ None → (q : K) (x : X) → map.get m q ≡ Some x → p (q, x) ≡ false
    none_in exact n q x is =
        let a = none q x (map.entries m) n (sym (map.get-entries m q) ∙ is) in
        subst (λ (k : K). p (k, x) ≡ false) (sym (exact q a.0 a.1)) a.2

-- ---- what a node has

pub mapped : {A B : Type 0} (f : A → B) (o : Option A) (h : B) → option_map f o ≡ Some h → (e : A) × (o ≡ Some e) × (f e ≡ h)
mapped f None h is = not_some h is
mapped f (Some e) h is = (e, refl, some_is (f e) h is)

pub unmapped : {A B : Type 0} (f : A → B) (o : Option A) → option_map f o ≡ None → o ≡ None
unmapped f None is = refl
unmapped f (Some e) is = not_some (f e) (sym is)

pub both_of : (a b : Bool) → (a && b) ≡ true → (a ≡ true) × (b ≡ true)
both_of true b e = (refl, e)
both_of false b e = absurd (cc)

not_false : (b : Bool) → b ≡ true → b ≢ false
not_false b is isnt = absurd (cc)

abbrev pub with_node : ℕ → Ticket → Ticket
with_node n x = record { node = n; hash = x.hash; number = x.number }

module _ (w : World) (i : ℕ) where
  ticket_by : (e : ℕ × Ticket) → map.get w.tickets e.0 ≡ Some e.1 → e.1.node ≡ i → IsHolding w i (Some (holding.Ticket e.0 e.1.hash e.1.number))
  ticket_by e there is = there ∙ ap (λ n. Some (with_node n e.1)) is

  tag_by : (e : (ℕ × ServiceHash) × Unit {0}) → HasNoTicket w i → HasFinished w i → map.get w.tags e.0 ≡ Some e.1 → e.0.0 ≡ i → IsHolding w i (Some (holding.Tag e.0.1))
  tag_by e none finished there is = (none, finished, subst (λ n. set.contains w.tags (n, e.0.1) ≡ true) is (ap is_some there))

  ticket_is : (h : Holding) → held_ticket i (map.entries w.tickets) ≡ Some h → IsHolding w i (Some h)
  ticket_is h is =
      let m = mapped (λ e. holding.Ticket e.0 e.1.hash e.1.number) (first (λ e. e.1.node == i) (map.entries w.tickets)) h is in
      let f = found_in nat_cmp_total (λ (e : ℕ × Ticket). e.1.node == i) w.tickets m.0 m.1 in
      subst (λ x. IsHolding w i (Some x)) m.2 (ticket_by m.0 f.0 (eqb-true m.0.1.node i f.1))

  no_ticket : held_ticket i (map.entries w.tickets) ≡ None → HasNoTicket w i
  no_ticket is t x there e =
      let n = unmapped (λ e. holding.Ticket e.0 e.1.hash e.1.number) (first (λ e. e.1.node == i) (map.entries w.tickets)) is in
      not_false (x.node == i) (eq-eqb x.node i e) (none_in nat_cmp_total (λ (e : ℕ × Ticket). e.1.node == i) w.tickets exact_unsigned n t x there)

  -- a service that is found is one with which the node hasn't finished
  pub service_found : (h : Holding) → held_service i (map.entries w.phases) ≡ Some h → (e : ServiceHash × Phase) × (holding.Service e.0 e.1 ≡ h)
      × (phase_of w (Node i) e.0 ≡ e.1) × (is_unfinished e.1 ≡ true)
  service_found h is =
      let test : (Participant × ServiceHash) × Phase → Bool = λ e. eq_by_cmp participant_cmp e.0.0 (Node i) && is_unfinished e.1 in
      let m = mapped (λ e. holding.Service e.0.1 e.1) (first test (map.entries w.phases)) h is in
      let f = found_in place_total test w.phases m.0 m.1 in
      let b = both_of _ _ f.1 in
      let own : m.0.0.0 ≡ Node i = participant_exact m.0.0.0 (Node i) ((Equal-is (participant_cmp m.0.0.0 (Node i))).0 b.0) in
      ((m.0.0.1, m.0.1), m.2, ap or_idle (subst (λ p. map.get w.phases (p, m.0.0.1) ≡ Some m.0.1) own f.0), b.1)

  service_is : (h : Holding) → HasNoTicket w i → held_service i (map.entries w.phases) ≡ Some h → IsHolding w i (Some h)
  service_is h none is =
      let found = service_found h is in
      subst (λ x. IsHolding w i (Some x)) found.1 (none, found.2, found.3)

  finished_at : (h : ServiceHash) (o : Option Phase) → ((x : Phase) → o ≡ Some x → (eq_by_cmp participant_cmp (Node i) (Node i) && is_unfinished x) ≡ false) → is_unfinished (or_idle o) ≡ false
  finished_at h None f = refl
  finished_at h (Some x) f = ap (λ (r : Ordering). is_eq r && is_unfinished x) (sym (tied_itself participant_total (Node i))) ∙ f x refl

  pub finished : held_service i (map.entries w.phases) ≡ None → HasFinished w i
  finished is h =
      let test : (Participant × ServiceHash) × Phase → Bool = λ e. eq_by_cmp participant_cmp e.0.0 (Node i) && is_unfinished e.1 in
      let n = unmapped (λ e. holding.Service e.0.1 e.1) (first test (map.entries w.phases)) is in
      finished_at h (map.get w.phases (Node i, h)) (λ x there. none_in place_total test w.phases place_exact n (Node i, h) x there)

  tag_is : (h : Holding) → HasNoTicket w i → HasFinished w i → held_tag i (map.entries w.tags) ≡ Some h → IsHolding w i (Some h)
  tag_is h none done is =
      let m = mapped (λ e. holding.Tag e.0.1) (first (λ e. e.0.0 == i) (map.entries w.tags)) h is in
      let f = found_in tag_total (λ (e : (ℕ × ServiceHash) × Unit {0}). e.0.0 == i) w.tags m.0 m.1 in
      subst (λ x. IsHolding w i (Some x)) m.2 (tag_by m.0 none done f.0 (eqb-true m.0.0.0 i f.1))

  untagged : (h : ServiceHash) (o : Option (Unit {0})) → ((x : Unit {0}) → o ≡ Some x → (i == i) ≡ false) → is_some o ≡ false
  untagged h None f = refl
  untagged h (Some x) f = absurd (not_false (i == i) (eq-eqb i i refl) (f x refl))

  no_tag : held_tag i (map.entries w.tags) ≡ None → HasNoTag w i
  no_tag is h =
      let n = unmapped (λ e. holding.Tag e.0.1) (first (λ e. e.0.0 == i) (map.entries w.tags)) is in
      untagged h (map.get w.tags (i, h)) (λ x there. none_in tag_total (λ (e : (ℕ × ServiceHash) × Unit {0}). e.0.0 == i) w.tags tag_exact n (i, h) x there)

  tag_or_none : (o : Option Holding) → HasNoTicket w i → HasFinished w i → held_tag i (map.entries w.tags) ≡ o → IsHolding w i o
  tag_or_none (Some h) none done is = tag_is h none done is
  tag_or_none None none done is = (none, done, no_tag is)

-- The three searches, by the first that finds something.
module _ (w : World) (i : ℕ) where
  pub by_ticket : {o : Option Holding} {h : Holding} → o ≡ held_ticket i (map.entries w.tickets) → o ≡ Some h → IsHolding w i (Some h)
  by_ticket {o} {h} is some = ticket_is w i h (sym is ∙ some)

  pub by_service : {o s : Option Holding} {h : Holding} → o ≡ held_ticket i (map.entries w.tickets) → o ≡ None → s ≡ held_service i (map.entries w.phases) → s ≡ Some h → IsHolding w i (Some h)
  by_service {o} {s} {h} is has there some = service_is w i h (no_ticket w i (sym is ∙ has)) (sym there ∙ some)

  pub by_tag : {o s t : Option Holding} → o ≡ held_ticket i (map.entries w.tickets) → o ≡ None → s ≡ held_service i (map.entries w.phases) → s ≡ None → t ≡ held_tag i (map.entries w.tags) → IsHolding w i t
  by_tag {o} {s} {t} is has there ends tags = tag_or_none w i t (no_ticket w i (sym is ∙ has)) (finished w i (sym there ∙ ends)) (sym tags)
