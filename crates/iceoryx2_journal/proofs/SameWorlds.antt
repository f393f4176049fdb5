-- What worlds come to by the same entries is the same, but for who has only read.
use Rattle.std.proofs.Common.{◌≡◌, inl, inr, ℕ, Bool, List, [], ◌∷◌, Option, Some, None, unwrap_or, Result, refl, sym, ap, subst, ◌∙◌}
use Rattle.std.specs.FinMap as map
use Rattle.iceoryx2_description.specs.declared.description.ServiceHash.{ServiceHash}
use Rattle.iceoryx2_access.specs.declared.storage.FetchError.{FetchError}
use Rattle.iceoryx2_access.specs.declared.storage.FetchError.TheVariants as Fetching
use Rattle.iceoryx2_access.specs.Letter.{Letter, acting_node, service_of}
use Rattle.iceoryx2_access.specs.Letter as letter
use Rattle.iceoryx2_world.specs.declared.world.Participant.{Participant}
use Rattle.iceoryx2_world.specs.declared.world.Participant.TheVariants.{Node}
use Rattle.iceoryx2_world.specs.declared.world.Phase.{Phase}
use Rattle.iceoryx2_world.specs.declared.world.Phase.TheVariants as at
use Rattle.iceoryx2_world.specs.declared.world.Row.{Row}
use Rattle.iceoryx2_world.specs.declared.world.Row.TheVariants as row
use Rattle.iceoryx2_world.specs.Orders.{hash_total, hash_exact}
use Rattle.iceoryx2_world.specs.World.{World, Tickets, row_of, segment_of, phase_of, tag_of, set_to}
use Rattle.iceoryx2_world.specs.Acts as act
use Rattle.iceoryx2_world.specs.Sets as set
use Rattle.iceoryx2_world.specs.Steps.{ServiceView, put}
use Rattle.iceoryx2_world.specs.Access.{Change, node_view, set_tag, write, read_change, own_step, IsAnswer, IsNodeAnswer, IsOwnPart, fetch_of}
use Rattle.iceoryx2_world.proofs.agreement.Worlds.{place_cases}
use Rattle.iceoryx2_table.proofs.Views.{kept}
use Rattle.iceoryx2_table.specs.Spending.{Spends}
use Rattle.iceoryx2_log.specs.declared.entry.Operation.{Operation}
use Rattle.iceoryx2_log.specs.declared.entry.Operation.TheVariants as operation
use Rattle.iceoryx2_log.specs.declared.entry.Entry.{Entry}
use Rattle.iceoryx2_journal.specs.Follow.{Grants, IsEntryOf}
use Rattle.iceoryx2_journal.specs.Replay.{ComesTo, fetches, happens, spends}
use Rattle.iceoryx2_journal.specs.Replay as replay
use Rattle.iceoryx2_table.specs.Same.{settled, IsSameButRead}
use Rattle.iceoryx2_journal.specs.Laws.{OneWorldEach}
use Rattle.iceoryx2_journal.proofs.SameChanges.{view_at, one_change}

-- ---- the relation

pub same_itself : (w : World) → IsSameButRead w w
same_itself w = record { rows = refl; segments = refl; phases = λ p h. refl; tags = refl; tickets = refl; counter = refl }

pub same_back : {u v : World} → IsSameButRead u v → IsSameButRead v u
same_back s = record {
  rows = sym s.rows;
  segments = sym s.segments;
  phases = λ p h. sym (s.phases p h);
  tags = sym s.tags;
  tickets = sym s.tickets;
  counter = sym s.counter;
}

pub same_then : {u v w : World} → IsSameButRead u v → IsSameButRead v w → IsSameButRead u w
same_then s t = record {
  rows = t.rows ∙ s.rows;
  segments = t.segments ∙ s.segments;
  phases = λ p h. t.phases p h ∙ s.phases p h;
  tags = t.tags ∙ s.tags;
  tickets = t.tickets ∙ s.tickets;
  counter = t.counter ∙ s.counter;
}

same_equal : {u v : World} → v ≡ u → IsSameButRead u v
same_equal {u} e = subst (λ x. IsSameButRead u x) (sym e) (same_itself u)

-- ---- a change

-- the phases after the same view of a participant is put into both
put_phases : (u v : World) (p : Participant) (h : ServiceHash) (s : ServiceView) → ((q : Participant) (g : ServiceHash) → settled (phase_of v q g) ≡ settled (phase_of u q g)) → (q : Participant) (g : ServiceHash) → settled (phase_of (put v p h s) q g) ≡ settled (phase_of (put u p h s) q g)
put_phases u v p h s same q g = elim (place_cases v p h s q g) [
  | inl a ↦ elim (place_cases u p h s q g) [
    | inl b ↦ ap settled (a.2 ∙ sym b.2)
    | inr b ↦ absurd (b.0 a.0 a.1)
  ]
  | inr a ↦ elim (place_cases u p h s q g) [
    | inl b ↦ absurd (a.0 b.0 b.1)
    | inr b ↦ ap settled a.1 ∙ same q g ∙ sym (ap settled b.1)
  ]
]

same_write_by : (u v : World) (i : ℕ) (h : ServiceHash) (o : Option ServiceView) (t : Option Bool) (k : Option Tickets) → IsSameButRead u v → IsSameButRead (write u i h (record { view = o; tag = t; tickets = k })) (write v i h (record { view = o; tag = t; tickets = k }))
same_write_by u v i h None t k s = record {
  rows = s.rows;
  segments = s.segments;
  phases = s.phases;
  tags = ap (λ x. set_tag x (i, h) t) s.tags;
  tickets = ap (λ x. unwrap_or k x) s.tickets;
  counter = s.counter;
}
same_write_by u v i h (Some x) t k s = record {
  rows = ap (λ m. set_to m h x.row) s.rows;
  segments = ap (λ m. set_to m h x.segment) s.segments;
  phases = put_phases u v (Node i) h x s.phases;
  tags = ap (λ m. set_tag m (i, h) t) s.tags;
  tickets = ap (λ m. unwrap_or k m) s.tickets;
  counter = refl;
}

same_write : (u v : World) (i : ℕ) (h : ServiceHash) (c : Change) → IsSameButRead u v → IsSameButRead (write u i h c) (write v i h c)
same_write u v i h c s = same_write_by u v i h c.view c.tag c.tickets s

-- ---- an entry's access

entry_place : (i : ℕ) (h : ServiceHash) (d : Operation) (l : Letter) → Grants i h d l → (acting_node l ≡ i) × (service_of l ≡ h)
entry_place i h operation.MakeTag l g = (ap acting_node g, ap service_of g)
entry_place i h operation.RemoveTag l g = (ap acting_node g, ap service_of g)
entry_place i h (operation.Lock n) l g = (ap acting_node g, ap service_of g)
entry_place i h (operation.MakeSegment n m) l g = (ap acting_node g, ap service_of g)
entry_place i h operation.RemoveSegment l g = (ap acting_node g, ap service_of g)
entry_place i h operation.RemoveDescription l g = (ap acting_node g, ap service_of g)
entry_place i h (operation.Publish n b) l g = (ap acting_node g.2, ap service_of g.2)
entry_place i h (operation.OpenSegment n t) l g = (ap acting_node g, ap service_of g)
entry_place i h (operation.Release t n) l g = (ap acting_node g.1, ap service_of g.1)
entry_place i h (operation.Spend n) l g = absurd g
entry_place i h operation.Moved l g = absurd g

-- an own part, of this node at this service
record PartAt (i : ℕ) (h : ServiceHash) (w : World) (l : Letter) (v : World) : Type 0 where
  change : Change
  own : IsNodeAnswer i h (node_view w i h) l change
  is : v ≡ write w i h change

part_at : {w v : World} (i : ℕ) (h : ServiceHash) (l : Letter) → (acting_node l ≡ i) × (service_of l ≡ h) → IsOwnPart w l v → PartAt i h w l v
part_at {w} {v} i h l e p =
    subst (λ j. PartAt j h w l v) e.0 (subst (λ g. PartAt (acting_node l) g w l v) e.1 (record { change = p.change; own = p.own; is = p.is }))

-- what a node sees of the same world, but for its phase
seen : (u v : World) (i : ℕ) (h : ServiceHash) → IsSameButRead u v → node_view v i h ≡ view_at i h (row_of u h) (segment_of u h) u.counter (tag_of u i h) u.tickets (phase_of v (Node i) h)
seen u v i h s = λ j. record {
  view = record { phase = phase_of v (Node i) h; row = map.get (s.rows j) h; segment = map.get (s.segments j) h; counter = s.counter j };
  tag = set.contains (s.tags j) (i, h);
  tickets = s.tickets j;
}

same_parts : {u v w x : World} (e : Entry) (l o : Letter) → IsEntryOf e l → IsEntryOf e o → IsSameButRead u v → IsOwnPart u l w → IsOwnPart v o x → IsSameButRead w x
same_parts {u} {v} {w} {x} e l o f g s p q =
    let i = e.node in
    let h = e.hash in
    let a = part_at i h l (entry_place i h e.operation l f) p in
    let b = part_at i h o (entry_place i h e.operation o g) q in
    let at_v = subst (λ z. IsNodeAnswer i h z o b.change) (seen u v i h s) b.own in
    let one : a.change ≡ b.change = one_change i h (row_of u h) (segment_of u h) u.counter (tag_of u i h) u.tickets (phase_of u (Node i) h) (phase_of v (Node i) h) (sym (s.phases (Node i) h)) e.operation l o a.change b.change f g a.own at_v in
    let written = same_write u v i h a.change s in
    subst (λ z. IsSameButRead z x) (sym a.is) (subst (λ z. IsSameButRead (write u i h a.change) z) (sym (b.is ∙ ap (write v i h) (sym one))) written)

-- an entry's access, or the numbers that it spends
data Effect (e : Entry) (w v : World) : Type 0 where
  accessed : (l : Letter) → IsEntryOf e l → IsOwnPart w l v → Effect e w v
  spent : (n : ℕ) → e.operation ≡ operation.Spend n → Spends e.node e.hash n w v → Effect e w v

spends_none : (e : Entry) (n : ℕ) (l : Letter) → e.operation ≡ operation.Spend n → IsEntryOf e l → ⊥
spends_none e n l is granted = subst (λ d. Grants e.node e.hash d l) is granted

same_spent : {i m n : ℕ} {h : ServiceHash} {u v w x : World} → m ≡ n → Spends i h m u w → Spends i h n v x → IsSameButRead u v → IsSameButRead w x
same_spent {m} {n} {u} {v} {w} {x} same a b s =
    let both : IsSameButRead (record u { counter = m }) (record v { counter = n }) = record {
      rows = s.rows;
      segments = s.segments;
      phases = s.phases;
      tags = s.tags;
      tickets = s.tickets;
      counter = sym same;
    } in
    subst (λ z. IsSameButRead z x) (sym a.spent) (subst (λ z. IsSameButRead (record u { counter = m }) z) (sym b.spent) both)

same_effects : {u v w x : World} (e : Entry) → Effect e u w → Effect e v x → IsSameButRead u v → IsSameButRead w x
same_effects e (accessed l f p) (accessed o g q) s = same_parts e l o f g s p q
same_effects e (accessed l f p) (spent n is b) s = absurd (spends_none e n l is f)
same_effects e (spent n is a) (accessed o g q) s = absurd (spends_none e n o is g)
same_effects e (spent m is a) (spent n also b) s = same_spent (let x : operation.Spend m ≡ operation.Spend n = sym is ∙ also in cc) a b s

-- ---- a fetch

-- the phases after a node has read
read_phases : (w : World) (i : ℕ) (h : ServiceHash) (s : ServiceView) → settled s.phase ≡ settled (phase_of w (Node i) h) → (q : Participant) (g : ServiceHash) → settled (phase_of (put w (Node i) h s) q g) ≡ settled (phase_of w q g)
read_phases w i h s same q g = elim (place_cases w (Node i) h s q g) [
  | inl a ↦ ap settled a.2 ∙ same ∙ ap settled (ap (λ z. phase_of w (Node i) z) (sym a.1) ∙ ap (λ z. phase_of w z g) (sym a.0))
  | inr a ↦ ap settled a.1
]

read_same : (w : World) (i : ℕ) (h : ServiceHash) (n : ℕ) (b : List ℕ) (x : Phase) → x ≡ phase_of w (Node i) h → row_of w h ≡ Some (row.Published n b) → IsSameButRead w (write w i h (read_change (own_step i h act.Read (record { phase = x; row = Some (row.Published n b); segment = segment_of w h; counter = w.counter }))))
read_same w i h n b at.Idle e there = record {
  rows = ap (set_to w.rows h) (sym there) ∙ sym (kept hash_total hash_exact w.rows h);
  segments = sym (kept hash_total hash_exact w.segments h);
  phases = read_phases w i h (record { phase = at.Read n; row = Some (row.Published n b); segment = segment_of w h; counter = w.counter }) (ap settled e);
  tags = refl;
  tickets = refl;
  counter = refl;
}
read_same w i h n b (at.Read m) e there = record {
  rows = ap (set_to w.rows h) (sym there) ∙ sym (kept hash_total hash_exact w.rows h);
  segments = sym (kept hash_total hash_exact w.segments h);
  phases = read_phases w i h (record { phase = at.Read n; row = Some (row.Published n b); segment = segment_of w h; counter = w.counter }) (ap settled e);
  tags = refl;
  tickets = refl;
  counter = refl;
}
read_same w i h n b x e there = same_itself w

-- what a node that fetches sees, with this row
abbrev view_with : (w : World) (i : ℕ) (h : ServiceHash) → Option Row → ServiceView
view_with w i h o = record { phase = phase_of w (Node i) h; row = o; segment = segment_of w h; counter = w.counter }

fetch_by : (w : World) (i : ℕ) (h : ServiceHash) (a : Result (ℕ × List ℕ) FetchError) (c : Change) (o : Option Row) → row_of w h ≡ o → IsAnswer Fetching.OutOfMemory (fetch_of i h (view_with w i h o) o) a c → IsSameButRead w (write w i h c)
fetch_by w i h a c None e p = same_equal (ap (write w i h) p.1)
fetch_by w i h a c (Some (row.Locked n)) e p = same_equal (ap (write w i h) p.1)
fetch_by w i h a c (Some (row.Published n b)) e (inl p) =
    subst (λ z. IsSameButRead w (write w i h z)) (sym p.1) (read_same w i h n b (phase_of w (Node i) h) refl e)
fetch_by w i h a c (Some (row.Published n b)) e (inr p) = same_equal (ap (write w i h) p.1)

fetch_same : {w v : World} (i : ℕ) (h : ServiceHash) (a : Result (ℕ × List ℕ) FetchError) → IsOwnPart w (letter.Fetch i h a) v → IsSameButRead w v
fetch_same {w} i h a p = subst (λ z. IsSameButRead w z) (sym p.is) (fetch_by w i h a p.change (row_of w h) refl p.own)

-- ---- all entries

ended : {w v : World} → ComesTo w [] v → IsSameButRead w v
ended {w} replay.nothing = same_itself w
ended (fetches i h a p c) = same_then (fetch_same i h a p) (ended c)

-- what the first entry does, after fetches
record Headed (e : Entry) (es : List Entry) (w v : World) : Type 0 where
  mid : World
  after : World
  same : IsSameButRead w mid
  effect : Effect e mid after
  rest : ComesTo after es v

headed : {e : Entry} {es : List Entry} {w v : World} → ComesTo w (e ∷ es) v → Headed e es w v
headed {w} (fetches i h a p c) =
    let x = headed c in record { mid = x.mid; after = x.after; same = same_then (fetch_same i h a p) x.same; effect = x.effect; rest = x.rest }
headed {w} (happens {u} e l is p c) = record { mid = w; after = u; same = same_itself w; effect = accessed l is p; rest = c }
headed {w} (spends {u} e n is s c) = record { mid = w; after = u; same = same_itself w; effect = spent n is s; rest = c }

pub one_world : OneWorldEach
one_world u v w x [] s c d = same_then (same_back (ended c)) (same_then s (ended d))
one_world u v w x (e ∷ es) s c d =
    let a = headed c in
    let b = headed d in
    one_world a.after b.after w x es
    (same_effects e a.effect b.effect (same_then (same_back a.same) (same_then s b.same))) a.rest b.rest
