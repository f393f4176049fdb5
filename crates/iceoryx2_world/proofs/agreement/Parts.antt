-- What the own part of an access may be: seven kinds, from the twelve letters and their answers.
use Rattle.std.proofs.Common.{◌≡◌, ℕ, ◌+◌, Bool, true, false, cond, ◌⊎◌, inl, inr, Option, Some, None, Result, Ok, Err, refl, sym, ap, ◌∙◌, arith}
use Rattle.std.specs.Prelude.{◌==◌, ◌&&◌, nat_lt}
use Rattle.std.specs.Option.{option_map}
use Rattle.std.specs.FinMap as map
use Rattle.std.specs.Ordering.{is_eq}
use Rattle.std.specs.Cmp.{Equal-is}
use Rattle.std.proofs.lemmas.Bool.Decides.{nat_tests}
use Rattle.iceoryx2_description.specs.declared.description.ServiceHash.{ServiceHash}
use Rattle.iceoryx2_description.specs.Description.{Description, IsDescription}
use Rattle.iceoryx2_world.specs.Sets as set
use Rattle.iceoryx2_world.specs.declared.world.Participant.TheVariants.{Node}
use Rattle.iceoryx2_world.specs.declared.world.Phase.{Phase}
use Rattle.iceoryx2_world.specs.declared.world.Phase.TheVariants as at
use Rattle.iceoryx2_world.specs.declared.world.Ticket.{Ticket}
use Rattle.iceoryx2_world.specs.declared.world.Row.{Row}
use Rattle.iceoryx2_world.specs.declared.world.Row.TheVariants as row
use Rattle.iceoryx2_world.specs.Orders.{hash_cmp, hash_exact, tag_cmp}
use Rattle.iceoryx2_world.specs.World.{World, Segment, row_of, segment_of, phase_of, phase_number, ticket_of, Tickets}
use Rattle.iceoryx2_world.specs.Acts.{Act}
use Rattle.iceoryx2_world.specs.Acts as act
use Rattle.iceoryx2_world.specs.Steps.{ServiceView, put, world_after}
use Rattle.iceoryx2_access.specs.declared.storage.Tag.{Tag}
use Rattle.iceoryx2_access.specs.declared.storage.TagError.{TagError}
use Rattle.iceoryx2_access.specs.declared.storage.OpenSegmentError.{OpenSegmentError}
use Rattle.iceoryx2_access.specs.declared.storage.Release.{Release as Released}
use Rattle.iceoryx2_access.specs.Letter.{Letter, acting_node}
use Rattle.iceoryx2_access.specs.Letter as letter
use Rattle.iceoryx2_world.specs.Access.{NodeView, Change, node_view, write, nothing, view_becomes, view_becomes_with, IsAnswer, IsSureAnswer, or_refused, read_change, own_step, with_ticket, is_ticket, fetch_of, MakesTag, lock_of, make_of, publishing_of, opening_of, release_of, release_answer, has_made, has_lock, open_refusal, join_refusal, IsOwnPart}
use Rattle.iceoryx2_world.proofs.agreement.Worlds.{ticket_put, ticket_removed}

-- An answer that is given, with its change.
pub record Told {A E : Type 0} (o : Result (A × Change) E) (r : Result A E) (c : Change) : Type 0 where
  pub given : A × Change
  pub from : o ≡ Ok given
  pub answer : r ≡ Ok given.0
  pub change : c ≡ given.1

-- A refusal, which changes nothing.
pub record Denied {A E : Type 0} (r : Result A E) (c : Change) : Type 0 where
  pub error : E
  pub answer : r ≡ Err error
  pub change : c ≡ nothing

pub answer_cases : {A E : Type 0} (no_memory : E) (o : Result (A × Change) E) (r : Result A E) (c : Change) → IsAnswer no_memory o r c → Told o r c ⊎ Denied r c
answer_cases no_memory (Ok x) r c (inl g) = inl (record { given = x; from = refl; answer = g.0; change = g.1 })
answer_cases no_memory (Ok x) r c (inr g) = inr (record { error = no_memory; answer = g.0; change = g.1 })
answer_cases no_memory (Err e) r c g = inr (record { error = e; answer = g.0; change = g.1 })

pub sure_answer_cases : {A E : Type 0} (o : Result (A × Change) E) (r : Result A E) (c : Change) → IsSureAnswer o r c → Told o r c ⊎ Denied r c
sure_answer_cases (Ok x) r c g = inl (record { given = x; from = refl; answer = g.0; change = g.1 })
sure_answer_cases (Err e) r c g = inr (record { error = e; answer = g.0; change = g.1 })

-- where a test stands before the rest
pub passed : {A E : Type 0} (b : Bool) (o : Result A E) (e : E) (x : A) → cond b o (Err e) ≡ Ok x → (b ≡ true) × (o ≡ Ok x)
passed true o e x is = (refl, is)
passed false o e x is = absurd (cc)

pub not_refused : {E : Type 0} (b : Bool) (o : Option E) (e : E) → cond b o (Some e) ≡ None → (b ≡ true) × (o ≡ None)
not_refused true o e is = (refl, is)
not_refused false o e is = absurd (cc)

pub refused_else : {E : Type 0} (b : Bool) (o : Option E) (e : E) → cond b (Some e) o ≡ None → (b ≡ false) × (o ≡ None)
refused_else true o e is = absurd (cc)
refused_else false o e is = (refl, is)

-- a step that is made
pub record Stepping (o : Option ServiceView) {A : Type 0} (x : A × Change) (answer : A) : Type 0 where
  pub view : ServiceView
  pub from : o ≡ Some view
  pub is : x ≡ (answer, view_becomes view)

pub step_ok : {A E : Type 0} (e : E) (a : A) (o : Option ServiceView) (x : A × Change) → or_refused e a o ≡ Ok x → Stepping o x a
step_ok e a None x is = absurd (cc)
step_ok e a (Some s) x is = record { view = s; from = refl; is = cc }

module _ (i : ℕ) (h : ServiceHash) where
  abbrev pub mine : ℕ → Ticket
  mine n = record { node = i; hash = h; number = n }

  published_ok : (n : ℕ) (k : Tickets) (o : Option ServiceView) (x : ℕ × Change) → publishing_of i h n k o ≡ Ok x → (s : ServiceView) × (o ≡ Some s) × (x ≡ (n, view_becomes_with s (with_ticket i h k n n)))
  published_ok n k None x is = absurd (cc)
  published_ok n k (Some s) x is = (s, refl, cc)

  opened_ok : (n : ℕ) (s : NodeView) (e : Option OpenSegmentError) (o : Option ServiceView) (x : ℕ × Change) → opening_of i h n s e o ≡ Ok x → (e ≡ None) × (y : ServiceView) × (o ≡ Some y) × (x ≡ (s.view.counter, view_becomes_with (record y { counter = s.view.counter + 1 }) (with_ticket i h s.tickets s.view.counter n)))
  opened_ok n s (Some e) o x is = absurd (cc)
  opened_ok n s None None x is = absurd (cc)
  opened_ok n s None (Some y) x is = (refl, y, refl, cc)

  pub release_ok : (t : ℕ) (k : Tickets) (o : Option ServiceView) (x : Released × Change) → release_of i h t k o ≡ Ok x → (s : ServiceView) × (o ≡ Some s) × (x ≡ (release_answer s.phase, view_becomes_with s (map.remove k t)))
  release_ok t k None x is = absurd (cc)
  release_ok t k (Some s) x is = (s, refl, cc)

  pub fetched_ok : (s : ServiceView) (r : Option Row) (x : _) → fetch_of i h s r ≡ Ok x → (r ≡ Some (row.Published x.0.0 x.0.1)) × (x.1 ≡ read_change (own_step i h act.Read s))
  fetched_ok s None x is = absurd (cc)
  fetched_ok s (Some (row.Locked n)) x is = absurd (cc)
  fetched_ok s (Some (row.Published n b)) x is = let same : x ≡ ((n, b), read_change (own_step i h act.Read s)) = cc in (λ j. Some (row.Published (sym same j).0.0 (sym same j).0.1), λ j. (same j).1)

  locked_ok : (s : ServiceView) (r : Option Row) (x : ℕ × Change) → lock_of i h s r ≡ Ok x → Stepping (own_step i h act.Lock s) x s.counter
  locked_ok s None x is = step_ok _ s.counter (own_step i h act.Lock s) x is
  locked_ok s (Some (row.Locked n)) x is = absurd (cc)
  locked_ok s (Some (row.Published n b)) x is = absurd (cc)

  pub made_ok : (m : ℕ) (s : ServiceView) (o : Option Segment) (x : Unit {0} × Change) → make_of i h m s o ≡ Ok x → Stepping (own_step i h (act.Make m) s) x tt
  made_ok m s None x is = step_ok _ tt (own_step i h (act.Make m) s) x is
  made_ok m s (Some y) x is = absurd (cc)

  -- it is the ticket of this node for this service and number
  pub ticket_means : (n : ℕ) (o : Option Ticket) → is_ticket i h n o ≡ true → o ≡ Some (mine n)
  ticket_means n None e = absurd (cc)
  ticket_means n (Some x) e = elim (is_eq (hash_cmp x.hash h)) as (λ b. is_eq (hash_cmp x.hash h) ≡ b → (x.node == i && b && x.number == n) ≡ true → Some x ≡ Some (mine n)) [
    | true ↦ λ s t. let node : x.node ≡ i = grind (arith, nat_tests) in let number : x.number ≡ n = grind (arith, nat_tests) in let hash : x.hash ≡ h = hash_exact x.hash h ((Equal-is (hash_cmp x.hash h)).0 s) in (λ j. Some (record { node = node j; hash = hash j; number = number j }))
    | false ↦ λ s t. absurd (grind (arith, nat_tests))
  ] refl e

pub made_means : (n : ℕ) (f : Phase) → has_made n f ≡ true → f ≡ at.Made n
made_means n (at.Made m) e = let is : m ≡ n = grind (arith, nat_tests) in ap at.Made is
made_means n _ e = absurd (cc)

join_means : (n : ℕ) (x : Segment) (c : ℕ) (f : Phase) → join_refusal n x c f ≡ None → phase_number f ≡ Some n
join_means n x c (at.Read m) e = let t = not_refused (m == n) _ _ e in let is : m ≡ n = grind (arith, nat_tests, t.0) in ap Some is
join_means n x c (at.Joined m k) e = let t = not_refused (m == n) _ _ e in let is : m ≡ n = grind (arith, nat_tests, t.0) in ap Some is
join_means n x c _ e = absurd (cc)

open_means : (n : ℕ) (o : Option Segment) (c : ℕ) (f : Phase) → open_refusal n o c f ≡ None → phase_number f ≡ Some n
open_means n None c f e = absurd (cc)
open_means n (Some x) c f e = let a = not_refused (x.number == n) _ _ e in let b = refused_else x.marked _ _ a.1 in join_means n x c f b.1

-- A description is published: the node gets its number as ticket.
pub record Publishing (w : World) (i : ℕ) (h : ServiceHash) (n : ℕ) (d : Description) (t : ℕ) (v : World) : Type 0 where
  pub phase : phase_of w (Node i) h ≡ at.Made n
  pub limits : IsDescription d
  pub ticket : t ≡ n
  pub mid : World
  pub step : world_after w (Node i) h (act.Publish d) ≡ Some mid
  pub is : v ≡ ticket_put mid t (mine i h n)

-- A segment is opened: the node gets the counter's value as ticket.
pub record Joining (w : World) (i : ℕ) (h : ServiceHash) (n t : ℕ) (v : World) : Type 0 where
  pub number : phase_number (phase_of w (Node i) h) ≡ Some n
  pub ticket : t ≡ w.counter
  pub mid : World
  pub step : world_after w (Node i) h act.Join ≡ Some mid
  pub is : v ≡ ticket_put (record mid { counter = w.counter + 1 }) t (mine i h n)

-- A ticket is released.
pub record Releasing (w : World) (t i : ℕ) (h : ServiceHash) (n : ℕ) (v : World) : Type 0 where
  pub ticket : ticket_of w t ≡ Some (mine i h n)
  pub mid : World
  pub step : world_after w (Node i) h act.Leave ≡ Some mid
  pub is : v ≡ ticket_removed mid t

-- acts by which nobody joins or leaves, and no row goes
abbrev pub IsCalm : Act → Type 0
IsCalm act.Read = Unit {0}
IsCalm act.Lock = Unit {0}
IsCalm act.RemoveSegment = Unit {0}
IsCalm (act.Make m) = Unit {0}
IsCalm _ = ⊥

-- The kinds of own parts.
pub data Part (w : World) (l : Letter) (v : World) : Type 0 where
  stays : v ≡ w → Part w l v
  tagged : (t : set.FinSet tag_cmp) → v ≡ record w { tags = t } → Part w l v
  calm : (i : ℕ) (h : ServiceHash) (a : Act) → i ≡ acting_node l → IsCalm a → world_after w (Node i) h a ≡ Some v → Part w l v
  removed : (i : ℕ) (h : ServiceHash) → l ≡ letter.RemoveDescription i h (Ok tt) → world_after w (Node i) h act.RemoveDescription ≡ Some v → Part w l v
  publishes : (i : ℕ) (h : ServiceHash) (n : ℕ) (d : Description) (t : ℕ) → l ≡ letter.Publish i h n d (Ok t) → Publishing w i h n d t v → Part w l v
  joins : (i : ℕ) (h : ServiceHash) (n t : ℕ) → l ≡ letter.OpenSegment i h n (Ok t) → Joining w i h n t v → Part w l v
  releases : (t i : ℕ) (h : ServiceHash) (n : ℕ) (a : Released) → l ≡ letter.Release t i h n (Ok a) → Releasing w t i h n v → Part w l v

-- where nothing changes
pub unchanged : (w v : World) (i : ℕ) (h : ServiceHash) (c : Change) → c ≡ nothing → v ≡ write w i h c → v ≡ w
unchanged w v i h c e is = is ∙ ap (write w i h) e

-- a step, in the world
pub made_step : (w : World) (i : ℕ) (h : ServiceHash) (a : Act) (s : ServiceView) → own_step i h a (node_view w i h).view ≡ Some s → world_after w (Node i) h a ≡ Some (put w (Node i) h s)
made_step w i h a s e = ap (option_map (put w (Node i) h)) e

pub moved_world : (w v : World) (i : ℕ) (h : ServiceHash) (a : Act) (c : Change) (s : ServiceView) → own_step i h a (node_view w i h).view ≡ Some s → c ≡ view_becomes s → v ≡ write w i h c → world_after w (Node i) h a ≡ Some v
moved_world w v i h a c s e m is = made_step w i h a s e ∙ ap Some (sym (is ∙ ap (write w i h) m))

read_part : (w v : World) (i : ℕ) (h : ServiceHash) (l : Letter) (c : Change) (o : Option ServiceView) → i ≡ acting_node l → own_step i h act.Read (node_view w i h).view ≡ o → c ≡ read_change o → v ≡ write w i h c → Part w l v
read_part w v i h l c None who e m is = stays (unchanged w v i h c m is)
read_part w v i h l c (Some s) who e m is = calm i h act.Read who tt (moved_world w v i h act.Read c s e m is)

tag_part : (w v : World) (i : ℕ) (h : ServiceHash) (l : Letter) (b : Bool) (r : Result Tag TagError) (c : Change) → MakesTag i h b r c → v ≡ write w i h c → Part w l v
tag_part w v i h l true r c o is = stays (unchanged w v i h c o.1 is)
tag_part w v i h l false r c (inl o) is = tagged _ (is ∙ ap (write w i h) o.1)
tag_part w v i h l false r c (inr o) is = stays (unchanged w v i h c o.1 is)

pub publishing : (w v : World) (i : ℕ) (h : ServiceHash) (n : ℕ) (d : Description) (t : ℕ) → IsOwnPart w (letter.Publish i h n d (Ok t)) v → Publishing w i h n d t v
publishing w v i h n d t p = elim (answer_cases _ _ _ p.change p.own.1) [
  | inl k ↦
      let first = passed (has_made n (phase_of w (Node i) h)) _ _ k.given k.from in
      let rest = published_ok i h n w.tickets _ k.given first.1 in
      let answer : t ≡ k.given.0 = cc (k.answer) in
      record {
        phase = made_means n _ first.0;
        limits = p.own.0;
        ticket = answer ∙ (λ j. (rest.2 j).0);
        mid = put w (Node i) h rest.0;
        step = made_step w i h (act.Publish d) rest.0 rest.1;
        is = p.is ∙ ap (write w i h) (k.change ∙ (λ j. (rest.2 j).1)) ∙ ap (λ s. ticket_put (put w (Node i) h rest.0) s (mine i h n)) (sym (answer ∙ (λ j. (rest.2 j).0)));
      }
  | inr k ↦ absurd (cc (k.answer))
]

pub joining : (w v : World) (i : ℕ) (h : ServiceHash) (n t : ℕ) → IsOwnPart w (letter.OpenSegment i h n (Ok t)) v → Joining w i h n t v
joining w v i h n t p = elim (answer_cases _ _ _ p.change p.own) [
  | inl k ↦
      let all = opened_ok i h n (node_view w i h) _ _ k.given k.from in
      let answer : t ≡ k.given.0 = cc (k.answer) in
      record {
        number = open_means n (segment_of w h) w.counter _ all.0;
        ticket = answer ∙ (λ j. (all.3 j).0);
        mid = put w (Node i) h all.1;
        step = made_step w i h act.Join all.1 all.2;
        is = p.is ∙ ap (write w i h) (k.change ∙ (λ j. (all.3 j).1)) ∙ ap (λ s. ticket_put (record (put w (Node i) h all.1) { counter = w.counter + 1 }) s (mine i h n)) (sym (answer ∙ (λ j. (all.3 j).0)));
      }
  | inr k ↦ absurd (cc (k.answer))
]

pub releasing : (w v : World) (t i : ℕ) (h : ServiceHash) (n : ℕ) (a : Released) → IsOwnPart w (letter.Release t i h n (Ok a)) v → Releasing w t i h n v
releasing w v t i h n a p = elim (sure_answer_cases _ _ p.change p.own) [
  | inl k ↦
      let first = passed (is_ticket i h n (ticket_of w t)) _ _ k.given k.from in
      let rest = release_ok i h t w.tickets _ k.given first.1 in
      record {
        ticket = ticket_means i h n (ticket_of w t) first.0;
        mid = put w (Node i) h rest.0;
        step = made_step w i h act.Leave rest.0 rest.1;
        is = p.is ∙ ap (write w i h) (k.change ∙ (λ j. (rest.2 j).1));
      }
  | inr k ↦ absurd (cc (k.answer))
]

-- what a fetch that is granted found
pub fetching : (w v : World) (i : ℕ) (h : ServiceHash) (n : ℕ) (b : _) → IsOwnPart w (letter.Fetch i h (Ok (n, b))) v → row_of w h ≡ Some (row.Published n b)
fetching w v i h n b p = elim (answer_cases _ _ _ p.change p.own) [
  | inl k ↦ let found = fetched_ok i h (node_view w i h).view (row_of w h) k.given k.from in let same : (n, b) ≡ k.given.0 = cc (k.answer) in found.0 ∙ (λ j. Some (row.Published (sym same j).0 (sym same j).1))
  | inr k ↦ absurd (cc (k.answer))
]

-- a lock's number is the counter's value
pub locking : (w v : World) (i : ℕ) (h : ServiceHash) (n : ℕ) → IsOwnPart w (letter.Lock i h (Ok n)) v → (n ≡ w.counter) × (world_after w (Node i) h act.Lock ≡ Some v)
locking w v i h n p = elim (answer_cases _ _ _ p.change p.own) [
  | inl k ↦ let s = locked_ok i h (node_view w i h).view (row_of w h) k.given k.from in let answer : n ≡ k.given.0 = cc (k.answer) in
      (answer ∙ (λ j. (s.is j).0), moved_world w v i h act.Lock p.change s.view s.from (k.change ∙ (λ j. (s.is j).1)) p.is)
  | inr k ↦ absurd (cc (k.answer))
]

-- a segment is made, or removed, or a description is
pub making : (w v : World) (i : ℕ) (h : ServiceHash) (n m : ℕ) (a : Unit {0}) → IsOwnPart w (letter.MakeSegment i h n m (Ok a)) v → world_after w (Node i) h (act.Make m) ≡ Some v
making w v i h n m a p = elim (answer_cases _ _ (Ok a) p.change p.own) [
  | inl k ↦ let s = made_ok i h m (node_view w i h).view (segment_of w h) k.given (passed _ _ _ k.given k.from).1 in moved_world w v i h (act.Make m) p.change s.view s.from (k.change ∙ (λ j. (s.is j).1)) p.is
  | inr k ↦ absurd (cc (k.answer))
]

pub clearing : (w v : World) (i : ℕ) (h : ServiceHash) (a : Unit {0}) → IsOwnPart w (letter.RemoveSegment i h (Ok a)) v → world_after w (Node i) h act.RemoveSegment ≡ Some v
clearing w v i h a p = elim (sure_answer_cases _ (Ok a) p.change p.own) [
  | inl k ↦ let s = step_ok _ _ (own_step i h act.RemoveSegment (node_view w i h).view) k.given k.from in moved_world w v i h act.RemoveSegment p.change s.view s.from (k.change ∙ (λ j. (s.is j).1)) p.is
  | inr k ↦ absurd (cc (k.answer))
]

pub unlocking : (w v : World) (i : ℕ) (h : ServiceHash) (a : Unit {0}) → IsOwnPart w (letter.RemoveDescription i h (Ok a)) v → world_after w (Node i) h act.RemoveDescription ≡ Some v
unlocking w v i h a p = elim (sure_answer_cases _ (Ok a) p.change p.own) [
  | inl k ↦ let s = step_ok _ _ (own_step i h act.RemoveDescription (node_view w i h).view) k.given k.from in moved_world w v i h act.RemoveDescription p.change s.view s.from (k.change ∙ (λ j. (s.is j).1)) p.is
  | inr k ↦ absurd (cc (k.answer))
]

-- any own part is of one of the kinds
pub own_part : (w : World) (l : Letter) (v : World) → IsOwnPart w l v → Part w l v
own_part w (letter.Exists h a) v p = stays (unchanged w v 0 h p.change p.own.1 p.is)
own_part w (letter.Fetch i h a) v p = elim (answer_cases _ _ a p.change p.own) [
  | inl k ↦ read_part w v i h _ p.change (own_step i h act.Read (node_view w i h).view) refl refl (k.change ∙ (fetched_ok i h (node_view w i h).view (row_of w h) k.given k.from).1) p.is
  | inr k ↦ stays (unchanged w v i h p.change k.change p.is)
]
own_part w (letter.Counts i h a) v p = stays (unchanged w v i h p.change p.own.1 p.is)
own_part w (letter.MakeTag i h a) v p = tag_part w v i h _ (node_view w i h).tag a p.change p.own p.is
own_part w (letter.RemoveTag i h a) v p = tagged _ (p.is ∙ ap (write w i h) p.own.1)
own_part w (letter.Lock i h a) v p = elim (answer_cases _ _ a p.change p.own) [
  | inl k ↦ let s = locked_ok i h (node_view w i h).view (row_of w h) k.given k.from in calm i h act.Lock refl tt (moved_world w v i h act.Lock p.change s.view s.from (k.change ∙ (λ j. (s.is j).1)) p.is)
  | inr k ↦ stays (unchanged w v i h p.change k.change p.is)
]
own_part w (letter.MakeSegment i h n m a) v p = elim (answer_cases _ _ a p.change p.own) [
  | inl k ↦ let s = made_ok i h m (node_view w i h).view (segment_of w h) k.given (passed (has_lock n (phase_of w (Node i) h) && nat_lt 0 m) _ _ k.given k.from).1 in calm i h (act.Make m) refl tt (moved_world w v i h (act.Make m) p.change s.view s.from (k.change ∙ (λ j. (s.is j).1)) p.is)
  | inr k ↦ stays (unchanged w v i h p.change k.change p.is)
]
own_part w (letter.RemoveSegment i h a) v p = elim (sure_answer_cases _ a p.change p.own) [
  | inl k ↦ let s = step_ok _ _ (own_step i h act.RemoveSegment (node_view w i h).view) k.given k.from in calm i h act.RemoveSegment refl tt (moved_world w v i h act.RemoveSegment p.change s.view s.from (k.change ∙ (λ j. (s.is j).1)) p.is)
  | inr k ↦ stays (unchanged w v i h p.change k.change p.is)
]
own_part w (letter.RemoveDescription i h a) v p = elim (sure_answer_cases _ a p.change p.own) [
  | inl k ↦ let s = step_ok _ _ (own_step i h act.RemoveDescription (node_view w i h).view) k.given k.from in removed i h (ap (letter.RemoveDescription i h) k.answer) (moved_world w v i h act.RemoveDescription p.change s.view s.from (k.change ∙ (λ j. (s.is j).1)) p.is)
  | inr k ↦ stays (unchanged w v i h p.change k.change p.is)
]
own_part w (letter.Publish i h n d (Ok t)) v p = publishes i h n d t refl (publishing w v i h n d t p)
own_part w (letter.Publish i h n d (Err e)) v p = elim (answer_cases _ _ _ p.change p.own.1) [ inl k ↦ absurd (cc (k.answer)) | inr k ↦ stays (unchanged w v i h p.change k.change p.is) ]
own_part w (letter.OpenSegment i h n (Ok t)) v p = joins i h n t refl (joining w v i h n t p)
own_part w (letter.OpenSegment i h n (Err e)) v p = elim (answer_cases _ _ _ p.change p.own) [ inl k ↦ absurd (cc (k.answer)) | inr k ↦ stays (unchanged w v i h p.change k.change p.is) ]
own_part w (letter.Release t i h n (Ok a)) v p = releases t i h n a refl (releasing w v t i h n a p)
own_part w (letter.Release t i h n (Err e)) v p = elim (sure_answer_cases _ _ p.change p.own) [ inl k ↦ absurd (cc (k.answer)) | inr k ↦ stays (unchanged w v i h p.change k.change p.is) ]
