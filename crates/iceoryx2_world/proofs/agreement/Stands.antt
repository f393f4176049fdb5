-- What keeps a factory standing: its ticket, the agreement, and that what is published stays.
use Rattle.std.proofs.Common.{◌≡◌, ◌≢◌, ℕ, ◌+◌, ◌≤◌, Bool, true, ◌⊎◌, inl, inr, List, [], ◌∷◌, ◌++◌, Option, Some, None, Ok, refl, sym, ap, subst, ◌∙◌, arith}
use Rattle.std.specs.FinMap as map
use Rattle.std.proofs.lemmas.Cmp.{nat_cmp_total}
use Rattle.std.proofs.lemmas.Map.Lookups.{exact_unsigned}
use Rattle.iceoryx2_description.specs.declared.description.ServiceHash.{ServiceHash}
use Rattle.iceoryx2_description.specs.Description.{Description, IsDescription}
use Rattle.iceoryx2_data.specs.Form as form
use Rattle.iceoryx2_world.specs.declared.world.Participant.{Participant}
use Rattle.iceoryx2_world.specs.declared.world.Participant.TheVariants.{Node}
use Rattle.iceoryx2_world.specs.declared.world.Phase.{Phase}
use Rattle.iceoryx2_world.specs.declared.world.Phase.TheVariants as at
use Rattle.iceoryx2_world.specs.declared.world.Ticket.{Ticket}
use Rattle.iceoryx2_world.specs.declared.world.Row.{Row}
use Rattle.iceoryx2_world.specs.declared.world.Row.TheVariants as row
use Rattle.iceoryx2_world.specs.Orders.{hash_total, hash_exact}
use Rattle.iceoryx2_world.specs.World.{World, Segment, row_of, segment_of, phase_of, joined_number, locked_number, ticket_of}
use Rattle.iceoryx2_world.specs.Acts.{Act}
use Rattle.iceoryx2_world.specs.Acts as act
use Rattle.iceoryx2_world.specs.Steps.{ServiceView, world_after}
use Rattle.iceoryx2_world.specs.ServiceAgreement.{AgreesEverywhere, Later}
use Rattle.iceoryx2_world.specs.Agreement.{Agrees}
use Rattle.iceoryx2_access.specs.declared.storage.Release.{Release as Released}
use Rattle.iceoryx2_access.specs.Letter.{Letter}
use Rattle.iceoryx2_access.specs.Letter as letter
use Rattle.iceoryx2_world.specs.Interference.{IsFallibleUnder}
use Rattle.iceoryx2_access.specs.Registered.{Registered}
use Rattle.iceoryx2_world.specs.Standing.{ticket_for, Stands, Spares}
use Rattle.iceoryx2_access.specs.Run.{Each, done, next}
use Rattle.iceoryx2_access.proofs.Run.{split, head, last}
use Rattle.iceoryx2_world.proofs.agreement.Whole.{after_keeps}
use Rattle.iceoryx2_world.specs.StepCases.{IsStep, publishes as row_publishes}
use Rattle.iceoryx2_world.specs.Laws.{EachTicketStands, StandsAfterOthers, StandsUntilReleased, StandsAsCreated, StandsAsOpened, ReleaseTakesTicketOut}
use Rattle.iceoryx2_world.proofs.agreement.StepCases.{step_case}
use Rattle.iceoryx2_world.proofs.agreement.Maps.{set_cases}
use Rattle.iceoryx2_world.proofs.agreement.Effects.{AllowedStep, allowed_step}
use Rattle.iceoryx2_world.proofs.agreement.Worlds.{ticket_put, ticket_removed, place_cases, step_tickets}
use Rattle.iceoryx2_world.proofs.agreement.Parts.{mine, Part, stays, tagged, calm, removed, publishes, joins, releases, own_part, publishing, joining, releasing, fetching, locking}
use Rattle.iceoryx2_world.proofs.agreement.Accesses.{later_refl, later_trans, joined_means, own_keeps, access_keeps, faulty_keeps, run_keeps, granted}

-- A factory stands where its ticket is and its node is registered, with what its service had before.
pub stands_by : (u w : World) (f : Registered) → Later u w → IsDescription f.description → row_of u f.description.hash ≡ Some (row.Published f.number (form.description f.description)) → AgreesEverywhere w → joined_number (phase_of w (Node f.node) f.description.hash) ≡ Some f.number → ticket_of w f.ticket ≡ Some (ticket_for f) → Stands w f
stands_by u w f later limits was each joined ticket =
    let j = joined_means _ f.number joined in
    let c = (each f.description.hash).joined (Node f.node) f.number j.0 j.1 in
    record {
      ticket = ticket;
      limits = limits;
      row = subst (λ b. row_of w f.description.hash ≡ Some (row.Published f.number b)) (sym ((later.rows f.description.hash).same_bytes f.number (form.description f.description) c.1.0 was c.1.1)) c.1.1;
      segment = c.2;
    }

-- where the whole world agrees, the ticket alone does it
pub stands_by_ticket : (u w : World) (f : Registered) → Later u w → IsDescription f.description → row_of u f.description.hash ≡ Some (row.Published f.number (form.description f.description)) → Agrees w → ticket_of w f.ticket ≡ Some (ticket_for f) → Stands w f
stands_by_ticket u w f later limits was a ticket = stands_by u w f later limits was a.everywhere (a.held.number f.ticket (ticket_for f) ticket) ticket

-- In a world that agrees each ticket is one of a factory that stands.
pub ticket_stands : EachTicketStands
ticket_stands w t x a e =
    let j = joined_means _ x.number (a.held.number t x e) in
    let c = (a.everywhere x.hash).joined (Node x.node) x.number j.0 j.1 in
    let d = (a.everywhere x.hash).published x.number c.1.0 c.1.1 in
    let f : Registered = record { node = x.node; number = x.number; ticket = t; description = d.description } in
    let same : ticket_for f ≡ x = λ i. record { node = x.node; hash = d.hash i; number = x.number } in
    let row : row_of w d.description.hash ≡ Some (row.Published x.number (form.description d.description)) = ap (row_of w) d.hash ∙ c.1.1 ∙ ap (λ b. Some (row.Published x.number b)) d.form.1 in
    (f, refl, same, stands_by_ticket w w f (later_refl w) d.form.0 row a (e ∙ ap Some (sym same)))

-- A step of another participant.
pub other_stands : StandsAfterOthers
other_stands w v p g a f apart ok e old s =
    let st = allowed_step w v p g a e in
    let kept = after_keeps w v p g a ok e old.everywhere in
    let still : phase_of v (Node f.node) f.description.hash ≡ phase_of w (Node f.node) f.description.hash = subst (λ (u : World). phase_of u (Node f.node) f.description.hash ≡ phase_of w (Node f.node) f.description.hash) st.world (elim (place_cases w p g st.view (Node f.node) f.description.hash) [
      | inl k ↦ absurd (apart k.0)
      | inr k ↦ k.1
    ]) in
    stands_by w v f kept.1 s.limits s.row kept.0 (ap joined_number still ∙ old.held.number f.ticket (ticket_for f) s.ticket) (ap (λ m. map.get m f.ticket) (step_tickets w v p g a st) ∙ s.ticket)

-- a step leaves all tickets
pub step_ticket : (w v : World) (p : Participant) (g : ServiceHash) (a : Act) (t : ℕ) → world_after w p g a ≡ Some v → ticket_of v t ≡ ticket_of w t
step_ticket w v p g a t e = ap (λ m. map.get m t) (step_tickets w v p g a (allowed_step w v p g a e))

-- another ticket comes or goes
other_ticket : (u v : World) (s t : ℕ) (o : Option Ticket) (x : Ticket) → s ≢ t → ((q : ℕ) → ((q ≡ s) × (ticket_of v q ≡ o)) ⊎ ((q ≢ s) × (ticket_of v q ≡ ticket_of u q))) → ticket_of u t ≡ Some x → ticket_of v t ≡ Some x
other_ticket u v s t o x apart cases k = elim (cases t) [ inl i ↦ absurd (apart (sym i.0)) | inr i ↦ i.1 ∙ k ]

pub part_ticket : (w : World) (l : Letter) (v : World) (f : Registered) → Part w l v → Spares f l → Agrees w → ticket_of w f.ticket ≡ Some (ticket_for f) → ticket_of v f.ticket ≡ Some (ticket_for f)
part_ticket w l v f (stays e) spares old k = ap (λ z. ticket_of z f.ticket) e ∙ k
part_ticket w l v f (tagged t e) spares old k = ap (λ z. ticket_of z f.ticket) e ∙ k
part_ticket w l v f (calm i h a who ok e) spares old k = step_ticket w v (Node i) h a f.ticket e ∙ k
part_ticket w l v f (removed i h is e) spares old k = step_ticket w v (Node i) h act.RemoveDescription f.ticket e ∙ k
part_ticket w l v f (publishes i h n d t is p) spares old k =
    let locked : row_of w h ≡ Some (row.Locked n) = (old.everywhere h).locked (Node i) n (ap locked_number p.phase) in
    let free = old.numbered.free h n locked in
    let apart : t ≢ f.ticket = λ e. let here : ticket_of w n ≡ Some (ticket_for f) = ap (ticket_of w) (sym p.ticket ∙ e) ∙ k in cc in
    ap (λ z. ticket_of z f.ticket) p.is ∙ other_ticket p.mid (ticket_put p.mid t (mine i h n)) t f.ticket (Some (mine i h n)) (ticket_for f) apart (set_cases nat_cmp_total exact_unsigned (p.mid).tickets t (Some (mine i h n))) (step_ticket w p.mid (Node i) h (act.Publish d) f.ticket p.step ∙ k)
part_ticket w l v f (joins i h n t is p) spares old k =
    let apart : t ≢ f.ticket = λ e. grind (arith, old.numbered.below f.ticket (ticket_for f) k, p.ticket) in
    ap (λ z. ticket_of z f.ticket) p.is ∙ other_ticket p.mid (ticket_put (record p.mid { counter = w.counter + 1 }) t (mine i h n)) t f.ticket (Some (mine i h n)) (ticket_for f) apart (set_cases nat_cmp_total exact_unsigned (p.mid).tickets t (Some (mine i h n))) (step_ticket w p.mid (Node i) h act.Join f.ticket p.step ∙ k)
part_ticket w l v f (releases t i h n a is p) spares old k =
    let spared : Spares f (letter.Release t i h n (Ok a)) = subst (Spares f) is spares in
    let apart : t ≢ f.ticket = λ e. let same : mine i h n ≡ ticket_for f = cc (sym p.ticket ∙ ap (ticket_of w) e ∙ k) in spared e (λ j. (same j).node) (λ j. (same j).hash) (λ j. (same j).number) in
    ap (λ z. ticket_of z f.ticket) p.is ∙ other_ticket p.mid (ticket_removed p.mid t) t f.ticket None (ticket_for f) apart (set_cases nat_cmp_total exact_unsigned (p.mid).tickets t None) (step_ticket w p.mid (Node i) h act.Leave f.ticket p.step ∙ k)

-- An access that isn't a granted release of its ticket, where its node is one's own.
pub faulty_stands : {own : ℕ → Bool} (w : World) (l : Letter) (v : World) (f : Registered) → own f.node ≡ true → IsFallibleUnder own w l v → Spares f l → Agrees w → Stands w f → Stands v f
faulty_stands w l v f mine a spares old s =
    let kept = faulty_keeps w l v a old in
    let left = a.before old in
    let there = left.tickets.kept f.ticket (ticket_for f) mine s.ticket in
    stands_by_ticket w v f kept.1 s.limits s.row kept.0 (elim a.part [
      | inl o ↦ part_ticket a.between l v f (own_part a.between l v o) spares left.agrees there
      | inr e ↦ ap (λ z. ticket_of z f.ticket) e.1 ∙ there
    ])

pub run_stands : {own : ℕ → Bool} {w v : World} {word : List Letter} (f : Registered) → StandsUntilReleased own w v word f
run_stands f mine done spares old s = s
run_stands {w = u} {v = w} f mine (next {mid = v} {letter = l} a rest) spares old s = run_stands f mine rest spares.1 (faulty_keeps u l v a old).0 (faulty_stands u l v f mine a spares.0 old s)

-- the row that a publishing leaves
publish_view : {p : Participant} {h : ServiceHash} {d : Description} {n : ℕ} {x : Phase} {r : Option Row} {s : Option Segment} {c : ℕ} {new : ServiceView} → x ≡ at.Made n
    → IsStep p h (act.Publish d) x r s c new → (new.row ≡ Some (row.Published n (form.description d))) × (d.hash ≡ h)
publish_view {d = d} {n = n} is (row_publishes {n = m} hash nodes) = let same : m ≡ n = cc in (ap (λ k. Some (row.Published k (form.description d))) same, hash)

pub own_row : (w v : World) (p : Participant) (h : ServiceHash) (a : Act) → (st : AllowedStep w v p h a) → row_of v h ≡ st.view.row
own_row w v p h a st = subst (λ u. row_of u h ≡ st.view.row) st.world (elim (set_cases hash_total hash_exact w.rows h st.view.row h) [ inl e ↦ e.1 | inr e ↦ absurd (e.0 refl) ])

pub own_phase : (w v : World) (i : ℕ) (h : ServiceHash) (a : Act) → (st : AllowedStep w v (Node i) h a) → phase_of v (Node i) h ≡ st.view.phase
own_phase w v i h a st = subst (λ u. phase_of u (Node i) h ≡ st.view.phase) st.world (elim (place_cases w (Node i) h st.view (Node i) h) [ inl k ↦ k.2 | inr k ↦ absurd (k.0 refl refl) ])

pub own_segment : (w v : World) (p : Participant) (h : ServiceHash) (a : Act) → (st : AllowedStep w v p h a) → segment_of v h ≡ st.view.segment
own_segment w v p h a st = subst (λ u. segment_of u h ≡ st.view.segment) st.world (elim (set_cases hash_total hash_exact w.segments h st.view.segment h) [ inl e ↦ e.1 | inr e ↦ absurd (e.0 refl) ])

-- a ticket that was put is there
ticket_there : (u : World) (t : ℕ) (x : Ticket) → ticket_of (ticket_put u t x) t ≡ Some x
ticket_there u t x = elim (set_cases nat_cmp_total exact_unsigned u.tickets t (Some x) t) [ inl i ↦ i.1 | inr i ↦ absurd (i.0 refl) ]

-- Who publishes has a factory that stands, with the number as its ticket.
pub published_stands : {own : ℕ → Bool} (w v : World) (i : ℕ) (h : ServiceHash) (n : ℕ) (d : Description) (t : ℕ) → IsFallibleUnder own w (letter.Publish i h n d (Ok t)) v → Agrees w → Stands v (record { node = i; number = n; ticket = t; description = d }) × (d.hash ≡ h) × (t ≡ n)
published_stands w v i h n d t e old =
    let a = granted w (letter.Publish i h n d (Ok t)) v (λ x. cc) e in
    let p = publishing a.between v i h n d t a.part in
    let st = allowed_step a.between p.mid (Node i) h (act.Publish d) p.step in
    let new = (access_keeps w (letter.Publish i h n d (Ok t)) v a old).0 in
    let is = publish_view p.phase (step_case (Node i) h (act.Publish d) (phase_of a.between (Node i) h) (row_of a.between h) (segment_of a.between h) a.between.counter st.view st.is) in
    let f : Registered = record { node = i; number = n; ticket = t; description = d } in
    let row : row_of v d.hash ≡ Some (row.Published n (form.description d)) = ap (row_of v) is.1 ∙ ap (λ z. row_of z h) p.is ∙ own_row a.between p.mid (Node i) h (act.Publish d) st ∙ is.0 in
    let ticket : ticket_of v t ≡ Some (ticket_for f) = ap (λ z. ticket_of z t) p.is ∙ ticket_there p.mid t (mine i h n) ∙ (λ j. Some (record { node = i; hash = sym is.1 j; number = n })) in
    (stands_by_ticket v v f (later_refl v) p.limits row new ticket, is.1, p.ticket)

-- Who opens a segment has a factory that stands with the description that was published under its number,
-- and its ticket is a new one.
pub opened_stands : {own : ℕ → Bool} (u w v : World) (i : ℕ) (h : ServiceHash) (n : ℕ) (d : Description) (t : ℕ) → Later u w → AgreesEverywhere u → row_of u h ≡ Some (row.Published n (form.description d)) → IsDescription d → d.hash ≡ h → IsFallibleUnder own w (letter.OpenSegment i h n (Ok t)) v → Agrees w → Stands v (record { node = i; number = n; ticket = t; description = d }) × (w.counter ≤ t)
opened_stands u w v i h n d t later each was limits hash e old =
    let a = granted w (letter.OpenSegment i h n (Ok t)) v (λ x. cc) e in
    let p = joining a.between v i h n t a.part in
    let between = a.before old in
    let new = access_keeps w (letter.OpenSegment i h n (Ok t)) v a old in
    let f : Registered = record { node = i; number = n; ticket = t; description = d } in
    let ticket : ticket_of v t ≡ Some (ticket_for f) = ap (λ z. ticket_of z t) p.is ∙ ticket_there (record p.mid { counter = a.between.counter + 1 }) t (mine i h n) ∙ (λ j. Some (record { node = i; hash = sym hash j; number = n })) in
    (stands_by_ticket u v f (later_trans u w v each later new.1) limits (ap (row_of u) hash ∙ was) new.0 ticket, grind (arith, between.later.counter, p.ticket))

pub released_gone : {own : ℕ → Bool} (w v : World) (i n t : ℕ) (h : ServiceHash) (a : Released) → ReleaseTakesTicketOut own w v i n t h a
released_gone w v i n t h a e =
    let b = granted w (letter.Release t i h n (Ok a)) v (λ x. cc) e in
    let p = releasing b.between v t i h n a b.part in
    ap (λ z. ticket_of z t) p.is ∙ elim (set_cases nat_cmp_total exact_unsigned (p.mid).tickets t None t) [ inl k ↦ k.1 | inr k ↦ absurd (k.0 refl) ]

-- a fetch that is granted: the row is there, and after it too
pub fetched_row : {own : ℕ → Bool} (w v : World) (i : ℕ) (h : ServiceHash) (n : ℕ) (b : List ℕ) → IsFallibleUnder own w (letter.Fetch i h (Ok (n, b))) v → Agrees w → (u : World) × Agrees u × (row_of u h ≡ Some (row.Published n b)) × Later w u × Later u v
fetched_row w v i h n b e old =
    let a = granted w (letter.Fetch i h (Ok (n, b))) v (λ x. cc) e in
    let mid = a.before old in
    (a.between, mid.agrees, fetching a.between v i h n b a.part, mid.later, (own_keeps a.between (letter.Fetch i h (Ok (n, b))) v a.part mid.agrees).1)

-- a lock that is granted has a new number
pub locked_number_new : {own : ℕ → Bool} (w v : World) (i : ℕ) (h : ServiceHash) (n : ℕ) → IsFallibleUnder own w (letter.Lock i h (Ok n)) v → Agrees w → w.counter ≤ n
locked_number_new w v i h n e old =
    let a = granted w (letter.Lock i h (Ok n)) v (λ x. cc) e in
    grind (arith, (a.before old).later.counter, (locking a.between v i h n a.part).0)

-- From the lock to the publishing.
pub created_stands : {own : ℕ → Bool} → StandsAsCreated own
created_stands u v i h n d t word run old =
    let first = head run in
    let rest = split word _ first.rest in
    let locked = faulty_keeps u (letter.Lock i h (Ok n)) first.mid first.first old in
    let made = run_keeps rest.first locked.0 in
    let published = published_stands rest.mid v i h n d t (last rest.second) made.0 in
    (published.0, published.1, grind (arith, locked_number_new u first.mid i h n first.first old, published.2))

-- From the fetch to the opening.
pub found_stands : {own : ℕ → Bool} → StandsAsOpened own
found_stands u v i h n d b t word run is hash old =
    let first = head run in
    let rest = split word _ first.rest in
    let found = fetched_row u first.mid i h n b first.first old in
    let after_it = faulty_keeps u (letter.Fetch i h (Ok (n, b))) first.mid first.first old in
    let between = run_keeps rest.first after_it.0 in
    let up = later_trans found.0 first.mid rest.mid found.1.everywhere found.4 between.1 in
    let opened = opened_stands found.0 rest.mid v i h n d t up found.1.everywhere (found.2 ∙ ap (λ x. Some (row.Published n x)) is.1) is.0 hash (last rest.second) between.0 in
    (opened.0, grind (arith, opened.1, after_it.1.counter, between.1.counter))

-- Lists of letters.
pub each_map : (P Q : Letter → Type 0) → ((l : Letter) → P l → Q l) → (word : List Letter) → Each P word → Each Q word
each_map P Q f [] a = tt
each_map P Q f (l ∷ word) a = (f l a.0, each_map P Q f word a.1)

-- A factory that stood has another ticket than one not below the counter.
pub older_ticket : (w : World) (f : Registered) (t : ℕ) → Agrees w → Stands w f → w.counter ≤ t → f.ticket ≢ t
older_ticket w f t a s low e = grind (arith, a.numbered.below f.ticket _ s.ticket)
