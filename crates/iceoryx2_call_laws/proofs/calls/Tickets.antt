-- Which tickets come and go in a whole call, whatever others do within it and whichever of its accesses are refused.
use Rattle.std.proofs.Common.{◌≡◌, ℕ, ◌+◌, Bool, inl, inr, List, None, Result, Ok, Err, refl, sym, ap, subst, ◌∙◌}
use Rattle.std.specs.FinMap as map
use Rattle.std.proofs.lemmas.Cmp.{nat_cmp_total}
use Rattle.std.proofs.lemmas.Map.Lookups.{exact_unsigned}
use Rattle.iceoryx2_description.specs.declared.description.ServiceHash.{ServiceHash}
use Rattle.iceoryx2_description.specs.Description.{Description}
use Rattle.iceoryx2_access.specs.declared.storage.RemoveError.{RemoveError}
use Rattle.iceoryx2_access.specs.declared.storage.Release.{Release as Released}
use Rattle.iceoryx2_access.specs.declared.storage.Release.TheVariants as leave
use Rattle.iceoryx2_access.specs.declared.storage.ReleaseError.TheVariants as releasing_error
use Rattle.iceoryx2_access.specs.Letter.{Letter}
use Rattle.iceoryx2_access.specs.Letter as letter
use Rattle.iceoryx2_access.specs.Run.{Run, done, next}
use Rattle.iceoryx2_access.proofs.Run.{head, last}
use Rattle.iceoryx2_access.specs.Registered.{Registered}
use Rattle.iceoryx2_world.specs.declared.world.Participant.TheVariants.{Node}
use Rattle.iceoryx2_world.specs.declared.world.Ticket.{Ticket}
use Rattle.iceoryx2_world.specs.World.{World, Tickets}
use Rattle.iceoryx2_world.specs.Acts as act
use Rattle.iceoryx2_world.specs.Calm.{IsCalmLetter}
use Rattle.iceoryx2_world.specs.Agreement.{Agrees}
use Rattle.iceoryx2_world.specs.Interference.{SameTickets, IsFallibleUnder}
use Rattle.iceoryx2_world.proofs.agreement.Interference.{tickets_refl, tickets_trans, tickets_equal, tickets_insert, tickets_remove}
use Rattle.iceoryx2_world.specs.Standing.{ticket_for}
use Rattle.iceoryx2_world.proofs.agreement.Accesses.{granted, faulty_keeps}
use Rattle.iceoryx2_world.proofs.agreement.Calm.{Tame, ends, goes, locks, unlocks}
use Rattle.iceoryx2_world.proofs.agreement.Effects.{allowed_step}
use Rattle.iceoryx2_world.proofs.agreement.Maps.{set_cases}
use Rattle.iceoryx2_world.proofs.agreement.Parts.{mine, Part, stays, tagged, calm, removed, publishes, joins, releases, own_part, publishing, joining, releasing}
use Rattle.iceoryx2_world.proofs.agreement.Worlds.{ticket_put, step_tickets}
use Rattle.iceoryx2_errors.specs.declared.error.CloseError.TheVariants as closing
use Rattle.iceoryx2_rounds.specs.Closes.{IsCloseWord, first_refused, not_here, still_counted, left, last as last_left}
use Rattle.iceoryx2_call_laws.specs.Laws.{TakesItsTicket, TakesTicketOut}
use Rattle.iceoryx2_call_laws.specs.Tickets.{CloseAnswer, HandsNothingBack, tickets_after_close}

-- ---- accesses by which no ticket comes or goes

abbrev KeepsTickets : Letter → Type 0
KeepsTickets (letter.Publish i h n d (Ok t)) = ⊥
KeepsTickets (letter.OpenSegment i h n (Ok t)) = ⊥
KeepsTickets (letter.Release t i h n (Ok a)) = ⊥
KeepsTickets _ = Unit {0}

part_tickets : (w : World) (l : Letter) (v : World) → KeepsTickets l → Part w l v → v.tickets ≡ w.tickets
part_tickets w l v ok (stays e) = ap (λ (z : World). z.tickets) e
part_tickets w l v ok (tagged t e) = ap (λ (z : World). z.tickets) e
part_tickets w l v ok (calm i h a who is e) = step_tickets w v (Node i) h a (allowed_step w v (Node i) h a e)
part_tickets w l v ok (removed i h is e) = step_tickets w v (Node i) h act.RemoveDescription (allowed_step w v (Node i) h act.RemoveDescription e)
part_tickets w l v ok (publishes i h n d t is p) = absurd (subst KeepsTickets is ok)
part_tickets w l v ok (joins i h n t is p) = absurd (subst KeepsTickets is ok)
part_tickets w l v ok (releases t i h n a is p) = absurd (subst KeepsTickets is ok)

same_tickets : {own : ℕ → Bool} (w : World) (l : Letter) (v : World) → KeepsTickets l → IsFallibleUnder own w l v → Agrees w → SameTickets own w.tickets v.tickets
same_tickets {own} w l v ok a old = tickets_trans own w.tickets a.between.tickets v.tickets (a.before old).tickets (elim a.part [
  | inl o ↦ tickets_equal own a.between.tickets v.tickets (part_tickets a.between l v ok (own_part a.between l v o))
  | inr f ↦ tickets_equal own a.between.tickets v.tickets (ap (λ (z : World). z.tickets) f.1)
])

calm_keeps : (l : Letter) → IsCalmLetter l → KeepsTickets l
calm_keeps (letter.Publish i h n d (Ok t)) ok = absurd ok
calm_keeps (letter.Publish i h n d (Err e)) ok = tt
calm_keeps (letter.OpenSegment i h n (Ok t)) ok = absurd ok
calm_keeps (letter.OpenSegment i h n (Err e)) ok = tt
calm_keeps (letter.Release t i h n (Ok a)) ok = absurd ok
calm_keeps (letter.Release t i h n (Err e)) ok = tt
calm_keeps _ ok = tt

pub tame_tickets : {own : ℕ → Bool} {node : ℕ} {hash : ServiceHash} {b c : Bool} {word : List Letter} {w v : World} → Tame node hash b word c → Run (IsFallibleUnder own) w word v → Agrees w
    → SameTickets own w.tickets v.tickets
tame_tickets {own} {w = w} ends done old = tickets_refl own w.tickets
tame_tickets {own} {w = w} {v = v} (goes {l = l} ok more) (next {mid = u} s rest) old = tickets_trans own w.tickets u.tickets v.tickets (same_tickets w l u (calm_keeps l ok) s old) (tame_tickets more rest (faulty_keeps {own = own} w l u s old).0)
tame_tickets {own} {node} {hash} {w = w} {v = v} (locks {n = n} more) (next {mid = u} s rest) old = let l = letter.Lock node hash (Ok n) in tickets_trans own w.tickets u.tickets v.tickets (same_tickets w l u tt s old) (tame_tickets more rest (faulty_keeps {own = own} w l u s old).0)
tame_tickets {own} {node} {hash} {w = w} {v = v} (unlocks x more) (next {mid = u} s rest) old = let l = letter.RemoveDescription node hash x in tickets_trans own w.tickets u.tickets v.tickets (same_tickets w l u tt s old) (tame_tickets more rest (faulty_keeps {own = own} w l u s old).0)

-- ---- accesses by which one comes or goes

-- the own part, and what was left alone before it
part_put : (u m v : World) (t : ℕ) (x : Ticket) → v ≡ ticket_put m t x → m.tickets ≡ u.tickets → v.tickets ≡ map.insert u.tickets t x
part_put u m v t x is before = ap (λ (z : World). z.tickets) is ∙ ap (λ k. map.insert k t x) before

module _ {own : ℕ → Bool} where
  pub publish_tickets : (w v : World) (i : ℕ) (h : ServiceHash) (n : ℕ) (d : Description) (t : ℕ) → IsFallibleUnder own w (letter.Publish i h n d (Ok t)) v → Agrees w
      → SameTickets own (map.insert w.tickets t (mine i h n)) v.tickets
  publish_tickets w v i h n d t s old =
      let a = granted w (letter.Publish i h n d (Ok t)) v (λ x. cc) s in
      let u = a.between in
      let p = publishing u v i h n d t a.part in
      tickets_trans own (map.insert w.tickets t (mine i h n)) (map.insert u.tickets t (mine i h n)) v.tickets (tickets_insert own w.tickets u.tickets t (mine i h n) (a.before old).tickets)
      (tickets_equal own (map.insert u.tickets t (mine i h n)) v.tickets (part_put u p.mid v t (mine i h n) p.is (step_tickets u p.mid (Node i) h (act.Publish d) (allowed_step u p.mid (Node i) h (act.Publish d) p.step))))

  pub opening_tickets : (w v : World) (i : ℕ) (h : ServiceHash) (n t : ℕ) → IsFallibleUnder own w (letter.OpenSegment i h n (Ok t)) v → Agrees w
      → SameTickets own (map.insert w.tickets t (mine i h n)) v.tickets
  opening_tickets w v i h n t s old =
      let a = granted w (letter.OpenSegment i h n (Ok t)) v (λ x. cc) s in
      let u = a.between in
      let p = joining u v i h n t a.part in
      let mid : World = record p.mid { counter = u.counter + 1 } in
      tickets_trans own (map.insert w.tickets t (mine i h n)) (map.insert u.tickets t (mine i h n)) v.tickets (tickets_insert own w.tickets u.tickets t (mine i h n) (a.before old).tickets)
      (tickets_equal own (map.insert u.tickets t (mine i h n)) v.tickets (part_put u mid v t (mine i h n) p.is (step_tickets u p.mid (Node i) h act.Join (allowed_step u p.mid (Node i) h act.Join p.step))))

  release_tickets : (w v : World) (t i : ℕ) (h : ServiceHash) (n : ℕ) (x : Released) → IsFallibleUnder own w (letter.Release t i h n (Ok x)) v → Agrees w
      → SameTickets own (map.remove w.tickets t) v.tickets
  release_tickets w v t i h n x s old =
      let a = granted w (letter.Release t i h n (Ok x)) v (λ y. cc) s in
      let u = a.between in
      let p = releasing u v t i h n x a.part in
      let before = step_tickets u p.mid (Node i) h act.Leave (allowed_step u p.mid (Node i) h act.Leave p.step) in
      tickets_trans own (map.remove w.tickets t) (map.remove u.tickets t) v.tickets (tickets_remove own w.tickets u.tickets t (a.before old).tickets)
      (tickets_equal own (map.remove u.tickets t) v.tickets (ap (λ (z : World). z.tickets) p.is ∙ ap (λ k. map.remove k t) before))

  -- after accesses that keep own tickets, one that puts one
  pub then_put : (w u v : World) (t : ℕ) (x : Ticket) → SameTickets own w.tickets u.tickets → SameTickets own (map.insert u.tickets t x) v.tickets → SameTickets own (map.insert w.tickets t x) v.tickets
  then_put w u v t x a b = tickets_trans own (map.insert w.tickets t x) (map.insert u.tickets t x) v.tickets (tickets_insert own w.tickets u.tickets t x a) b

-- the ticket, as that of its factory
of_factory : (k : Tickets) (i : ℕ) (h : ServiceHash) (n : ℕ) (d : Description) (t : ℕ) → d.hash ≡ h
    → map.insert k t (mine i h n) ≡ map.insert k t (ticket_for (record { node = i; number = n; ticket = t; description = d }))
of_factory k i h n d t same = λ j. map.insert k t (record { node = i; hash = sym same j; number = n })

pub given_ticket : {own : ℕ → Bool} (node : ℕ) (hash : ServiceHash) (w u v : World) (n : ℕ) (d : Description) (t : ℕ) → d.hash ≡ hash → SameTickets own w.tickets u.tickets → SameTickets own (map.insert u.tickets t (mine node hash n)) v.tickets
    → SameTickets own (map.insert w.tickets t (ticket_for (record { node = node; number = n; ticket = t; description = d }))) v.tickets
given_ticket {own} node hash w u v n d t same a b = subst (λ z. SameTickets own z v.tickets) (of_factory w.tickets node hash n d t same) (then_put w u v t (mine node hash n) a b)

-- ---- a close

removed_tickets : (k : Tickets) (r : Registered) (tag segment description : Result (Unit {0}) RemoveError)
    → map.remove k r.ticket ≡ tickets_after_close k r (first_refused tag segment description)
removed_tickets k r (Err e) segment description = refl
removed_tickets k r (Ok x) (Err e) description = refl
removed_tickets k r (Ok x) (Ok y) (Err e) = refl
removed_tickets k r (Ok x) (Ok y) (Ok z) = refl

pub takes_its_ticket : (own : ℕ → Bool) → TakesItsTicket own
takes_its_ticket own r word answer w v not_here run old =
    same_tickets w (letter.Release r.ticket r.node r.description.hash r.number (Err releasing_error.NoSuchTicket)) v tt (last run) old
takes_its_ticket own r word answer w v still_counted run old = release_tickets w v r.ticket r.node r.description.hash r.number leave.StillCounted (last run) old
takes_its_ticket own r word answer w v (left tag) run old =
    let first = head run in
    let old_1 = (faulty_keeps {own = own} w (letter.Release r.ticket r.node r.description.hash r.number (Ok leave.Left)) first.mid first.first old).0 in
    subst (λ z. SameTickets own z v.tickets) (removed_tickets w.tickets r tag (Ok tt) (Ok tt))
    (tickets_trans own (map.remove w.tickets r.ticket) first.mid.tickets v.tickets (release_tickets w first.mid r.ticket r.node r.description.hash r.number leave.Left first.first old) (same_tickets first.mid (letter.RemoveTag r.node r.description.hash tag) v tt (last first.rest) old_1))
takes_its_ticket own r word answer w v (last_left tag segment description) run old =
    let i = r.node in
    let h = r.description.hash in
    let first = head run in
    let second = head first.rest in
    let third = head second.rest in
    let old_1 = (faulty_keeps {own = own} w (letter.Release r.ticket i h r.number (Ok leave.Last)) first.mid first.first old).0 in
    let old_2 = (faulty_keeps {own = own} first.mid (letter.RemoveTag i h tag) second.mid second.first old_1).0 in
    let old_3 = (faulty_keeps {own = own} second.mid (letter.RemoveSegment i h segment) third.mid third.first old_2).0 in
    let gone = map.remove w.tickets r.ticket in
    subst (λ z. SameTickets own z v.tickets) (removed_tickets w.tickets r tag segment description)
    (tickets_trans own gone third.mid.tickets v.tickets (tickets_trans own gone second.mid.tickets third.mid.tickets (tickets_trans own gone first.mid.tickets second.mid.tickets
    (release_tickets w first.mid r.ticket i h r.number leave.Last first.first old)
    (same_tickets first.mid (letter.RemoveTag i h tag) second.mid tt second.first old_1))
    (same_tickets second.mid (letter.RemoveSegment i h segment) third.mid tt third.first old_2))
    (same_tickets third.mid (letter.RemoveDescription i h description) v tt (last third.rest) old_3))

-- after any close but one that hands its factory back
no_hand_back : (k : Tickets) (r : Registered) (answer : CloseAnswer) → HandsNothingBack answer → tickets_after_close k r answer ≡ map.remove k r.ticket
no_hand_back k r (Err (closing.NotHere s)) here = absurd (here s refl)
no_hand_back k r (Err _) here = refl
no_hand_back k r (Ok x) here = refl

pub removes_ticket : {own : ℕ → Bool} (r : Registered) {word : List Letter} {answer : CloseAnswer} {w v : World} → IsCloseWord r word answer → HandsNothingBack answer → Run (IsFallibleUnder own) w word v → Agrees w
    → SameTickets own (map.remove w.tickets r.ticket) v.tickets
removes_ticket {own} r {word} {answer} {w} {v} is here run old = subst (λ z. SameTickets own z v.tickets) (no_hand_back w.tickets r answer here) (takes_its_ticket own r word answer w v is run old)

-- no own node has the factory's ticket
pub takes_ticket_out : (own : ℕ → Bool) → TakesTicketOut (IsFallibleUnder own) (λ u. u) own
takes_ticket_out own r word answer w v is here run old x of_own there =
    let was = (removes_ticket r is here run old).no_other r.ticket x of_own there in
    elim (set_cases nat_cmp_total exact_unsigned w.tickets r.ticket None r.ticket) [ inl i ↦ absurd (cc (sym was ∙ i.1)) | inr i ↦ absurd (i.0 refl) ]

pub no_refusal : {answer : CloseAnswer} → answer ≡ Ok tt → HandsNothingBack answer
no_refusal ok s e = cc
