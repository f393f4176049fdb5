-- What the table grants.
use Rattle.std.proofs.Common.{◌≡◌, ℕ, ◌≤◌, Bool, true, false, cond, Option, Some, None, Err, refl, sym, ap, subst, ◌∙◌, arith}
use Rattle.std.specs.Prelude.{nat_lt, ◌==◌}
use Rattle.std.proofs.lemmas.Bool.Decides.{nat_tests}
use Rattle.iceoryx2_description.specs.declared.description.ServiceHash.{ServiceHash}
use Rattle.iceoryx2_world.specs.declared.world.Participant.{Participant}
use Rattle.iceoryx2_world.specs.declared.world.Participant.TheVariants.{Node}
use Rattle.iceoryx2_world.specs.declared.world.Phase.{Phase}
use Rattle.iceoryx2_world.specs.declared.world.Phase.TheVariants as at
use Rattle.iceoryx2_access.specs.declared.storage.ReleaseError.{ReleaseError}
use Rattle.iceoryx2_access.specs.declared.storage.RemoveError.{RemoveError}
use Rattle.iceoryx2_world.specs.declared.world.Row.{Row}
use Rattle.iceoryx2_world.specs.Orders.{hash_total, hash_exact}
use Rattle.iceoryx2_world.specs.World.{World, Segment, row_of, segment_of, phase_of, ticket_of, Tickets}
use Rattle.iceoryx2_world.specs.Acts as act
use Rattle.iceoryx2_world.specs.Steps.{ServiceView, view_after, to_view, leave_of, has_others, without_one, without_any}
use Rattle.iceoryx2_world.specs.Agreement.{Agrees}
use Rattle.iceoryx2_access.specs.Letter as letter
use Rattle.iceoryx2_world.specs.Access.{Change, node_view, own_step, or_refused, IsSureAnswer, release_of, is_ticket}
use Rattle.iceoryx2_world.specs.Interference.{IsAccessUnder}
use Rattle.iceoryx2_world.specs.Standing.{ticket_for}
use Rattle.iceoryx2_world.specs.Laws.{IsReleased}
use Rattle.iceoryx2_world.proofs.agreement.Maps.{self}
use Rattle.iceoryx2_world.proofs.agreement.Accesses.{joined_means}

own_ticket : (i : ℕ) (h : ServiceHash) (n : ℕ) → is_ticket i h n (Some (record { node = i; hash = h; number = n })) ≡ true
own_ticket i h n = rw (self hash_total hash_exact h) (grind (arith, nat_tests))

last_granted : (p : Participant) (n : ℕ) (r : Option Row) (c : ℕ) (y : Segment) → leave_of p n r (Some y) c ≡ None → ⊥
last_granted p n r c y e = elim (has_others y) as (λ b. cond b (to_view at.Idle r (Some (without_one p y)) c) (to_view (at.Leaving n) r (Some (without_any y)) c) ≡ None → ⊥) [ true ↦ λ f. cc | false ↦ λ f. cc ] e

leave_tests : (v : ServiceView) (o : Option ServiceView) (k : ℕ) (a b : Bool) → nat_lt 1 k ≡ a → (k == 1) ≡ b → 1 ≤ k → (o ≡ None → ⊥) → cond a (Some v) (cond b o None) ≡ None → ⊥
leave_tests v o k true b x y some never e = cc
leave_tests v o k false true x y some never e = never e
leave_tests v o k false false x y some never e = grind (arith, nat_tests)

leave_granted : (p : Participant) (h : ServiceHash) (x : Phase) (r : Option Row) (s : Option Segment) (c n k : ℕ) (y : Segment) → x ≡ at.Joined n k → 1 ≤ k → s ≡ Some y → view_after p h act.Leave x r s c ≡ None → ⊥
leave_granted p h (at.Joined m j) r (Some y) c n k z is some there e = let same : j ≡ k = cc in leave_tests _ (leave_of p m r (Some y) c) j _ _ refl refl (omega (arith, some, same)) (last_granted p m r c y) e
leave_granted p h _ r s c n k y is some there e = absurd (cc)

left_refused : (i : ℕ) (h : ServiceHash) (t : ℕ) (k : Tickets) (o : Option ServiceView) (e : ReleaseError) (c : Change) → IsSureAnswer (release_of i h t k o) (Err e) c → o ≡ None
left_refused i h t k None e c s = refl
left_refused i h t k (Some x) e c s = absurd (cc (s.0))

release_refused : (i : ℕ) (h : ServiceHash) (t : ℕ) (k : Tickets) (b : Bool) (other : ReleaseError) (o : Option ServiceView) (e : ReleaseError) (c : Change) → b ≡ true → IsSureAnswer (cond b (release_of i h t k o) (Err other)) (Err e) c → o ≡ None
release_refused i h t k true other o e c is s = left_refused i h t k o e c s
release_refused i h t k false other o e c is s = absurd (cc)

-- A standing factory's ticket is released.
pub release_granted : {own : ℕ → Bool} → IsReleased own
release_granted w v f e mine old s a =
    let u = a.between in
    let i = f.node in
    let h = f.description.hash in
    let left = a.before old in
    let there : ticket_of u f.ticket ≡ Some (ticket_for f) = left.tickets.kept f.ticket (ticket_for f) mine s.ticket in
    let test : is_ticket i h f.number (ticket_of u f.ticket) ≡ true = ap (is_ticket i h f.number) there ∙ own_ticket i h f.number in
    let j = joined_means _ f.number (left.agrees.held.number f.ticket (ticket_for f) there) in
    let c = (left.agrees.everywhere h).joined (Node i) f.number j.0 j.1 in
    leave_granted (Node i) h (phase_of u (Node i) h) (row_of u h) (segment_of u h) u.counter f.number j.0 c.2.segment j.1 c.0 c.2.there (release_refused i h f.ticket u.tickets _ _ (own_step i h act.Leave (node_view u i h).view) e (a.part).change test (a.part).own)

-- A tag is always removed.
pub tag_granted : {own : ℕ → Bool} (w v : World) (i : ℕ) (h : ServiceHash) (e : RemoveError) → IsAccessUnder own w (letter.RemoveTag i h (Err e)) v → ⊥
tag_granted w v i h e a = let is = (a.part).own.0 in cc

step_refused : (e f : RemoveError) (o : Option ServiceView) (c : Change) → IsSureAnswer (or_refused {A = Unit {0}} f tt o) (Err e) c → o ≡ None
step_refused e f None c s = refl
step_refused e f (Some x) c s = absurd (cc (s.0))

-- where a phase lets its node remove the segment, and the description
abbrev pub MayClear : Phase → Type 0
MayClear (at.Locked n) = Unit {0}
MayClear (at.Made n) = Unit {0}
MayClear (at.Leaving n) = Unit {0}
MayClear _ = ⊥

abbrev pub MayEnd : Phase → Type 0
MayEnd (at.Cleared n) = Unit {0}
MayEnd x = MayClear x

clear_step : (p : Participant) (h : ServiceHash) (x : Phase) (r : Option Row) (s : Option Segment) (c : ℕ) → MayClear x → view_after p h act.RemoveSegment x r s c ≡ None → ⊥
clear_step p h (at.Locked n) r s c ok e = cc
clear_step p h (at.Made n) r s c ok e = cc
clear_step p h (at.Leaving n) r s c ok e = cc
clear_step p h _ r s c ok e = absurd ok

end_step : (p : Participant) (h : ServiceHash) (x : Phase) (r : Option Row) (s : Option Segment) (c : ℕ) → MayEnd x → view_after p h act.RemoveDescription x r s c ≡ None → ⊥
end_step p h (at.Locked n) r s c ok e = cc
end_step p h (at.Made n) r s c ok e = cc
end_step p h (at.Leaving n) r s c ok e = cc
end_step p h (at.Cleared n) r s c ok e = cc
end_step p h _ r s c ok e = absurd ok

-- Who made a lock or a segment, or left as the last, is granted what it has to remove.
pub segment_granted : {own : ℕ → Bool} (w v : World) (i : ℕ) (h : ServiceHash) (e : RemoveError) → own i ≡ true → Agrees w → MayClear (phase_of w (Node i) h) → IsAccessUnder own w (letter.RemoveSegment i h (Err e)) v → ⊥
segment_granted w v i h e mine old ok a = clear_step (Node i) h (phase_of a.between (Node i) h) (row_of a.between h) (segment_of a.between h) (a.between).counter (subst MayClear (sym ((a.before old).phases i h mine)) ok) (step_refused e _ (own_step i h act.RemoveSegment (node_view a.between i h).view) (a.part).change (a.part).own)

pub description_granted : {own : ℕ → Bool} (w v : World) (i : ℕ) (h : ServiceHash) (e : RemoveError) → own i ≡ true → Agrees w → MayEnd (phase_of w (Node i) h) → IsAccessUnder own w (letter.RemoveDescription i h (Err e)) v → ⊥
description_granted w v i h e mine old ok a = end_step (Node i) h (phase_of a.between (Node i) h) (row_of a.between h) (segment_of a.between h) (a.between).counter (subst MayEnd (sym ((a.before old).phases i h mine)) ok) (step_refused e _ (own_step i h act.RemoveDescription (node_view a.between i h).view) (a.part).change (a.part).own)
