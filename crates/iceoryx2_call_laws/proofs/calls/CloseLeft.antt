-- What a close leaves, whatever peers do within it and whichever of its removals are refused.
use Rattle.std.proofs.Common.{◌≡◌, ℕ, ◌-◌, ◌<◌, inl, inr, Option, Some, Result, Ok, Err, refl, sym, ap, subst, ◌∙◌, Bool, true}
use Rattle.iceoryx2_description.specs.declared.description.ServiceHash.{ServiceHash}
use Rattle.iceoryx2_access.specs.declared.storage.RemoveError.{RemoveError}
use Rattle.iceoryx2_access.specs.declared.storage.Release.{Release as Released}
use Rattle.iceoryx2_access.specs.declared.storage.Release.TheVariants as leave
use Rattle.iceoryx2_access.specs.Letter.{Letter}
use Rattle.iceoryx2_access.specs.Letter as letter
use Rattle.iceoryx2_access.specs.Registered.{Registered}
use Rattle.iceoryx2_access.proofs.Run.{head, last}
use Rattle.iceoryx2_world.specs.Sets as set
use Rattle.iceoryx2_world.specs.declared.world.Participant.{Participant}
use Rattle.iceoryx2_world.specs.declared.world.Participant.TheVariants.{Node}
use Rattle.iceoryx2_world.specs.declared.world.Phase.{Phase}
use Rattle.iceoryx2_world.specs.declared.world.Phase.TheVariants as at
use Rattle.iceoryx2_world.specs.declared.world.Row.{Row}
use Rattle.iceoryx2_world.specs.declared.world.Row.TheVariants as row
use Rattle.iceoryx2_world.specs.World.{World, Segment, row_of, segment_of, phase_of, joined_number, ticket_of}
use Rattle.iceoryx2_world.specs.Acts as act
use Rattle.iceoryx2_world.specs.Steps.{ServiceView}
use Rattle.iceoryx2_world.specs.ServiceAgreement.{Later, IsPublished}
use Rattle.iceoryx2_world.specs.Agreement.{Agrees}
use Rattle.iceoryx2_world.specs.Access.{write, release_answer}
use Rattle.iceoryx2_world.specs.Orders.{tag_cmp}
use Rattle.iceoryx2_world.specs.Interference.{SameTags, IsFallibleUnder}
use Rattle.iceoryx2_world.proofs.agreement.Interference.{tags_trans, tags_equal, tags_remove}
use Rattle.iceoryx2_world.specs.StepCases.{IsStep, leaves_once, leaves, leaves_last}
use Rattle.iceoryx2_world.proofs.agreement.StepCases.{step_case}
use Rattle.iceoryx2_world.proofs.agreement.Effects.{allowed_step}
use Rattle.iceoryx2_world.proofs.agreement.Parts.{mine, clearing, unlocking, releasing}
use Rattle.iceoryx2_world.proofs.agreement.Accesses.{joined_means, later_trans, faulty_keeps, granted}
use Rattle.iceoryx2_world.proofs.agreement.Stands.{own_row, own_phase, own_segment}
use Rattle.iceoryx2_world.proofs.agreement.Granted.{tag_granted, segment_granted, description_granted, MayClear, MayEnd}
use Rattle.iceoryx2_world.proofs.agreement.Closing.{released_as, tag_removed_phase, segment_removed_phase}
use Rattle.iceoryx2_rounds.specs.Closes.{not_here, still_counted, left, last as last_left}
use Rattle.iceoryx2_call_laws.specs.Laws.{CloseLeavesWhatIsRefused}
use Rattle.iceoryx2_call_laws.specs.CloseLeaves.{tags_without, SegmentAfter, RowAfter, last_phase, phase_after, counts_less, leaves_others, leaves_nobody}
use Rattle.iceoryx2_call_laws.proofs.calls.Plain.{step_tags}
use Rattle.iceoryx2_call_laws.proofs.calls.Left.{unlock_row}
use Rattle.iceoryx2_call_laws.proofs.calls.Tickets.{removes_ticket}

-- where a release leads from where, by its answer
abbrev LeadsTo : ℕ → Released → (old new : Phase) → Type 0
LeadsTo n leave.StillCounted old new = (k : ℕ) × (1 < k) × (old ≡ at.Joined n k) × (new ≡ at.Joined n (k - 1))
LeadsTo n leave.Left old new = new ≡ at.Idle
LeadsTo n leave.Last old new = new ≡ at.Leaving n

leave_row : {p : Participant} {h : ServiceHash} {x : Phase} {r : Option Row} {s : Option Segment} {c : ℕ} {new : ServiceView} (n : ℕ) → IsStep p h act.Leave x r s c new → joined_number x ≡ Some n → LeadsTo n (release_answer new.phase) x new.phase
leave_row n (leaves_once {n = m} {k = k} more) e = let same : m ≡ n = cc in (k, more, ap (λ z. at.Joined z k) same, ap (λ z. at.Joined z (k - 1)) same)
leave_row n (leaves one others) e = refl
leave_row n (leaves_last {n = m} one alone) e = let same : m ≡ n = cc in ap at.Leaving same

-- what is published under a number stays as it was
row_stays : (w v : World) (h : ServiceHash) (n : ℕ) → Later w v → IsPublished n (row_of w h) → IsPublished n (row_of v h) → row_of v h ≡ row_of w h
row_stays w v h n later was is = is.1 ∙ ap (λ b. Some (row.Published n b)) (sym ((later.rows h).same_bytes n was.0 is.0 was.1 is.1)) ∙ sym was.1

-- A release that is granted.
record ReleasedTo (own : ℕ → Bool) (r : Registered) (a : Released) (w v : World) : Type 0 where
  pub tags : SameTags own w.tags v.tags
  pub phase : LeadsTo r.number a (phase_of w (Node r.node) r.description.hash) (phase_of v (Node r.node) r.description.hash)
  pub row : IsPublished r.number (row_of w r.description.hash)

release_to : (own : ℕ → Bool) (r : Registered) → own r.node ≡ true → (a : Released) (w v : World) → IsFallibleUnder own w (letter.Release r.ticket r.node r.description.hash r.number (Ok a)) v → Agrees w → ReleasedTo own r a w v
release_to own r is_own a w v x old =
    let t = r.ticket in
    let i = r.node in
    let h = r.description.hash in
    let n = r.number in
    let b = granted w (letter.Release t i h n (Ok a)) v (λ e. cc) x in
    let u = b.between in
    let rel = releasing u v t i h n a b.part in
    let st = allowed_step u rel.mid (Node i) h act.Leave rel.step in
    let alone = b.before old in
    let here : ticket_of w t ≡ Some (mine i h n) = alone.tickets.no_other t (mine i h n) is_own rel.ticket in
    let joined = old.held.number t (mine i h n) here in
    let still = alone.phases i h is_own in
    let view : phase_of v (Node i) h ≡ st.view.phase = ap (λ z. phase_of z (Node i) h) rel.is ∙ own_phase u rel.mid i h act.Leave st in
    let leads = leave_row n (step_case (Node i) h act.Leave (phase_of u (Node i) h) (row_of u h) (segment_of u h) u.counter st.view st.is) (ap joined_number still ∙ joined) in
    let to : LeadsTo n (release_answer (phase_of v (Node i) h)) (phase_of u (Node i) h) (phase_of v (Node i) h) = subst (λ y. LeadsTo n (release_answer y) (phase_of u (Node i) h) y) (sym view) leads in
    let answered : LeadsTo n a (phase_of u (Node i) h) (phase_of v (Node i) h) = subst (λ y. LeadsTo n y (phase_of u (Node i) h) (phase_of v (Node i) h)) (sym (released_as u v t i h n a b.part)) to in
    let j = joined_means _ n joined in
    let tags_is : v.tags ≡ u.tags = ap (λ (z : World). z.tags) rel.is ∙ step_tags u rel.mid (Node i) h act.Leave rel.step in
    record {
      tags = tags_trans own w.tags u.tags v.tags alone.tags (tags_equal own u.tags v.tags tags_is);
      phase = subst (λ y. LeadsTo n a y (phase_of v (Node i) h)) still answered;
      row = ((old.everywhere h).joined (Node i) n j.0 j.1).1;
    }

-- without a tag that is removed
tags_without_same : (own : ℕ → Bool) (a : Result (Unit {0}) RemoveError) (s t : set.FinSet tag_cmp) (x : ℕ × ServiceHash) → SameTags own s t → SameTags own (tags_without a s x) (tags_without a t x)
tags_without_same own (Ok y) s t x e = tags_remove own s t x e
tags_without_same own (Err e) s t x k = k

module _ (own : ℕ → Bool) (i : ℕ) (is_own : own i ≡ true) (h : ServiceHash) where
  -- the removals
  tags_after : (w v : World) (a : Result (Unit {0}) RemoveError) → IsFallibleUnder own w (letter.RemoveTag i h a) v → Agrees w → SameTags own (tags_without a w.tags (i, h)) v.tags
  tags_after w v (Ok y) x old =
      let a = granted w (letter.RemoveTag i h (Ok y)) v (λ e. cc) x in
      let u = a.between in
      let part = a.part in
      tags_trans own (set.remove w.tags (i, h)) (set.remove u.tags (i, h)) v.tags (tags_remove own w.tags u.tags (i, h) (a.before old).tags) (tags_equal own (set.remove u.tags (i, h)) v.tags (ap (λ (z : World). z.tags) (part.is ∙ ap (write u i h) part.own.1)))
  tags_after w v (Err e) x old = elim x.part [
    | inl o ↦ absurd (tag_granted {own = own} w v i h e (record { between = x.between; before = x.before; part = o }))
    | inr f ↦ tags_trans own w.tags x.between.tags v.tags (x.before old).tags (tags_equal own x.between.tags v.tags (ap (λ (z : World). z.tags) f.1))
  ]

  -- where the last one is after the removal of its segment
  record HasRemoved (n : ℕ) (a : Result (Unit {0}) RemoveError) (w v : World) : Type 0 where
    pub tags : SameTags own w.tags v.tags
    pub phase : phase_of v (Node i) h ≡ last_phase a n

  segment_removed : (w v : World) (n : ℕ) (a : Result (Unit {0}) RemoveError) → Agrees w → phase_of w (Node i) h ≡ at.Leaving n → IsFallibleUnder own w (letter.RemoveSegment i h a) v → HasRemoved n a w v
  segment_removed w v n (Ok y) old is x =
      let b = granted w (letter.RemoveSegment i h (Ok y)) v (λ e. cc) x in
      let u = b.between in
      record {
        tags = tags_trans own w.tags u.tags v.tags (b.before old).tags (tags_equal own u.tags v.tags (step_tags u v (Node i) h act.RemoveSegment (clearing u v i h y b.part)));
        phase = segment_removed_phase {own = own} w v i h n y is_own old is x;
      }
  segment_removed w v n (Err e) old is x = elim x.part [
    | inl o ↦ absurd (segment_granted {own = own} w v i h e is_own old (subst MayClear (sym is) tt) (record { between = x.between; before = x.before; part = o }))
    | inr f ↦
        let left = x.before old in
        record {
          tags = tags_trans own w.tags x.between.tags v.tags left.tags (tags_equal own x.between.tags v.tags (ap (λ (z : World). z.tags) f.1));
          phase = ap (λ z. phase_of z (Node i) h) f.1 ∙ left.phases i h is_own ∙ is;
        }
  ]

  -- what is there while the last one is there
  record IsStill (n : ℕ) (a : Result (Unit {0}) RemoveError) (w : World) : Type 0 where
    pub segment_after : SegmentAfter a n (segment_of w h)
    pub row : IsPublished n (row_of w h)

  still : (w : World) (n : ℕ) (a : Result (Unit {0}) RemoveError) → Agrees w → phase_of w (Node i) h ≡ last_phase a n → IsStill n a w
  still w n (Ok y) old is = let k = (old.everywhere h).cleared (Node i) n is in record { segment_after = k.1; row = k.0 }
  still w n (Err e) old is = let k = (old.everywhere h).leaving (Node i) n is in record { segment_after = k.1; row = k.0 }

  may_end : (n : ℕ) (a : Result (Unit {0}) RemoveError) → MayEnd (last_phase a n)
  may_end n (Ok y) = tt
  may_end n (Err e) = tt

  record HasEnded (n : ℕ) (segment a : Result (Unit {0}) RemoveError) (w v : World) : Type 0 where
    pub tags : SameTags own w.tags v.tags
    pub segment_after : SegmentAfter segment n (segment_of v h)
    pub row : RowAfter a n (row_of w h) (row_of v h)
    pub phase : phase_of v (Node i) h ≡ phase_after segment a n

  ended : (w v : World) (n : ℕ) (segment a : Result (Unit {0}) RemoveError) → Agrees w → phase_of w (Node i) h ≡ last_phase segment n → IsFallibleUnder own w (letter.RemoveDescription i h a) v → HasEnded n segment a w v
  ended w v n segment (Ok y) old is x =
      let b = granted w (letter.RemoveDescription i h (Ok y)) v (λ e. cc) x in
      let u = b.between in
      let alone = b.before old in
      let e = unlocking u v i h y b.part in
      let st = allowed_step u v (Node i) h act.RemoveDescription e in
      let k = unlock_row (step_case (Node i) h act.RemoveDescription (phase_of u (Node i) h) (row_of u h) (segment_of u h) u.counter st.view st.is) in
      let s = still u n segment alone.agrees (alone.phases i h is_own ∙ is) in
      record {
        tags = tags_trans own w.tags u.tags v.tags alone.tags (tags_equal own u.tags v.tags (step_tags u v (Node i) h act.RemoveDescription e));
        segment_after = subst (λ z. SegmentAfter segment n z) (sym (own_segment u v (Node i) h act.RemoveDescription st ∙ k.segment)) s.segment_after;
        row = own_row u v (Node i) h act.RemoveDescription st ∙ k.row;
        phase = own_phase u v i h act.RemoveDescription st ∙ k.phase;
      }
  ended w v n segment (Err e) old is x = elim x.part [
    | inl o ↦ absurd (description_granted {own = own} w v i h e is_own old (subst MayEnd (sym is) (may_end n segment)) (record { between = x.between; before = x.before; part = o }))
    | inr f ↦
        let u = x.between in
        let left = x.before old in
        let was = still w n segment old is in
        let now = left.phases i h is_own ∙ is in
        let s = still u n segment left.agrees now in
        subst (λ z. HasEnded n segment (Err e) w z) (sym f.1) (record { tags = left.tags; segment_after = s.segment_after; row = (s.row, row_stays w u h n left.later was.row s.row); phase = now })
  ]

  -- from a row that was published before
  row_from : (u w v : World) (n : ℕ) (a : Result (Unit {0}) RemoveError) → Later u w → IsPublished n (row_of u h) → IsPublished n (row_of w h) → RowAfter a n (row_of w h) (row_of v h) → RowAfter a n (row_of u h) (row_of v h)
  row_from u w v n (Ok y) later was is k = k
  row_from u w v n (Err e) later was is k = (k.0, k.1 ∙ row_stays u w h n later was is)

-- What each close leaves.
pub close_leaves : (own : ℕ → Bool) → CloseLeavesWhatIsRefused (IsFallibleUnder own) (λ u. u) own
close_leaves own r word answer w v is_own not_here here run old = absurd (here _ refl)
close_leaves own r word answer w v is_own still_counted here run old =
    let k = release_to own r is_own leave.StillCounted w v (last run) old in
    let kept = faulty_keeps {own = own} w (letter.Release r.ticket r.node r.description.hash r.number (Ok leave.StillCounted)) v (last run) old in
    let now = (kept.0.everywhere r.description.hash).joined (Node r.node) r.number (k.phase.0 - 1) k.phase.3 in
    counts_less (record {
      tickets = removes_ticket r still_counted here run old;
      tags = k.tags;
      count = k.phase.0;
      more = k.phase.1;
      before = k.phase.2;
      after = k.phase.3;
      row = row_stays w v r.description.hash r.number kept.1 k.row now.1;
      member = now.2;
    })
close_leaves own r word answer w v is_own (left tag) here run old =
    let i = r.node in
    let h = r.description.hash in
    let first = head run in
    let k = release_to own r is_own leave.Left w first.mid first.first old in
    let old_1 = (faulty_keeps {own = own} w (letter.Release r.ticket i h r.number (Ok leave.Left)) first.mid first.first old).0 in
    let x = last first.rest in
    leaves_others (record {
      tickets = removes_ticket r (left tag) here run old;
      tags = tags_trans own (tags_without tag w.tags (i, h)) (tags_without tag first.mid.tags (i, h)) v.tags (tags_without_same own tag w.tags first.mid.tags (i, h) k.tags) (tags_after own i is_own h first.mid v tag x old_1);
      phase = tag_removed_phase {own = own} first.mid v i h tag is_own old_1 x ∙ k.phase;
    })
close_leaves own r word answer w v is_own (last_left tag segment description) here run old =
    let i = r.node in
    let h = r.description.hash in
    let n = r.number in
    let first = head run in
    let second = head first.rest in
    let third = head second.rest in
    let x = last third.rest in
    let k = release_to own r is_own leave.Last w first.mid first.first old in
    let kept_1 = faulty_keeps {own = own} w (letter.Release r.ticket i h n (Ok leave.Last)) first.mid first.first old in
    let kept_2 = faulty_keeps {own = own} first.mid (letter.RemoveTag i h tag) second.mid second.first kept_1.0 in
    let kept_3 = faulty_keeps {own = own} second.mid (letter.RemoveSegment i h segment) third.mid third.first kept_2.0 in
    let later = later_trans w second.mid third.mid old.everywhere (later_trans w first.mid second.mid old.everywhere kept_1.1 kept_2.1) kept_3.1 in
    let cleared = segment_removed own i is_own h second.mid third.mid n segment kept_2.0 (tag_removed_phase {own = own} first.mid second.mid i h tag is_own kept_1.0 second.first ∙ k.phase) third.first in
    let e = ended own i is_own h third.mid v n segment description kept_3.0 cleared.phase x in
    let without = tags_without tag w.tags (i, h) in
    leaves_nobody (record {
      tickets = removes_ticket r (last_left tag segment description) here run old;
      tags = tags_trans own without third.mid.tags v.tags (tags_trans own without second.mid.tags third.mid.tags
          (tags_trans own without (tags_without tag first.mid.tags (i, h)) second.mid.tags (tags_without_same own tag w.tags first.mid.tags (i, h) k.tags) (tags_after own i is_own h first.mid second.mid tag second.first kept_1.0))
          cleared.tags) e.tags;
      segment_after = e.segment_after;
      row = row_from own i is_own h w third.mid v n description later k.row (still own i is_own h third.mid n segment kept_3.0 cleared.phase).row e.row;
      phase = e.phase;
    })
