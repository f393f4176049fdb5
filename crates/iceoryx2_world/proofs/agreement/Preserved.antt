use Rattle.std.proofs.Common.{◌≡◌, ℕ, ◌+◌, ◌<◌, ◌≤◌, true, false, List, Option, Some, None, inl, inr, refl, sym, ap, subst, ◌∙◌, arith}
use Rattle.iceoryx2_world.specs.Sets as set
use Rattle.iceoryx2_world.specs.declared.world.Participant.{Participant}
use Rattle.iceoryx2_description.specs.declared.description.ServiceHash.{ServiceHash}
use Rattle.iceoryx2_world.specs.declared.world.Phase.{Phase}
use Rattle.iceoryx2_world.specs.declared.world.Phase.TheVariants as at
use Rattle.iceoryx2_world.specs.declared.world.Row.{Row}
use Rattle.iceoryx2_world.specs.declared.world.Row.TheVariants as row
use Rattle.iceoryx2_world.specs.Orders.{participant_cmp}
use Rattle.iceoryx2_world.specs.World.{Segment, begins, locked_number, is_last}
use Rattle.iceoryx2_world.specs.Steps.{new_segment}
use Rattle.iceoryx2_description.specs.Description.{Description, max_nodes_of}
use Rattle.iceoryx2_data.specs.Form.{IsForm}
use Rattle.iceoryx2_world.specs.ServiceAgreement.{AgreesAt, Describes, HasMember, IsPublished}
use Rattle.iceoryx2_world.proofs.agreement.Moved.{moved, moved_here, at_each, contains_alone, contains_insert, contains_inserted, contains_remove, contains_insert_other, contains_remove_other, len_alone, len_insert_le, len_remove_le, only_one, last_cases, not_last}

-- a description stays one where who is registered stays so
pub still_describes : (h : ServiceHash) (n : ℕ) (b : List ℕ) (s : Option Segment) (f g : Participant → Phase) → ((q : Participant) (k : ℕ) → f q ≡ at.Joined n k → (m : ℕ) × (g q ≡ at.Joined n m)) → Describes h n b s f → Describes h n b s g
still_describes h n b s f g stay d = record {
  description = d.description;
  form = d.form;
  hash = d.hash;
  segment = λ y e. let x = d.segment y e in record { number = x.number; capacity = x.capacity; few = x.few; members = λ q i. let j = x.members q i in stay q j.0 j.1 };
}

-- who is in an unmarked segment stays there, where its participants change otherwise
pub held_on : (n : ℕ) (q : Participant) (s t : Segment) → HasMember (Some s) n q → t.number ≡ s.number → t.marked ≡ s.marked → (set.contains s.participants q ≡ true → set.contains t.participants q ≡ true) → HasMember (Some t) n q
held_on n q s t held number marked stays = record { segment = t; there = refl; number = grind (arith, held.there, held.number, number); unmarked = grind (arith, held.there, held.unmarked, marked); member = stays (grind (arith, held.there, held.member)) }

module _ (c : ℕ) (h : ServiceHash) (f : Participant → Phase) (p : Participant) where
  pub read_keeps : (n : ℕ) (b : List ℕ) (s : Option Segment) → begins (f p) ≡ true → AgreesAt c h (Some (row.Published n b)) s f → AgreesAt c h (Some (row.Published n b)) s (moved f p (at.Read n))
  read_keeps n b s was a =
      let x = at.Read n in
      let each = at_each f p x in
      record {
        row_below = λ y e. grind (arith, a.row_below);
        segment_below = λ y e. grind (arith, a.segment_below);
        phase_below = λ q i e. grind (arith, each q, a.phase_below q i, a.row_below (row.Published n b) refl);
        locked = λ q i e. grind (arith, each q, a.locked q i);
        holder = λ i e. absurd (cc);
        one_holder = λ q u i j e g. grind (arith, each q, each u, a.one_holder q u i j);
        made = λ q i e. grind (arith, each q, a.made q i);
        joined = λ q i k e. elim (each q) [ inl w ↦ absurd (grind (arith, w)) | inr w ↦ a.joined q i k (sym w.1 ∙ e) ];
        leaving = λ q i e. elim (each q) [ inl w ↦ absurd (grind (arith, w)) | inr w ↦ a.leaving q i (sym w.1 ∙ e) ];
        cleared = λ q i e. grind (arith, each q, a.cleared q i);
        one_last = λ q u e g. grind (arith, each q, each u, a.one_last q u);
        read_row = λ q i e g. cc;
        read_segment = λ q i y e g k l. elim (each q) [ inl w ↦ (b, grind (arith, w)) | inr w ↦ a.read_segment q i y (sym w.1 ∙ e) g k l ];
        published = λ i d e. still_describes h i d s f (moved f p x) (λ q k is. (k, grind (arith, each q, is))) (a.published i d e);
      }

  pub lock_keeps : (s : Option Segment) → AgreesAt c h None s f → AgreesAt (c + 1) h (Some (row.Locked c)) s (moved f p (at.Locked c))
  lock_keeps s a =
      let x = at.Locked c in
      let each = at_each f p x in
      record {
        row_below = λ y e. grind arith;
        segment_below = λ y e. grind (arith, a.segment_below);
        phase_below = λ q i e. grind (arith, each q, a.phase_below q i);
        locked = λ q i e. grind (arith, each q, a.locked q i);
        holder = λ i e. (p, grind (arith, moved_here f p x));
        one_holder = λ q u i j e g. grind (arith, each q, each u, a.locked q, a.locked u);
        made = λ q i e. grind (arith, each q, a.locked q i);
        joined = λ q i k e. grind (arith, each q, a.joined q i k);
        leaving = λ q i e. grind (arith, each q, a.leaving q i);
        cleared = λ q i e. grind (arith, each q, a.cleared q i);
        one_last = λ q u e g. grind (arith, each q, each u, a.one_last q u);
        read_row = λ q i e g. grind (arith, each q, a.phase_below q i);
        read_segment = λ q i y e g k l. absurd (grind (arith, each q, a.read_segment q i y));
        published = λ i d e. absurd (cc);
      }

  pub make_keeps : (n m : ℕ) (r : Option Row) → f p ≡ at.Locked n → 0 < m → AgreesAt c h r None f → AgreesAt c h r (Some (new_segment p n m)) (moved f p (at.Made n))
  make_keeps n m r was positive a =
      let x = at.Made n in
      let each = at_each f p x in
      record {
        row_below = λ y e. grind (arith, a.row_below);
        segment_below = λ y e. grind (arith, a.phase_below p n);
        phase_below = λ q i e. grind (arith, each q, a.phase_below q i, a.phase_below p n);
        locked = λ q i e. grind (arith, each q, a.locked q i, a.locked p n);
        holder = λ i e. (p, grind (arith, moved_here f p x, a.locked p n));
        one_holder = λ q u i j e g. grind (arith, each q, each u, a.one_holder q u i j, a.one_holder q p i n, a.one_holder p u n j);
        made = λ q i e. (m, grind arith, grind (arith, each q, a.one_holder q p i n));
        joined = λ q i k e. grind (arith, each q, a.joined q i k, a.locked p n);
        leaving = λ q i e. grind (arith, each q, a.leaving q i, a.locked p n);
        cleared = λ q i e. grind (arith, each q, a.cleared q i, a.locked p n);
        one_last = λ q u e g. grind (arith, each q, each u, a.one_last q u);
        read_row = λ q i e g. grind (arith, each q, a.read_row q i);
        read_segment = λ q i y e g k l. absurd (grind (arith, each q, a.read_row q i, a.locked p n));
        published = λ i d e. absurd (grind (arith, a.locked p n));
      }

  pub unmake_keeps : (n : ℕ) (r : Option Row) (s : Option Segment) → locked_number (f p) ≡ Some n → AgreesAt c h r s f → AgreesAt c h r None (moved f p (at.Locked n))
  unmake_keeps n r s was a =
      let x = at.Locked n in
      let each = at_each f p x in
      record {
        row_below = λ y e. grind (arith, a.row_below);
        segment_below = λ y e. absurd (cc);
        phase_below = λ q i e. grind (arith, each q, a.phase_below q i, a.row_below (row.Locked n), a.locked p n);
        locked = λ q i e. grind (arith, each q, a.locked q i, a.locked p n);
        holder = λ i e. (p, grind (arith, moved_here f p x, a.locked p n));
        one_holder = λ q u i j e g. grind (arith, each q, each u, a.one_holder q u i j, a.one_holder q p i n, a.one_holder p u n j);
        made = λ q i e. absurd (grind (arith, each q, a.one_holder q p i n));
        joined = λ q i k e. absurd (grind (arith, each q, a.joined q i k, a.locked p n));
        leaving = λ q i e. absurd (grind (arith, each q, a.leaving q i, a.locked p n));
        cleared = λ q i e. absurd (grind (arith, each q, a.cleared q i, a.locked p n));
        one_last = λ q u e g. grind (arith, each q, each u, a.one_last q u);
        read_row = λ q i e g. grind (arith, each q, a.read_row q i);
        read_segment = λ q i y e g k l. absurd (cc);
        published = λ i d e. absurd (grind (arith, a.locked p n));
      }

  pub unlock_keeps : (n : ℕ) (r : Option Row) (s : Option Segment) → locked_number (f p) ≡ Some n → AgreesAt c h r s f → AgreesAt c h None s (moved f p at.Idle)
  unlock_keeps n r s was a =
      let x = at.Idle in
      let each = at_each f p x in
      record {
        row_below = λ y e. absurd (cc);
        segment_below = λ y e. grind (arith, a.segment_below);
        phase_below = λ q i e. grind (arith, each q, a.phase_below q i);
        locked = λ q i e. absurd (grind (arith, each q, a.one_holder q p i n));
        holder = λ i e. absurd (cc);
        one_holder = λ q u i j e g. grind (arith, each q, each u, a.one_holder q u i j);
        made = λ q i e. absurd (grind (arith, each q, a.one_holder q p i n));
        joined = λ q i k e. absurd (grind (arith, each q, a.joined q i k, a.locked p n));
        leaving = λ q i e. absurd (grind (arith, each q, a.leaving q i, a.locked p n));
        cleared = λ q i e. absurd (grind (arith, each q, a.cleared q i, a.locked p n));
        one_last = λ q u e g. grind (arith, each q, each u, a.one_last q u);
        read_row = λ q i e g. cc;
        read_segment = λ q i y e g k l. absurd (grind (arith, each q, a.read_segment q i y, a.locked p n));
        published = λ i d e. absurd (cc);
      }

  pub publish_keeps : (n : ℕ) (d : Description) (bytes : List ℕ) (r : Option Row) (s : Segment) → f p ≡ at.Made n → IsForm d bytes → d.hash ≡ h → max_nodes_of d.pattern ≡ s.capacity → AgreesAt c h r (Some s) f → AgreesAt c h (Some (row.Published n bytes)) (Some s) (moved f p (at.Joined n 1))
  publish_keeps n d bytes r s was form hash nodes a =
      let x = at.Joined n 1 in
      let each = at_each f p x in
      record {
        row_below = λ y e. grind (arith, a.phase_below p n);
        segment_below = λ y e. grind (arith, a.segment_below);
        phase_below = λ q i e. grind (arith, each q, a.phase_below q i, a.phase_below p n);
        locked = λ q i e. absurd (grind (arith, each q, a.one_holder q p i n));
        holder = λ i e. absurd (cc);
        one_holder = λ q u i j e g. grind (arith, each q, each u, a.one_holder q p i n, a.one_holder p u n j);
        made = λ q i e. absurd (grind (arith, each q, a.one_holder q p i n));
        joined = λ q i k e.
            let it = a.made p n was in
            let one : (q ≡ p) × (i ≡ n) × (k ≡ 1) = grind (arith, each q, a.joined q i k, a.locked p n) in
            (grind arith, (bytes, grind arith), record { segment = s; there = refl; number = grind (arith, it.2); unmarked = grind (arith, it.2); member = grind (arith, it.2, contains_alone p p) });
        leaving = λ q i e. absurd (grind (arith, each q, a.leaving q i, a.locked p n));
        cleared = λ q i e. absurd (grind (arith, each q, a.cleared q i, a.locked p n));
        one_last = λ q u e g. grind (arith, each q, each u, a.one_last q u);
        read_row = λ q i e g. cc;
        read_segment = λ q i y e g k l. (bytes, grind (arith, each q, a.made p n));
        published = λ i b e.
            let it = a.made p n was in
            let one : (i ≡ n) × (b ≡ bytes) = grind arith in
            record {
              description = d;
              form = subst (IsForm d) (sym one.1) form;
              hash = hash;
              segment = λ y g. record { number = grind (arith, it.2); capacity = grind (arith, nodes); few = grind (arith, it.2, len_alone p, nodes); members = λ q in_it. (1, grind (arith, each q, it.2, contains_alone p q)) };
            };
      }

  pub join_keeps : (n : ℕ) (r : Option Row) (s : Segment) → f p ≡ at.Read n → s.number ≡ n → s.marked ≡ false → set.len s.participants < s.capacity → AgreesAt c h r (Some s) f → AgreesAt c h r (Some (record s { participants = set.insert s.participants p })) (moved f p (at.Joined n 1))
  join_keeps n r s was number unmarked room a =
      let x = at.Joined n 1 in
      let each = at_each f p x in
      let row_is = a.read_segment p n s was refl number unmarked in
      record {
        row_below = λ y e. grind (arith, a.row_below);
        segment_below = λ y e. grind (arith, a.segment_below s refl);
        phase_below = λ q i e. grind (arith, each q, a.phase_below q i, a.phase_below p n);
        locked = λ q i e. grind (arith, each q, a.locked q i);
        holder = λ i e. absurd (grind (arith, row_is));
        one_holder = λ q u i j e g. grind (arith, each q, each u, a.one_holder q u i j);
        made = λ q i e. absurd (grind (arith, each q, a.locked q i, row_is));
        joined = λ q i k e. elim (each q) [
          | inl w ↦ let one : (i ≡ n) × (k ≡ 1) = grind (arith, w) in (grind arith, (row_is.0, grind (arith, row_is)), record { segment = record s { participants = set.insert s.participants p }; there = refl; number = grind arith; unmarked = unmarked; member = subst (λ u. set.contains (set.insert s.participants p) u ≡ true) (sym w.0) (contains_inserted s.participants p) })
          | inr w ↦ let old = a.joined q i k (sym w.1 ∙ e) in (old.0, old.1, held_on i q s (record s { participants = set.insert s.participants p }) old.2 refl refl (contains_insert_other s.participants p q))
        ];
        leaving = λ q i e. absurd (grind (arith, each q, a.leaving q i));
        cleared = λ q i e. absurd (grind (arith, each q, a.cleared q i));
        one_last = λ q u e g. grind (arith, each q, each u, a.one_last q u);
        read_row = λ q i e g. grind (arith, row_is);
        read_segment = λ q i y e g k l. (row_is.0, grind (arith, row_is));
        published = λ i b e.
            let old = a.published i b e in
            let told = old.segment s refl in
            record {
              description = old.description;
              form = old.form;
              hash = old.hash;
              segment = λ y g. record {
                number = grind (arith, told.number);
                capacity = grind (arith, told.capacity);
                few = grind (arith, told.capacity, len_insert_le s.participants p);
                members = λ q in_it. elim (each q) [
                  | inl w ↦ (1, grind (arith, w, row_is))
                  | inr w ↦ let k = told.members q (grind (arith, contains_insert s.participants p q)) in (k.0, w.1 ∙ k.1)
                ];
              };
            };
      }

  pub recount_keeps : (n k m : ℕ) (r : Option Row) (s : Option Segment) → f p ≡ at.Joined n k → 1 ≤ m → AgreesAt c h r s f → AgreesAt c h r s (moved f p (at.Joined n m))
  recount_keeps n k m r s was positive a =
      let x = at.Joined n m in
      let each = at_each f p x in
      let at_p = a.joined p n k was in
      let row_is = at_p.1 in
      record {
        row_below = λ y e. grind (arith, a.row_below);
        segment_below = λ y e. grind (arith, a.segment_below);
        phase_below = λ q i e. grind (arith, each q, a.phase_below q i, a.phase_below p n);
        locked = λ q i e. grind (arith, each q, a.locked q i);
        holder = λ i e. absurd (grind (arith, row_is));
        one_holder = λ q u i j e g. grind (arith, each q, each u, a.one_holder q u i j);
        made = λ q i e. elim (each q) [ inl w ↦ absurd (grind (arith, w)) | inr w ↦ a.made q i (sym w.1 ∙ e) ];
        joined = λ q i j e. elim (each q) [
          | inl w ↦ let one : (i ≡ n) × (j ≡ m) = grind (arith, w) in (grind arith, (row_is.0, grind (arith, row_is)), subst (λ u. HasMember s i u) (sym w.0) (subst (λ u. HasMember s u p) (sym one.0) at_p.2))
          | inr w ↦ a.joined q i j (sym w.1 ∙ e)
        ];
        leaving = λ q i e. elim (each q) [ inl w ↦ absurd (grind (arith, w)) | inr w ↦ a.leaving q i (sym w.1 ∙ e) ];
        cleared = λ q i e. elim (each q) [ inl w ↦ absurd (grind (arith, w)) | inr w ↦ a.cleared q i (sym w.1 ∙ e) ];
        one_last = λ q u e g. grind (arith, each q, each u, a.one_last q u);
        read_row = λ q i e g. grind (arith, each q, a.read_row q i);
        read_segment = λ q i y e g k l. elim (each q) [ inl w ↦ absurd (grind (arith, w)) | inr w ↦ a.read_segment q i y (sym w.1 ∙ e) g k l ];
        published = λ i b e.
            still_describes h i b s f (moved f p x) (λ q j is. elim (each q) [
              | inl w ↦ (m, grind (arith, w, row_is))
              | inr w ↦ (j, w.1 ∙ is)
            ]) (a.published i b e);
      }

  pub leave_keeps : (n k : ℕ) (r : Option Row) (s : Segment) → f p ≡ at.Joined n k → AgreesAt c h r (Some s) f → AgreesAt c h r (Some (record s { participants = set.remove s.participants p })) (moved f p at.Idle)
  leave_keeps n k r s was a =
      let x = at.Idle in
      let each = at_each f p x in
      let at_p = a.joined p n k was in
      let row_is = at_p.1 in
      record {
        row_below = λ y e. grind (arith, a.row_below);
        segment_below = λ y e. grind (arith, a.segment_below s refl);
        phase_below = λ q i e. grind (arith, each q, a.phase_below q i);
        locked = λ q i e. grind (arith, each q, a.locked q i);
        holder = λ i e. absurd (grind (arith, row_is));
        one_holder = λ q u i j e g. grind (arith, each q, each u, a.one_holder q u i j);
        made = λ q i e. absurd (grind (arith, each q, a.locked q i, row_is));
        joined = λ q i j e. elim (each q) [
          | inl w ↦ absurd (grind (arith, w))
          | inr w ↦ let old = a.joined q i j (sym w.1 ∙ e) in (old.0, old.1, held_on i q s (record s { participants = set.remove s.participants p }) old.2 refl refl (contains_remove_other s.participants p q w.0))
        ];
        leaving = λ q i e. absurd (grind (arith, each q, a.leaving q i, at_p));
        cleared = λ q i e. absurd (grind (arith, each q, a.cleared q i));
        one_last = λ q u e g. grind (arith, each q, each u, a.one_last q u);
        read_row = λ q i e g. grind (arith, each q, a.read_row q i);
        read_segment = λ q i y e g k l. elim (each q) [ inl w ↦ absurd (grind (arith, w)) | inr w ↦ a.read_segment q i s (sym w.1 ∙ e) refl (grind arith) (grind arith) ];
        published = λ i b e.
            let old = a.published i b e in
            let told = old.segment s refl in
            record {
              description = old.description;
              form = old.form;
              hash = old.hash;
              segment = λ y g. record {
                number = grind (arith, told.number);
                capacity = grind (arith, told.capacity);
                few = grind (arith, told.few, len_remove_le s.participants p);
                members = λ q in_it. elim (each q) [
                  | inl w ↦ absurd (grind (arith, w.0, contains_remove s.participants p q))
                  | inr w ↦ let it = told.members q (grind (arith, contains_remove s.participants p q)) in (it.0, w.1 ∙ it.1)
                ];
              };
            };
      }

  pub last_keeps : (n k : ℕ) (r : Option Row) (s : Segment) → f p ≡ at.Joined n k → set.len s.participants ≤ 1 → AgreesAt c h r (Some s) f → AgreesAt c h r (Some (record s { participants = set.empty; marked = true })) (moved f p (at.Leaving n))
  last_keeps n k r s was alone_there a =
      let x = at.Leaving n in
      let each = at_each f p x in
      let at_p = a.joined p n k was in
      let row_is = at_p.1 in
      record {
        row_below = λ y e. grind (arith, a.row_below);
        segment_below = λ y e. grind (arith, a.segment_below s refl);
        phase_below = λ q i e. grind (arith, each q, a.phase_below q i, a.phase_below p n);
        locked = λ q i e. grind (arith, each q, a.locked q i);
        holder = λ i e. absurd (grind (arith, row_is));
        one_holder = λ q u i j e g. grind (arith, each q, each u, a.one_holder q u i j);
        made = λ q i e. absurd (grind (arith, each q, a.locked q i, row_is));
        joined = λ q i j e. elim (each q) [
          | inl w ↦ absurd (grind (arith, w))
          | inr w ↦ let old = a.joined q i j (sym w.1 ∙ e) in absurd (w.0 (only_one s.participants p q (grind (arith, at_p)) alone_there (grind (arith, old))))
        ];
        leaving = λ q i e. elim (each q) [ inl w ↦ ((row_is.0, grind (arith, w, row_is)), record { segment = record s { participants = set.empty; marked = true }; there = refl; number = grind (arith, at_p.2, w); marked = refl; nobody = refl }) | inr w ↦ absurd (grind (arith, w, a.leaving q i, at_p)) ];
        cleared = λ q i e. absurd (grind (arith, each q, a.cleared q i));
        one_last = λ q u e g. elim (each q) [ inl w ↦ elim (each u) [ inl v ↦ w.0 ∙ sym v.0 | inr v ↦ absurd (not_last c h r s f a (grind (arith, at_p)) u (sym (ap is_last v.1) ∙ g)) ] | inr w ↦ absurd (not_last c h r s f a (grind (arith, at_p)) q (sym (ap is_last w.1) ∙ e)) ];
        read_row = λ q i e g. grind (arith, each q, a.read_row q i);
        read_segment = λ q i y e g k l. absurd (grind arith);
        published = λ i b e.
            let old = a.published i b e in
            let told = old.segment s refl in
            record {
              description = old.description;
              form = old.form;
              hash = old.hash;
              segment = λ y g. record { number = grind (arith, told.number); capacity = grind (arith, told.capacity); few = grind (arith, set.len-empty participant_cmp); members = λ q in_it. absurd (grind (arith, set.contains-empty participant_cmp q)) };
            };
      }

  pub clear_keeps : (n : ℕ) (r : Option Row) (s : Option Segment) → f p ≡ at.Leaving n → AgreesAt c h r s f → AgreesAt c h r None (moved f p (at.Cleared n))
  clear_keeps n r s was a =
      let x = at.Cleared n in
      let each = at_each f p x in
      let at_p = a.leaving p n was in
      let row_is = at_p.0 in
      record {
        row_below = λ y e. grind (arith, a.row_below);
        segment_below = λ y e. absurd (cc);
        phase_below = λ q i e. grind (arith, each q, a.phase_below q i, a.phase_below p n);
        locked = λ q i e. absurd (grind (arith, each q, a.locked q i, row_is));
        holder = λ i e. absurd (grind (arith, row_is));
        one_holder = λ q u i j e g. grind (arith, each q, each u, a.one_holder q u i j);
        made = λ q i e. absurd (grind (arith, each q, a.locked q i, row_is));
        joined = λ q i k e. absurd (grind (arith, each q, a.joined q i k, at_p));
        leaving = λ q i e. absurd (grind (arith, each q, a.one_last q p));
        cleared = λ q i e. elim (each q) [ inl w ↦ ((row_is.0, grind (arith, w, row_is)), refl) | inr w ↦ absurd (grind (arith, w, a.one_last q p)) ];
        one_last = λ q u e g. grind (arith, each q, each u, a.one_last q p, a.one_last p u);
        read_row = λ q i e g. grind (arith, each q, a.read_row q i);
        read_segment = λ q i y e g k l. absurd (cc);
        published = λ i b e. let old = a.published i b e in record { description = old.description; form = old.form; hash = old.hash; segment = λ y g. absurd (cc) };
      }

  pub end_keeps : (r : Option Row) (s : Option Segment) → is_last (f p) ≡ true → AgreesAt c h r s f → AgreesAt c h None s (moved f p at.Idle)
  end_keeps r s was a =
      let x = at.Idle in
      let each = at_each f p x in
      let row_is : (n : ℕ) × IsPublished n r = elim (last_cases (f p) was) [ inl w ↦ (w.0, (a.leaving p w.0 w.1).0) | inr w ↦ (w.0, (a.cleared p w.0 w.1).0) ] in
      let gone : (y : Segment) → s ≡ Some y → y.marked ≡ true = λ y e. elim (last_cases (f p) was) [ inl w ↦ grind (arith, a.leaving p w.0 w.1) | inr w ↦ absurd (grind (arith, a.cleared p w.0 w.1)) ] in
      record {
        row_below = λ y e. absurd (cc);
        segment_below = λ y e. grind (arith, a.segment_below);
        phase_below = λ q i e. grind (arith, each q, a.phase_below q i);
        locked = λ q i e. absurd (grind (arith, each q, a.locked q i, row_is));
        holder = λ i e. absurd (cc);
        one_holder = λ q u i j e g. absurd (grind (arith, each q, a.locked q i, row_is));
        made = λ q i e. absurd (grind (arith, each q, a.locked q i, row_is));
        joined = λ q i k e. absurd (grind (arith, each q, a.joined q i k, gone));
        leaving = λ q i e. absurd (grind (arith, each q, a.one_last q p));
        cleared = λ q i e. absurd (grind (arith, each q, a.one_last q p));
        one_last = λ q u e g. absurd (grind (arith, each q, a.one_last q p));
        read_row = λ q i e g. cc;
        read_segment = λ q i y e g k l. absurd (grind (arith, gone y g));
        published = λ i b e. absurd (cc);
      }
