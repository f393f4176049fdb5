-- What a refused call leaves, whatever others do within it and whichever of its accesses are refused.
use Rattle.std.proofs.Common.{◌≡◌, ℕ, ◌<◌, Bool, true, false, cond, inl, inr, List, [], ◌∷◌, ◌++◌, Option, Some, None, Result, Ok, Err, refl, sym, ap, subst, ◌∙◌, arith}
use Rattle.std.specs.Prelude.{is_some, is_err}
use Rattle.std.specs.Ordering.{eq_by_cmp}
use Rattle.std.specs.FinMap as map
use Rattle.iceoryx2_description.specs.declared.description.ServiceHash.{ServiceHash}
use Rattle.iceoryx2_access.specs.declared.storage.MakeSegmentError.TheVariants as make
use Rattle.iceoryx2_access.specs.declared.storage.RemoveError.{RemoveError}
use Rattle.iceoryx2_access.specs.declared.storage.Tag.TheVariants.{Made, Found}
use Rattle.iceoryx2_access.specs.Letter.{Letter}
use Rattle.iceoryx2_access.specs.Letter as letter
use Rattle.iceoryx2_access.specs.Run.{Run, done, next, Each}
use Rattle.iceoryx2_access.proofs.Run.{split, each_append}
use Rattle.iceoryx2_world.specs.Sets as set
use Rattle.iceoryx2_world.specs.declared.world.Participant.{Participant}
use Rattle.iceoryx2_world.specs.declared.world.Participant.TheVariants.{Node}
use Rattle.iceoryx2_world.specs.declared.world.Phase.{Phase}
use Rattle.iceoryx2_world.specs.declared.world.Phase.TheVariants as at
use Rattle.iceoryx2_world.specs.declared.world.Row.{Row}
use Rattle.iceoryx2_world.specs.declared.world.Row.TheVariants as row
use Rattle.iceoryx2_world.specs.Orders.{tag_cmp, tag_total, tag_exact}
use Rattle.iceoryx2_world.specs.World.{World, Segment, row_of, segment_of, phase_of, begins, locked_number, tag_of}
use Rattle.iceoryx2_world.specs.Acts.{Act}
use Rattle.iceoryx2_world.specs.Acts as act
use Rattle.iceoryx2_world.specs.Steps.{ServiceView, world_after}
use Rattle.iceoryx2_world.specs.ServiceAgreement.{IsSpent, Later}
use Rattle.iceoryx2_world.specs.Agreement.{Agrees}
use Rattle.iceoryx2_world.specs.Access.{Change, node_view, write, MakesTag, IsOwnPart}
use Rattle.iceoryx2_world.specs.Interference.{LacksSegment, SameTickets, SameTags, KeepsOwn, IsAccessUnder, IsFallibleUnder}
use Rattle.iceoryx2_world.proofs.agreement.Interference.{tickets_refl, tickets_trans, tickets_equal, tags_trans, tags_equal, tags_insert, tags_remove}
use Rattle.iceoryx2_world.specs.StepCases.{IsStep, locks as row_locks, clears as row_clears, unmakes, unlocks as row_unlocks, clears_last, ends as row_ends, makes as row_makes}
use Rattle.iceoryx2_world.proofs.agreement.StepCases.{step_case}
use Rattle.iceoryx2_world.proofs.agreement.Maps.{set_has, either, self}
use Rattle.iceoryx2_world.proofs.agreement.Effects.{allowed_step}
use Rattle.iceoryx2_world.proofs.agreement.Worlds.{step_counter, step_tickets}
use Rattle.iceoryx2_world.proofs.agreement.Parts.{making, clearing, unlocking, locking}
use Rattle.iceoryx2_world.proofs.agreement.Accesses.{own_keeps, access_keeps, faulty_keeps, granted, run_keeps, unrefused, unrefused_run}
use Rattle.iceoryx2_world.proofs.agreement.Granted.{MayClear, MayEnd}
use Rattle.iceoryx2_world.proofs.agreement.Spent.{world_segment, spent_own}
use Rattle.iceoryx2_world.proofs.agreement.Stands.{own_row, own_phase, own_segment}
use Rattle.iceoryx2_rounds.specs.GivesBack.{Owned, OwnTag, OwnLock, OwnSegment, own_tag, GivesBack, nothing_left, segment_back, lock_back, tag_back}
use Rattle.iceoryx2_rounds.specs.Fronts.{made, number_got, left_by, left_after, is_left, GivesAllBack, GivesTagsBack, no_round, one_more}
use Rattle.iceoryx2_call_laws.specs.CallLeaves.{LeavesAtMostTag}
use Rattle.iceoryx2_call_laws.specs.Leaves.{IsGranted, HasAtMostRead, NodeHasRead, Leaves, LeavesOfLock, LeavesGivenBack, LeavesNothing, IsGone, StaysAway, SpendsNumber, tags_after}
use Rattle.iceoryx2_call_laws.proofs.calls.Tracked.{Front, ends, idles, makes_tag, locks, makes_segment, clears, MadeInOrder, up_to_tag, up_to_lock, up_to_segment, has_lock, no_lock, if_locked, each_removal, read_front, facts, all_got}
use Rattle.iceoryx2_call_laws.proofs.calls.Removals.{tag_ok, segment_ok, description_ok}
use Rattle.iceoryx2_call_laws.proofs.calls.Plain.{IsPlain, plain_untouched, read_both, step_tags, row_stays_away}

-- Where a call is with its lock: it has none, or it has that of this number still, or had it and gave it back. Of the
-- number's segment nothing is known where one was made and not taken away.
data OwnedLock : Type 0 where
  NoLock : OwnedLock
  Held : (number : ℕ) (has_segment : Bool) → OwnedLock
  Gone : (number : ℕ) (has_segment : Bool) → OwnedLock

-- where it is once it has made this, and whether there is a tag that it made then
abbrev lock_in : ℕ → List Owned → OwnedLock
lock_in n (OwnLock ∷ owned) = Held n false
lock_in n (OwnSegment ∷ owned) = Held n true
lock_in n _ = NoLock

abbrev tag_in : (was_left : Bool) → List Owned → Bool
tag_in was_left [] = was_left
tag_in was_left (OwnTag ∷ owned) = true
tag_in was_left (_ ∷ owned) = tag_in was_left owned

-- and once it has given that back, but what is left
abbrev given_back : ℕ → (is_lock_left is_segment_left : Bool) → OwnedLock
given_back n true l = Held n l
given_back n false l = Gone n l

abbrev lock_after : Option ℕ → (Owned → Bool) → OwnedLock
lock_after None left = NoLock
lock_after (Some n) left = given_back n (left OwnLock) (left OwnSegment)

-- a phase that holds a lock doesn't begin
unlocked_begins : (x : Phase) (n : ℕ) → begins x ≡ true → locked_number x ≡ Some n → ⊥
unlocked_begins at.Idle n e l = cc
unlocked_begins (at.Read m) n e l = cc
unlocked_begins _ n e l = cc

read_locked : {x y : Phase} {n : ℕ} → HasAtMostRead x y → locked_number x ≡ Some n → locked_number y ≡ Some n
read_locked (inl e) l = ap locked_number e ∙ l
read_locked {x} {n = n} (inr e) l = absurd (unlocked_begins x n e.0 l)

read_begins : {x y : Phase} → HasAtMostRead x y → begins x ≡ true → begins y ≡ true
read_begins (inl e) b = ap begins e ∙ b
read_begins (inr e) b = e.1

begins_before : {x y : Phase} → HasAtMostRead x y → begins y ≡ true → begins x ≡ true
begins_before (inl e) b = ap begins (sym e) ∙ b
begins_before (inr e) b = e.0

module _ (node : ℕ) (hash : ServiceHash) where
  -- The node has the lock of n, and no segment of n is there unless it has one.
  abbrev IsHeld : ℕ → Bool → World → Type 0
  IsHeld n has_segment w = (locked_number (phase_of w (Node node) hash) ≡ Some n) × (has_segment ≡ false → LacksSegment w hash n)

  -- It has the lock still, or the lock is gone for good, and its segment unless it has one.
  abbrev HoldsLock : OwnedLock → World → Type 0
  HoldsLock NoLock w = Unit {0}
  HoldsLock (Held n has_segment) w = IsHeld n has_segment w
  HoldsLock (Gone n has_segment) w = IsGone node hash n has_segment w

  -- what is gone stays away
  pub gone_later : (n : ℕ) (b : Bool) {w v : World} → Later w v → (IsSpent w hash n → IsSpent v hash n) → IsGone node hash n b w → IsGone node hash n b v
  gone_later n false later spent h = spent h
  gone_later n true {w} {v} later spent h = (grind (arith, later.counter, h.0), row_stays_away w v hash n later h.0 h.1)

  -- along the own part of a plain access
  holds_plain : (k : OwnedLock) (w : World) (l : Letter) (v : World) → IsPlain l → IsOwnPart w l v → Agrees w → HoldsLock k w → HoldsLock k v
  holds_plain NoLock w l v ok o old h = tt
  holds_plain (Held n b) w l v ok o old h = let u = plain_untouched w l v ok o in (read_locked (u.phases node hash) h.0, λ kept x is. h.1 kept x (sym (u.segments hash) ∙ is))
  holds_plain (Gone n b) w l v ok o old h = gone_later n b (own_keeps w l v o old).1 (spent_own w l v hash n o old) h

-- where the node was and is
abbrev IsAt : OwnedLock → (old new : Phase) → Type 0
IsAt NoLock old new = HasAtMostRead old new
IsAt (Held n has_segment) old new = begins old ≡ true
IsAt (Gone n has_segment) old new = (begins old ≡ true) × (begins new ≡ true)

-- along steps by which it reads at most
at_after : (k : OwnedLock) (old x y : Phase) → HasAtMostRead x y → IsAt k old x → IsAt k old y
at_after NoLock old x y r p = read_both p r
at_after (Held n l) old x y r p = p
at_after (Gone n l) old x y r p = (p.0, read_begins r p.1)

module _ (own : ℕ → Bool) (node : ℕ) (hash : ServiceHash) where
  -- the tags, with the call's own where it made one that is there
  abbrev HoldsTag : (has_tag : Bool) → set.FinSet tag_cmp → set.FinSet tag_cmp → Type 0
  HoldsTag has_tag old new = SameTags own (tags_after has_tag old (node, hash)) new × (has_tag ≡ true → set.contains old (node, hash) ≡ false)

  -- What a call that began at the first world has made of the second.
  record Kept (start : World) (t : Bool) (k : OwnedLock) (w : World) : Type 0 where
    pub tickets : SameTickets own start.tickets w.tickets
    pub tags : HoldsTag t start.tags w.tags
    pub phase : IsAt k (phase_of start (Node node) hash) (phase_of w (Node node) hash)
    pub holds : HoldsLock node hash k w

  kept_own : {start : World} (t : Bool) (k : OwnedLock) (w : World) (l : Letter) (v : World) → IsPlain l → IsOwnPart w l v → Agrees w → Kept start t k w → Kept start t k v
  kept_own {start} t k w l v ok o old h = let u = plain_untouched w l v ok o in record {
    tickets = tickets_trans own start.tickets w.tickets v.tickets h.tickets (tickets_equal own w.tickets v.tickets u.tickets);
    tags = (tags_trans own (tags_after t start.tags (node, hash)) w.tags v.tags h.tags.0 (tags_equal own w.tags v.tags u.tags), h.tags.1);
    phase = at_after k (phase_of start (Node node) hash) (phase_of w (Node node) hash) (phase_of v (Node node) hash) (u.phases node hash) h.phase;
    holds = holds_plain node hash k w l v ok o old h.holds;
  }

module _ (own : ℕ → Bool) (node : ℕ) (mine : own node ≡ true) (hash : ServiceHash) where
  -- along what keeps all that own nodes rely on
  holds_on : (k : OwnedLock) {w v : World} → KeepsOwn own w v → HoldsLock node hash k w → HoldsLock node hash k v
  holds_on NoLock k h = tt
  holds_on (Held n l) k h = (ap locked_number (k.phases node hash mine) ∙ h.0, λ kept. k.locked node hash n mine h.0 (h.1 kept))
  holds_on (Gone n l) k h = gone_later node hash n l k.later (k.spent hash n) h

  kept_on : {start w v : World} (t : Bool) (k : OwnedLock) → KeepsOwn own w v → Kept own node hash start t k w → Kept own node hash start t k v
  kept_on {start} {w} {v} t k keeps h = record {
    tickets = tickets_trans own start.tickets w.tickets v.tickets h.tickets keeps.tickets;
    tags = (tags_trans own (tags_after t start.tags (node, hash)) w.tags v.tags h.tags.0 keeps.tags, h.tags.1);
    phase = at_after k (phase_of start (Node node) hash) (phase_of w (Node node) hash) (phase_of v (Node node) hash) (inl (keeps.phases node hash mine)) h.phase;
    holds = holds_on k keeps h.holds;
  }

  -- a plain access
  kept_plain : {start : World} (t : Bool) (k : OwnedLock) (w : World) (l : Letter) (v : World) → IsPlain l → IsFallibleUnder own w l v → Agrees w → Kept own node hash start t k w → Kept own node hash start t k v
  kept_plain {start} t k w l v ok a old h =
      let between = a.before old in
      let now = kept_on t k between h in
      elim a.part [
        | inl o ↦ kept_own own node hash t k a.between l v ok o between.agrees now
        | inr f ↦ subst (λ u. Kept own node hash start t k u) (sym f.1) now
      ]

-- the own parts that take and give back
tag_put : (w v : World) (i : ℕ) (h : ServiceHash) (b : Bool) (c : Change) → b ≡ tag_of w i h → MakesTag i h b (Ok Made) c → v ≡ write w i h c → (tag_of w i h ≡ false) × (v ≡ record w { tags = set.insert w.tags (i, h) })
tag_put w v i h true c e o is = absurd (cc (o.0))
tag_put w v i h false c e (inl o) is = (sym e, is ∙ ap (write w i h) o.1)
tag_put w v i h false c e (inr o) is = absurd (cc (o.0))

-- what the steps leave
record Begun (x : Phase) (c : ℕ) (new : ServiceView) : Type 0 where
  pub before : begins x ≡ true
  pub lock : locked_number new.phase ≡ Some c

lock_row : {p : Participant} {h : ServiceHash} {x : Phase} {r : Option Row} {s : Option Segment} {c : ℕ} {new : ServiceView} → IsStep p h act.Lock x r s c new → Begun x c new
lock_row (row_locks free below) = record { before = free; lock = refl }

make_row : {p : Participant} {h : ServiceHash} {m : ℕ} {x : Phase} {r : Option Row} {s : Option Segment} {c : ℕ} {new : ServiceView} → IsStep p h (act.Make m) x r s c new → locked_number new.phase ≡ locked_number x
make_row (row_makes room) = refl

record Cleared (x : Phase) (new : ServiceView) : Type 0 where
  pub segment : new.segment ≡ None
  pub lock : (n : ℕ) → locked_number x ≡ Some n → locked_number new.phase ≡ Some n

clear_row : {p : Participant} {h : ServiceHash} {x : Phase} {r : Option Row} {s : Option Segment} {c : ℕ} {new : ServiceView} → IsStep p h act.RemoveSegment x r s c new → Cleared x new
clear_row row_clears = record { segment = refl; lock = λ n l. l }
clear_row unmakes = record { segment = refl; lock = λ n l. l }
clear_row clears_last = record { segment = refl; lock = λ n l. absurd (cc) }

pub record Unlocked (s : Option Segment) (new : ServiceView) : Type 0 where
  pub row : new.row ≡ None
  pub segment : new.segment ≡ s
  pub phase : new.phase ≡ at.Idle

pub unlock_row : {p : Participant} {h : ServiceHash} {x : Phase} {r : Option Row} {s : Option Segment} {c : ℕ} {new : ServiceView} → IsStep p h act.RemoveDescription x r s c new → Unlocked s new
unlock_row (row_unlocks lock) = record { row = refl; segment = refl; phase = refl }
unlock_row (row_ends last) = record { row = refl; segment = refl; phase = refl }

lacking : (o : Option (Unit {0})) → is_some o ≡ false → o ≡ None
lacking None e = refl
lacking (Some x) e = absurd (cc)

back : (s : set.FinSet tag_cmp) (x : ℕ × ServiceHash) → set.contains s x ≡ false → set.remove (set.insert s x) x ≡ s
back s x lacks = map.same_map tag_total tag_exact _ _ (λ q. map.get-remove tag_total (set.insert s x) x q ∙ elim (either tag_total tag_exact q x) [
  | inl e ↦ ap (λ b. cond b None (map.get (set.insert s x) q)) (ap (λ z. eq_by_cmp tag_cmp z x) e ∙ self tag_total tag_exact x) ∙ sym (ap (map.get s) e ∙ lacking (map.get s x) lacks)
  | inr e ↦ ap (λ b. cond b None (map.get (set.insert s x) q)) e.1 ∙ map.get-insert tag_total s x tt q ∙ ap (λ b. cond b (Some tt) (map.get s q)) e.1
])

module _ (own : ℕ → Bool) (node : ℕ) (mine : own node ≡ true) (hash : ServiceHash) where
  -- only the tags are others
  holds_tags : (k : OwnedLock) (w v : World) (t : set.FinSet tag_cmp) → v ≡ record w { tags = t } → HoldsLock node hash k w → HoldsLock node hash k v
  holds_tags NoLock w v t e h = tt
  holds_tags (Held n l) w v t e h = subst (λ u. IsHeld node hash n l u) (sym e) h
  holds_tags (Gone n false) w v t e h = subst (λ u. IsGone node hash n false u) (sym e) (record { below = h.below; row = h.row; segment = h.segment })
  holds_tags (Gone n true) w v t e h = subst (λ u. IsGone node hash n true u) (sym e) h

  has_own : (tags : set.FinSet tag_cmp) → set.contains (set.insert tags (node, hash)) (node, hash) ≡ true
  has_own tags = set_has tag_total tag_exact tags (node, hash)

  tag_of_kept : (left : Bool) (old now : set.FinSet tag_cmp) → HoldsTag own node hash left old now → set.contains now (node, hash) ≡ false → HoldsTag own node hash true old (set.insert now (node, hash))
  tag_of_kept false old now h lacks = (tags_insert own old now (node, hash) h.0, λ _. sym (h.0 node hash mine) ∙ lacks)
  tag_of_kept true old now h lacks = let has = h.0 node hash mine ∙ has_own old in absurd (cc)

  -- a step of the node under its lock
  kept_step : {start : World} (t : Bool) (j k : OwnedLock) (w v : World) (a : Act) → world_after w (Node node) hash a ≡ Some v
      → IsAt k (phase_of start (Node node) hash) (phase_of v (Node node) hash) → HoldsLock node hash k v → Kept own node hash start t j w → Kept own node hash start t k v
  kept_step {start} t j k w v a e phase holds h = record {
    tickets = tickets_trans own start.tickets w.tickets v.tickets h.tickets (tickets_equal own w.tickets v.tickets (step_tickets w v (Node node) hash a (allowed_step w v (Node node) hash a e)));
    tags = (tags_trans own (tags_after t start.tags (node, hash)) w.tags v.tags h.tags.0 (tags_equal own w.tags v.tags (step_tags w v (Node node) hash a e)), h.tags.1);
    phase = phase;
    holds = holds;
  }

  kept_locks : {start : World} (t : Bool) (n : ℕ) (w v : World) → IsFallibleUnder own w (letter.Lock node hash (Ok n)) v → Agrees w → Kept own node hash start t NoLock w → Kept own node hash start t (Held n false) v
  kept_locks {start} t n w v x old h =
      let a = granted w (letter.Lock node hash (Ok n)) v (λ e. cc) x in
      let u = a.between in
      let agrees = (a.before old).agrees in
      let now = kept_on own node mine hash t NoLock (a.before old) h in
      let k = locking u v node hash n a.part in
      let st = allowed_step u v (Node node) hash act.Lock k.1 in
      let b = lock_row (step_case (Node node) hash act.Lock (phase_of u (Node node) hash) (row_of u hash) (segment_of u hash) u.counter st.view st.is) in
      let lacks : LacksSegment v hash n = λ y is same. elim (world_segment u v (Node node) hash act.Lock k.1 hash y is) [
        | inl z ↦ grind (arith, (agrees.everywhere hash).segment_below z.0 z.1, z.2, same, k.0)
        | inr l ↦ unlocked_begins (phase_of u (Node node) hash) y.number b.before l
      ] in
      kept_step t NoLock (Held n false) u v act.Lock k.1 (begins_before now.phase b.before) (ap locked_number (own_phase u v node hash act.Lock st) ∙ b.lock ∙ ap Some (sym k.0), λ _. lacks) now

  kept_makes : {start : World} (t : Bool) (n m : ℕ) (y : Unit {0}) (w v : World) → IsFallibleUnder own w (letter.MakeSegment node hash n m (Ok y)) v → Agrees w → Kept own node hash start t (Held n false) w → Kept own node hash start t (Held n true) v
  kept_makes t n m y w v x old h =
      let a = granted w (letter.MakeSegment node hash n m (Ok y)) v (λ e. cc) x in
      let u = a.between in
      let now = kept_on own node mine hash t (Held n false) (a.before old) h in
      let e = making u v node hash n m y a.part in
      let st = allowed_step u v (Node node) hash (act.Make m) e in
      let b = make_row (step_case (Node node) hash (act.Make m) (phase_of u (Node node) hash) (row_of u hash) (segment_of u hash) u.counter st.view st.is) in
      kept_step t (Held n false) (Held n true) u v (act.Make m) e now.phase (ap locked_number (own_phase u v node hash (act.Make m) st) ∙ b ∙ now.holds.0, λ kept. absurd (cc)) now

  kept_clears : {start : World} (t : Bool) (n : ℕ) (l : Bool) (y : Unit {0}) (w v : World) → IsFallibleUnder own w (letter.RemoveSegment node hash (Ok y)) v → Agrees w → Kept own node hash start t (Held n l) w → Kept own node hash start t (Held n false) v
  kept_clears t n l y w v x old h =
      let a = granted w (letter.RemoveSegment node hash (Ok y)) v (λ e. cc) x in
      let u = a.between in
      let now = kept_on own node mine hash t (Held n l) (a.before old) h in
      let e = clearing u v node hash y a.part in
      let st = allowed_step u v (Node node) hash act.RemoveSegment e in
      let b = clear_row (step_case (Node node) hash act.RemoveSegment (phase_of u (Node node) hash) (row_of u hash) (segment_of u hash) u.counter st.view st.is) in
      let gone : segment_of v hash ≡ None = own_segment u v (Node node) hash act.RemoveSegment st ∙ b.segment in
      let lacks : LacksSegment v hash n = λ z is. absurd (cc) in
      kept_step t (Held n l) (Held n false) u v act.RemoveSegment e now.phase (ap locked_number (own_phase u v node hash act.RemoveSegment st) ∙ b.lock n now.holds.0, λ _. lacks) now

  gone_after : (l : Bool) (n : ℕ) (w v : World) → n < v.counter → row_of v hash ≡ None → segment_of v hash ≡ segment_of w hash → (l ≡ false → LacksSegment w hash n) → IsGone node hash n l v
  gone_after false n w v below gone same lacks = record { below = below; row = λ x is. absurd (cc); segment = λ x is. lacks refl x (sym same ∙ is) }
  gone_after true n w v below gone same lacks = (below, λ x is. absurd (cc))

  kept_unlocks : {start : World} (t : Bool) (n : ℕ) (l : Bool) (y : Unit {0}) (w v : World) → IsFallibleUnder own w (letter.RemoveDescription node hash (Ok y)) v → Agrees w → Kept own node hash start t (Held n l) w → Kept own node hash start t (Gone n l) v
  kept_unlocks t n l y w v x old h =
      let a = granted w (letter.RemoveDescription node hash (Ok y)) v (λ e. cc) x in
      let u = a.between in
      let agrees = (a.before old).agrees in
      let now = kept_on own node mine hash t (Held n l) (a.before old) h in
      let e = unlocking u v node hash y a.part in
      let st = allowed_step u v (Node node) hash act.RemoveDescription e in
      let b = unlock_row (step_case (Node node) hash act.RemoveDescription (phase_of u (Node node) hash) (row_of u hash) (segment_of u hash) u.counter st.view st.is) in
      let below : n < v.counter = grind (arith, step_counter u v (Node node) hash act.RemoveDescription st, (agrees.everywhere hash).row_below (row.Locked n) ((agrees.everywhere hash).locked (Node node) n now.holds.0)) in
      let gone : row_of v hash ≡ None = own_row u v (Node node) hash act.RemoveDescription st ∙ b.row in
      let same : segment_of v hash ≡ segment_of u hash = own_segment u v (Node node) hash act.RemoveDescription st ∙ b.segment in
      kept_step t (Held n l) (Gone n l) u v act.RemoveDescription e (now.phase, ap begins (own_phase u v node hash act.RemoveDescription st ∙ b.phase)) (gone_after l n u v below gone same now.holds.1) now

  -- only the tags are others
  kept_other_tags : {start : World} (s t : Bool) (k : OwnedLock) (w v : World) (tags : set.FinSet tag_cmp) → v ≡ record w { tags = tags } → HoldsTag own node hash t start.tags tags → Kept own node hash start s k w → Kept own node hash start t k v
  kept_other_tags {start} s t k w v tags e now h = record {
    tickets = tickets_trans own start.tickets w.tickets v.tickets h.tickets (tickets_equal own w.tickets v.tickets (ap (λ (z : World). z.tickets) e));
    tags = (tags_trans own (tags_after t start.tags (node, hash)) tags v.tags now.0 (tags_equal own tags v.tags (ap (λ (z : World). z.tags) e)), now.1);
    phase = at_after k (phase_of start (Node node) hash) (phase_of w (Node node) hash) (phase_of v (Node node) hash) (inl (ap (λ z. phase_of z (Node node) hash) e)) h.phase;
    holds = holds_tags k w v tags e h.holds;
  }

  kept_tags : {start : World} (left : Bool) (w v : World) → IsFallibleUnder own w (letter.MakeTag node hash (Ok Made)) v → Agrees w → Kept own node hash start left NoLock w → Kept own node hash start true NoLock v
  kept_tags {start} left w v x old h =
      let a = granted w (letter.MakeTag node hash (Ok Made)) v (λ e. cc) x in
      let u = a.between in
      let now = kept_on own node mine hash left NoLock (a.before old) h in
      let p = a.part in
      let made = tag_put u v node hash (node_view u node hash).tag p.change refl p.own p.is in
      kept_other_tags left true NoLock u v (set.insert u.tags (node, hash)) made.1 (tag_of_kept left start.tags u.tags now.tags made.0) now

  kept_untags : {start : World} (k : OwnedLock) (y : Unit {0}) (w v : World) → IsFallibleUnder own w (letter.RemoveTag node hash (Ok y)) v → Agrees w → Kept own node hash start true k w → Kept own node hash start false k v
  kept_untags {start} k y w v x old h =
      let a = granted w (letter.RemoveTag node hash (Ok y)) v (λ e. cc) x in
      let u = a.between in
      let now = kept_on own node mine hash true k (a.before old) h in
      let p = a.part in
      let is : v ≡ record u { tags = set.remove u.tags (node, hash) } = p.is ∙ ap (write u node hash) p.own.1 in
      kept_other_tags true false k u v (set.remove u.tags (node, hash)) is (subst (λ z. SameTags own z (set.remove u.tags (node, hash))) (back start.tags (node, hash) (now.tags.1 refl)) (tags_remove own (set.insert start.tags (node, hash)) u.tags (node, hash) now.tags.0), λ no. absurd (cc)) now

-- The removals, by their answers: what a refused one leaves is remembered.
module _ (own : ℕ → Bool) (node : ℕ) (mine : own node ≡ true) (hash : ServiceHash) {start : World} where
  cleared : (t : Bool) (n : ℕ) (a : Result (Unit {0}) RemoveError) (w v : World) → IsFallibleUnder own w (letter.RemoveSegment node hash a) v → Agrees w → Kept own node hash start t (Held n true) w → Kept own node hash start t (Held n (is_err a)) v
  cleared t n (Ok y) w v x old h = kept_clears own node mine hash t n true y w v x old h
  cleared t n (Err e) w v x old h = kept_plain own node mine hash t (Held n true) w (letter.RemoveSegment node hash (Err e)) v tt x old h

  unlocked : (t : Bool) (n : ℕ) (l : Bool) (a : Result (Unit {0}) RemoveError) (w v : World) → IsFallibleUnder own w (letter.RemoveDescription node hash a) v → Agrees w → Kept own node hash start t (Held n l) w → Kept own node hash start t (given_back n (is_err a) l) v
  unlocked t n l (Ok y) w v x old h = kept_unlocks own node mine hash t n l y w v x old h
  unlocked t n l (Err e) w v x old h = kept_plain own node mine hash t (Held n l) w (letter.RemoveDescription node hash (Err e)) v tt x old h

  untagged : (k : OwnedLock) (a : Result (Unit {0}) RemoveError) (w v : World) → IsFallibleUnder own w (letter.RemoveTag node hash a) v → Agrees w → Kept own node hash start true k w → Kept own node hash start (is_err a) k v
  untagged k (Ok y) w v x old h = kept_untags own node mine hash k y w v x old h
  untagged k (Err e) w v x old h = kept_plain own node mine hash true k w (letter.RemoveTag node hash (Err e)) v tt x old h

  -- a segment of another
  other_cleared : (t : Bool) (n m : ℕ) (a : Result (Unit {0}) RemoveError) (w u v : World) → IsFallibleUnder own w (letter.MakeSegment node hash n m (Err make.AlreadyExists)) u → IsFallibleUnder own u (letter.RemoveSegment node hash a) v → Agrees w → Kept own node hash start t (Held n false) w → Kept own node hash start t (Held n false) v
  other_cleared t n m (Ok y) w u v x z old h =
      let first = letter.MakeSegment node hash n m (Err make.AlreadyExists) in
      kept_clears own node mine hash t n false y u v z (faulty_keeps w first u x old).0 (kept_plain own node mine hash t (Held n false) w first u tt x old h)
  other_cleared t n m (Err e) w u v x z old h =
      let first = letter.MakeSegment node hash n m (Err make.AlreadyExists) in
      kept_plain own node mine hash t (Held n false) u (letter.RemoveSegment node hash (Err e)) v tt z (faulty_keeps w first u x old).0 (kept_plain own node mine hash t (Held n false) w first u tt x old h)

  -- What a front has made of the world,
  kept_front : (left : Bool) {n : ℕ} {a b : List Owned} {word : List Letter} {w v : World} → Front node hash n a word b → Run (IsFallibleUnder own) w word v → Agrees w → Kept own node hash start (tag_in left a) (lock_in n a) w → Kept own node hash start (tag_in left b) (lock_in n b) v
  kept_front left ends done old h = h
  kept_front left {n} {a = a} {w = w} (idles {l = l} is p) (next {mid = mid} x rest) old h =
      kept_front left p rest (faulty_keeps w l mid x old).0 (kept_plain own node mine hash (tag_in left a) (lock_in n a) w l mid is.plain x old h)
  kept_front left {w = w} (makes_tag p) (next {mid = mid} x rest) old h =
      kept_front left p rest (faulty_keeps w (letter.MakeTag node hash (Ok Made)) mid x old).0 (kept_tags own node mine hash left w mid x old h)
  kept_front left {n} {w = w} (locks Made p) (next {mid = mid} x rest) old h =
      kept_front left p rest (faulty_keeps w (letter.Lock node hash (Ok n)) mid x old).0 (kept_locks own node mine hash true n w mid x old h)
  kept_front left {n} {w = w} (locks Found p) (next {mid = mid} x rest) old h =
      kept_front left p rest (faulty_keeps w (letter.Lock node hash (Ok n)) mid x old).0 (kept_locks own node mine hash left n w mid x old h)
  kept_front left {n} {w = w} (makes_segment tag {m} p) (next {mid = mid} x rest) old h =
      kept_front left p rest (faulty_keeps w (letter.MakeSegment node hash n m (Ok tt)) mid x old).0 (kept_makes own node mine hash (tag_in left (own_tag tag)) n m tt w mid x old h)
  kept_front left {n} {w = w} (clears tag {m} {answer} p) (next {mid = mid} x (next {mid = last} z rest)) old h =
      kept_front left p rest (faulty_keeps mid (letter.RemoveSegment node hash answer) last z (faulty_keeps w (letter.MakeSegment node hash n m (Err make.AlreadyExists)) mid x old).0).0 (other_cleared (tag_in left (own_tag tag)) n m answer w mid last x z old h)

  -- and a back.
  kept_back : (left : Bool) (n : ℕ) {owned : List Owned} {word : List Letter} {w v : World} → MadeInOrder owned → GivesBack node hash owned word → Run (IsFallibleUnder own) w word v → Agrees w → Kept own node hash start (tag_in left owned) (lock_in n owned) w
      → Kept own node hash start (left_after left word OwnTag) (lock_after (if_locked n (has_lock owned)) (is_left word)) v
  kept_back left n {w = w} (up_to_tag Made) (tag_back a nothing_left) (next {mid = u} x done) old h = untagged NoLock a w u x old h
  kept_back left n (up_to_tag Found) nothing_left done old h = h
  kept_back left n {w = w} (up_to_lock Found) (lock_back a nothing_left) (next {mid = u} x done) old h = unlocked left n false a w u x old h
  kept_back left n {w = w} (up_to_lock Made) (lock_back a (tag_back b nothing_left)) (next {mid = u} x (next {mid = v} y done)) old h =
      untagged (given_back n (is_err a) false) b u v y (faulty_keeps w (letter.RemoveDescription node hash a) u x old).0 (unlocked true n false a w u x old h)
  kept_back left n {w = w} (up_to_segment Found) (segment_back a (lock_back b nothing_left)) (next {mid = u} x (next {mid = v} y done)) old h =
      unlocked left n (is_err a) b u v y (faulty_keeps w (letter.RemoveSegment node hash a) u x old).0 (cleared left n a w u x old h)
  kept_back left n {w = w} (up_to_segment Made) (segment_back a (lock_back b (tag_back c nothing_left))) (next {mid = u} x (next {mid = v} y (next {mid = last} z done))) old h =
      let mid = (faulty_keeps w (letter.RemoveSegment node hash a) u x old).0 in
      untagged (given_back n (is_err b) (is_err a)) c v last z (faulty_keeps u (letter.RemoveDescription node hash b) v y mid).0 (unlocked true n (is_err a) b u v y mid (cleared true n a w u x old h))

  kept_all : (left : Bool) {word : List Letter} {w v : World} (g : GivesAllBack node hash word) → Run (IsFallibleUnder own) w word v → Agrees w → Kept own node hash start left NoLock w
      → Kept own node hash start (left_after left g.back OwnTag) (lock_after (if_locked g.number (has_lock (made g.front))) (is_left g.back)) v
  kept_all left {w = w} {v = v} g run old h =
      let parts = split g.front g.back (subst (λ u. Run (IsFallibleUnder own) w u v) g.in_order run) in
      let front = read_front g.is_front in
      kept_back left g.number ((facts front).in_order (up_to_tag Found)) g.gives_back parts.second (run_keeps parts.first old).0 (kept_front left front parts.first old h)

-- what is left after one word and then another
left_both : (left : Bool) (u v : List Letter) (thing : Owned) → left_after left (u ++ v) thing ≡ left_after (left_after left u thing) v thing
left_both left [] v thing = refl
left_both left (l ∷ u) v thing = left_both (left_by thing l left) u v thing

module _ (own : ℕ → Bool) (node : ℕ) (hash : ServiceHash) where
  begin_kept : (w : World) → Kept own node hash w false NoLock w
  begin_kept w = record { tickets = tickets_refl own w.tickets; tags = (λ i h is. refl, λ no. absurd (cc)); phase = inl refl; holds = tt }

module _ (node : ℕ) (hash : ServiceHash) where
  given_left : (n : ℕ) (a b : Bool) (w v : World) → Agrees v → IsAt (given_back n a b) (phase_of w (Node node) hash) (phase_of v (Node node) hash) → HoldsLock node hash (given_back n a b) v → LeavesGivenBack node hash n a b w v
  given_left n false false w v new phase holds = record { begun = phase.0; below = holds.below; unlocked = λ _. (phase.1, holds.row); locked = λ kept. absurd (cc); segment = λ _. holds.segment }
  given_left n false true w v new phase holds = record { begun = phase.0; below = holds.0; unlocked = λ _. (phase.1, holds.1); locked = λ kept. absurd (cc); segment = λ kept. absurd (cc) }
  given_left n true l w v new phase holds = record {
    begun = phase;
    below = (new.everywhere hash).row_below (row.Locked n) ((new.everywhere hash).locked (Node node) n holds.0);
    unlocked = λ kept. absurd (cc);
    locked = λ _. holds.0;
    segment = holds.1;
  }

  lock_left : (got : Option ℕ) (left : Owned → Bool) (w v : World) → Agrees v → IsAt (lock_after got left) (phase_of w (Node node) hash) (phase_of v (Node node) hash) → HoldsLock node hash (lock_after got left) v → LeavesOfLock node hash got left w v
  lock_left None left w v new phase holds = phase
  lock_left (Some n) left w v new phase holds = given_left n (left OwnLock) (left OwnSegment) w v new phase holds

  -- and stays away
  gone_of : (n : ℕ) (a b : Bool) (v : World) → a ≡ false → HoldsLock node hash (given_back n a b) v → IsGone node hash n b v
  gone_of n false b v e holds = holds
  gone_of n true b v e holds = absurd (cc)

  away : (got : Option ℕ) (left : Owned → Bool) (v : World) → HoldsLock node hash (lock_after got left) v → StaysAway node hash got left v
  away None left v holds = tt
  away (Some n) left v holds = λ e. gone_of n (left OwnLock) (left OwnSegment) v e holds

module _ (own : ℕ → Bool) (node : ℕ) (mine : own node ≡ true) (hash : ServiceHash) where
  -- A word that gives back leaves only that for which a removal was refused.
  pub gives_back : {word : List Letter} {w v : World} (g : GivesAllBack node hash word) → Run (IsFallibleUnder own) w word v → Agrees w → Leaves node hash own (number_got word) (is_left g.back) w v
  gives_back {w = w} {v = v} g run old =
      let h = kept_all own node mine hash false g run old (begin_kept own node hash w) in
      record {
        tickets = h.tickets;
        tags = h.tags.0;
        of_lock = subst (λ got. LeavesOfLock node hash got (is_left g.back) w v) (sym (all_got g)) (lock_left node hash (if_locked g.number (has_lock (made g.front))) (is_left g.back) w v (run_keeps run old).0 h.phase h.holds);
      }

  -- and what it gave back of a lock stays away
  pub stays_away : {word : List Letter} {w v : World} (g : GivesAllBack node hash word) → Run (IsFallibleUnder own) w word v → Agrees w → StaysAway node hash (number_got word) (is_left g.back) v
  stays_away {w = w} {v = v} g run old =
      let h = kept_all own node mine hash false g run old (begin_kept own node hash w) in
      subst (λ got. StaysAway node hash got (is_left g.back) v) (sym (all_got g)) (away node hash (if_locked g.number (has_lock (made g.front))) (is_left g.back) v h.holds)

  -- the rounds of an open leave a tag at most
  kept_rounds : {start : World} (left : Bool) {word : List Letter} {w v : World} → GivesTagsBack node hash word → Run (IsFallibleUnder own) w word v → Agrees w → Kept own node hash start left NoLock w → Kept own node hash start (left_after left word OwnTag) NoLock v
  kept_rounds left no_round done old h = h
  kept_rounds {start} left {v = z} (one_more {u = x} {v = y} tag before g only) run old h =
      let parts = split x y run in
      let so_far = left_after left x OwnTag in
      let now = kept_all own node mine hash so_far g parts.second (run_keeps parts.first old).0 (kept_rounds left before parts.first old h) in
      let same = left_both left x y OwnTag ∙ ap (λ u. left_after so_far u OwnTag) g.in_order ∙ (facts (read_front g.is_front)).left g.back so_far in
      subst (λ b. Kept own node hash start b NoLock z) (sym same)
      (subst (λ b. Kept own node hash start (left_after so_far g.back OwnTag) (lock_after (if_locked g.number b) (is_left g.back)) z) (ap has_lock only ∙ no_lock tag) now)

  -- and so it is in the world
  pub leaves_tag : {word : List Letter} {w v : World} → GivesTagsBack node hash word → Run (IsFallibleUnder own) w word v → Agrees w → LeavesAtMostTag own node hash w word v
  leaves_tag {word} {w} {v} g run old =
      let h = kept_rounds false g run old (begin_kept own node hash w) in
      record { gives_back = g; leaves = record { tickets = h.tickets; tags = h.tags.0; of_lock = h.phase } }

-- Where nothing is refused by a fault, each removal of such a word is granted.
may_clear : (x : Phase) (n : ℕ) → locked_number x ≡ Some n → MayClear x
may_clear (at.Locked m) n l = tt
may_clear (at.Made m) n l = tt
may_clear _ n l = absurd (cc)

may_end : (x : Phase) (n : ℕ) → locked_number x ≡ Some n → MayEnd x
may_end (at.Locked m) n l = tt
may_end (at.Made m) n l = tt
may_end _ n l = absurd (cc)

module _ (own : ℕ → Bool) (node : ℕ) (mine : own node ≡ true) (hash : ServiceHash) where
  granted_front : {start : World} (left : Bool) {n : ℕ} {a b : List Owned} {word : List Letter} {w v : World} → Front node hash n a word b → Run (IsAccessUnder own) w word v → Agrees w → Kept own node hash start (tag_in left a) (lock_in n a) w → Each IsGranted word
  granted_front left ends done old h = tt
  granted_front left {n} {a = a} {w = w} (idles {l = l} is p) (next {mid = mid} x rest) old h =
      (is.granted, granted_front left p rest (access_keeps w l mid x old).0 (kept_plain own node mine hash (tag_in left a) (lock_in n a) w l mid is.plain (unrefused x) old h))
  granted_front left {w = w} (makes_tag p) (next {mid = mid} x rest) old h =
      (tt, granted_front left p rest (access_keeps w (letter.MakeTag node hash (Ok Made)) mid x old).0 (kept_tags own node mine hash left w mid (unrefused x) old h))
  granted_front left {n} {w = w} (locks Made p) (next {mid = mid} x rest) old h =
      (tt, granted_front left p rest (access_keeps w (letter.Lock node hash (Ok n)) mid x old).0 (kept_locks own node mine hash true n w mid (unrefused x) old h))
  granted_front left {n} {w = w} (locks Found p) (next {mid = mid} x rest) old h =
      (tt, granted_front left p rest (access_keeps w (letter.Lock node hash (Ok n)) mid x old).0 (kept_locks own node mine hash left n w mid (unrefused x) old h))
  granted_front left {n} {w = w} (makes_segment tag {m} p) (next {mid = mid} x rest) old h =
      (tt, granted_front left p rest (access_keeps w (letter.MakeSegment node hash n m (Ok tt)) mid x old).0 (kept_makes own node mine hash (tag_in left (own_tag tag)) n m tt w mid (unrefused x) old h))
  granted_front left {n} {w = w} (clears tag {m} {answer} p) (next {mid = mid} x (next {mid = last} z rest)) old h =
      let first = letter.MakeSegment node hash n m (Err make.AlreadyExists) in
      let t = tag_in left (own_tag tag) in
      let old_2 = (access_keeps w first mid x old).0 in
      let now = kept_plain own node mine hash t (Held n false) w first mid tt (unrefused x) old h in
      (tt, (segment_ok mid last node hash answer mine old_2 (may_clear _ n now.holds.0) z, granted_front left p rest (access_keeps mid (letter.RemoveSegment node hash answer) last z old_2).0 (other_cleared own node mine hash t n m answer w mid last (unrefused x) (unrefused z) old h)))

  granted_back : {start : World} (left : Bool) (n : ℕ) {owned : List Owned} {word : List Letter} {w v : World} → MadeInOrder owned → GivesBack node hash owned word → Run (IsAccessUnder own) w word v → Agrees w → Kept own node hash start (tag_in left owned) (lock_in n owned) w → Each IsGranted word
  granted_back left n {w = w} (up_to_tag Made) (tag_back a nothing_left) (next {mid = u} x done) old h = (tag_ok w u node hash a x, tt)
  granted_back left n (up_to_tag Found) nothing_left done old h = tt
  granted_back left n {w = w} (up_to_lock Found) (lock_back a nothing_left) (next {mid = u} x done) old h = (description_ok w u node hash a mine old (may_end _ n h.holds.0) x, tt)
  granted_back left n {w = w} (up_to_lock Made) (lock_back a (tag_back b nothing_left)) (next {mid = u} x (next {mid = v} y done)) old h = (description_ok w u node hash a mine old (may_end _ n h.holds.0) x, (tag_ok u v node hash b y, tt))
  granted_back left n {w = w} (up_to_segment Found) (segment_back a (lock_back b nothing_left)) (next {mid = u} x (next {mid = v} y done)) old h =
      let now = cleared own node mine hash left n a w u (unrefused x) old h in
      (segment_ok w u node hash a mine old (may_clear _ n h.holds.0) x, (description_ok u v node hash b mine (access_keeps w (letter.RemoveSegment node hash a) u x old).0 (may_end _ n now.holds.0) y, tt))
  granted_back left n {w = w} (up_to_segment Made) (segment_back a (lock_back b (tag_back c nothing_left))) (next {mid = u} x (next {mid = v} y (next {mid = last} z done))) old h =
      let now = cleared own node mine hash true n a w u (unrefused x) old h in
      (segment_ok w u node hash a mine old (may_clear _ n h.holds.0) x, (description_ok u v node hash b mine (access_keeps w (letter.RemoveSegment node hash a) u x old).0 (may_end _ n now.holds.0) y, (tag_ok v last node hash c z, tt)))

-- where each removal is granted nothing is left
granted_by : (thing : Owned) (l : Letter) → IsGranted l → (left : Bool) → left ≡ false → left_by thing l left ≡ false
granted_by OwnTag (letter.RemoveTag i h a) is left e = ap is_err is
granted_by OwnLock (letter.RemoveDescription i h a) is left e = ap is_err is
granted_by OwnSegment (letter.RemoveSegment i h a) is left e = ap is_err is
granted_by OwnTag _ is left e = e
granted_by OwnLock _ is left e = e
granted_by OwnSegment _ is left e = e

none_left : (thing : Owned) (word : List Letter) (left : Bool) → Each IsGranted word → left ≡ false → left_after left word thing ≡ false
none_left thing [] left each e = e
none_left thing (l ∷ word) left each e = none_left thing word (left_by thing l left) each.1 (granted_by thing l each.0 left e)

-- what is known of the lock where nothing is left
none_of_lock : (node : ℕ) (hash : ServiceHash) (got : Option ℕ) (left : Owned → Bool) (w v : World) → left OwnLock ≡ false → left OwnSegment ≡ false → LeavesOfLock node hash got left w v → NodeHasRead node hash w v × ((n : ℕ) → got ≡ Some n → IsSpent v hash n)
none_of_lock node hash None left w v e f is = (is, λ n some. absurd (cc))
none_of_lock node hash (Some m) left w v e f is = (inr (is.begun, (is.unlocked e).0), λ n some. subst (IsSpent v hash) (cc) (record { below = is.below; row = (is.unlocked e).1; segment = is.segment f }))

-- A word that gives back, where nothing is refused by a fault.
pub gives_all_back : (own : ℕ → Bool) (node : ℕ) → own node ≡ true → (hash : ServiceHash) {word : List Letter} {w v : World} → GivesAllBack node hash word → Run (IsAccessUnder own) w word v → Agrees w → Each IsGranted word × LeavesNothing node hash own word w v
gives_all_back own node mine hash {word = word} {w = w} {v = v} g run old =
    let parts = split g.front g.back (subst (λ u. Run (IsAccessUnder own) w u v) g.in_order run) in
    let front = read_front g.is_front in
    let begun = begin_kept own node hash w in
    let at_back = kept_front own node mine hash false front (unrefused_run parts.first) old begun in
    let granted_first = granted_front own node mine hash false front parts.first old begun in
    let granted_then = granted_back own node mine hash false g.number ((facts front).in_order (up_to_tag Found)) g.gives_back parts.second (run_keeps (unrefused_run parts.first) old).0 at_back in
    let left = gives_back own node mine hash g (unrefused_run run) old in
    let none = λ (thing : Owned). none_left thing g.back false granted_then refl in
    let o = none_of_lock node hash (number_got word) (is_left g.back) w v (none OwnLock) (none OwnSegment) left.of_lock in
    let all = λ (P : Letter → Type 0) (first : Each P g.front) (then : Each P g.back). subst (Each P) (sym g.in_order) (each_append P g.front g.back first then) in (
      all IsGranted granted_first granted_then,
      record {
        tickets = left.tickets;
        tags = subst (λ b. SameTags own (tags_after b w.tags (node, hash)) v.tags) (none OwnTag) left.tags;
        phase = o.0;
        numbers = all (SpendsNumber hash v) ((facts front).spends v (λ e. o.1 g.number (all_got g ∙ ap (if_locked g.number) e))) (each_removal (SpendsNumber hash v) (λ a. tt) (λ a. tt) (λ a. tt) g.gives_back);
      },
    )
