-- How many accesses a create and an open have, in all and of each kind.
use Rattle.std.proofs.Common.{◌≤◌, ◌+◌, ◌*◌, ℕ, zero, suc, Bool, List, [], ◌∷◌, ◌++◌, Result, Err, length-append, arith}
use Rattle.std.proofs.lemmas.List.Sums.{sum_by-append}
use Rattle.iceoryx2_description.specs.declared.description.ServiceHash.{ServiceHash}
use Rattle.iceoryx2_description.specs.Description.{Description}
use Rattle.iceoryx2_access.specs.declared.storage.OpenSegmentError.{OpenSegmentError}
use Rattle.iceoryx2_access.specs.declared.storage.Tag.{Tag}
use Rattle.iceoryx2_access.specs.declared.storage.Tag.TheVariants.{Made, Found}
use Rattle.iceoryx2_access.specs.Letter.{Letter}
use Rattle.iceoryx2_rounds.specs.declared.look.Outcome.{Outcome}
use Rattle.iceoryx2_rounds.specs.declared.pattern.CreateRefusal.TheVariants.{OutOfMemory}
use Rattle.iceoryx2_rounds.specs.Counts.{IsWithin, looks, openings, makings, removals, create_limits, open_limits}
use Rattle.iceoryx2_rounds.specs.PatternRules.{PatternRules}
use Rattle.iceoryx2_access.specs.Registered.{Registered}
use Rattle.iceoryx2_rounds.specs.Looks.{IsLookWord, absent, broken, fetched}
use Rattle.iceoryx2_rounds.specs.GivesBack.{OwnLock, OwnSegment, own_tag, GivesBack, nothing_left, segment_back, lock_back, tag_back}
use Rattle.iceoryx2_rounds.specs.Segments.{clearings, SegmentPartIsShort, made, not_made, not_removed, still_there}
use Rattle.iceoryx2_rounds.specs.declared.create.TheConstants.{CLEARING_LIMIT}
use Rattle.iceoryx2_rounds.specs.Creates as creates
use Rattle.iceoryx2_rounds.specs.Creates.{IsEntryWord, IsServiceWord, IsCreating, forbidden, not_entered, clock_fault, not_locked, no_segment, not_published, published, counted, no_copies, entered}
use Rattle.iceoryx2_rounds.specs.Opens as opens
use Rattle.iceoryx2_rounds.specs.Prepared.{IsPrepared, OpenIsShort}
use Rattle.iceoryx2_rounds.proofs.Prepared.{each_call}
use Rattle.iceoryx2_rounds.specs.Opens.{IsReady, ready, IsFailedRound, failed, IsLastRound, AreFailedRounds, no_round, one_more, IsOpenWord, ended, all_failed}

-- within these limits, of all accesses, of looks, openings, makings and removals
abbrev pub Within : List Letter → (all a b c d : ℕ) → Type 0
Within w all a b c d = IsWithin w (record { accesses = all; looks = a; openings = b; makings = c; removals = d })

pub within_append : {v w : List Letter} {m n a b c d e f g h : ℕ} → Within v m a b c d → Within w n e f g h → Within (v ++ w) (m + n) (a + e) (b + f) (c + g) (d + h)
within_append {v} {w} p q = let all = length-append v w in record {
  few_accesses = omega (arith, all, p.few_accesses, q.few_accesses);
  few_looks = rw sum_by-append (omega (arith, p.few_looks, q.few_looks));
  few_openings = rw sum_by-append (omega (arith, p.few_openings, q.few_openings));
  few_makings = rw sum_by-append (omega (arith, p.few_makings, q.few_makings));
  few_removals = rw sum_by-append (omega (arith, p.few_removals, q.few_removals));
}

pub within_more : {w : List Letter} {m a b c d n e f g h : ℕ} → m ≤ n → a ≤ e → b ≤ f → c ≤ g → d ≤ h → Within w m a b c d → Within w n e f g h
within_more all i j k l p = record {
  few_accesses = omega (arith, p.few_accesses);
  few_looks = omega (arith, p.few_looks);
  few_openings = omega (arith, p.few_openings);
  few_makings = omega (arith, p.few_makings);
  few_removals = omega (arith, p.few_removals);
}

pub none_within : Within [] 0 0 0 0 0
none_within = record { few_accesses = omega arith; few_looks = omega arith; few_openings = omega arith; few_makings = omega arith; few_removals = omega arith }

-- one access has what it is
alone : (l : Letter) → Within (l ∷ []) 1 (looks (l ∷ [])) (openings (l ∷ [])) (makings (l ∷ [])) (removals (l ∷ []))
alone l = record { few_accesses = omega arith; few_looks = omega arith; few_openings = omega arith; few_makings = omega arith; few_removals = omega arith }

module _ (node : ℕ) (hash : ServiceHash) where
  -- a tag alone, where it is the call's own, and what else is given back before it
  tag_within : (tag : Tag) {w : List Letter} → GivesBack node hash (own_tag tag) w → Within w 1 0 0 0 0
  tag_within Made (tag_back answer nothing_left) = alone _
  tag_within Found nothing_left = within_more (omega arith) (omega arith) (omega arith) (omega arith) (omega arith) none_within

  lock_within : (tag : Tag) {w : List Letter} → GivesBack node hash (OwnLock ∷ own_tag tag) w → Within w 2 0 0 0 0
  lock_within tag (lock_back answer b) = within_append (alone _) (tag_within tag b)

  all_within : (tag : Tag) {w : List Letter} → GivesBack node hash (OwnSegment ∷ OwnLock ∷ own_tag tag) w → Within w 3 0 0 0 1
  all_within tag (segment_back answer b) = within_append (alone _) (lock_within tag b)

  clearings_within : (number max_nodes k : ℕ) → Within (clearings node hash number max_nodes k) (2 * k) 0 0 k k
  clearings_within number max_nodes zero = none_within
  clearings_within number max_nodes (suc k) = within_more (omega arith) (omega arith) (omega arith) (omega arith) (omega arith)
      (within_append (clearings_within number max_nodes k) (within_append (alone _) (alone _)))

pub segment_within : SegmentPartIsShort
segment_within node hash number max_nodes word answer (made k small) = within_more (omega arith) (omega arith) (omega arith) (omega arith) (omega arith)
    (within_append (clearings_within node hash number max_nodes k) (alone _))
segment_within node hash number max_nodes word answer (not_made k e small _) = within_more (omega arith) (omega arith) (omega arith) (omega arith) (omega arith)
    (within_append (clearings_within node hash number max_nodes k) (alone _))
segment_within node hash number max_nodes word answer (not_removed k e small) = within_more (omega arith) (omega arith) (omega arith) (omega arith) (omega arith)
    (within_append (clearings_within node hash number max_nodes k) (within_append (alone _) (alone _)))
segment_within node hash number max_nodes word answer still_there = within_append (clearings_within node hash number max_nodes CLEARING_LIMIT) (alone _)

module _ {E C : Type 0} (m : PatternRules E C) (node : ℕ) (hash : ServiceHash) where
  pub look_within : {w : List Letter} {o : Outcome E} → IsLookWord m node hash w o → Within w 2 1 0 0 0
  look_within absent = within_more (omega arith) (omega arith) (omega arith) (omega arith) (omega arith) (alone _)
  look_within broken = within_more (omega arith) (omega arith) (omega arith) (omega arith) (omega arith) (alone _)
  look_within (fetched there read) = within_append (alone _) (alone _)

  entry_within : {w : List Letter} {r : Result Tag C} → IsEntryWord m node hash w r → Within w 4 1 0 0 0
  entry_within (creates.look_faulty l) = within_more (omega arith) (omega arith) (omega arith) (omega arith) (omega arith) (look_within l)
  entry_within (creates.look_found l) = within_more (omega arith) (omega arith) (omega arith) (omega arith) (omega arith) (look_within l)
  entry_within (counted l) = within_more (omega arith) (omega arith) (omega arith) (omega arith) (omega arith) (within_append (look_within l) (alone _))
  entry_within (no_copies l) = within_more (omega arith) (omega arith) (omega arith) (omega arith) (omega arith) (within_append (look_within l) (alone _))
  entry_within (creates.no_tag e l) = within_append (look_within l) (within_append (alone _) (alone _))
  entry_within (entered tag l) = within_append (look_within l) (within_append (alone _) (alone _))

  service_within : {d : Description} {tag : Tag} {w : List Letter} {r : Result Registered C} → IsServiceWord m node hash d tag w r → Within w 16 0 0 6 6
  service_within {tag = tag} (not_locked x b) = within_more (omega arith) (omega arith) (omega arith) (omega arith) (omega arith) (within_append (alone _) (tag_within node hash tag b))
  service_within {tag = tag} (no_segment s b) = within_more (omega arith) (omega arith) (omega arith) (omega arith) (omega arith) (within_append (alone _) (within_append (segment_within node hash _ _ _ _ s) (lock_within node hash tag b)))
  service_within {tag = tag} (not_published x s b) = within_append (alone _) (within_append (segment_within node hash _ _ _ _ s) (within_append (alone _) (all_within node hash tag b)))
  service_within (published n t s) = within_more (omega arith) (omega arith) (omega arith) (omega arith) (omega arith) (within_append (alone _) (within_append (segment_within node hash _ _ _ _ s) (alone _)))

  -- a create looks once, opens nothing, and makes its segment in at most six attempts
  pub create_within : {stops : Bool} {d : Description} {w : List Letter} {r : Result Registered C} → IsCreating m node hash stops d w r → IsWithin w create_limits
  create_within (forbidden _) = within_more (omega arith) (omega arith) (omega arith) (omega arith) (omega arith) none_within
  create_within (not_entered _ e) = within_more (omega arith) (omega arith) (omega arith) (omega arith) (omega arith) (entry_within e)
  create_within (clock_fault {tag} _ _ e b) = within_more (omega arith) (omega arith) (omega arith) (omega arith) (omega arith) (within_append (entry_within e) (tag_within node hash tag b))
  create_within (creates.made _ _ e s) = within_append (entry_within e) (service_within s)

  ready_within : {n : ℕ} {d : Description} {tag : Tag} {w : List Letter} → IsReady m node hash n d tag w → Within w 3 1 0 0 0
  ready_within (ready tag l _) = within_append (look_within l) (alone _)

  -- an opening that fails, a look, and the tag given back
  behind_within : (tag : Tag) {n : ℕ} {e : OpenSegmentError} {o : Outcome E} {v w : List Letter} → IsLookWord m node hash v o → GivesBack node hash (own_tag tag) w → Within (Letter.OpenSegment node hash n (Err e) ∷ (v ++ w)) 4 1 1 0 0
  behind_within tag l b = within_append (alone _) (within_append (look_within l) (tag_within node hash tag b))

  failed_within : {w : List Letter} → IsFailedRound m node hash w → Within w 7 2 1 0 0
  failed_within (failed {tag} r l b) = within_append (ready_within r) (behind_within tag l b)

  last_within : {w : List Letter} {r : Result Registered E} → IsLastRound m node hash w r → Within w 7 2 1 0 0
  last_within (opens.look_faulty l) = within_more (omega arith) (omega arith) (omega arith) (omega arith) (omega arith) (look_within l)
  last_within (opens.look_none l) = within_more (omega arith) (omega arith) (omega arith) (omega arith) (omega arith) (look_within l)
  last_within (opens.not_accepted l _) = within_more (omega arith) (omega arith) (omega arith) (omega arith) (omega arith) (look_within l)
  last_within (opens.no_tag e l _) = within_more (omega arith) (omega arith) (omega arith) (omega arith) (omega arith) (within_append (look_within l) (alone _))
  last_within (opens.not_opened {tag} e _ r b) = within_more (omega arith) (omega arith) (omega arith) (omega arith) (omega arith) (within_append (ready_within r) (within_append (alone _) (tag_within node hash tag b)))
  last_within (opens.then_faulty {tag} r l b) = within_append (ready_within r) (behind_within tag l b)
  last_within (opens.then_none {tag} r l b) = within_append (ready_within r) (behind_within tag l b)
  last_within (opens.opened t r) = within_more (omega arith) (omega arith) (omega arith) (omega arith) (omega arith) (within_append (ready_within r) (alone _))

  rounds_within : {k : ℕ} {w : List Letter} → AreFailedRounds m node hash k w → Within w (7 * k) (2 * k) k 0 0
  rounds_within no_round = none_within
  rounds_within (one_more before r) = within_more (omega arith) (omega arith) (omega arith) (omega arith) (omega arith) (within_append (rounds_within before) (failed_within r))

  -- an open looks at most twice and opens at most once in each of its at most six rounds
  pub open_within : {w : List Letter} {r : Result Registered E} → IsOpenWord m node hash w r → IsWithin w open_limits
  open_within (ended small before l) = within_more (omega arith) (omega arith) (omega arith) (omega arith) (omega arith) (within_append (rounds_within before) (last_within l))
  open_within (all_failed before) = rounds_within before

  -- and so it is where they may prepare their types first
  pub create_call_within : {stops : Bool} {d : Description} {w : List Letter} {r : Result Registered C} → IsPrepared (m.create_refusal OutOfMemory) (IsCreating m node hash stops d) w r → IsWithin w create_limits
  create_call_within call = each_call (λ w r. IsWithin w create_limits) (within_more (omega arith) (omega arith) (omega arith) (omega arith) (omega arith) none_within) (λ w r is. create_within is) call

  pub open_call_within : {w : List Letter} {r : Result Registered E} → OpenIsShort m node hash w r
  open_call_within call = each_call (λ w r. IsWithin w open_limits) (within_more (omega arith) (omega arith) (omega arith) (omega arith) (omega arith) none_within) (λ w r is. open_within is) call
