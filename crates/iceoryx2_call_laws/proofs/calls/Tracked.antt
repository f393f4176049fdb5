-- What the accesses of a call have in common that makes things and gives them back.
use Rattle.std.proofs.Common.{◌≡◌, Bool, true, false, List, [], ◌∷◌, ◌++◌, Option, Some, None, Ok, Err, ℕ, Result, refl, sym, ap, subst, ◌∙◌, inl, inr}
use Rattle.iceoryx2_description.specs.declared.description.ServiceHash.{ServiceHash}
use Rattle.iceoryx2_access.specs.declared.storage.MakeSegmentError.TheVariants as make
use Rattle.iceoryx2_access.specs.declared.storage.RemoveError.{RemoveError}
use Rattle.iceoryx2_access.specs.declared.storage.Tag.{Tag}
use Rattle.iceoryx2_access.specs.declared.storage.Tag.TheVariants.{Made, Found}
use Rattle.iceoryx2_access.specs.Letter.{Letter}
use Rattle.iceoryx2_access.specs.Letter as letter
use Rattle.iceoryx2_access.specs.Run.{Each}
use Rattle.iceoryx2_access.proofs.Run.{each_append}
use Rattle.iceoryx2_world.specs.World.{World}
use Rattle.iceoryx2_world.specs.ServiceAgreement.{IsSpent}
use Rattle.iceoryx2_world.specs.Calm.{IsCalmLetter}
use Rattle.iceoryx2_world.proofs.agreement.Calm as calm
use Rattle.iceoryx2_world.proofs.agreement.Calm.{Tame, tame_both}
use Rattle.iceoryx2_rounds.specs.PatternRules.{PatternRules}
use Rattle.iceoryx2_rounds.specs.declared.look.Outcome.{Outcome}
use Rattle.iceoryx2_rounds.specs.Looks.{IsLookWord}
use Rattle.iceoryx2_rounds.specs.Segments.{IsSegmentWord}
use Rattle.iceoryx2_rounds.specs.Creates.{IsEntryWord}
use Rattle.iceoryx2_rounds.specs.Opens.{AreFailedRounds}
use Rattle.iceoryx2_rounds.specs.GivesBack.{Owned, OwnTag, OwnLock, OwnSegment, own_tag, GivesBack, nothing_left, segment_back, lock_back, tag_back}
use Rattle.iceoryx2_rounds.specs.Fronts as may
use Rattle.iceoryx2_rounds.specs.Fronts.{IsFront, made, made_after, number_got, left_by, left_after, GivesAllBack, KeepsAll, KeepsLastTag}
use Rattle.iceoryx2_rounds.proofs.Kept.{Goes, look_goes, segment_made, entry_goes, rounds_give_back}
use Rattle.iceoryx2_rounds.specs.Leaves as rounds
use Rattle.iceoryx2_rounds.specs.Leaves.{GivesBackByRounds, KeepsInTheEnd}
use Rattle.iceoryx2_rounds.proofs.Left.{tags_back}
use Rattle.iceoryx2_call_laws.specs.Leaves.{IsGranted, SpendsNumber}
use Rattle.iceoryx2_call_laws.proofs.calls.Plain.{IsPlain}
use Rattle.iceoryx2_call_laws.proofs.calls.Words.{IsNoRelease}

-- An access that makes nothing takes and gives back nothing, gets no number, leaves no tag, releases nothing, and changes
-- nothing that is published.
pub record IsIdle (l : Letter) : Type 0 where
  pub plain : IsPlain l
  pub granted : IsGranted l
  pub spends : (h : ServiceHash) (v : World) → SpendsNumber h v l
  pub got : (w : List Letter) → number_got (l ∷ w) ≡ number_got w
  pub left : (was_left : Bool) → left_by OwnTag l was_left ≡ was_left
  pub spares : IsNoRelease l
  pub calm : IsCalmLetter l

-- where the call has the lock
abbrev pub has_lock : List Owned → Bool
has_lock (OwnLock ∷ owned) = true
has_lock (OwnSegment ∷ owned) = true
has_lock _ = false

pub no_lock : (tag : Tag) → has_lock (own_tag tag) ≡ false
no_lock Made = refl
no_lock Found = refl

-- what a front may have made
pub data MadeInOrder : List Owned → Type 0 where
  up_to_tag : (tag : Tag) → MadeInOrder (own_tag tag)
  up_to_lock : (tag : Tag) → MadeInOrder (OwnLock ∷ own_tag tag)
  up_to_segment : (tag : Tag) → MadeInOrder (OwnSegment ∷ OwnLock ∷ own_tag tag)

-- the number of the lock, if there is one
abbrev pub if_locked : ℕ → Bool → Option ℕ
if_locked n true = Some n
if_locked n false = None

module _ (node : ℕ) (hash : ServiceHash) (n : ℕ) where
  -- A front, from what is made before it to what is made after it: only these accesses make anything.
  pub data Front : List Owned → List Letter → List Owned → Type 0 where
    ends : {a : List Owned} → Front a [] a
    idles : {a b : List Owned} {l : Letter} {w : List Letter} → IsIdle l → Front a w b → Front a (l ∷ w) b
    makes_tag : {b : List Owned} {w : List Letter} → Front (OwnTag ∷ []) w b
        → Front [] (letter.MakeTag node hash (Ok Made) ∷ w) b
    locks : (tag : Tag) {b : List Owned} {w : List Letter} → Front (OwnLock ∷ own_tag tag) w b
        → Front (own_tag tag) (letter.Lock node hash (Ok n) ∷ w) b
    makes_segment : (tag : Tag) {m : ℕ} {b : List Owned} {w : List Letter} → Front (OwnSegment ∷ OwnLock ∷ own_tag tag) w b
        → Front (OwnLock ∷ own_tag tag) (letter.MakeSegment node hash n m (Ok tt) ∷ w) b
    clears : (tag : Tag) {m : ℕ} {answer : Result (Unit {0}) RemoveError} {b : List Owned} {w : List Letter} → Front (OwnLock ∷ own_tag tag) w b
        → Front (OwnLock ∷ own_tag tag) (letter.MakeSegment node hash n m (Err make.AlreadyExists) ∷ letter.RemoveSegment node hash answer ∷ w) b

  -- What is so along a front: it is in order; nothing is released; a description is only removed under the lock; this
  -- stays, and each number that is got is its own; and no tag is given back.
  pub record Facts (a : List Owned) (w : List Letter) (b : List Owned) : Type 0 where
    pub in_order : MadeInOrder a → MadeInOrder b
    pub spares : Each IsNoRelease w
    pub tame : Tame node hash (has_lock a) w (has_lock b)
    pub lock_stays : has_lock a ≡ true → has_lock b ≡ true
    pub got : (rest : List Letter) → number_got rest ≡ None → has_lock a ≡ false → number_got (w ++ rest) ≡ if_locked n (has_lock b)
    pub spends : (v : World) → (has_lock b ≡ true → IsSpent v hash n) → Each (SpendsNumber hash v) w
    pub left : (rest : List Letter) (was_left : Bool) → left_after was_left (w ++ rest) OwnTag ≡ left_after was_left rest OwnTag

module _ {node : ℕ} {hash : ServiceHash} {n : ℕ} where
  pub read_front : {a : List Owned} {w : List Letter} → IsFront node hash n a w → Front node hash n a w (made_after a w)
  read_front may.ends = ends
  read_front (may.goes_on may.looks p) = idles (record { plain = tt; granted = tt; spends = λ h v. tt; got = λ w. refl; left = λ b. refl; spares = tt; calm = tt }) (read_front p)
  read_front (may.goes_on may.fetches p) = idles (record { plain = tt; granted = tt; spends = λ h v. tt; got = λ w. refl; left = λ b. refl; spares = tt; calm = tt }) (read_front p)
  read_front (may.goes_on may.asks p) = idles (record { plain = tt; granted = tt; spends = λ h v. tt; got = λ w. refl; left = λ b. refl; spares = tt; calm = tt }) (read_front p)
  read_front (may.goes_on (may.makes_tag {answer = Ok Made}) p) = makes_tag (read_front p)
  read_front (may.goes_on (may.makes_tag {answer = Ok Found}) p) = idles (record { plain = tt; granted = tt; spends = λ h v. tt; got = λ w. refl; left = λ b. refl; spares = tt; calm = tt }) (read_front p)
  read_front (may.goes_on (may.makes_tag {answer = Err e}) p) = idles (record { plain = tt; granted = tt; spends = λ h v. tt; got = λ w. refl; left = λ b. refl; spares = tt; calm = tt }) (read_front p)
  read_front (may.goes_on (may.locks tag) p) = locks tag (read_front p)
  read_front (may.goes_on may.gets_no_lock p) = idles (record { plain = tt; granted = tt; spends = λ h v. tt; got = λ w. refl; left = λ b. refl; spares = tt; calm = tt }) (read_front p)
  read_front (may.goes_on (may.makes_segment tag {answer = Ok y}) p) = makes_segment tag (read_front p)
  read_front (may.goes_on (may.makes_segment tag {answer = Err e}) p) = idles (record { plain = tt; granted = tt; spends = λ h v. tt; got = λ w. refl; left = λ b. refl; spares = tt; calm = tt }) (read_front p)
  read_front (may.goes_on may.publishes_nothing p) = idles (record { plain = tt; granted = tt; spends = λ h v. tt; got = λ w. refl; left = λ b. refl; spares = tt; calm = tt }) (read_front p)
  read_front (may.goes_on may.opens_nothing p) = idles (record { plain = tt; granted = tt; spends = λ h v. tt; got = λ w. refl; left = λ b. refl; spares = tt; calm = tt }) (read_front p)
  read_front (may.clears tag p) = clears tag (read_front p)

  pub facts : {a b : List Owned} {w : List Letter} → Front node hash n a w b → Facts node hash n a w b
  facts ends = record { in_order = λ o. o; spares = tt; tame = calm.ends; lock_stays = λ e. e; got = λ rest none e. none ∙ ap (if_locked n) (sym e); spends = λ v f. tt; left = λ rest was. refl }
  facts (idles {l = l} {w = w} is p) = let f = facts p in record { in_order = f.in_order; spares = (is.spares, f.spares); tame = calm.goes is.calm f.tame; lock_stays = f.lock_stays; got = λ rest none e. is.got (w ++ rest) ∙ f.got rest none e; spends = λ v s. (is.spends hash v, f.spends v s); left = λ rest was. ap (λ b. left_after b (w ++ rest) OwnTag) (is.left was) ∙ f.left rest was }
  facts (makes_tag p) = let f = facts p in record { in_order = λ o. f.in_order (up_to_tag Made); spares = (tt, f.spares); tame = calm.goes tt f.tame; lock_stays = λ e. absurd (cc); got = λ rest none e. f.got rest none refl; spends = λ v s. (tt, f.spends v s); left = f.left }
  facts (locks tag p) = let f = facts p in record { in_order = λ o. f.in_order (up_to_lock tag); spares = (tt, f.spares); tame = calm.locks f.tame; lock_stays = λ e. f.lock_stays refl; got = λ rest none e. ap (if_locked n) (sym (f.lock_stays refl)); spends = λ v s. (s (f.lock_stays refl), f.spends v s); left = f.left }
  facts (makes_segment tag p) = let f = facts p in record { in_order = λ o. f.in_order (up_to_segment tag); spares = (tt, f.spares); tame = calm.goes tt f.tame; lock_stays = f.lock_stays; got = λ rest none e. absurd (cc); spends = λ v s. (tt, f.spends v s); left = f.left }
  facts (clears tag p) = let f = facts p in record { in_order = f.in_order; spares = (tt, (tt, f.spares)); tame = calm.goes tt (calm.goes tt f.tame); lock_stays = f.lock_stays; got = λ rest none e. absurd (cc); spends = λ v s. (tt, (tt, f.spends v s)); left = f.left }

module _ {node : ℕ} {hash : ServiceHash} where
  -- what is so of each removal
  pub each_removal : (P : Letter → Type 0) → ((a : Result (Unit {0}) RemoveError) → P (letter.RemoveSegment node hash a)) → ((a : Result (Unit {0}) RemoveError) → P (letter.RemoveDescription node hash a)) → ((a : Result (Unit {0}) RemoveError) → P (letter.RemoveTag node hash a))
      → {owned : List Owned} {w : List Letter} → GivesBack node hash owned w → Each P w
  each_removal P s k t nothing_left = tt
  each_removal P s k t (segment_back a b) = (s a, each_removal P s k t b)
  each_removal P s k t (lock_back a b) = (k a, each_removal P s k t b)
  each_removal P s k t (tag_back a b) = (t a, each_removal P s k t b)

  back_got : {owned : List Owned} {w : List Letter} → GivesBack node hash owned w → number_got w ≡ None
  back_got nothing_left = refl
  back_got (segment_back a b) = back_got b
  back_got (lock_back a b) = back_got b
  back_got (tag_back a b) = back_got b

  untag_tame : (tag : Tag) {w : List Letter} → GivesBack node hash (own_tag tag) w → Tame node hash false w false
  untag_tame Made (tag_back a nothing_left) = calm.goes tt calm.ends
  untag_tame Found nothing_left = calm.ends

  back_tame : {owned : List Owned} {w : List Letter} → MadeInOrder owned → GivesBack node hash owned w → Tame node hash (has_lock owned) w false
  back_tame {w = w} (up_to_tag tag) b = subst (λ z. Tame node hash z w false) (sym (no_lock tag)) (untag_tame tag b)
  back_tame (up_to_lock tag) (lock_back a b) = calm.unlocks a (untag_tame tag b)
  back_tame (up_to_segment tag) (segment_back a (lock_back c b)) = calm.goes tt (calm.unlocks c (untag_tame tag b))

  all_back_letters : {w : List Letter} → GivesAllBack node hash w → Each IsNoRelease w
  all_back_letters g = subst (Each IsNoRelease) (sym g.in_order) (each_append IsNoRelease g.front g.back (facts (read_front g.is_front)).spares (each_removal IsNoRelease (λ a. tt) (λ a. tt) (λ a. tt) g.gives_back))

  pub front_tame : {n : ℕ} {w : List Letter} → IsFront node hash n [] w → Tame node hash false w (has_lock (made w))
  front_tame is = (facts (read_front is)).tame

  all_back_tame : {w : List Letter} → GivesAllBack node hash w → Tame node hash false w false
  all_back_tame g = let f = facts (read_front g.is_front) in subst (λ u. Tame node hash false u false) (sym g.in_order) (tame_both f.tame (back_tame (f.in_order (up_to_tag Found)) g.gives_back))

  -- the number that such a word got
  pub all_got : {w : List Letter} (g : GivesAllBack node hash w) → number_got w ≡ if_locked g.number (has_lock (made g.front))
  all_got g = ap number_got g.in_order ∙ (facts (read_front g.is_front)).got g.back (back_got g.gives_back) refl

  -- of words that give back what they make, one after the other
  pub rounds_back_letters : {w : List Letter} → GivesBackByRounds node hash w → Each IsNoRelease w
  rounds_back_letters rounds.no_round = tt
  rounds_back_letters (rounds.one_more {u} {v} before g) = each_append IsNoRelease u v (rounds_back_letters before) (all_back_letters g)

  pub rounds_back_tame : {w : List Letter} → GivesBackByRounds node hash w → Tame node hash false w false
  rounds_back_tame rounds.no_round = calm.ends
  rounds_back_tame (rounds.one_more before g) = tame_both (rounds_back_tame before) (all_back_tame g)

  created_letters : {w : List Letter} {n : ℕ} → KeepsAll node hash w n → Each IsNoRelease w
  created_letters {n = n} k = subst (Each IsNoRelease) (sym k.in_order) (each_append IsNoRelease k.front (letter.Publish node hash n k.d (Ok k.ticket) ∷ []) (facts (read_front k.is_front)).spares (tt, tt))

  opened_letters : {w : List Letter} {n : ℕ} → KeepsLastTag node hash w n → Each IsNoRelease w
  opened_letters {n = n} k = let last = letter.OpenSegment node hash n (Ok k.ticket) ∷ [] in
      subst (Each IsNoRelease) (sym k.in_order) (each_append IsNoRelease k.before (k.front ++ last) (rounds_back_letters (tags_back k.gives_back)) (each_append IsNoRelease k.front last (facts (read_front k.is_front)).spares (tt, tt)))

  pub in_the_end_letters : {w : List Letter} {n : ℕ} → KeepsInTheEnd node hash w n → Each IsNoRelease w
  in_the_end_letters k = subst (Each IsNoRelease) (sym k.is_word) (each_append IsNoRelease k.before k.in_the_end (rounds_back_letters k.gives_back) (elim k.keeps [ inl c ↦ created_letters c | inr o ↦ opened_letters o ]))

  -- of the parts of a create and of an open
  goes_tame : {n : ℕ} {a b : List Owned} {w : List Letter} → Goes node hash n a w b → Tame node hash (has_lock a) w (has_lock b)
  goes_tame {a = a} {w = w} p = subst (λ z. Tame node hash (has_lock a) w (has_lock z)) p.makes (facts (read_front p.front)).tame

  tagged_tame : (tag : Tag) {w : List Letter} → Goes node hash 0 [] w (own_tag tag) → Tame node hash false w false
  tagged_tame tag {w} p = subst (Tame node hash false w) (no_lock tag) (goes_tame p)

  pub making_tame : {number max_nodes : ℕ} {w : List Letter} → IsSegmentWord node hash number max_nodes w (Ok tt) → Tame node hash true w true
  making_tame s = goes_tame (segment_made Found s)

module _ {E C : Type 0} {m : PatternRules E C} {node : ℕ} {hash : ServiceHash} where
  pub look_tame : {w : List Letter} {o : Outcome E} → IsLookWord m node hash w o → Tame node hash false w false
  look_tame l = goes_tame {n = 0} {a = []} (look_goes l)

  pub entry_tame : {w : List Letter} {tag : Tag} → IsEntryWord m node hash w (Ok tag) → Tame node hash false w false
  entry_tame {tag = tag} e = tagged_tame tag (entry_goes e)

  pub rounds_tame : {k : ℕ} {w : List Letter} → AreFailedRounds m node hash k w → Tame node hash false w false
  rounds_tame before = rounds_back_tame (tags_back (rounds_give_back before))
