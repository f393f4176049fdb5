-- What following an entry comes to.
use Rattle.std.proofs.Common.{◌≡◌, inl, inr, ℕ, ◌-◌, false, List, [], ◌∷◌, ◌++◌, Result, Ok, Err, refl, sym, ap, subst}
use Rattle.iceoryx2_description.specs.declared.description.ServiceHash.{ServiceHash}
use Rattle.std.specs.Prelude.{true, is_ok}
use Rattle.iceoryx2_access.specs.declared.storage.Release.{Release as Released}
use Rattle.iceoryx2_access.specs.declared.storage.ReleaseError.{ReleaseError}
use Rattle.iceoryx2_access.specs.Letter.{Letter, acting_node}
use Rattle.iceoryx2_access.specs.Letter as letter
use Rattle.iceoryx2_access.specs.Run.{Run, done, Each}
use Rattle.iceoryx2_access.proofs.Run.{one, both}
use Rattle.iceoryx2_world.specs.World.{World}
use Rattle.iceoryx2_world.specs.Access.{IsOwnPart}
use Rattle.iceoryx2_table.specs.Recorded.{IsRecordedPart, untouched, recorded, declined, is_written}
use Rattle.iceoryx2_table.proofs.Recording.{is_own_part}
use Rattle.iceoryx2_table.specs.Spending.{Spends, LocksOrGivesUp, locks_and_gives_up}
use Rattle.iceoryx2_table.proofs.NumbersSpent.{spending_is_locking}
use Rattle.iceoryx2_log.specs.declared.entry.Operation.{Operation}
use Rattle.iceoryx2_log.specs.declared.entry.Operation.TheVariants as operation
use Rattle.iceoryx2_log.specs.declared.entry.Entry.{Entry}
use Rattle.iceoryx2_journal.specs.declared.follow.FollowError.{FollowError}
use Rattle.iceoryx2_journal.specs.declared.follow.FollowError.TheVariants as errors
use Rattle.iceoryx2_journal.specs.Follow.{Grants, Asks, LacksMemory, IsEntryOf, MayFetch, Prepares, IsFollowed, granted, spent, Differs, answered, malformed, unspent, mark, ActsAlone, Follows, Judges}

-- What isn't written leaves the world.
pub unwritten : {R : Type 0} {written refused : R → R → Type 0} {before after : R} {w v : World} {l : Letter} → is_written w l ≡ false → IsRecordedPart written refused w l v before after → v ≡ w
unwritten e (untouched f own same still) = same
unwritten e (recorded f own wrote) = absurd (cc)
unwritten e (declined fault same refuses) = same

pub acts_not : {i : ℕ} {w : World} → ActsAlone i w w
acts_not = record { word = []; is_word = tt; run = done }

pub stays_alone : {i : ℕ} {w v : World} → v ≡ w → ActsAlone i w v
stays_alone {i} {w} same = subst (ActsAlone i w) (sym same) acts_not

pub each_more : {A : Type 0} (P : A → Type 0) (xs : List A) {x : A} → Each P xs → P x → Each P (xs ++ x ∷ [])
each_more P [] e p = (p, tt)
each_more P (y ∷ xs) e p = (e.0, each_more P xs e.1 p)

pub acts_once_more : {i : ℕ} {w u v : World} (l : Letter) → ActsAlone i w u → acting_node l ≡ i → IsOwnPart u l v → ActsAlone i w v
acts_once_more {i} l a e part = record {
  word = a.word ++ l ∷ [];
  is_word = each_more (λ k. acting_node k ≡ i) a.word a.is_word e;
  run = both a.run (one part);
}

pub fetch_acts : {i : ℕ} {h : ServiceHash} {w v : World} → MayFetch i h w v → ActsAlone i w v
fetch_acts {i} {h} {w} (inl e) = subst (ActsAlone i w) (sym e) acts_not
fetch_acts {i} {h} (inr x) = acts_once_more (letter.Fetch i h x.0) acts_not refl x.1

-- An access with its answer, from where its operation is prepared.
pub judged : {R : Type 0} {before after : R} {G F W : Type 0} (w : World) {u v : World} (e : Entry) (l : Letter) (r : Result (Unit {0}) FollowError) → Judges G F W r
    → Prepares e.node e.hash e.operation w u → Asks e.node e.hash e.operation l → (G → IsEntryOf e l) → (IsEntryOf e l → G) → (LacksMemory l → W) → (F → is_written u l ≡ false)
    → IsRecordedPart {R = R} (λ _ _. Unit {0}) (λ _ _. ⊥) u l v before after → Follows e r w v
judged w {u} e l (Ok x) j p asks is_entry is_only lacks is_refused part = granted u l p (is_entry j) (is_own_part (λ _ _ no. no) part)
judged w e l (Err errors.OutOfMemory) j p asks is_entry is_only lacks is_refused part = subst (λ x. Prepares e.node e.hash e.operation w x) (sym (unwritten (is_refused j) part)) p
judged w {u} e l (Err errors.Disagrees) j p asks is_entry is_only lacks is_refused part = answered u l p asks (λ is. j.0 (is_only is)) (λ want. j.1 (lacks want)) (is_own_part (λ _ _ no. no) part)

-- What comes before a operation's access is the node's too.
pub prepare_acts : {i : ℕ} (h : ServiceHash) (d : Operation) {w v : World} → Prepares i h d w v → ActsAlone i w v
prepare_acts h (operation.OpenSegment n t) p = fetch_acts p
prepare_acts {i} h operation.MakeTag {w} p = subst (ActsAlone i w) (sym p) acts_not
prepare_acts {i} h operation.RemoveTag {w} p = subst (ActsAlone i w) (sym p) acts_not
prepare_acts {i} h (operation.Lock n) {w} p = subst (ActsAlone i w) (sym p) acts_not
prepare_acts {i} h (operation.MakeSegment n m) {w} p = subst (ActsAlone i w) (sym p) acts_not
prepare_acts {i} h operation.RemoveSegment {w} p = subst (ActsAlone i w) (sym p) acts_not
prepare_acts {i} h operation.RemoveDescription {w} p = subst (ActsAlone i w) (sym p) acts_not
prepare_acts {i} h (operation.Publish n b) {w} p = subst (ActsAlone i w) (sym p) acts_not
prepare_acts {i} h (operation.Release t n) {w} p = subst (ActsAlone i w) (sym p) acts_not
prepare_acts {i} h (operation.Spend n) {w} p = subst (ActsAlone i w) (sym p) acts_not
prepare_acts {i} h operation.Moved {w} p = subst (ActsAlone i w) (sym p) acts_not

asks_caller : (i : ℕ) (h : ServiceHash) (d : Operation) (l : Letter) → Asks i h d l → acting_node l ≡ i
asks_caller i h operation.MakeTag l g = ap acting_node g.1
asks_caller i h operation.RemoveTag l g = ap acting_node g.1
asks_caller i h (operation.Lock n) l g = ap acting_node g.1
asks_caller i h (operation.MakeSegment n m) l g = ap acting_node g.1
asks_caller i h operation.RemoveSegment l g = ap acting_node g.1
asks_caller i h operation.RemoveDescription l g = ap acting_node g.1
asks_caller i h (operation.Publish n b) l g = ap acting_node g.3
asks_caller i h (operation.OpenSegment n t) l g = ap acting_node g.1
asks_caller i h (operation.Release t n) l g = ap acting_node g.1
asks_caller i h (operation.Spend n) l g = absurd g
asks_caller i h operation.Moved l g = absurd g

-- Where the world doesn't answer what the entry has, only the node has acted.
pub differs_acts : {w v : World} (e : Entry) → Differs w e v → ActsAlone e.node w v
differs_acts e (answered u l p asks other lacks part) = acts_once_more l (prepare_acts e.hash e.operation p) (asks_caller e.node e.hash e.operation l asks) part
differs_acts e (malformed n bytes is none same) = stays_alone same
differs_acts e (unspent n is none same) = stays_alone same
differs_acts e (mark is same) = stays_alone same

entry_caller : (i : ℕ) (h : ServiceHash) (d : Operation) (l : Letter) → Grants i h d l → acting_node l ≡ i
entry_caller i h operation.MakeTag l g = ap acting_node g
entry_caller i h operation.RemoveTag l g = ap acting_node g
entry_caller i h (operation.Lock n) l g = ap acting_node g
entry_caller i h (operation.MakeSegment n m) l g = ap acting_node g
entry_caller i h operation.RemoveSegment l g = ap acting_node g
entry_caller i h operation.RemoveDescription l g = ap acting_node g
entry_caller i h (operation.Publish n b) l g = ap acting_node g.2
entry_caller i h (operation.OpenSegment n t) l g = ap acting_node g
entry_caller i h (operation.Release t n) l g = ap acting_node g.1
entry_caller i h (operation.Spend n) l g = absurd g
entry_caller i h operation.Moved l g = absurd g

each_as : {A : Type 0} (P Q : A → Type 0) → ((x : A) → P x → Q x) → (xs : List A) → Each P xs → Each Q xs
each_as P Q f [] e = tt
each_as P Q f (x ∷ xs) e = (f x e.0, each_as P Q f xs e.1)

locks_caller : (i : ℕ) (h : ServiceHash) (l : Letter) → LocksOrGivesUp i h l → acting_node l ≡ i
locks_caller i h l (inl x) = ap acting_node x.1
locks_caller i h l (inr e) = ap acting_node e

-- Numbers are spent by locks that are given up.
pub record SpentBy (i : ℕ) (h : ServiceHash) (w v : World) : Type 0 where
  pub word : List Letter
  pub locks : Each (LocksOrGivesUp i h) word
  pub run : Run IsOwnPart w word v

pub spent_by_locks : {i n : ℕ} {h : ServiceHash} {w v : World} → Spends i h n w v → SpentBy i h w v
spent_by_locks {i} {n} {h} {w} {v} s =
    let x = spending_is_locking i h n w v s in record { word = locks_and_gives_up i h w.counter (n - w.counter); locks = x.1; run = x.0 }

pub spend_acts : {i n : ℕ} {h : ServiceHash} {w v : World} → Spends i h n w v → ActsAlone i w v
spend_acts {i} {h = h} s =
    let x = spent_by_locks s in record { word = x.word; is_word = each_as (LocksOrGivesUp i h) (λ l. acting_node l ≡ i) (locks_caller i h) x.word x.locks; run = x.run }

-- An entry that is followed is accesses of its node.
pub followed_acts : {w v : World} (e : Entry) → IsFollowed w e v → ActsAlone e.node w v
followed_acts e (granted u l p is part) = acts_once_more l (prepare_acts e.hash e.operation p) (entry_caller e.node e.hash e.operation l is) part
followed_acts e (spent n is s) = spend_acts s

pub release_only : (t i : ℕ) (h : ServiceHash) (n : ℕ) (a : Result Released ReleaseError) → Grants i h (operation.Release t n) (letter.Release t i h n a) → is_ok a ≡ true
release_only t i h n (Ok left) g = refl
release_only t i h n (Err e) g = let x = g.1 in absurd (cc)

pub release_granted : (t i : ℕ) (h : ServiceHash) (n : ℕ) (a : Result Released ReleaseError) → is_ok a ≡ true → Grants i h (operation.Release t n) (letter.Release t i h n a)
release_granted t i h n (Ok left) ok = (left, refl)
release_granted t i h n (Err e) ok = absurd (cc)

-- An entry that has this operation.
pub same_entry : (e : Entry) (d : Operation) (r : Result (Unit {0}) FollowError) (w v : World) → e.operation ≡ d → Follows (record { node = e.node; hash = e.hash; operation = d }) r w v → Follows e r w v
same_entry e d r w v is f = subst (λ x. Follows (record { node = e.node; hash = e.hash; operation = x }) r w v) (sym is) f
