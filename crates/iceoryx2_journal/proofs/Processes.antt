-- What holds of several processes over one log.
use Rattle.std.proofs.Common.{◌≡◌, ◌≢◌, ℕ, ◌≤◌, ◌<◌, inl, inr, true, false, nat_eq, List, [], ◌∷◌, ◌++◌, length, Option, Some, None, Ok, append_assoc, refl, sym, ap, subst, ◌∙◌, arith}
use Rattle.std.specs.FinMap as map
use Rattle.std.specs.List.{cons_option, AllByRecursion, IsDistinct}
use Rattle.std.proofs.lemmas.Bool.Decides.{nat_tests}
use Rattle.std.proofs.lemmas.List.{append-nil}
use Rattle.std.proofs.lemmas.Map.Keys.{IsDistinct-head, IsDistinct-tail, IsDistinct-cons}
use Rattle.iceoryx2_description.specs.declared.description.ServiceHash.{ServiceHash}
use Rattle.iceoryx2_description.specs.Description.{Description, max_nodes_of}
use Rattle.iceoryx2_data.specs.Form as form
use Rattle.iceoryx2_data.proofs.Fields.{one_description}
use Rattle.iceoryx2_access.specs.Letter.{Letter}
use Rattle.iceoryx2_access.specs.Letter as letter
use Rattle.iceoryx2_access.specs.Registered.{Registered}
use Rattle.iceoryx2_access.specs.Run.{Run, done, next, Each}
use Rattle.iceoryx2_world.specs.Sets as set
use Rattle.iceoryx2_world.specs.declared.world.Participant.{Participant}
use Rattle.iceoryx2_world.specs.declared.world.Participant.TheVariants.{Node}
use Rattle.iceoryx2_world.specs.declared.world.Row.{Row}
use Rattle.iceoryx2_world.specs.declared.world.Row.TheVariants as row
use Rattle.iceoryx2_world.specs.Orders.{participant_cmp, participant_total}
use Rattle.iceoryx2_world.specs.World.{World, Segment, row_of, segment_of, locked_number, row_number}
use Rattle.iceoryx2_world.specs.Acts as act
use Rattle.iceoryx2_world.specs.ServiceAgreement.{HasMember, LaterAt, Later}
use Rattle.iceoryx2_world.specs.Agreement.{Agrees}
use Rattle.iceoryx2_world.specs.Access.{IsOwnPart}
use Rattle.iceoryx2_world.specs.Interference.{everyone, IsFallibleUnder}
use Rattle.iceoryx2_world.specs.Standing.{Stands, Spares}
use Rattle.iceoryx2_world.proofs.agreement.Moved.{contains_remove_other}
use Rattle.iceoryx2_world.proofs.agreement.Effects.{allowed_step}
use Rattle.iceoryx2_world.proofs.agreement.Worlds.{same_node, step_locks}
use Rattle.iceoryx2_world.proofs.agreement.Parts.{publishing}
use Rattle.iceoryx2_world.proofs.agreement.Accesses.{own_keeps, later_trans}
use Rattle.iceoryx2_world.proofs.agreement.Stands.{faulty_stands, published_stands}
use Rattle.iceoryx2_world.proofs.agreement.Empty.{empty_agrees}
use Rattle.iceoryx2_world.proofs.agreement.Interference.{rely_same}
use Rattle.iceoryx2_log.specs.declared.entry.Operation.{Operation}
use Rattle.iceoryx2_log.specs.declared.entry.Operation.TheVariants as operation
use Rattle.iceoryx2_log.specs.declared.entry.Entry.{Entry}
use Rattle.iceoryx2_log.specs.Log.{Contents}
use Rattle.iceoryx2_table.specs.Spending.{Spends, LocksOrGivesUp}
use Rattle.iceoryx2_journal.specs.Follow.{Grants}
use Rattle.iceoryx2_journal.specs.Taking.{is_own}
use Rattle.iceoryx2_journal.specs.Journal.{JournalState}
use Rattle.iceoryx2_journal.specs.Replay.{ComesTo, fetches, happens, spends, HasTaken, AmountsTo}
use Rattle.iceoryx2_journal.specs.Replay as replay
use Rattle.iceoryx2_table.specs.Same.{IsSameButRead}
use Rattle.iceoryx2_journal.specs.Processes.{GoesOnBy, GoesOn, at_once, across, published_number, published_numbers, release_of, AllSpare, AreOfOthers, HasRead, StandsAtTheEnd, HasPart}
use Rattle.iceoryx2_journal.specs.Processes.{AgreesInEach, GoesOnFromOthers, PublishesOnce, CarriesOneDescription, StandsInOthers, OwnStandsInOthers, OwnStandsAtTheEnd, FewHaveAPart}
use Rattle.iceoryx2_journal.specs.Processes.{ReadsOn, here, compacted, then, HasPartBefore, StandsAcross, CarriesOneAcross, FewAcross}
use Rattle.iceoryx2_journal.proofs.Following.{spent_by_locks}
use Rattle.iceoryx2_journal.proofs.ComingTo.{comes_keep, spent_keeps, IsFrontOf, fronts}
use Rattle.iceoryx2_journal.proofs.Amounts.{amounts_agree, amounts_go_on, stands_amount}
use Rattle.iceoryx2_journal.proofs.Replaying.{is_what_it_comes_to}

-- ---- lists

each_front : {A : Type 0} (P : A → Type 0) (xs ys : List A) → Each P (xs ++ ys) → Each P xs
each_front P [] ys e = tt
each_front P (x ∷ xs) ys e = (e.0, each_front P xs ys e.1)

each_as : {A : Type 0} (P Q : A → Type 0) → ((x : A) → P x → Q x) → (xs : List A) → Each P xs → Each Q xs
each_as P Q f [] e = tt
each_as P Q f (x ∷ xs) e = (f x e.0, each_as P Q f xs e.1)

other_number : (m n : ℕ) → (m ≡ n → ⊥) → nat_eq m n ≡ false
other_number m n e = grind (arith, nat_tests, e)

is_other_number : (m n : ℕ) → nat_eq m n ≡ false → n ≢ m
is_other_number m n other e = grind (arith, nat_tests, e, other)

-- ---- what entries make of a world

-- ---- a factory that stands

same_stands : {w v : World} (f : Registered) → IsSameButRead w v → Stands w f → Stands v f
same_stands f s is = record {
  ticket = ap (λ k. map.get k f.ticket) s.tickets ∙ is.ticket;
  limits = is.limits;
  row = ap (λ m. map.get m f.description.hash) s.rows ∙ is.row;
  segment = subst (λ m. HasMember (map.get m f.description.hash) f.number (Node f.node)) (sym s.segments) is.segment;
}

under_everyone : {w v : World} {l : Letter} → IsOwnPart w l v → IsFallibleUnder everyone w l v
under_everyone {w} p = record { between = w; before = rely_same everyone w; part = inl p }

-- an access that isn't the release of its ticket
part_stands : (f : Registered) {w v : World} (l : Letter) → IsOwnPart w l v → Spares f l → Agrees w → Stands w f → Stands v f
part_stands f {w} {v} l p spares old is = faulty_stands {own = everyone} w l v f refl (under_everyone p) spares old is

entry_spares : (f : Registered) (i : ℕ) (h : ServiceHash) (d : Operation) (l : Letter) → Grants i h d l → (record { node = i; hash = h; operation = d } ≢ release_of f) → Spares f l
entry_spares f i h (operation.Release t n) l g other = subst (Spares f) (sym g.1) (λ ticket node hash number. other (λ j. record { node = node j; hash = hash j; operation = operation.Release (ticket j) (number j) }))
entry_spares f i h (operation.Publish n b) l g other = subst (Spares f) (sym g.2) tt
entry_spares f i h operation.MakeTag l g other = subst (Spares f) (sym g) tt
entry_spares f i h operation.RemoveTag l g other = subst (Spares f) (sym g) tt
entry_spares f i h (operation.Lock n) l g other = subst (Spares f) (sym g) tt
entry_spares f i h (operation.MakeSegment n m) l g other = subst (Spares f) (sym g) tt
entry_spares f i h operation.RemoveSegment l g other = subst (Spares f) (sym g) tt
entry_spares f i h operation.RemoveDescription l g other = subst (Spares f) (sym g) tt
entry_spares f i h (operation.OpenSegment n t) l g other = subst (Spares f) (sym g) tt
entry_spares f i h (operation.Spend n) l g other = absurd g
entry_spares f i h operation.Moved l g other = absurd g

-- an access that locks or gives a lock up
lock_spares : (f : Registered) (i : ℕ) (h : ServiceHash) (l : Letter) → LocksOrGivesUp i h l → Spares f l
lock_spares f i h l (inl x) = subst (Spares f) (sym x.1) tt
lock_spares f i h l (inr e) = subst (Spares f) (sym e) tt

word_stands : (f : Registered) (word : List Letter) {w v : World} → Run IsOwnPart w word v → Each (Spares f) word → Agrees w → Stands w f → Stands v f
word_stands f [] done spares old is = is
word_stands f (l ∷ word) {w} (next {mid} p r) spares old is = word_stands f word r spares.1 (own_keeps w l mid p old).0 (part_stands f l p spares.0 old is)

spent_stands : (f : Registered) {i n : ℕ} {h : ServiceHash} {w v : World} → Spends i h n w v → Agrees w → Stands w f → Stands v f
spent_stands f {i} {n} {h} s old is = let x = spent_by_locks s in word_stands f x.word x.run (each_as (LocksOrGivesUp i h) (Spares f) (lock_spares f i h) x.word x.locks) old is

-- It stands on, whatever entries come that don't release its ticket.
comes_stands : (f : Registered) (es : List Entry) {w v : World} → ComesTo w es v → AllSpare f es → Agrees w → Stands w f → Stands v f
comes_stands f es replay.nothing others old is = is
comes_stands f es {w} (fetches {u} i h a p c) others old is =
    comes_stands f es c others (own_keeps w (letter.Fetch i h a) u p old).0 (part_stands f (letter.Fetch i h a) p tt old is)
comes_stands f (x ∷ es) {w} (happens {u} e l granted p c) others old is =
    comes_stands f es c others.1 (own_keeps w l u p old).0 (part_stands f l p (entry_spares f e.node e.hash e.operation l granted others.0) old is)
comes_stands f (x ∷ es) {w} (spends {u} e n is s c) others old standing =
    comes_stands f es c others.1 (spent_keeps s old).0 (spent_stands f s old standing)

each_back : {A : Type 0} (P : A → Type 0) (xs ys : List A) → Each P (xs ++ ys) → Each P ys
each_back P [] ys e = e
each_back P (x ∷ xs) ys e = each_back P xs ys e.1

by_stands : (f : Registered) {es : List Entry} {w v : World} → GoesOnBy es w v → AllSpare f es → Stands w f → Stands v f
by_stands f {es} k spared is = comes_stands f es k.comes spared k.agrees (same_stands f k.same is)

goes_on_stands : (f : Registered) {es : List Entry} {w v : World} → GoesOn es w v → AllSpare f es → Stands w f → Stands v f
goes_on_stands f (at_once k) spared is = by_stands f k spared is
goes_on_stands f (across xs ys u parts x y) spared is =
    let each = subst (AllSpare f) parts spared in
    by_stands f y (each_back (λ e. e ≢ release_of f) xs ys each) (by_stands f x (each_front (λ e. e ≢ release_of f) xs ys each) is)

-- entries of other nodes don't release it
others_spare : (nodes : List ℕ) (f : Registered) → is_own nodes f.node ≡ true → (es : List Entry) → AreOfOthers nodes es → AllSpare f es
others_spare nodes f own es others = each_as (λ e. is_own nodes e.node ≡ false) (λ e. e ≢ release_of f) (λ e other same. let mine = ap (λ (x : Entry). is_own nodes x.node) same in absurd (cc)) es others

-- ---- a number that is published

-- No lock is of this number, and none will be.
abbrev IsUsed : World → ℕ → Type 0
IsUsed w n = (n < w.counter) × ((h : ServiceHash) → row_of w h ≢ Some (row.Locked n))

lock_again : {n : ℕ} {r : Option Row} (x : Row) → ((b : List ℕ) → x ≡ row.Published n b → ⊥) → r ≡ Some x → row_number x ≡ n → r ≡ Some (row.Locked n)
lock_again (row.Locked m) other is number = is ∙ ap (λ k. Some (row.Locked k)) number
lock_again (row.Published m b) other is number = absurd (other b (ap (λ k. row.Published k b) number))

-- a row of a later world that is a lock's was one before, or its number is a new one
lock_was : {n c : ℕ} {r s : Option Row} → LaterAt c r s → n < c → s ≡ Some (row.Locked n) → r ≡ Some (row.Locked n)
lock_was {n} later below lock = let was = later.no_new (row.Locked n) lock below in lock_again was.0 (λ b is. later.not_relocked n (b, was.1 ∙ ap Some is) lock) was.1 was.2

used_later : {w v : World} (n : ℕ) → Later w v → IsUsed w n → IsUsed v n
used_later n later used = (grind (arith, later.counter, used.0), λ h lock. used.1 h (lock_was (later.rows h) used.0 lock))

publish_locked : (w v : World) (i : ℕ) (h : ServiceHash) (n : ℕ) (d : Description) (t : ℕ) → IsOwnPart w (letter.Publish i h n d (Ok t)) v → Agrees w → row_of w h ≡ Some (row.Locked n)
publish_locked w v i h n d t p old = (old.everywhere h).locked (Node i) n (ap locked_number (publishing w v i h n d t p).phase)

publish_uses : (w v : World) (i : ℕ) (h : ServiceHash) (n : ℕ) (d : Description) (t : ℕ) → IsOwnPart w (letter.Publish i h n d (Ok t)) v → Agrees w → IsUsed v n
publish_uses w v i h n d t o old =
    let p = publishing w v i h n d t o in
    let locked = publish_locked w v i h n d t o old in
    let below : n < w.counter = (old.everywhere h).row_below (row.Locked n) locked in
    let later = (own_keeps w (letter.Publish i h n d (Ok t)) v o old).1 in
    let stands = published_stands {own = everyone} w v i h n d t (under_everyone o) old in
    let published : row_of v h ≡ Some (row.Published n (form.description d)) = ap (row_of v) (sym stands.1) ∙ (stands.0).row in (
      grind (arith, below, later.counter),
      λ g lock.
          elim (step_locks w p.mid (Node i) h (act.Publish d) (allowed_step w p.mid (Node i) h (act.Publish d) p.step) g n (ap (λ z. row_of z g) (sym p.is) ∙ lock)) [
            | inl was ↦ let here : row_of v h ≡ Some (row.Locked n) = ap (row_of v) (sym (old.numbered.apart g h n was locked)) ∙ lock in absurd (cc)
            | inr new ↦ grind (arith, new.1, below)
          ],
    )

-- what is granted where a operation publishes
publishes : (i : ℕ) (h : ServiceHash) (d : Operation) (l : Letter) (n : ℕ) → Grants i h d l → published_number d ≡ Some n → (x : Description) × (l ≡ letter.Publish i h n x (Ok n))
publishes i h (operation.Publish m b) l n g e = let same : m ≡ n = cc in (g.0, g.2 ∙ ap (λ k. letter.Publish i h k g.0 (Ok k)) same)
publishes i h _ l n g e = absurd (cc)

cons_apart : (n : ℕ) (o : Option ℕ) (ns : List ℕ) → ((m : ℕ) → o ≡ Some m → nat_eq n m ≡ false) → AllByRecursion (λ m. nat_eq n m ≡ false) ns → AllByRecursion (λ m. nat_eq n m ≡ false) (cons_option o ns)
cons_apart n None ns f all = all
cons_apart n (Some m) ns f all = (f m refl, all)

cons_distinct : (o : Option ℕ) (ns : List ℕ) → ((m : ℕ) → o ≡ Some m → AllByRecursion (λ k. nat_eq m k ≡ false) ns) → IsDistinct nat_eq ns → IsDistinct nat_eq (cons_option o ns)
cons_distinct None ns f all = all
cons_distinct (Some m) ns f all = IsDistinct-cons nat_eq m ns (f m refl) all

-- Nobody publishes it again.
never_again : (n : ℕ) (es fs : List Entry) {w v : World} → ComesTo w es v → Agrees w → (IsUsed v n → AllByRecursion (λ m. nat_eq n m ≡ false) (published_numbers fs)) → IsUsed w n → AllByRecursion (λ m. nat_eq n m ≡ false) (published_numbers (es ++ fs))
never_again n es fs replay.nothing old behind used = behind used
never_again n es fs {w} (fetches {u} i h a p c) old behind used =
    let kept = own_keeps w (letter.Fetch i h a) u p old in never_again n es fs c kept.0 behind (used_later n kept.1 used)
never_again n (y ∷ es) fs {w} (happens {u} e l granted p c) old behind used =
    let kept = own_keeps w l u p old in
    cons_apart n (published_number e.operation) (published_numbers (es ++ fs)) (λ m is.
    let x = publishes e.node e.hash e.operation l m granted is in
    let locked = publish_locked w u e.node e.hash m x.0 m (subst (λ k. IsOwnPart w k u) x.1 p) old in
    other_number n m (λ same. used.1 e.hash (locked ∙ ap (λ k. Some (row.Locked k)) (sym same)))) (never_again n es fs c kept.0 behind (used_later n kept.1 used))
never_again n (y ∷ es) fs {w} (spends {u} e m is s c) old behind used =
    let kept = spent_keeps s old in
    let none : published_number e.operation ≡ None = ap published_number is in
    subst (λ o. AllByRecursion (λ k. nat_eq n k ≡ false) (cons_option o (published_numbers (es ++ fs)))) (sym none) (never_again n es fs c kept.0 behind (used_later n kept.1 used))

-- No number behind is used at the end, and there each is published once.
record OnceBehind (v : World) (fs : List Entry) : Type 0 where
  once : IsDistinct nat_eq (published_numbers fs)
  apart : (n : ℕ) → IsUsed v n → AllByRecursion (λ m. nat_eq n m ≡ false) (published_numbers fs)

each_once : (es fs : List Entry) {w v : World} → ComesTo w es v → Agrees w → OnceBehind v fs → IsDistinct nat_eq (published_numbers (es ++ fs))
unfolding IsDistinct
each_once es fs replay.nothing old behind = behind.once
each_once es fs {w} (fetches {u} i h a p c) old behind = each_once es fs c (own_keeps w (letter.Fetch i h a) u p old).0 behind
each_once (y ∷ es) fs {w} (happens {u} e l granted p c) old behind =
    let kept = own_keeps w l u p old in
    cons_distinct (published_number e.operation) (published_numbers (es ++ fs)) (λ m is.
    let x = publishes e.node e.hash e.operation l m granted is in
    never_again m es fs c kept.0 (behind.apart m) (publish_uses w u e.node e.hash m x.0 m (subst (λ k. IsOwnPart w k u) x.1 p) old)) (each_once es fs c kept.0 behind)
each_once (y ∷ es) fs {w} (spends {u} e m is s c) old behind =
    let none : published_number e.operation ≡ None = ap published_number is in
    subst (λ o. IsDistinct nat_eq (cons_option o (published_numbers (es ++ fs)))) (sym none) (each_once es fs c (spent_keeps s old).0 behind)

none_behind : (v : World) → OnceBehind v []
unfolding IsDistinct
none_behind v = record { once = tt; apart = λ n used. tt }

used_same : {w v : World} (n : ℕ) → IsSameButRead w v → IsUsed w n → IsUsed v n
used_same {w} {v} n s used = (subst (λ k. n < k) (sym s.counter) used.0, λ h. subst (λ m. map.get m h ≢ Some (row.Locked n)) (sym s.rows) (used.1 h))

-- what entries publish that come to a world
once_behind : {w v : World} (es : List Entry) → ComesTo w es v → Agrees w → OnceBehind w es
once_behind {w} {v} es c old = record {
  once = subst (λ xs. IsDistinct nat_eq (published_numbers xs)) (append-nil es) (each_once es [] c old (none_behind v));
  apart = λ n used. subst (λ xs. AllByRecursion (λ m. nat_eq n m ≡ false) (published_numbers xs)) (append-nil es) (never_again n es [] c old (λ _. tt) used);
}

same_behind : {w v : World} {es : List Entry} → IsSameButRead w v → OnceBehind v es → OnceBehind w es
same_behind s x = record { once = x.once; apart = λ n used. x.apart n (used_same n s used) }

amounts_once : {n : ℕ} {es : List Entry} {w : World} → AmountsTo n es w → IsDistinct nat_eq (published_numbers es)
amounts_once {n} x =
    subst (λ xs. IsDistinct nat_eq (published_numbers xs)) (sym x.parts)
    (each_once x.front x.rest x.comes (empty_agrees n) (same_behind x.same (once_behind x.rest x.goes_on x.agrees)))

-- ---- one description

-- what goes on from a world that is the same but for who has only read
later_same : {u w v : World} → IsSameButRead u w → Later w v → Later u v
later_same {u} {w} {v} s x = record {
  counter = subst (λ k. k ≤ v.counter) s.counter x.counter;
  rows = λ h. subst (λ k. LaterAt k (row_of u h) (row_of v h)) s.counter (subst (λ m. LaterAt w.counter (map.get m h) (row_of v h)) s.rows (x.rows h));
}

-- A world that goes on from another is later than one that is the same as that, but for who has only read.
record LaterThan (w v : World) : Type 0 where
  from : World
  same : IsSameButRead w from
  agrees : Agrees from
  later : Later from v

goes_later : {es : List Entry} {w v : World} → GoesOn es w v → LaterThan w v
goes_later (at_once k) = record { from = k.from; same = k.same; agrees = k.agrees; later = (comes_keep k.comes k.agrees).1 }
goes_later {v} (across es fs u parts x y) = record {
  from = x.from;
  same = x.same;
  agrees = x.agrees;
  later = later_trans x.from u v (x.agrees).everywhere (comes_keep x.comes x.agrees).1 (later_same y.same (comes_keep y.comes y.agrees).1);
}

later_description : {w v : World} (f g : Registered) → Later w v → Stands w f → Stands v g → f.description.hash ≡ g.description.hash → f.number ≡ g.number → f.description ≡ g.description
later_description {w} {v} f g later s t hash number =
    let there : row_of v f.description.hash ≡ Some (row.Published f.number (form.description g.description)) = ap (row_of v) hash ∙ t.row ∙ ap (λ n. Some (row.Published n (form.description g.description))) (sym number) in
    let bytes = (later.rows f.description.hash).same_bytes f.number (form.description f.description) (form.description g.description) s.row there in
    one_description (form.description g.description) f.description g.description (s.limits, sym bytes) (t.limits, refl)

-- ---- how many nodes

not_none : (n : ℕ) → n ≢ 0 → 1 ≤ n
not_none n some = omega (arith, some)

some_member : (s : set.FinSet participant_cmp) (p : Participant) → set.contains s p ≡ true → 1 ≤ set.len s
some_member s p has = not_none (set.len s) (λ e. let none = ap (λ z. set.contains z p) (set.empty_of_len s e) ∙ set.contains-empty participant_cmp p in absurd (cc))

all_in_rest : (s : set.FinSet participant_cmp) (i : ℕ) (nodes : List ℕ) → AllByRecursion (λ j. nat_eq i j ≡ false) nodes → Each (λ j. set.contains s (Node j) ≡ true) nodes → Each (λ j. set.contains (set.remove s (Node i)) (Node j) ≡ true) nodes
all_in_rest s i [] apart all = tt
all_in_rest s i (j ∷ nodes) apart all = (contains_remove_other s (Node i) (Node j) (λ e. is_other_number i j apart.0 (same_node j i e)) all.0, all_in_rest s i nodes apart.1 all.1)

-- a set has room for no more nodes than its length
members_few : (nodes : List ℕ) (s : set.FinSet participant_cmp) → IsDistinct nat_eq nodes → Each (λ i. set.contains s (Node i) ≡ true) nodes → length nodes ≤ set.len s
members_few [] s apart all = omega arith
members_few (i ∷ nodes) s apart all =
    let rest = members_few nodes (set.remove s (Node i)) (IsDistinct-tail nat_eq i nodes apart) (all_in_rest s i nodes (IsDistinct-head nat_eq i nodes apart) all.1) in
    let less = set.len-remove participant_total s (Node i) in
    grind (arith, rest, less, all.0, some_member s (Node i) all.0)

-- Of these nodes each has a factory of this service and number that stands in the world.
abbrev HasFactoryOf : World → Registered → ℕ → Type 0
HasFactoryOf w f i = (g : Registered) × (g.node ≡ i) × (g.description.hash ≡ f.description.hash) × (g.number ≡ f.number) × Stands w g

member_in : {w : World} (f g : Registered) (x : Segment) → segment_of w f.description.hash ≡ Some x → g.description.hash ≡ f.description.hash → Stands w g → set.contains x.participants (Node g.node) ≡ true
member_in {w} f g x there hash is =
    let y = is.segment in
    let same : y.segment ≡ x = cc (sym y.there ∙ ap (segment_of w) hash ∙ there) in
    ap (λ (z : Segment). set.contains z.participants (Node g.node)) (sym same) ∙ y.member

stand_few : {w : World} (f : Registered) (nodes : List ℕ) → Agrees w → Stands w f → IsDistinct nat_eq nodes → Each (HasFactoryOf w f) nodes → length nodes ≤ max_nodes_of f.description.pattern
stand_few {w} f nodes old is apart all =
    let x = is.segment in
    let d = (old.everywhere f.description.hash).published f.number (form.description f.description) is.row in
    let same = one_description (form.description f.description) d.description f.description d.form (is.limits, refl) in
    let few = (d.segment x.segment x.there).few in
    let members = each_as (HasFactoryOf w f) (λ i. set.contains (x.segment).participants (Node i) ≡ true) (λ i g. subst (λ j. set.contains (x.segment).participants (Node j) ≡ true) g.1 (member_in f g.0 x.segment x.there g.2 g.4)) nodes all in
    let count = members_few nodes (x.segment).participants apart members in
    let limit = ap (λ (z : Description). max_nodes_of z.pattern) same in
    grind (arith, few, count, limit)

module _ {L : Type 0} (contents : L → Option Contents) where
  pub agrees_in_each : AgreesInEach contents
  agrees_in_each counter es b t = amounts_agree (is_what_it_comes_to contents counter es b t)

  pub goes_on : GoesOnFromOthers contents
  goes_on counter es more b c t u =
      amounts_go_on es more (is_what_it_comes_to contents counter es b t) (is_what_it_comes_to contents counter (es ++ more) c u)

  pub publishes_once : PublishesOnce contents
  publishes_once counter es b t = amounts_once (is_what_it_comes_to contents counter es b t)

  pub stands_in_others : StandsInOthers contents
  stands_in_others counter es more b c f t u unreleased is = goes_on_stands f (goes_on counter es more b c t u) unreleased is

  pub own_stands_in_others : OwnStandsInOthers contents
  own_stands_in_others counter es more b c f t u others own is = stands_in_others counter es more b c f t u (others_spare b.nodes f own more others) is

  pub own_stands_at_the_end : OwnStandsAtTheEnd contents
  own_stands_at_the_end counter es b f read others own is = record { process = b; read = read; unreleased = others_spare b.nodes f own read.rest others; stands = is }

  -- ---- one description

  -- where one has read more
  ahead_description : (counter : ℕ) (es more fs : List Entry) (b c : JournalState L) (f g : Registered) → es ++ more ≡ fs → HasTaken contents counter es b → HasTaken contents counter fs c → Stands b.world f → Stands c.world g
      → f.description.hash ≡ g.description.hash → f.number ≡ g.number → f.description ≡ g.description
  ahead_description counter es more fs b c f g whole t u s v hash number =
      let k = goes_on counter es more b c t (subst (λ xs. HasTaken contents counter xs c) (sym whole) u) in
      let l = goes_later k in
      later_description f g l.later (same_stands f l.same s) v hash number

  pub carries_one : CarriesOneDescription contents
  carries_one counter entries b c f g p q s t hash number = elim (fronts p.front p.rest q.front q.rest (p.whole ∙ sym q.whole)) [
    | inl k ↦ ahead_description counter p.front k.more q.front b c f g k.front p.taken q.taken s t hash number
    | inr k ↦ sym (ahead_description counter q.front k.more p.front c b g f k.front q.taken p.taken t s (sym hash) (sym number))
  ]

  -- ---- how many nodes

  module _ (counter : ℕ) (entries : List Entry) where
    record Reader : Type 0 where
      process : JournalState L
      read : HasRead contents counter entries process

    abbrev IsBehind : Reader → Reader → Type 0
    IsBehind a b = IsFrontOf (a.read).front (a.read).rest (b.read).front (b.read).rest

    behind_itself : (a : Reader) → IsBehind a a
    behind_itself a = record { more = []; front = append-nil (a.read).front; rest = refl }

    behind_both : (a b c : Reader) → IsBehind a b → IsBehind b c → IsBehind a c
    behind_both a b c x y = record {
      more = x.more ++ y.more;
      front = sym (append_assoc (a.read).front x.more y.more) ∙ ap (λ es. es ++ y.more) x.front ∙ y.front;
      rest = x.rest ∙ ap (λ es. x.more ++ es) y.rest ∙ sym (append_assoc x.more y.more (c.read).rest);
    }

    abbrev reader : {f : Registered} → StandsAtTheEnd contents counter entries f → Reader
    reader s = record { process = s.process; read = s.read }

    record PartBehind (f : Registered) (b : Reader) (i : ℕ) : Type 0 where
      part : HasPart contents counter entries f i
      behind : IsBehind (reader part.stands) b

    -- the one that has read most
    record Lead (f : Registered) (nodes : List ℕ) (a : Reader) : Type 0 where
      first : Reader
      behind : IsBehind a first
      parts : Each (PartBehind f first) nodes

    lead : (f : Registered) (nodes : List ℕ) → Each (HasPart contents counter entries f) nodes → (a : Reader) → Lead f nodes a
    lead f [] all a = record { first = a; behind = behind_itself a; parts = tt }
    lead f (i ∷ nodes) all a =
        let x = reader (all.0).stands in
        elim (fronts (x.read).front (x.read).rest (a.read).front (a.read).rest ((x.read).whole ∙ sym (a.read).whole)) [
          | inl k ↦ let l = lead f nodes all.1 a in record { first = l.first; behind = l.behind; parts = (record { part = all.0; behind = behind_both x a l.first k l.behind }, l.parts) }
          | inr k ↦ let l = lead f nodes all.1 x in record { first = l.first; behind = behind_both a x l.first k l.behind; parts = (record { part = all.0; behind = l.behind }, l.parts) }
        ]

    stands_there : (f : Registered) (s : StandsAtTheEnd contents counter entries f) (b : Reader) → IsBehind (reader s) b → Stands (b.process).world f
    stands_there f s b k =
        stands_in_others counter (s.read).front k.more s.process b.process f (s.read).taken (subst (λ xs. HasTaken contents counter xs b.process) (sym k.front) (b.read).taken)
        (each_front (λ e. e ≢ release_of f) k.more (b.read).rest (subst (AllSpare f) k.rest s.unreleased)) s.stands

    part_there : (f : Registered) (b : Reader) (i : ℕ) → PartBehind f b i → HasFactoryOf (b.process).world f i
    part_there f b i x = let p = x.part in (p.factory, p.node, p.hash, p.number, stands_there p.factory p.stands b x.behind)

  pub few_have_a_part : FewHaveAPart contents
  few_have_a_part counter entries f nodes s apart all =
      let l = lead counter entries f nodes all (reader counter entries s) in
      let b = l.first in
      stand_few f nodes (agrees_in_each counter (b.read).front b.process (b.read).taken) (stands_there counter entries f s b l.behind) apart
      (each_as (PartBehind counter entries f b) (HasFactoryOf (b.process).world f) (part_there counter entries f b) nodes l.parts)

  -- ---- across compactions

  -- It goes on leg by leg.
  data GoesBy : List Entry → World → World → Type 0 where
    leg : {es : List Entry} {w v : World} → GoesOn es w v → GoesBy es w v
    legs : (es fs : List Entry) {u w v : World} → GoesBy es u w → GoesBy fs w v → GoesBy (es ++ fs) u v

  reads_by : {more : List Entry} {b c : JournalState L} → ReadsOn contents more b c → GoesBy more b.world c.world
  reads_by {b = b} {c = c} (here counter entries more t u) = leg (goes_on counter entries more b c t u)
  reads_by {b = b} {c = c} (compacted counter begins entries snapshot more t stands u) =
      leg (amounts_go_on snapshot more (stands_amount stands (agrees_in_each counter entries b t)) (is_what_it_comes_to contents begins (snapshot ++ more) c u))
  reads_by (then first second x y) = legs first second (reads_by x) (reads_by y)

  legs_stand : (f : Registered) {es : List Entry} {w v : World} → GoesBy es w v → AllSpare f es → Stands w f → Stands v f
  legs_stand f (leg k) spared is = goes_on_stands f k spared is
  legs_stand f (legs es fs x y) spared is =
      legs_stand f y (each_back (λ e. e ≢ release_of f) es fs spared) (legs_stand f x (each_front (λ e. e ≢ release_of f) es fs spared) is)

  legs_later : {es : List Entry} {w v : World} → GoesBy es w v → LaterThan w v
  legs_later (leg k) = goes_later k
  legs_later {v = v} (legs es fs {w = u} x y) =
      let a = legs_later x in
      let b = legs_later y in
      record { from = a.from; same = a.same; agrees = a.agrees; later = later_trans a.from u v (a.agrees).everywhere a.later (later_same b.same b.later) }

  pub stands_across : StandsAcross contents
  stands_across more b c f r spared is = legs_stand f (reads_by r) spared is

  pub carries_across : CarriesOneAcross contents
  carries_across more b c f g r is also hash number =
      let l = legs_later (reads_by r) in
      later_description f g l.later (same_stands f l.same is) also hash number

  part_before : (c : JournalState L) (f : Registered) (i : ℕ) → HasPartBefore contents c f i → HasFactoryOf c.world f i
  part_before c f i x = (x.factory, x.node, x.hash, x.number, stands_across x.more x.process c x.factory x.reads_on x.unreleased x.stands)

  pub few_across : FewAcross contents
  few_across c f nodes agrees is apart all =
      stand_few f nodes agrees is apart (each_as (HasPartBefore contents c f) (HasFactoryOf c.world f) (part_before c f) nodes all)
