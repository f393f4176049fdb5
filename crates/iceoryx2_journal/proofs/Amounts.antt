-- Worlds to which entries amount, in whichever place they were read.
use Rattle.std.proofs.Common.{◌≡◌, inl, inr, ℕ, List, [], ◌++◌, Option, refl, sym, ◌∙◌}
use Rattle.std.proofs.lemmas.List.{append-nil}
use Rattle.iceoryx2_world.specs.World.{World, empty_world}
use Rattle.iceoryx2_world.specs.Agreement.{Agrees}
use Rattle.iceoryx2_world.proofs.agreement.Empty.{empty_agrees}
use Rattle.iceoryx2_table.specs.Same.{IsSameButRead}
use Rattle.iceoryx2_log.specs.declared.entry.Entry.{Entry}
use Rattle.iceoryx2_log.specs.Log.{Contents}
use Rattle.iceoryx2_journal.specs.Laws.{ShowsOneWorld}
use Rattle.iceoryx2_journal.specs.Snapshot.{StandsFor}
use Rattle.iceoryx2_journal.specs.Replay.{ComesTo, AmountsTo}
use Rattle.iceoryx2_journal.specs.Replay as replay
use Rattle.iceoryx2_journal.specs.Processes.{GoesOnBy, GoesOn, at_once, across}
use Rattle.iceoryx2_journal.proofs.Replaying.{entries_come, is_what_it_comes_to}
use Rattle.iceoryx2_journal.proofs.ComingTo.{parted, comes_run, comes_keep, IsFrontOf, fronts}
use Rattle.iceoryx2_journal.proofs.SameWorlds.{same_itself, same_back, same_then, one_world}

pub amounts_agree : {n : ℕ} {es : List Entry} {w : World} → AmountsTo n es w → Agrees w
amounts_agree x = (comes_keep x.goes_on x.agrees).0

-- What stands for a world that agrees amounts to it.
pub stands_amount : {n : ℕ} {snapshot : List Entry} {w : World} → StandsFor n snapshot w → Agrees w → AmountsTo n snapshot w
stands_amount {snapshot = snapshot} {w = w} s agrees = record {
  front = snapshot;
  rest = [];
  parts = sym (append-nil snapshot);
  exact = s.exact;
  comes = entries_come s.is_snapshot;
  at = w;
  same = s.same;
  agrees = agrees;
  goes_on = replay.nothing;
}

-- ---- the same entries

-- The front of one is a front of the other's.
ahead : {n : ℕ} {es fs : List Entry} {w v : World} (x : AmountsTo n es w) (y : AmountsTo n fs v) → IsFrontOf x.front x.rest y.front y.rest → IsSameButRead w v
ahead {n} {w = w} {v = v} x y k =
    let empty = empty_world n in
    let s = parted x.front k.more y.comes (sym k.front) in
    let t = parted k.more y.rest x.goes_on k.rest in
    let exact = one_world empty empty x.exact s.mid x.front (same_itself empty) x.comes s.first in
    let there = one_world x.at s.mid t.mid y.exact k.more (same_then (same_back x.same) exact) t.first s.second in
    one_world t.mid y.at w v y.rest (same_then there y.same) t.second y.goes_on

pub one_amount : {n : ℕ} {es fs : List Entry} {w v : World} → es ≡ fs → AmountsTo n es w → AmountsTo n fs v → IsSameButRead w v
one_amount {n} e x y = elim (fronts x.front x.rest y.front y.rest (sym x.parts ∙ e ∙ y.parts)) [
  | inl k ↦ ahead x y k
  | inr k ↦ same_back (ahead y x k)
]

-- ---- more entries

-- by entries from a world that agrees
goes_by : {es : List Entry} {w u v : World} → IsSameButRead w u → Agrees u → ComesTo u es v → GoesOnBy es w v
goes_by {u} same agrees comes = let r = comes_run comes in record { from = u; same = same; agrees = agrees; comes = comes; word = r.0; run = r.1 }

-- The other has read the snapshot in place of some of the entries that it has more.
past_it : {n : ℕ} (es more : List Entry) {w v : World} → AmountsTo n es w → (y : AmountsTo n (es ++ more) v) → IsFrontOf es more y.front y.rest → GoesOn more w v
past_it {n} es more x y k =
    let s = parted es k.more y.comes (sym k.front) in
    let agrees = (comes_keep s.first (empty_agrees n)).0 in
    let there : AmountsTo n es s.mid = record {
      front = es;
      rest = [];
      parts = sym (append-nil es);
      exact = s.mid;
      comes = s.first;
      at = s.mid;
      same = same_itself s.mid;
      agrees = agrees;
      goes_on = replay.nothing;
    } in
    across k.more y.rest y.exact k.rest (goes_by (one_amount refl x there) agrees s.second) (goes_by y.same y.agrees y.goes_on)

-- What stands for the other's front is read by both.
before_it : {n : ℕ} (es more : List Entry) {w v : World} → AmountsTo n es w → (y : AmountsTo n (es ++ more) v) → IsFrontOf y.front y.rest es more → GoesOn more w v
before_it {n} es more x y k =
    let s = parted k.more more y.goes_on k.rest in
    let there : AmountsTo n es s.mid = record {
      front = y.front;
      rest = k.more;
      parts = sym k.front;
      exact = y.exact;
      comes = y.comes;
      at = y.at;
      same = y.same;
      agrees = y.agrees;
      goes_on = s.first;
    } in
    at_once (goes_by (one_amount refl x there) (comes_keep s.first y.agrees).0 s.second)

pub amounts_go_on : {n : ℕ} (es more : List Entry) {w v : World} → AmountsTo n es w → AmountsTo n (es ++ more) v → GoesOn more w v
amounts_go_on es more x y = elim (fronts es more y.front y.rest y.parts) [
  | inl k ↦ past_it es more x y k
  | inr k ↦ before_it es more x y k
]

module _ {L : Type 0} (contents : L → Option Contents) where
  pub shows_one_world : ShowsOneWorld contents
  shows_one_world counter es b c p q = one_amount refl (is_what_it_comes_to contents counter es b p) (is_what_it_comes_to contents counter es c q)
