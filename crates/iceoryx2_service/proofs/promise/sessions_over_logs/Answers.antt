use Rattle.std.proofs.Common.{◌≡◌, ℕ, true, List, [], ◌∷◌, Option, ap}
use Rattle.iceoryx2_access.specs.Registered.{Registered}
use Rattle.iceoryx2_access.specs.Run.{Each}
use Rattle.iceoryx2_log.specs.declared.entry.Entry.{Entry}
use Rattle.iceoryx2_log.specs.Log.{Contents}
use Rattle.iceoryx2_journal.specs.Journal.{JournalState}
use Rattle.iceoryx2_session.specs.Sessions.{SessionOver}
use Rattle.iceoryx2_journal.specs.Taking.{is_own}
use Rattle.iceoryx2_journal.specs.Processes.{StandsAtTheEnd, HasPart, HasPartBefore, AllSpare, AreOfOthers}
use Rattle.iceoryx2_journal.proofs.Processes.{carries_one, own_stands_at_the_end, few_have_a_part, agrees_in_each, carries_across, few_across}
use Rattle.iceoryx2_service.specs.SharedSlots.{IsHeldAtTheEnd, HoldsOne, HoldsOneDescription, FewHold, HoldsOneBefore, HoldsOneAcross, FewHoldAcross}
use Rattle.iceoryx2_service.proofs.promise.sessions_over_logs.Goals as goal

module _ {L : Type 0} (contents : L → Option Contents) (counter : ℕ) (entries : List Entry) where
  one_in_slots : HoldsOneDescription contents counter entries
  one_in_slots f g x y hash number =
      let s = x.session in
      let t = y.session in
      carries_one contents counter entries s.table t.table f g x.read y.read ((x.stand).stand x.slot f x.holds) ((y.stand).stand y.slot g y.holds) hash number

  held_stands : (f : Registered) → IsHeldAtTheEnd contents counter entries f → StandsAtTheEnd contents counter entries f
  held_stands f x =
      let h = x.held in
      let s = h.session in
      own_stands_at_the_end contents counter entries s.table f h.read x.others ((h.stand).of_own h.slot f h.holds) ((h.stand).stand h.slot f h.holds)

  each_part : (f : Registered) (nodes : List ℕ) → Each (HoldsOne contents counter entries f) nodes → Each (HasPart contents counter entries f) nodes
  each_part f [] all = tt
  each_part f (i ∷ nodes) all =
      let x = all.0 in
      (record { factory = x.factory; node = x.node; hash = x.hash; number = x.number; stands = held_stands x.factory x.held }, each_part f nodes all.1)

  few_hold : FewHold contents counter entries
  few_hold f nodes x apart all = few_have_a_part contents counter entries f nodes (held_stands f x) apart (each_part f nodes all)

-- entries of other nodes don't release an own node's ticket
others_spare : (nodes : List ℕ) (f : Registered) → is_own nodes f.node ≡ true → (es : List Entry) → AreOfOthers nodes es → AllSpare f es
others_spare nodes f own [] others = tt
others_spare nodes f own (e ∷ es) others =
    (λ same. let mine = ap (λ (x : Entry). is_own nodes x.node) same in absurd (cc), others_spare nodes f own es others.1)

module _ {L : Type 0} (contents : L → Option Contents) where
  one_across : HoldsOneAcross contents
  one_across more s t f g reads x y hash number =
      carries_across contents more s.table t.table f g reads ((x.stand).stand x.slot f x.holds) ((y.stand).stand y.slot g y.holds) hash number

  part_before : (t : SessionOver (JournalState L)) (f : Registered) (i : ℕ) → HoldsOneBefore contents t f i → HasPartBefore contents t.table f i
  part_before t f i x =
      let s = x.session in
      let k = x.in_slot in
      record {
        factory = x.factory;
        node = x.node;
        hash = x.hash;
        number = x.number;
        process = s.table;
        more = x.more;
        reads_on = x.reads_on;
        unreleased = others_spare (s.table).nodes x.factory ((k.stand).of_own k.slot x.factory k.holds) x.more x.others;
        stands = (k.stand).stand k.slot x.factory k.holds;
      }

  each_before : (t : SessionOver (JournalState L)) (f : Registered) (nodes : List ℕ) → Each (HoldsOneBefore contents t f) nodes → Each (HasPartBefore contents t.table f) nodes
  each_before t f [] all = tt
  each_before t f (i ∷ nodes) all = (part_before t f i all.0, each_before t f nodes all.1)

  few_across_slots : FewHoldAcross contents
  few_across_slots counter entries t f nodes taken x apart all =
      few_across contents t.table f nodes (agrees_in_each contents counter entries t.table taken) ((x.stand).stand x.slot f x.holds) apart (each_before t f nodes all)

pub returns-clause-one : goal.returns-clause-one
returns-clause-one g c = one_in_slots g.L.Log.contents

pub returns-clause-few : goal.returns-clause-few
returns-clause-few g c = few_hold g.L.Log.contents

pub returns-clause-one_across : goal.returns-clause-one_across
returns-clause-one_across g c = one_across g.L.Log.contents

pub returns-clause-few_across : goal.returns-clause-few_across
returns-clause-few_across g c = few_across_slots g.L.Log.contents
