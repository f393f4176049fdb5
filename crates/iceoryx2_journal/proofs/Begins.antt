-- How an access of a journal begins, and what it comes to by that.
use Rattle.std.specs.Prelude.{◌&&◌, not}
use Rattle.std.proofs.Common.{◌≡◌, ℕ, Bool, true, false, List, Option, refl, sym, subst, ◌∙◌}
use Rattle.iceoryx2_access.specs.Letter.{Letter}
use Rattle.iceoryx2_access.specs.MayRefuse.{IsFault}
use Rattle.iceoryx2_world.specs.World.{World}
use Rattle.iceoryx2_log.specs.Log.{Contents, WhereKnown, Grows}
use Rattle.iceoryx2_journal.specs.declared.taking.Stop.{Stop}
use Rattle.iceoryx2_journal.specs.declared.taking.Stop.TheVariants as stop
use Rattle.iceoryx2_journal.specs.Taking.{ends, IsAllTaken, IsCompacted, Reaches, ReachesSome, Stops, seen, unread}
use Rattle.iceoryx2_journal.specs.Logged.{IsLoggedPart}
use Rattle.iceoryx2_journal.specs.Journal.{JournalState, is_mine, TakesAll, Fails, barred, stopped, Begins, IsJournalAccess, fails, acts}
use Rattle.iceoryx2_journal.proofs.Reaching.{reach_not, reach_grown, reach_both, reach_compacted, compacted_all}

pub held_not : {nodes : List ℕ} {p : Bool} {w : World} {c d : Option Contents} → d ≡ c → ReachesSome nodes p p stop.Later w w c d
held_not {nodes} {p} {w} {c} {d} same = record { between = w; reaches = reach_not nodes p w c d same; stops = unread refl refl }

pub fell_short : {nodes : List ℕ} {p q : Bool} {s : Stop} {u v : World} (b c d f : Option Contents) → WhereKnown Grows b c → ReachesSome nodes p q s u v c d → f ≡ d → ReachesSome nodes p q s u v b f
fell_short {nodes} {p} {q} {s} {u} {v} b c d f grow t same =
    subst (λ x. ReachesSome nodes p q s u v b x) (sym same)
    (record { between = t.between; reaches = reach_grown p q b c d grow t.reaches; stops = t.stops })

pub same_short : {nodes : List ℕ} {p q : Bool} {s : Stop} {u v : World} (c d f : Option Contents) → ReachesSome nodes p q s u v c d → f ≡ d → ReachesSome nodes p q s u v c f
same_short {nodes} {p} {q} {s} {u} {v} c d f t same = subst (λ x. ReachesSome nodes p q s u v c x) (sym same) t

-- the own nodes, as a slice and as a list
pub listed_some : {xs nodes : List ℕ} {p q : Bool} {s : Stop} {u v : World} {c d : Option Contents} → xs ≡ nodes → ReachesSome xs p q s u v c d → ReachesSome nodes p q s u v c d
listed_some {p} {q} {s} {u} {v} {c} {d} same t = subst (λ ns. ReachesSome ns p q s u v c d) same t

pub listed_over : {xs nodes : List ℕ} {p q : Bool} {u v : World} {c d : Option Contents} → xs ≡ nodes → Reaches xs p q u v c d → Reaches nodes p q u v c d
listed_over {p} {q} {u} {v} {c} {d} same t = subst (λ ns. Reaches ns p q u v c d) same t

pub not_mine : (m o : Bool) → m ≡ false → (m && not o) ≡ false
not_mine false o e = refl
not_mine true o e = absurd (cc)

pub over_then : (m o : Bool) → o ≡ true → (m && not o) ≡ false
over_then false o e = refl
over_then true true e = refl
over_then true false e = absurd (cc)

pub may_begin : (m o : Bool) → m ≡ true → o ≡ false → (m && not o) ≡ true
may_begin false o n e = absurd (cc)
may_begin true false n e = refl
may_begin true true n e = absurd (cc)

-- the state before is seen as j
module _ {L : Type 0} {contents : L → Option Contents} {mine : Bool} {j old new : JournalState L} (view : j ≡ old) where
  pub barred_from : (mine && not j.is_over) ≡ false → new ≡ j → Fails contents mine old new
  barred_from isnt same = subst (λ o. Fails contents mine o new) view (barred isnt same)

  pub stopped_from : {s : Stop} → (mine && not j.is_over) ≡ true → ReachesSome j.nodes j.is_lost new.is_lost s j.world new.world (contents j.log) (contents new.log) → new.nodes ≡ j.nodes → new.is_over ≡ ends s → Fails contents mine old new
  stopped_from {s} holds t kept over = subst (λ o. Fails contents mine o new) view (stopped t.between s holds t.reaches t.stops kept over)

  pub all_from : mine ≡ true → j.is_over ≡ false → Reaches j.nodes j.is_lost new.is_lost j.world new.world (contents j.log) (contents new.log) → IsAllTaken (contents new.log) → new.nodes ≡ j.nodes → new.is_over ≡ j.is_over → new.is_lost ≡ false → (mine ≡ true) × TakesAll contents old new
  all_from holds not_over t all kept over found = (holds, subst (λ o. TakesAll contents o new) view (record { takes = t; all = all; nodes = kept; was_not_over = not_over; is_not_over = over ∙ not_over; is_not_lost = found }))

module _ {L : Type 0} {contents : L → Option Contents} {old mid : JournalState L} {l : Letter} where
  -- it did not begin
  pub fell : (b : Bool) → b ≡ false → IsFault l → Begins contents (is_mine old.nodes l) b old mid → IsJournalAccess contents old l mid
  fell false isnt fault f = fails fault f
  fell true isnt fault f = absurd (cc)

  -- It began, and then there was an own part. The state after it began is seen as j.
  pub acted : {j new : JournalState L} → j ≡ mid → (b : Bool) → b ≡ true → Begins contents (is_mine old.nodes l) b old mid
      → IsLoggedPart contents j.world l new.world j.log new.log → new.nodes ≡ j.nodes → new.is_over ≡ j.is_over → new.is_lost ≡ j.is_lost → IsJournalAccess contents old l new
  acted {j} {new} view false is f part nodes over lost = absurd (cc)
  acted {j} {new} view true is f part nodes over lost =
      acts j f.0 (subst (λ m. TakesAll contents old m) (sym view) f.1) part nodes over lost

-- Entries of others came before all was taken over that can be read, or not all. The state before is seen as j.
grown_at : {L : Type 0} (contents : L → Option Contents) (j new : JournalState L) (m : L) (b : Bool) → j.is_over ≡ false
    → WhereKnown Grows (contents j.log) (contents m) → Begins contents true b (record j { log = m }) new → Begins contents true b j new
grown_at contents j new m true over grow f = (
  refl,
  record {
    takes = reach_grown j.is_lost new.is_lost (contents j.log) (contents m) (contents new.log) grow f.1.takes;
    all = f.1.all;
    nodes = f.1.nodes;
    was_not_over = f.1.was_not_over;
    is_not_over = f.1.is_not_over;
    is_not_lost = f.1.is_not_lost;
  },
)
grown_at contents j new m false over grow (barred isnt same) = let may = may_begin true j.is_over refl over in absurd (cc)
grown_at contents j new m false over grow (stopped w s holds t stops kept ended) =
    stopped w s holds (reach_grown j.is_lost new.is_lost (contents j.log) (contents m) (contents new.log) grow t) stops kept ended

pub grown_begins : {L : Type 0} (contents : L → Option Contents) {j old : JournalState L} (new : JournalState L) → j ≡ old → (m : L) (b : Bool) → j.is_over ≡ false
    → WhereKnown Grows (contents j.log) (contents m) → Begins contents true b (record j { log = m }) new → Begins contents true b old new
grown_begins contents {j} new view m b over grow f = subst (λ o. Begins contents true b o new) view (grown_at contents j new m b over grow f)

-- The log is let go of, or goes on in a new place. The state before is seen as j.
module _ {L : Type 0} {contents : L → Option Contents} {old mid : JournalState L} where
  pub freed_still : {j : JournalState L} (n : L) → j ≡ mid → contents n ≡ contents j.log → TakesAll contents old mid → TakesAll contents old (record j { log = n })
  freed_still {j} n view kept f =
      let t : TakesAll contents old j = subst (λ k. TakesAll contents old k) (sym view) f in record {
        takes = subst (λ c. Reaches old.nodes old.is_lost j.is_lost old.world j.world (contents old.log) c) (sym kept) t.takes;
        all = subst IsAllTaken (sym kept) t.all;
        nodes = t.nodes;
        was_not_over = t.was_not_over;
        is_not_over = t.is_not_over;
        is_not_lost = t.is_not_lost;
      }

  pub compacted_still : {j : JournalState L} (n : L) → j ≡ mid → WhereKnown (IsCompacted j.world) (contents j.log) (contents n)
      → TakesAll contents old mid → TakesAll contents old (record j { log = n })
  compacted_still {j} n view compacts f =
      let t : TakesAll contents old j = subst (λ k. TakesAll contents old k) (sym view) f in record {
        takes = reach_compacted old.is_lost j.is_lost (contents old.log) (contents j.log) (contents n) t.is_not_lost t.takes compacts;
        all = compacted_all j.world (contents j.log) (contents n) t.all compacts;
        nodes = t.nodes;
        was_not_over = t.was_not_over;
        is_not_over = t.is_not_over;
        is_not_lost = t.is_not_lost;
      }

-- All was taken over, and then more may be.
module _ {L : Type 0} {contents : L → Option Contents} {old mid new : JournalState L} where
  -- the log has what it had
  pub still_all : new ≡ record mid { log = new.log } → contents new.log ≡ contents mid.log → TakesAll contents old mid → TakesAll contents old new
  still_all same kept t = subst (λ j. TakesAll contents old j) (sym same) (record {
    takes = subst (λ c. Reaches old.nodes old.is_lost mid.is_lost old.world mid.world (contents old.log) c) (sym kept) t.takes;
    all = subst IsAllTaken (sym kept) t.all;
    nodes = t.nodes;
    was_not_over = t.was_not_over;
    is_not_over = t.is_not_over;
    is_not_lost = t.is_not_lost;
  })

  pub all_both : TakesAll contents old mid → TakesAll contents mid new → TakesAll contents old new
  all_both s t = record {
    takes = reach_both old.is_lost mid.is_lost new.is_lost (contents old.log) (contents mid.log) (contents new.log) s.takes (listed_over s.nodes t.takes);
    all = t.all;
    nodes = t.nodes ∙ s.nodes;
    was_not_over = s.was_not_over;
    is_not_over = t.is_not_over;
    is_not_lost = t.is_not_lost;
  }

  pub fails_later : {mine : Bool} → (mine ≡ true) × TakesAll contents old mid → Fails contents mine mid new → Fails contents mine old new
  fails_later {mine} s (barred isnt same) = let may = may_begin mine mid.is_over s.0 s.1.is_not_over in absurd (cc)
  fails_later {mine} s (stopped w stop holds t stops kept over) =
      stopped w stop (may_begin mine old.is_over s.0 s.1.was_not_over)
      (reach_both old.is_lost mid.is_lost new.is_lost (contents old.log) (contents mid.log) (contents new.log) s.1.takes (listed_over s.1.nodes t))
      (subst (λ ns. Stops ns (seen new.is_lost (contents new.log)) w stop new.world) s.1.nodes stops)
      (kept ∙ s.1.nodes) over
