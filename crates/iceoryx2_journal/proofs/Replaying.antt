-- The world of a journal is what the entries come to that it has taken over or appended.
use Rattle.std.proofs.Common.{◌≡◌, ℕ, inl, inr, Bool, true, false, Result, Ok, Err, List, [], ◌∷◌, ◌++◌, Option, Some, append_assoc, refl, sym, ap, subst, ◌∙◌}
use Rattle.std.proofs.lemmas.List.{append-nil}
use Rattle.iceoryx2_description.specs.declared.description.ServiceHash.{ServiceHash}
use Rattle.iceoryx2_access.specs.Letter.{Letter}
use Rattle.iceoryx2_access.specs.Letter as letter
use Rattle.iceoryx2_access.specs.Run.{Run, done, next}
use Rattle.iceoryx2_world.specs.World.{World, empty_world}
use Rattle.iceoryx2_world.specs.Agreement.{Agrees}
use Rattle.iceoryx2_world.specs.Access.{IsOwnPart}
use Rattle.iceoryx2_world.proofs.agreement.Empty.{empty_agrees}
use Rattle.iceoryx2_log.specs.declared.entry.Operation.{Operation}
use Rattle.iceoryx2_log.specs.declared.entry.Operation.TheVariants as operation
use Rattle.iceoryx2_log.specs.declared.entry.Entry.{Entry}
use Rattle.iceoryx2_log.specs.Log.{Contents, WhereKnown, Appends}
use Rattle.iceoryx2_journal.specs.declared.taking.Stop.{Stop}
use Rattle.iceoryx2_journal.specs.Follow.{IsFollowed, granted, spent, Prepares}
use Rattle.iceoryx2_journal.specs.Snapshot.{IsSnapshot, StandsFor}
use Rattle.iceoryx2_journal.specs.Taking.{Arrives, Comes, Reaches, Stops, unread, starved, own, disagrees, astray, ends}
use Rattle.iceoryx2_journal.specs.Taking as taking
use Rattle.iceoryx2_journal.specs.Logged.{ReadsAtMost, IsLoggedPart, unwritten, written, declined}
use Rattle.iceoryx2_journal.specs.Journal.{JournalState, TakesAll, Fails, Begins, Resumes, barred, stopped, IsJournalAccess, fails, acts}
use Rattle.iceoryx2_journal.specs.Laws.{ReplaysTheLog, IsWhatTheLogComesTo}
use Rattle.iceoryx2_journal.specs.Replay.{ComesTo, nothing, fetches, happens, spends, Moves, Settles, Goes, stays, settles, strays, AmountsTo, Replays, Lives, begun, accesses, refreshes, cleans, adopts, spans, resumes}
use Rattle.iceoryx2_journal.specs.Cleaning.{Adopts, CleansBy}
use Rattle.iceoryx2_journal.specs.declared.cleaning.AdoptError.{AdoptError}
use Rattle.iceoryx2_journal.specs.declared.cleaning.AdoptError.TheVariants as adopting
use Rattle.iceoryx2_journal.proofs.Logs.{known_map, known_both, known_same}
use Rattle.iceoryx2_journal.proofs.Runs.{was_going}
use Rattle.iceoryx2_journal.proofs.ComingTo.{comes_keep}
use Rattle.iceoryx2_journal.proofs.SameWorlds.{same_itself}

-- ---- what entries make of a world

comes_both : {w u v : World} {es fs : List Entry} → ComesTo w es u → ComesTo u fs v → ComesTo w (es ++ fs) v
comes_both nothing d = d
comes_both (fetches i h a p c) d = fetches i h a p (comes_both c d)
comes_both (happens e l is p c) d = happens e l is p (comes_both c d)
comes_both (spends e n is s c) d = spends e n is s (comes_both c d)

comes_same : {w v : World} → v ≡ w → ComesTo w [] v
comes_same {w} same = subst (λ x. ComesTo w [] x) (sym same) nothing

prepared : (i : ℕ) (h : ServiceHash) (d : Operation) {w v : World} → Prepares i h d w v → ComesTo w [] v
prepared i h (operation.OpenSegment n t) (inl same) = comes_same same
prepared i h (operation.OpenSegment n t) (inr x) = fetches i h x.0 x.1 nothing
prepared i h operation.MakeTag p = comes_same p
prepared i h operation.RemoveTag p = comes_same p
prepared i h (operation.Lock n) p = comes_same p
prepared i h (operation.MakeSegment n m) p = comes_same p
prepared i h operation.RemoveSegment p = comes_same p
prepared i h operation.RemoveDescription p = comes_same p
prepared i h (operation.Publish n b) p = comes_same p
prepared i h (operation.Release t n) p = comes_same p
prepared i h (operation.Spend n) p = comes_same p
prepared i h operation.Moved p = comes_same p

followed_comes : {w v : World} (e : Entry) → IsFollowed w e v → ComesTo w (e ∷ []) v
followed_comes e (granted u l p is part) = comes_both (prepared e.node e.hash e.operation p) (happens e l is part nothing)
followed_comes e (spent n is s) = spends e n is s nothing

pub entries_come : {w v : World} {es : List Entry} → Run IsFollowed w es v → ComesTo w es v
entries_come done = nothing
entries_come (next {letter} h r) = comes_both (followed_comes letter h) (entries_come r)

read_comes : (l : Letter) {w v : World} → IsOwnPart w l v → ReadsAtMost l w v → ComesTo w [] v
read_comes (letter.Fetch i h a) p reads = fetches i h a p nothing
read_comes l p reads = comes_same reads

-- ---- what was taken over or appended

moved_not : (c d : Contents) → d ≡ c → Moves [] c d
moved_not c d same = record { begins = ap (λ (x : Contents). x.begins) same; taken = ap (λ (x : Contents). x.taken) same ∙ sym (append-nil c.taken) }

moved_both : (es fs : List Entry) (b c d : Contents) → Moves es b c → Moves fs c d → Moves (es ++ fs) b d
moved_both es fs b c d x y = record {
  begins = y.begins ∙ x.begins;
  taken = y.taken ∙ ap (λ t. t ++ fs) x.taken ∙ append_assoc b.taken es fs;
}

-- it settles, and others came before
settles_later : {u w v : World} {es fs : List Entry} {d : Contents} → ComesTo u es w → Settles w fs v d → Settles u (es ++ fs) v d
settles_later {es} c x = record {
  snapshot = x.snapshot;
  before = es ++ x.before;
  since = x.since;
  parts = ap (λ (fs : List Entry). es ++ fs) x.parts ∙ sym (append_assoc es x.before x.since);
  taken = x.taken;
  at = x.at;
  leads = comes_both c x.leads;
  goes_on = x.goes_on;
  stands_for = x.stands_for;
}

-- it settled, and more moved there
settled_more : {u w v : World} {es fs : List Entry} {c d : Contents} → Settles u es w c → ComesTo w fs v → Moves fs c d → Settles u (es ++ fs) v d
settled_more {es} {fs} x r y = record {
  snapshot = x.snapshot;
  before = x.before;
  since = x.since ++ fs;
  parts = ap (λ (t : List Entry). t ++ fs) x.parts ∙ append_assoc x.before x.since fs;
  taken = y.taken ∙ ap (λ (t : List Entry). t ++ fs) x.taken ∙ append_assoc x.snapshot x.since fs;
  at = x.at;
  leads = x.leads;
  goes_on = comes_both x.goes_on r;
  stands_for = subst (λ (n : ℕ). StandsFor n x.snapshot x.at) (sym y.begins) x.stands_for;
}

settled_or_lost : {p : Bool} (q : Bool) {u v : World} {es : List Entry} {b d : Contents} → Settles u es v d → Goes p q u es v b d
settled_or_lost false x = settles refl x
settled_or_lost true x = strays refl

goes_both : (p q r : Bool) (u w v : World) (es fs : List Entry) → ComesTo u es w → ComesTo w fs v → (b c d : Contents) → Goes p q u es w b c → Goes q r w fs v c d → Goes p r u (es ++ fs) v b d
goes_both p q r u w v es fs f g b c d x (strays lost) = strays lost
goes_both p q r u w v es fs f g b c d x (settles here y) = settles here (settles_later f y)
goes_both p q r u w v es fs f g b c d (stays was x) (stays is y) = stays was (moved_both es fs b c d x y)
goes_both p q r u w v es fs f g b c d (settles here x) (stays is y) = settled_or_lost r (settled_more x g y)
goes_both p q r u w v es fs f g b c d (strays lost) (stays is y) = absurd (cc)

-- what doesn't move anything, whether it is lost or not
goes_not : (p : Bool) (w v : World) (c d : Contents) → d ≡ c → Goes p p w [] v c d
goes_not false w v c d same = stays refl (moved_not c d same)
goes_not true w v c d same = strays refl

known_not : (p q : Bool) → q ≡ p → (w v : World) (c d : Option Contents) → d ≡ c → WhereKnown (Goes p q w [] v) c d
known_not p q kept w v c d same =
    subst (λ k. WhereKnown (Goes p k w [] v) c d) (sym kept)
    (known_same (Goes p p w [] v) (λ c. goes_not p w v c c refl) c d same)

-- What was taken over, and then a world to which no entry comes.
arrival_settles : {w u v : World} {es : List Entry} {c : Contents} → Arrives w es u c → ComesTo u [] v → Settles w es v c
arrival_settles {w} {v = v} x c = record {
  snapshot = x.snapshot;
  before = x.before;
  since = x.since;
  parts = x.parts;
  taken = x.taken;
  at = x.at;
  leads = entries_come x.leads;
  goes_on = subst (λ es. ComesTo x.at es v) (append-nil x.since) (comes_both (entries_come x.goes_on) c);
  stands_for = x.stands_for;
}

reached_goes : (p q : Bool) (w u v : World) (es : List Entry) → ComesTo u [] v → (c d : Contents) → Comes p q w es u c d → Goes p q w es v c d
reached_goes p q w u v es k c d (taking.stays was t) = stays was (record { begins = t.begins; taken = t.taken })
reached_goes p q w u v es k c d (taking.arrives here x) = settles here (arrival_settles x k)
reached_goes p q w u v es k c d (taking.strays lost) = strays lost

-- What isn't taken over leaves a world to which no entry comes, where the journal isn't over then.
stops_come : {nodes : List ℕ} {c : Option Contents} {s : Stop} {w v : World} (over : Bool) → over ≡ false → over ≡ ends s → Stops nodes c w s v → ComesTo w [] v
stops_come over going is_over (unread is same) = comes_same same
stops_come over going is_over (astray is unknown same) = comes_same same
stops_come over going is_over (starved e is front f p) = prepared e.node e.hash e.operation p
stops_come over going is_over (own e is front f same) = let x = ap ends is in absurd (cc)
stops_come over going is_over (disagrees e is front f a) = let x = ap ends is in absurd (cc)

module _ {L : Type 0} {contents : L → Option Contents} where
  replays_both : {a b c : JournalState L} → Replays contents a b → Replays contents b c → Replays contents a c
  replays_both {a} {b} {c} x y = record {
    entries = x.entries ++ y.entries;
    comes = comes_both x.comes y.comes;
    taken = known_both (Goes a.is_lost b.is_lost a.world x.entries b.world) (Goes b.is_lost c.is_lost b.world y.entries c.world)
        (Goes a.is_lost c.is_lost a.world (x.entries ++ y.entries) c.world)
        (goes_both a.is_lost b.is_lost c.is_lost a.world b.world c.world x.entries y.entries x.comes y.comes)
        (contents a.log) (contents b.log) (contents c.log) x.taken y.taken;
  }

  replays_none : {a b : JournalState L} → ComesTo a.world [] b.world → contents b.log ≡ contents a.log → b.is_lost ≡ a.is_lost → Replays contents a b
  replays_none {a} {b} comes same kept =
      record { entries = []; comes = comes; taken = known_not a.is_lost b.is_lost kept a.world b.world (contents a.log) (contents b.log) same }

  replays_taken : {a b : JournalState L} {v : World} → Reaches a.nodes a.is_lost b.is_lost a.world v (contents a.log) (contents b.log) → ComesTo v [] b.world → Replays contents a b
  replays_taken {a} {b} {v} t comes = record {
    entries = t.entries;
    comes = subst (λ es. ComesTo a.world es b.world) (append-nil t.entries) (comes_both (entries_come t.followed) comes);
    taken = known_map (Comes a.is_lost b.is_lost a.world t.entries v) (Goes a.is_lost b.is_lost a.world t.entries b.world)
        (reached_goes a.is_lost b.is_lost a.world v b.world t.entries comes) (contents a.log) (contents b.log) t.taken;
  }

  part_replays : {a b : JournalState L} {l : Letter} → a.is_lost ≡ false → b.is_lost ≡ a.is_lost → IsLoggedPart contents a.world l b.world a.log b.log → Replays contents a b
  part_replays {l} here lost (unwritten isnt part reads kept) = replays_none (read_comes l part reads) kept lost
  part_replays {a} {b} {l} here lost (written e holds part is_entry appends) = record {
    entries = e ∷ [];
    comes = happens e l is_entry part nothing;
    taken = known_map (Appends e) (Goes a.is_lost b.is_lost a.world (e ∷ []) b.world)
        (λ c d x. stays here (record { begins = x.begins; taken = x.taken })) (contents a.log) (contents b.log) appends;
  }
  part_replays here lost (declined fault same kept) = replays_none (comes_same same) kept lost

  taken_goes : {a b : JournalState L} → TakesAll contents a b → (a.is_over ≡ false) × Replays contents a b
  taken_goes t = (t.was_not_over, replays_taken t.takes nothing)

  fails_goes : {mine : Bool} {a b : JournalState L} → b.is_over ≡ false → Fails contents mine a b → (a.is_over ≡ false) × Replays contents a b
  fails_goes going (barred isnt same) =
      (ap (λ (s : JournalState L). s.is_over) (sym same) ∙ going, replays_none (comes_same (ap (λ (s : JournalState L). s.world) same)) (ap (λ (s : JournalState L). contents s.log) same) (ap (λ (s : JournalState L). s.is_lost) same))
  fails_goes {mine} {a} {b} going (stopped w s holds t stops kept over) =
      (was_going mine a.is_over holds, replays_taken t (stops_come b.is_over going over stops))

  -- An access that leaves it going found it so.
  access_goes : {a b : JournalState L} {l : Letter} → b.is_over ≡ false → IsJournalAccess contents a l b → (a.is_over ≡ false) × Replays contents a b
  access_goes going (fails fault f) = fails_goes going f
  access_goes going (acts mid mine all part nodes over lost) =
      (all.was_not_over, replays_both (replays_taken {b = mid} all.takes nothing) (part_replays all.is_not_lost lost part))

  begins_goes : {a b : JournalState L} (has_begun : Bool) → b.is_over ≡ false → Begins contents true has_begun a b → (a.is_over ≡ false) × Replays contents a b
  begins_goes true going t = taken_goes t.1
  begins_goes false going f = fails_goes going f

  clean_goes : {i : ℕ} {a b : JournalState L} {l : Letter} → CleansBy contents i a l b → (a.is_over ≡ false) × Replays contents a b
  clean_goes c = (c.all.was_not_over, replays_both (replays_taken {b = c.mid} c.all.takes nothing) (part_replays (c.all).is_not_lost c.lost c.part))

  adopt_goes : (i : ℕ) {a b : JournalState L} (r : Result (Unit {0}) AdoptError) → b.is_over ≡ false → Adopts contents i r a b → (a.is_over ≡ false) × Replays contents a b
  adopt_goes i (Ok x) going t =
      (t.1.was_not_over, replays_both (replays_taken {b = t.0} t.1.takes nothing) (replays_none (comes_same (ap (λ (s : JournalState L). s.world) t.2)) t.3 (ap (λ (s : JournalState L). s.is_lost) t.2)))
  adopt_goes i (Err adopting.OutOfMemory) going t = taken_goes t
  adopt_goes i (Err adopting.Refused) going f = fails_goes going f

  -- The new handle stands where the old one stood, and whose the entries are doesn't matter to what they come to.
  resume_goes : {a b : JournalState L} (log : L) (has_begun : Bool) → b.is_over ≡ false → contents log ≡ contents a.log → Resumes contents log has_begun a b → (a.is_over ≡ false) × Replays contents a b
  resume_goes {a} {b} log has_begun going same r =
      let x : (a.is_over ≡ false) × Replays contents (record a { log = log; nodes = [] }) (record b { nodes = [] }) = begins_goes has_begun going r.takes in (
        x.0,
        record {
          entries = (x.1).entries;
          comes = (x.1).comes;
          taken = subst (λ c. WhereKnown (Goes a.is_lost b.is_lost a.world (x.1).entries b.world) c (contents b.log)) same (x.1).taken;
        },
      )

  -- The world of a journal that is still going is what came of the entries since.
  lives_replays : {a b : JournalState L} → b.is_over ≡ false → Lives contents a b → (a.is_over ≡ false) × Replays contents a b
  lives_replays going begun = (going, replays_none nothing refl refl)
  lives_replays going (accesses l so_far h) = let y = access_goes going h in let x = lives_replays y.0 so_far in (x.0, replays_both x.1 y.1)
  lives_replays going (refreshes has_begun so_far h) = let y = begins_goes has_begun going h in let x = lives_replays y.0 so_far in (x.0, replays_both x.1 y.1)
  lives_replays going (cleans i l so_far h) = let y = clean_goes h in let x = lives_replays y.0 so_far in (x.0, replays_both x.1 y.1)
  lives_replays going (adopts i r so_far h) = let y = adopt_goes i r going h in let x = lives_replays y.0 so_far in (x.0, replays_both x.1 y.1)
  lives_replays going (spans so_far h) =
      let x = lives_replays (sym (ap (λ (s : JournalState L). s.is_over) h.same) ∙ going) so_far in
      (x.0, replays_both x.1 (replays_none (comes_same (ap (λ (s : JournalState L). s.world) h.same)) h.stays (ap (λ (s : JournalState L). s.is_lost) h.same)))
  lives_replays going (resumes log has_begun so_far same h) = let y = resume_goes log has_begun going same h in let x = lives_replays y.0 so_far in (x.0, replays_both x.1 y.1)

  run_replays : {a b : JournalState L} {word : List Letter} → b.is_over ≡ false → Run (IsJournalAccess contents) a word b → (a.is_over ≡ false) × Replays contents a b
  run_replays going done = (going, replays_none nothing refl refl)
  run_replays going (next h r) =
      let x = run_replays going r in
      let y = access_goes x.0 h in (y.0, replays_both y.1 x.1)

-- ---- what it amounts to

amounts_by : (n : ℕ) (w v : World) (es taken : List Entry) (p q : Bool) (before after : Contents) → w ≡ empty_world before.begins → before.taken ≡ [] → p ≡ false → q ≡ false → after.begins ≡ n → after.taken ≡ taken
    → ComesTo w es v → Goes p q w es v before after → AmountsTo n taken v
amounts_by n w v es taken p q before after empty none was is begins has comes (stays here m) =
    let same : es ≡ taken = sym (m.taken ∙ ap (λ t. t ++ es) none) ∙ has in
    let start : w ≡ empty_world n = empty ∙ ap (λ k. empty_world k) (sym m.begins ∙ begins) in
    record {
      front = [];
      rest = taken;
      parts = refl;
      exact = empty_world n;
      comes = nothing;
      at = empty_world n;
      same = same_itself (empty_world n);
      agrees = empty_agrees n;
      goes_on = subst (λ u. ComesTo u taken v) start (subst (λ xs. ComesTo w xs v) same comes);
    }
amounts_by n w v es taken p q before after empty none was is begins has comes (settles here x) = record {
  front = x.snapshot;
  rest = x.since;
  parts = sym has ∙ x.taken;
  exact = (x.stands_for).exact;
  comes = entries_come (subst (λ k. IsSnapshot k x.snapshot (x.stands_for).exact) begins (x.stands_for).is_snapshot);
  at = x.at;
  same = (x.stands_for).same;
  agrees = (comes_keep x.leads (subst (λ u. Agrees u) (sym empty) (empty_agrees before.begins))).0;
  goes_on = x.goes_on;
}
amounts_by n w v es taken p q before after empty none was is begins has comes (strays lost) = absurd (cc)

from_known : (R : Contents → Contents → Type 0) (x y : Option Contents) (c d : Contents) → x ≡ Some c → y ≡ Some d → WhereKnown R x y → R c d
from_known R x y c d old new r = subst (λ z. WhereKnown R (Some c) z) new (subst (λ z. WhereKnown R z y) old r)

-- ---- the laws of runs

module _ {L : Type 0} (contents : L → Option Contents) where
  pub replays_the_log : ReplaysTheLog contents
  replays_the_log a b word going run = let x = run_replays going run in x.1

  pub is_what_it_comes_to : IsWhatTheLogComesTo contents
  is_what_it_comes_to counter es b t =
      let a = t.start in
      let x = lives_replays t.is_not_over t.lives in
      let r = x.1 in
      amounts_by counter a.world b.world r.entries es a.is_lost b.is_lost t.before t.after t.empty t.had_none t.was_not_lost t.is_not_lost t.begins t.has r.comes
      (from_known (Goes a.is_lost b.is_lost a.world r.entries b.world) (contents a.log) (contents b.log) t.before t.after t.knew t.knows r.taken)
