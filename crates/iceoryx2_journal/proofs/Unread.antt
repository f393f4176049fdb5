-- What an access of a journal leaves unread, and what stands on in its log.
use Rattle.std.proofs.Common.{◌≡◌, inl, inr, ℕ, Bool, true, false, List, [], ◌∷◌, ◌++◌, Option, Some, None, append_assoc, refl, sym, ap, subst, ◌∙◌}
use Rattle.std.proofs.lemmas.List.{append-nil}
use Rattle.iceoryx2_access.specs.Letter.{Letter}
use Rattle.iceoryx2_access.specs.Run.{done, next}
use Rattle.iceoryx2_world.specs.World.{World}
use Rattle.iceoryx2_log.specs.declared.entry.Entry.{Entry}
use Rattle.iceoryx2_log.specs.Log.{Contents, WhereKnown, Appends}
use Rattle.iceoryx2_journal.specs.Snapshot.{StandsFor}
use Rattle.iceoryx2_journal.specs.Taking.{Takes, IsAllTaken, Comes, Reaches}
use Rattle.iceoryx2_journal.specs.Taking as taking
use Rattle.iceoryx2_journal.specs.Logged.{IsLoggedPart, unwritten, written, declined}
use Rattle.iceoryx2_journal.specs.Journal.{JournalState, barred, stopped, IsJournalAccess, fails, acts}
use Rattle.iceoryx2_journal.specs.Replay.{StandsOn, BeginsAnew, Keeps, stands, anew, strays}
use Rattle.iceoryx2_journal.specs.Laws.{LeavesNothingUnread, KeepsTheLog}
use Rattle.iceoryx2_journal.proofs.Logs.{known_map, known_both, known_same}

appended_all : (e : Entry) (c d : Option Contents) → WhereKnown (Appends e) c d → IsAllTaken d
appended_all e (Some c) (Some d) a = a.unread
appended_all e c None a = tt
appended_all e None (Some d) a = absurd a

-- ---- what stands on

same_stands : (c d : Contents) → d ≡ c → StandsOn c d
same_stands c d same = record {
  come = [];
  begins = ap (λ (x : Contents). x.begins) same;
  all = ap (λ (x : Contents). x.taken ++ x.unread) same ∙ sym (append-nil (c.taken ++ c.unread));
}

taken_stands : (es : List Entry) (c d : Contents) → Takes es c d → StandsOn c d
taken_stands es c d t = record {
  come = t.come;
  begins = t.begins;
  all = ap (λ x. x ++ d.unread) t.taken ∙ append_assoc c.taken es d.unread ∙ ap (λ u. c.taken ++ u) (sym t.unread) ∙ sym (append_assoc c.taken c.unread t.come);
}

appended_stands : (e : Entry) (c d : Contents) → Appends e c d → StandsOn c d
appended_stands e c d a = record {
  come = e ∷ [];
  begins = a.begins;
  all = ap (λ u. d.taken ++ u) a.unread ∙ append-nil d.taken ∙ a.taken ∙ ap (λ u. u ++ e ∷ []) (sym (append-nil c.taken) ∙ ap (λ u. c.taken ++ u) (sym a.none_unread));
}

stands_both : (b c d : Contents) → StandsOn b c → StandsOn c d → StandsOn b d
stands_both b c d x y = record {
  come = x.come ++ y.come;
  begins = y.begins ∙ x.begins;
  all = y.all ∙ ap (λ t. t ++ y.come) x.all ∙ append_assoc (b.taken ++ b.unread) x.come y.come;
}

anew_on : (c d : Contents) → BeginsAnew c → StandsOn c d → BeginsAnew d
anew_on c d x y = record {
  snapshot = x.snapshot;
  more = x.more ++ y.come;
  all = y.all ∙ ap (λ t. t ++ y.come) x.all ∙ append_assoc x.snapshot x.more y.come;
  world = x.world;
  stands_for = subst (λ (n : ℕ). StandsFor n x.snapshot x.world) (sym y.begins) x.stands_for;
}

anew_or_lost : {p : Bool} (q : Bool) {b d : Contents} → BeginsAnew d → Keeps p q b d
anew_or_lost false x = anew refl x
anew_or_lost true x = strays refl

keeps_both : (p q r : Bool) (b c d : Contents) → Keeps p q b c → Keeps q r c d → Keeps p r b d
keeps_both p q r b c d x (strays lost) = strays lost
keeps_both p q r b c d x (anew here y) = anew here y
keeps_both p q r b c d (stands was x) (stands is y) = stands was (stands_both b c d x y)
keeps_both p q r b c d (anew here x) (stands is y) = anew_or_lost r (anew_on c d x y)
keeps_both p q r b c d (strays lost) (stands is y) = absurd (cc)

keeps_same : (p : Bool) (c d : Contents) → d ≡ c → Keeps p p c d
keeps_same false c d same = stands refl (same_stands c d same)
keeps_same true c d same = strays refl

reached_keeps : (p q : Bool) (w v : World) (es : List Entry) (c d : Contents) → Comes p q w es v c d → Keeps p q c d
reached_keeps p q w v es c d (taking.stays was t) = stands was (taken_stands es c d t)
reached_keeps p q w v es c d (taking.arrives here x) = anew here (record {
  snapshot = x.snapshot;
  more = x.since ++ d.unread;
  all = ap (λ t. t ++ d.unread) x.taken ∙ append_assoc x.snapshot x.since d.unread;
  world = x.at;
  stands_for = x.stands_for;
})
reached_keeps p q w v es c d (taking.strays lost) = strays lost

-- ---- the laws

module _ {L : Type 0} (contents : L → Option Contents) where
  -- what becomes of all that stands, from one state of a journal to the next
  abbrev KeepsAll : JournalState L → JournalState L → Type 0
  KeepsAll a b = WhereKnown (Keeps a.is_lost b.is_lost) (contents a.log) (contents b.log)

  all_both : (a b c : JournalState L) → KeepsAll a b → KeepsAll b c → KeepsAll a c
  all_both a b c = known_both (Keeps a.is_lost b.is_lost) (Keeps b.is_lost c.is_lost) (Keeps a.is_lost c.is_lost) (keeps_both a.is_lost b.is_lost c.is_lost) (contents a.log) (contents b.log) (contents c.log)

  all_same : (a b : JournalState L) → b.is_lost ≡ a.is_lost → contents b.log ≡ contents a.log → KeepsAll a b
  all_same a b lost same =
      subst (λ k. WhereKnown (Keeps a.is_lost k) (contents a.log) (contents b.log)) (sym lost)
      (known_same (Keeps a.is_lost a.is_lost) (λ c. keeps_same a.is_lost c c refl) (contents a.log) (contents b.log) same)

  reached_all : (a b : JournalState L) {nodes : List ℕ} {v : World} → Reaches nodes a.is_lost b.is_lost a.world v (contents a.log) (contents b.log) → KeepsAll a b
  reached_all a b {v = v} t =
      known_map (Comes a.is_lost b.is_lost a.world t.entries v) (Keeps a.is_lost b.is_lost) (reached_keeps a.is_lost b.is_lost a.world v t.entries) (contents a.log) (contents b.log) t.taken

  part_keeps : (a b : JournalState L) {l : Letter} → a.is_lost ≡ false → b.is_lost ≡ a.is_lost → IsLoggedPart contents a.world l b.world a.log b.log → KeepsAll a b
  part_keeps a b here lost (unwritten isnt part reads kept) = all_same a b lost kept
  part_keeps a b here lost (written e holds part is_entry appends) = known_map (Appends e) (Keeps a.is_lost b.is_lost) (λ c d x. stands here (appended_stands e c d x)) (contents a.log) (contents b.log) appends
  part_keeps a b here lost (declined fault same kept) = all_same a b lost kept

  access_keeps : {a b : JournalState L} {l : Letter} → IsJournalAccess contents a l b → KeepsAll a b
  access_keeps {a} {b} (fails fault (barred isnt same)) = all_same a b (ap (λ (s : JournalState L). s.is_lost) same) (ap (λ (s : JournalState L). contents s.log) same)
  access_keeps {a} {b} (fails fault (stopped w s holds t stops kept over)) = reached_all a b t
  access_keeps {a} {b} (acts mid mine all part nodes over lost) = all_both a mid b (reached_all a mid all.takes) (part_keeps mid b all.is_not_lost lost part)

  pub leaves_none_unread : LeavesNothingUnread contents
  leaves_none_unread a b l (fails fault f) = inl fault
  leaves_none_unread a b l (acts mid mine all (unwritten isnt part reads kept) nodes over lost) = inr (subst IsAllTaken (sym kept) all.all)
  leaves_none_unread a b l (acts mid mine all (written e holds part is_entry appends) nodes over lost) = inr (appended_all e (contents mid.log) (contents b.log) appends)
  leaves_none_unread a b l (acts mid mine all (declined fault same kept) nodes over lost) = inl fault

  pub keeps_the_log : KeepsTheLog contents
  keeps_the_log a b [] done = all_same a a refl refl
  keeps_the_log a b (l ∷ word) (next {mid} h r) = all_both a mid b (access_keeps h) (keeps_the_log mid b word r)
