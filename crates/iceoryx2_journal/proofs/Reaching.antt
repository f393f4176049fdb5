-- Entries that are taken over, wherever the log goes on.
use Rattle.std.proofs.Common.{◌≡◌, inl, inr, ℕ, Bool, true, false, Result, Ok, Err, List, [], ◌∷◌, ◌++◌, Option, Some, None, append_assoc, refl, sym, ap, subst, ◌∙◌}
use Rattle.std.specs.Prelude.{OnOk}
use Rattle.std.proofs.lemmas.List.{append-nil}
use Rattle.iceoryx2_access.specs.Run.{Run, done}
use Rattle.iceoryx2_access.proofs.Run.{one, both, each_append}
use Rattle.iceoryx2_world.specs.World.{World}
use Rattle.iceoryx2_table.specs.Same.{IsSameButRead}
use Rattle.iceoryx2_log.specs.declared.entry.Entry.{Entry}
use Rattle.iceoryx2_log.specs.Log.{Contents, WhereKnown, Grows, Rejoins}
use Rattle.iceoryx2_journal.specs.declared.taking.Stop.{Stop}
use Rattle.iceoryx2_journal.specs.declared.taking.Stop.TheVariants as stop
use Rattle.iceoryx2_journal.specs.Follow.{IsFollowed}
use Rattle.iceoryx2_journal.specs.Snapshot.{IsSnapshot, StandsFor}
use Rattle.iceoryx2_journal.specs.Taking.{is_own, Takes, IsAllTaken, TakesOver, TakesAllOf, Stops, unread, starved, own, disagrees, astray}
use Rattle.iceoryx2_journal.specs.Taking.{Arrives, Comes, stays, arrives, strays, Reaches, ReachesSome, ReachesAllOf, seen, CatchesUp, IsCompacted, IsRestored}
use Rattle.iceoryx2_journal.proofs.Logs.{known_map, known_both, known_same, taken_not, then_takes, then_taken, grown}
use Rattle.iceoryx2_journal.proofs.Catching.{stops_anyhow, moved_same}

-- ---- one after the other

-- it arrives, and others were followed before
arrives_later : {u w v : World} {es fs : List Entry} {d : Contents} → Run IsFollowed u es w → Arrives w fs v d → Arrives u (es ++ fs) v d
arrives_later {es} r x = record {
  snapshot = x.snapshot;
  before = es ++ x.before;
  since = x.since;
  parts = ap (λ (fs : List Entry). es ++ fs) x.parts ∙ sym (append_assoc es x.before x.since);
  taken = x.taken;
  at = x.at;
  leads = both r x.leads;
  goes_on = x.goes_on;
  stands_for = x.stands_for;
}

-- it arrived, and more is taken over there
arrived_more : {u w v : World} {es fs : List Entry} {c d : Contents} → Arrives u es w c → Run IsFollowed w fs v → Takes fs c d → Arrives u (es ++ fs) v d
arrived_more {es} {fs} x r y = record {
  snapshot = x.snapshot;
  before = x.before;
  since = x.since ++ fs;
  parts = ap (λ (t : List Entry). t ++ fs) x.parts ∙ append_assoc x.before x.since fs;
  taken = y.taken ∙ ap (λ (t : List Entry). t ++ fs) x.taken ∙ append_assoc x.snapshot x.since fs;
  at = x.at;
  leads = x.leads;
  goes_on = both x.goes_on r;
  stands_for = subst (λ (n : ℕ). StandsFor n x.snapshot x.at) (sym y.begins) x.stands_for;
}

arrived_or_lost : {p : Bool} (q : Bool) {u v : World} {es : List Entry} {b d : Contents} → Arrives u es v d → Comes p q u es v b d
arrived_or_lost false x = arrives refl x
arrived_or_lost true x = strays refl

comes_both : (p q r : Bool) (u w v : World) (es fs : List Entry) → Run IsFollowed u es w → Run IsFollowed w fs v → (b c d : Contents) → Comes p q u es w b c → Comes q r w fs v c d → Comes p r u (es ++ fs) v b d
comes_both p q r u w v es fs f g b c d x (strays lost) = strays lost
comes_both p q r u w v es fs f g b c d x (arrives here y) = arrives here (arrives_later f y)
comes_both p q r u w v es fs f g b c d (stays was x) (stays is y) = stays was (then_takes es fs b c d x y)
comes_both p q r u w v es fs f g b c d (arrives here x) (stays is y) = arrived_or_lost r (arrived_more x g y)
comes_both p q r u w v es fs f g b c d (strays lost) (stays is y) = absurd (cc)

pub reach_both : {nodes : List ℕ} (p q r : Bool) {u w v : World} (b c d : Option Contents) → Reaches nodes p q u w b c → Reaches nodes q r w v c d → Reaches nodes p r u v b d
reach_both {nodes} p q r {u} {w} {v} b c d x y = record {
  entries = x.entries ++ y.entries;
  of_others = each_append (λ e. is_own nodes e.node ≡ false) x.entries y.entries x.of_others y.of_others;
  followed = both x.followed y.followed;
  taken = known_both (Comes p q u x.entries w) (Comes q r w y.entries v) (Comes p r u (x.entries ++ y.entries) v)
      (comes_both p q r u w v x.entries y.entries x.followed y.followed) b c d x.taken y.taken;
}

-- ---- nothing yet

comes_not : (p : Bool) (w : World) (c d : Contents) → Takes [] c d → Comes p p w [] w c d
comes_not false w c d t = stays refl t
comes_not true w c d t = strays refl

pub reach_not : (nodes : List ℕ) (p : Bool) (w : World) (c d : Option Contents) → d ≡ c → Reaches nodes p p w w c d
reach_not nodes p w c d same = record {
  entries = [];
  of_others = tt;
  followed = done;
  taken = known_map (Takes []) (Comes p p w [] w) (comes_not p w) c d (taken_not c d same);
}

-- Others have appended, and then it reaches.
pub reach_grown : {nodes : List ℕ} (p q : Bool) {u v : World} (b c d : Option Contents) → WhereKnown Grows b c → Reaches nodes p q u v c d → Reaches nodes p q u v b d
reach_grown {nodes} p q {u} {v} b c d g x = reach_both {nodes = nodes} p p q b c d (record {
  entries = [];
  of_others = tt;
  followed = done;
  taken = known_map (Takes []) (Comes p p u [] u) (comes_not p u) b c (grown b c g);
}) x

-- ---- here

pub reach_here : {nodes : List ℕ} (p q : Bool) {w v : World} (c d : Option Contents) → p ≡ false → TakesOver nodes w v c d → Reaches nodes p q w v c d
reach_here p q {w} {v} c d here t = record {
  entries = t.entries;
  of_others = t.of_others;
  followed = t.followed;
  taken = known_map (Takes t.entries) (Comes p q w t.entries v) (λ c d x. stays here x) c d t.taken;
}

stops_none : {nodes : List ℕ} {c : Option Contents} {w v : World} {s : Stop} → Stops nodes c w s v → Stops nodes None w s v
stops_none (unread is same) = unread is same
stops_none (starved e is front f p) = starved e is tt f p
stops_none (own e is front f same) = own e is tt f same
stops_none (disagrees e is front f a) = disagrees e is tt f a
stops_none (astray is unknown same) = astray is refl same

stops_seen : {nodes : List ℕ} {c : Option Contents} {w v : World} {s : Stop} (q : Bool) → Stops nodes c w s v → Stops nodes (seen q c) w s v
stops_seen false x = x
stops_seen true x = stops_none x

pub reach_here_all : (nodes : List ℕ) (r : Result (Unit {0}) Stop) (p q : Bool) (w v : World) (c d : Option Contents) → p ≡ false → TakesAllOf nodes r w v c d → OnOk r (q ≡ false) → ReachesAllOf nodes r p q w v c d
reach_here_all nodes (Ok x) p q w v c d here t found = (reach_here p q c d here t.0, t.1, found)
reach_here_all nodes (Err s) p q w v c d here t found =
    record { between = t.between; reaches = reach_here p q c d here t.takes; stops = stops_seen q t.stops }

-- All is taken over, and then what is taken over after that.
pub reach_then : (nodes : List ℕ) (r : Result (Unit {0}) Stop) (p q o : Bool) (u w v : World) (b c d : Option Contents) → Reaches nodes p q u w b c → ReachesAllOf nodes r q o w v c d → ReachesAllOf nodes r p o u v b d
reach_then nodes (Ok x) p q o u w v b c d t more = (reach_both p q o b c d t more.0, more.1, more.2)
reach_then nodes (Err s) p q o u w v b c d t more =
    record { between = more.between; reaches = reach_both p q o b c d t more.reaches; stops = more.stops }

pub reach_some : {nodes : List ℕ} {s : Stop} {p q : Bool} {w v : World} {c d : Option Contents} → Reaches nodes p q w v c d → Stops nodes (seen q d) v s v → ReachesSome nodes p q s w v c d
reach_some {v} t stops = record { between = v; reaches = t; stops = stops }

-- What was reached until the log was found to go on elsewhere.
pub reach_moved : {nodes : List ℕ} (s : Stop) → s ≡ stop.Moved → {p q : Bool} {w v : World} {c d : Option Contents} → ReachesSome nodes p q s w v c d → Reaches nodes p q w v c d
reach_moved {nodes} s is {p} {q} {w} {v} {c} {d} t = subst (λ x. Reaches nodes p q w x c d) (sym (moved_same s is t.stops)) t.reaches

-- ---- elsewhere

-- Nothing is claimed of the place.
abbrev Somehow : Contents → Contents → Type 0
Somehow old new = Unit {0}

lost_by : {nodes : List ℕ} {w v : World} (c d : Option Contents) → WhereKnown Somehow c d → TakesOver nodes w v None None → Reaches nodes true true w v c d
lost_by {nodes} {w} {v} c d known t = record {
  entries = t.entries;
  of_others = t.of_others;
  followed = t.followed;
  taken = known_map Somehow (Comes true true w t.entries v) (λ c d x. strays refl) c d known;
}

nothing_followed : (nodes : List ℕ) (w : World) → TakesOver nodes w w None None
nothing_followed nodes w = record { entries = []; of_others = tt; followed = done; taken = tt }

pub not_rejoined : (nodes : List ℕ) (w : World) (c d : Option Contents) → d ≡ c → CatchesUp nodes (Err stop.Later) w w c d
not_rejoined nodes w c d same = record {
  between = w;
  reaches = lost_by c d (known_same Somehow (λ c. tt) c d same) (nothing_followed nodes w);
  stops = unread refl refl;
}

somehow : (R S : Contents → Contents → Type 0) (b c d : Option Contents) → WhereKnown R b c → WhereKnown S c d → WhereKnown Somehow b d
somehow R S = known_both R S Somehow (λ b c d x y. tt)

pub not_restored : (nodes : List ℕ) (n : ℕ) (s : Stop) (w : World) (b c d : Option Contents) → WhereKnown (Rejoins n) b c → (es : List Entry) × WhereKnown (Takes es) c d → CatchesUp nodes (Err s) w w b d
not_restored nodes n s w b c d r t = record {
  between = w;
  reaches = lost_by b d (somehow (Rejoins n) (Takes t.0) b c d r t.1) (nothing_followed nodes w);
  stops = stops_anyhow nodes w s;
}

restored_there : (n : ℕ) (w v : World) (es snapshot : List Entry) → Run IsFollowed w es v → (target : World) → IsSnapshot n snapshot target → IsSameButRead target v → (b c d : Contents) → Rejoins n b c → Takes snapshot c d → Comes true false w es v b d
restored_there n w v es snapshot f target is same b c d r t = arrives refl (record {
  snapshot = snapshot;
  before = es;
  since = [];
  parts = sym (append-nil es);
  taken = t.taken ∙ ap (λ (x : List Entry). x ++ snapshot) r.taken ∙ sym (append-nil snapshot);
  at = v;
  leads = f;
  goes_on = done;
  stands_for = record {
    exact = target;
    is_snapshot = subst (λ (k : ℕ). IsSnapshot k snapshot target) (sym (t.begins ∙ r.begins)) is;
    same = same;
  };
})

-- It goes to what the snapshot comes to, by what others did meanwhile; or not, and is lost.
pub goes_there : (nodes : List ℕ) (r : Result (Unit {0}) Stop) (n : ℕ) (target w v : World) (b c d : Option Contents) → WhereKnown (Rejoins n) b c → IsRestored n target c d → TakesAllOf nodes r w v None None → OnOk r (IsSameButRead target v) → CatchesUp nodes r w v b d
goes_there nodes (Ok x) n target w v b c d joined restored t same =
    let o = t.0 in
    record {
      entries = o.entries;
      of_others = o.of_others;
      followed = o.followed;
      taken = known_both (Rejoins n) (Takes restored.entries) (Comes true false w o.entries v)
          (restored_there n w v o.entries restored.entries o.followed target restored.is_snapshot same) b c d joined restored.taken;
    }
goes_there nodes (Err s) n target w v b c d joined restored t same = record {
  between = t.between;
  reaches = lost_by b d (somehow (Rejoins n) (Takes restored.entries) b c d joined restored.taken) t.takes;
  stops = t.stops;
}

pub caught_then : (nodes : List ℕ) (r : Result (Unit {0}) Stop) (p q : Bool) (u w v : World) (b c d : Option Contents) → p ≡ true → Reaches nodes true false u w b c → TakesAllOf nodes r w v c d → OnOk r (q ≡ false) → ReachesAllOf nodes r p q u v b d
caught_then nodes r p q u w v b c d was x t found =
    subst (λ (k : Bool). ReachesAllOf nodes r k q u v b d) (sym was)
    (reach_then nodes r true false q u w v b c d x (reach_here_all nodes r false q w v c d refl t found))

pub stays_lost : {nodes : List ℕ} (s : Stop) (p q : Bool) (u v : World) (b d : Option Contents) → p ≡ true → q ≡ true → ReachesSome nodes true true s u v b d → ReachesSome nodes p q s u v b d
stays_lost {nodes} s p q u v b d was is x =
    subst (λ (k : Bool). ReachesSome nodes k q s u v b d) (sym was) (subst (λ (k : Bool). ReachesSome nodes true k s u v b d) (sym is) x)

-- ---- a snapshot

pub restored_more : (c d f : Option Contents) {w u v : World} → ((es : List Entry) × WhereKnown (Takes es) c d × Run IsFollowed w es u)
    → ((e : Entry) × IsFollowed u e v × WhereKnown (Takes (e ∷ [])) d f) → (es : List Entry) × WhereKnown (Takes es) c f × Run IsFollowed w es v
restored_more c d f x y = (x.0 ++ y.0 ∷ [], then_taken x.0 (y.0 ∷ []) c d f x.1 y.2, both x.2 (one y.1))

compacts : (p q : Bool) (u w : World) (es : List Entry) → q ≡ false → Run IsFollowed u es w → (b c d : Contents) → Comes p q u es w b c → IsCompacted w c d → Comes p q u es w b d
compacts p q u w es here f b c d x (inl same) = subst (λ (k : Contents). Comes p q u es w b k) (sym same) x
compacts p q u w es here f b c d x (inr y) = arrives here (record {
  snapshot = d.taken;
  before = es;
  since = [];
  parts = sym (append-nil es);
  taken = sym (append-nil d.taken);
  at = w;
  leads = f;
  goes_on = done;
  stands_for = y.0;
})

-- All was taken over, and then the log is compacted.
pub reach_compacted : {nodes : List ℕ} (p q : Bool) {u w : World} (b c d : Option Contents) → q ≡ false → Reaches nodes p q u w b c → WhereKnown (IsCompacted w) c d → Reaches nodes p q u w b d
reach_compacted p q {u} {w} b c d here x y = record {
  entries = x.entries;
  of_others = x.of_others;
  followed = x.followed;
  taken = known_both (Comes p q u x.entries w) (IsCompacted w) (Comes p q u x.entries w) (compacts p q u w x.entries here x.followed) b c d x.taken y;
}

compacted_contents : (w : World) (c d : Contents) → c.unread ≡ [] → IsCompacted w c d → d.unread ≡ []
compacted_contents w c d all (inl same) = ap (λ (k : Contents). k.unread) same ∙ all
compacted_contents w c d all (inr y) = y.1

pub compacted_all : (w : World) (c d : Option Contents) → IsAllTaken c → WhereKnown (IsCompacted w) c d → IsAllTaken d
compacted_all w (Some c) (Some d) all y = compacted_contents w c d all y
compacted_all w None None all y = tt
compacted_all w (Some c) None all y = tt
compacted_all w None (Some d) all y = absurd y
