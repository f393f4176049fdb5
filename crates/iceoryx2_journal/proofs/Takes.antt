-- Entries that are taken over are what others do.
use Rattle.std.proofs.Common.{◌≡◌, ℕ, Bool, false, List, [], ◌∷◌, ◌++◌, Option, sym, ap, subst, ◌∙◌}
use Rattle.iceoryx2_access.specs.Letter.{Letter, acting_node}
use Rattle.iceoryx2_access.specs.Run.{Run, done, next, Each}
use Rattle.iceoryx2_access.proofs.Run.{one, both}
use Rattle.iceoryx2_world.specs.World.{World}
use Rattle.iceoryx2_world.specs.Access.{IsOwnPart}
use Rattle.iceoryx2_world.specs.Interference.{Others, nobody, node_acts}
use Rattle.iceoryx2_log.specs.declared.entry.Entry.{Entry}
use Rattle.iceoryx2_log.specs.Log.{Contents}
use Rattle.iceoryx2_journal.specs.declared.taking.Stop.{Stop}
use Rattle.iceoryx2_journal.specs.Follow.{IsFollowed, ActsAlone}
use Rattle.iceoryx2_journal.specs.Taking.{is_own, IsAllTaken, TakesOver, Stops, unread, starved, own, disagrees, astray}
use Rattle.iceoryx2_journal.specs.Taking.{TakesOne, TakesSome}
use Rattle.iceoryx2_journal.proofs.Following.{each_more, prepare_acts, differs_acts, followed_acts}
use Rattle.iceoryx2_journal.proofs.Logs.{taken_not, then_taken}

pub takes_not : (nodes : List ℕ) (w : World) (c d : Option Contents) → d ≡ c → TakesOver nodes w w c d
takes_not nodes w c d same = record { entries = []; of_others = tt; followed = done; taken = taken_not c d same }

pub takes_one_more : {nodes : List ℕ} {u w v : World} {c d f : Option Contents} → TakesOver nodes u w c d → TakesOne nodes w v d f → TakesOver nodes u v c f
takes_one_more {nodes} {c} {d} {f} x y = record {
  entries = x.entries ++ y.entry ∷ [];
  of_others = each_more (λ e. is_own nodes e.node ≡ false) x.entries x.of_others y.of_other;
  followed = both x.followed (one y.followed);
  taken = then_taken x.entries (y.entry ∷ []) c d f x.taken y.taken;
}

pub nothing_more : {nodes : List ℕ} {u w v : World} {c d f : Option Contents} → TakesOver nodes u w c d → v ≡ w → f ≡ d → IsAllTaken f → TakesOver nodes u v c f × IsAllTaken f
nothing_more {nodes} {u} {w} {v} {c} {d} {f} t same still all = (subst (λ x. TakesOver nodes u x c f) (sym same) (subst (λ x. TakesOver nodes u w c x) (sym still) t), all)

pub takes_some : {nodes : List ℕ} {s : Stop} {u w v : World} {c d f : Option Contents} → TakesOver nodes u w c d → Stops nodes f w s v → f ≡ d → TakesSome nodes s u v c f
takes_some {nodes} {s} {u} {w} {v} {c} {d} {f} t stops still = record { between = w; takes = subst (λ x. TakesOver nodes u w c x) (sym still) t; stops = stops }

-- ---- what others do

word_others : {own : ℕ → Bool} (i : ℕ) → own i ≡ false → (word : List Letter) {w v u : World} → Each (λ l. acting_node l ≡ i) word → Run IsOwnPart w word v → Others own v u → Others own w u
word_others i f [] e done o = o
word_others {own} i f (l ∷ word) e (next h r) o = node_acts l (ap own e.0 ∙ f) h (word_others i f word e.1 r o)

alone : {own : ℕ → Bool} (i : ℕ) {w v u : World} → own i ≡ false → ActsAlone i w v → Others own v u → Others own w u
alone i f a o = word_others i f a.word a.is_word a.run o

-- Entries of nodes that aren't own, followed in order, are what others do.
pub entries_others : {own : ℕ → Bool} (es : List Entry) {w v u : World} → Each (λ e. own e.node ≡ false) es → Run IsFollowed w es v → Others own v u → Others own w u
entries_others [] e done o = o
entries_others (x ∷ es) e (next h r) o = alone x.node e.0 (followed_acts x h) (entries_others es e.1 r o)

pub same_others : {own : ℕ → Bool} {w v : World} → v ≡ w → Others own w v
same_others {own} {w} e = subst (Others own w) (sym e) nobody

pub stops_others : {nodes : List ℕ} {c : Option Contents} {w v : World} {s : Stop} → Stops nodes c w s v → Others (is_own nodes) w v
stops_others (unread is same) = same_others same
stops_others (starved e is front f p) = alone e.node f (prepare_acts e.hash e.operation p) nobody
stops_others (own e is front f same) = same_others same
stops_others (disagrees e is front f a) = alone e.node f (differs_acts e a) nobody
stops_others (astray is unknown same) = same_others same
