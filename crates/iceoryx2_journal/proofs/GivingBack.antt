-- Steps that give back what a node has, and what they keep.
use Rattle.std.proofs.Common.{◌≡◌, ◌⊎◌, if◌then◌else◌, inl, inr, ℕ, Bool, true, false, List, [], ◌∷◌, ◌++◌, Option, Some, None, Result, Ok, Err, refl, sym, ap, subst, ◌∙◌}
use Rattle.std.specs.Prelude.{OnErr, OnOk}
use Rattle.iceoryx2_journal.specs.declared.cleaning.AdoptError.{AdoptError}
use Rattle.iceoryx2_journal.specs.declared.cleaning.AdoptError.TheVariants as adopting
use Rattle.iceoryx2_access.specs.Letter.{Letter, acting_node}
use Rattle.iceoryx2_access.specs.Letter as letter
use Rattle.iceoryx2_access.specs.Run.{Run, done, next}
use Rattle.iceoryx2_access.proofs.Run.{one, both}
use Rattle.iceoryx2_world.specs.World.{World}
use Rattle.iceoryx2_world.specs.Interference.{Rely, nobody, node_acts}
use Rattle.iceoryx2_world.proofs.agreement.Interference.{others_keep_own, rely_same, rely_both}
use Rattle.iceoryx2_table.specs.declared.holdings.Holding.{Holding}
use Rattle.iceoryx2_table.specs.declared.holdings.Holding.TheVariants as holding
use Rattle.iceoryx2_table.specs.Holdings.{IsHolding}
use Rattle.iceoryx2_log.specs.Log.{Contents}
use Rattle.iceoryx2_journal.specs.declared.cleaning.Cleaned.{Cleaned}
use Rattle.iceoryx2_journal.specs.declared.cleaning.CleanError.{CleanError}
use Rattle.iceoryx2_journal.specs.declared.cleaning.CleanError.TheVariants as errors
use Rattle.iceoryx2_journal.specs.declared.cleaning.GivenBack.{GivenBack}
use Rattle.iceoryx2_journal.specs.declared.cleaning.Step.{Step}
use Rattle.iceoryx2_journal.specs.declared.cleaning.Step.TheVariants as step
use Rattle.iceoryx2_journal.specs.Taking.{is_own}
use Rattle.iceoryx2_journal.specs.Logged.{IsLoggedPart, unwritten, written, declined}
use Rattle.iceoryx2_journal.specs.Journal.{JournalState, TakesAll}
use Rattle.iceoryx2_journal.specs.Cleaning.{has_segment, GivesUp, given_back, with_one, given_by, nothing_given, step_with, CleansBy, CleansSome, CleansNext, CleansAll, Cleans, Adopts}
use Rattle.iceoryx2_journal.proofs.Runs.{begun, not_begun}

service_caller : (i : ℕ) (b : Bool) (l x y : Letter) → acting_node x ≡ i → acting_node y ≡ i → l ≡ (if b then x else y) → acting_node l ≡ i
service_caller i true l x y a b is = ap acting_node is ∙ a
service_caller i false l x y a b is = ap acting_node is ∙ b

-- the letter is in the node's name
pub gives_caller : (i : ℕ) (x : Holding) (l : Letter) → GivesUp i x l → acting_node l ≡ i
gives_caller i (holding.Ticket t h n) l g = ap acting_node g.1
gives_caller i (holding.Service h p) l g = service_caller i (has_segment p) l (letter.RemoveSegment i h g.0) (letter.RemoveDescription i h g.0) refl refl g.1
gives_caller i (holding.Tag h) l g = ap acting_node g.1

-- what is given back by one more letter
pub given_more : (c : Cleaned) (word : List Letter) (l : Letter) (g : GivenBack) → given_back l ≡ Some g → with_one (given_by c word) (Some g) ≡ given_by c (word ++ l ∷ [])
given_more c [] l g is = ap (with_one c) (sym is)
given_more c (x ∷ word) l g is = given_more (with_one c (given_back x)) word l g is

with_nodes : {L : Type 0} (j : JournalState L) (log : L) (ns ms : List ℕ) → ns ≡ ms → ◌≡◌ {A = JournalState L} (record { world = j.world; log = log; nodes = ns; is_over = j.is_over; is_lost = j.is_lost }) (record { world = j.world; log = log; nodes = ms; is_over = j.is_over; is_lost = j.is_lost })
with_nodes j log ns ms e = λ k. record { world = j.world; log = log; nodes = e k; is_over = j.is_over; is_lost = j.is_lost }

module _ {L : Type 0} {contents : L → Option Contents} where
  -- ---- one step

  step_case : {i : ℕ} {old new : JournalState L} (o : Option GivenBack) (l : Letter) → CleansBy contents i old l new → given_back l ≡ o → CleansNext contents i (step_with o) old new
  step_case (Some g) l c e = (l, c, e)
  step_case None l c e = inr (l, c, e)

  -- The state before the own part is seen as j.
  pub stepped : (i : ℕ) {old mid new j : JournalState L} {held : Holding} {o : Option GivenBack} {s : Step} {h : Option Holding} → j ≡ mid → s ≡ step_with o → (true ≡ true) × TakesAll contents old mid
      → IsHolding j.world i h → h ≡ Some held
      → (l : Letter) × GivesUp i held l × (given_back l ≡ o) × IsLoggedPart contents j.world l new.world j.log new.log
      → new.nodes ≡ j.nodes → new.is_over ≡ j.is_over → new.is_lost ≡ j.is_lost → CleansNext contents i s old new
  stepped i {old} {mid} {new} {j} {held} {o} view is all has there gave nodes over lost =
      subst (λ s. CleansNext contents i s old new) (sym is)
      (step_case o gave.0 (record {
        mid = j;
        all = subst (λ m. TakesAll contents old m) (sym view) all.1;
        held = held;
        has = subst (IsHolding j.world i) there has;
        gives = gave.1;
        part = gave.3;
        nodes = nodes;
        over = over;
        lost = lost;
      }) gave.2)

  -- ---- all steps

  pub none_yet : {i : ℕ} {old : JournalState L} {c : Cleaned} → c ≡ nothing_given → CleansSome contents i old c old
  none_yet is = record { word = []; run = done; counts = is }

  pub one_more_step : {i : ℕ} {old mid new : JournalState L} {c d : Cleaned} {g : GivenBack} → CleansSome contents i old c mid → (l : Letter) × CleansBy contents i mid l new × (given_back l ≡ Some g) → d ≡ with_one c (Some g) → CleansSome contents i old d new
  one_more_step {c} {d} {g} s x is = record {
    word = s.word ++ x.0 ∷ [];
    run = both s.run (one x.1);
    counts = is ∙ ap (λ z. with_one z (Some g)) s.counts ∙ given_more nothing_given s.word x.0 g x.2;
  }

  -- ---- a node that becomes an own one

  pub adopted : {i : ℕ} {old mid j : JournalState L} {nodes : List ℕ} {log : L} → j ≡ mid → (true ≡ true) × TakesAll contents old mid → nodes ≡ j.nodes ++ i ∷ [] → contents log ≡ contents j.log
      → Adopts contents i (Ok tt) old (record { world = j.world; log = log; nodes = nodes; is_over = j.is_over; is_lost = j.is_lost })
  adopted {i} {old} {mid} {j} {nodes} {log} view all is kept =
      (j, subst (λ m. TakesAll contents old m) (sym view) all.1, with_nodes j log nodes (j.nodes ++ i ∷ []) is, kept)

-- ---- what is kept
module _ {L : Type 0} (contents : L → Option Contents) (i : ℕ) where
  part_others : (own : ℕ → Bool) (w v : World) (l : Letter) (g d : L) → own (acting_node l) ≡ false → IsLoggedPart contents w l v g d → Rely own w v
  part_others own w v l g d isnt (unwritten not_written part reads kept) = others_keep_own own (node_acts l isnt part nobody)
  part_others own w v l g d isnt (written e holds part is_entry appends) = others_keep_own own (node_acts l isnt part nobody)
  part_others own w v l g d isnt (declined fault same kept) = subst (Rely own w) (sym same) (rely_same own w)

  -- the own nodes stay, and so does all that they rely on
  abbrev Keeps : JournalState L → JournalState L → Type 0
  Keeps old new = Rely (is_own old.nodes) old.world new.world × (new.nodes ≡ old.nodes)

  then_keeps : (old mid new : JournalState L) → Keeps old mid → Keeps mid new → Keeps old new
  then_keeps old mid new a b = (rely_both (is_own old.nodes) old.world mid.world new.world a.0 (subst (λ ns. Rely (is_own ns) mid.world new.world) a.1 b.0), b.1 ∙ a.1)

  same_keeps : (old new : JournalState L) → new ≡ old → Keeps old new
  same_keeps old new same = subst (λ n. Keeps old n) (sym same) (rely_same (is_own old.nodes) old.world, refl)

  step_keeps : (old new : JournalState L) (l : Letter) → is_own old.nodes i ≡ false → CleansBy contents i old l new → Keeps old new
  step_keeps old new l isnt c =
      let own = is_own old.nodes in
      let first = begun (refl, c.all) in
      (rely_both own old.world c.mid.world new.world first.0 (part_others own c.mid.world new.world l c.mid.log new.log (ap own (gives_caller i c.held l c.gives) ∙ isnt) c.part), c.nodes ∙ first.1)

  still_other : (old mid : JournalState L) → mid.nodes ≡ old.nodes → is_own old.nodes i ≡ false → is_own mid.nodes i ≡ false
  still_other old mid kept isnt = ap (λ ns. is_own ns i) kept ∙ isnt

  some_keeps : (old new : JournalState L) (word : List Letter) → is_own old.nodes i ≡ false → Run (CleansBy contents i) old word new → Keeps old new
  some_keeps old new [] isnt done = (rely_same (is_own old.nodes) old.world, refl)
  some_keeps old new (l ∷ word) isnt (next {mid} h r) =
      let first = step_keeps old mid l isnt h in
      then_keeps old mid new first (some_keeps mid new word (still_other old mid first.1 isnt) r)

  refused_keeps : (old new : JournalState L) → is_own old.nodes i ≡ false → CleansNext contents i step.Refused old new → Keeps old new
  refused_keeps old new isnt (inl f) = not_begun f
  refused_keeps old new isnt (inr x) = step_keeps old new x.0 isnt x.1

  end_keeps : (mid new : JournalState L) → is_own mid.nodes i ≡ false → (new ≡ mid) ⊎ CleansNext contents i step.Refused mid new → Keeps mid new
  end_keeps mid new isnt (inl same) = same_keeps mid new same
  end_keeps mid new isnt (inr x) = refused_keeps mid new isnt x

  all_keeps : (old new : JournalState L) (r : Result Cleaned CleanError) → is_own old.nodes i ≡ false → CleansAll contents i r old new → Keeps old new
  all_keeps old new (Ok c) isnt x =
      then_keeps old x.0 new (some_keeps old x.0 x.1.word isnt x.1.run) (begun (refl, x.2.0))
  all_keeps old new (Err e) isnt x =
      let so_far = some_keeps old x.2 x.3.word isnt x.3.run in
      then_keeps old x.2 new so_far (end_keeps x.2 new (still_other old x.2 so_far.1 isnt) x.4)

  pub cleans_keeps : (old new : JournalState L) (r : Result Cleaned CleanError) → Cleans contents i r old new → Keeps old new
  cleans_keeps old new (Err errors.IsOwn) x = same_keeps old new x.1
  cleans_keeps old new (Err errors.Refused) x = all_keeps old new (Err errors.Refused) x.0 x.1
  cleans_keeps old new (Ok c) x = all_keeps old new (Ok c) x.0 x.1

  pub cleans_all : (old new : JournalState L) (r : Result Cleaned CleanError) → is_own old.nodes i ≡ false → CleansAll contents i r old new → Cleans contents i r old new
  cleans_all old new (Err errors.IsOwn) isnt x = absurd (cc)
  cleans_all old new (Err errors.Refused) isnt x = (isnt, x)
  cleans_all old new (Ok c) isnt x = (isnt, x)

  pub cleans_gone : (old new : JournalState L) (r : Result Cleaned CleanError) → Cleans contents i r old new → OnOk r (IsHolding new.world i None)
  cleans_gone old new (Ok c) x = x.1.2.1
  cleans_gone old new (Err e) x = tt

  -- ---- a node that becomes an own one

  pub adopts_keeps : (old new : JournalState L) (r : Result (Unit {0}) AdoptError) → Adopts contents i r old new → Rely (is_own old.nodes) old.world new.world
  adopts_keeps old new (Ok x) a = subst (λ (n : JournalState L). Rely (is_own old.nodes) old.world n.world) (sym a.2) (begun (refl, a.1)).0
  adopts_keeps old new (Err adopting.OutOfMemory) a = (begun (refl, a)).0
  adopts_keeps old new (Err adopting.Refused) a = (not_begun a).0

  pub adopts_all : (old new : JournalState L) (r : Result (Unit {0}) AdoptError) → Adopts contents i r old new → OnOk r (new.nodes ≡ old.nodes ++ i ∷ [])
  adopts_all old new (Ok x) a = ap (λ (n : JournalState L). n.nodes) a.2 ∙ ap (λ ns. ns ++ i ∷ []) a.1.nodes
  adopts_all old new (Err e) a = tt

  pub adopts_none : (old new : JournalState L) (r : Result (Unit {0}) AdoptError) → Adopts contents i r old new → OnErr r (new.nodes ≡ old.nodes)
  adopts_none old new (Ok x) a = tt
  adopts_none old new (Err adopting.OutOfMemory) a = a.nodes
  adopts_none old new (Err adopting.Refused) a = (not_begun a).1
