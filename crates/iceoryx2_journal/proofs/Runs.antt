-- What an access of a journal is at its world, and what a run of them is.
use Rattle.std.specs.Prelude.{◌&&◌, not}
use Rattle.std.proofs.Common.{◌≡◌, inl, inr, Bool, true, false, [], ◌∷◌, Option, refl, ap, subst, ◌∙◌}
use Rattle.iceoryx2_access.specs.Letter.{Letter}
use Rattle.iceoryx2_access.specs.MayRefuse.{IsFault, MayRefuse}
use Rattle.iceoryx2_access.specs.Run.{Run, done, next}
use Rattle.iceoryx2_world.specs.Access.{IsOwnPart}
use Rattle.iceoryx2_world.specs.Interference.{Rely, Others, nobody, After, IsFallibleUnder}
use Rattle.iceoryx2_world.proofs.agreement.Interference.{among_others, others_keep_own}
use Rattle.iceoryx2_log.specs.Log.{Contents}
use Rattle.iceoryx2_journal.specs.Taking.{is_own}
use Rattle.iceoryx2_journal.specs.Laws.{GoesAmongOthers, GoesUnderInterference, KeepsItsNodes, RefusesOtherNodes, StaysOver}
use Rattle.iceoryx2_journal.specs.Logged.{unwritten, written, declined}
use Rattle.iceoryx2_journal.specs.Journal.{JournalState, TakesAll, Fails, barred, stopped, IsJournalAccess, fails, acts}
use Rattle.iceoryx2_journal.proofs.Takes.{entries_others, same_others, stops_others}

not_yet : (m o : Bool) → m ≡ false → (m && not o) ≡ true → ⊥
not_yet false o e holds = absurd (cc)
not_yet true o e holds = absurd (cc)

pub was_going : (m o : Bool) → (m && not o) ≡ true → o ≡ false
was_going false o holds = absurd (cc)
was_going true true holds = absurd (cc)
was_going true false holds = refl

module _ {L : Type 0} {contents : L → Option Contents} where
  all_others : {old mid : JournalState L} → TakesAll contents old mid → Others (is_own old.nodes) old.world mid.world
  all_others t = entries_others t.takes.entries t.takes.of_others t.takes.followed nobody

  fails_others : {mine : Bool} {old new : JournalState L} → Fails contents mine old new → Others (is_own old.nodes) old.world new.world
  fails_others (barred isnt same) = same_others (ap (λ (s : JournalState L). s.world) same)
  fails_others (stopped w s holds t stops kept over) = entries_others t.entries t.of_others t.followed (stops_others stops)

  fails_nodes : {mine : Bool} {old new : JournalState L} → Fails contents mine old new → new.nodes ≡ old.nodes
  fails_nodes (barred isnt same) = ap (λ (s : JournalState L). s.nodes) same
  fails_nodes (stopped w s holds t stops kept over) = kept

  -- What comes before an own part keeps all that own nodes rely on, and which these are.
  pub begun : {mine : Bool} {old mid : JournalState L} → (mine ≡ true) × TakesAll contents old mid → Rely (is_own old.nodes) old.world mid.world × (mid.nodes ≡ old.nodes)
  begun {old = old} f = (others_keep_own (is_own old.nodes) (all_others f.1), f.1.nodes)

  pub not_begun : {mine : Bool} {old mid : JournalState L} → Fails contents mine old mid → Rely (is_own old.nodes) old.world mid.world × (mid.nodes ≡ old.nodes)
  not_begun {old = old} f = (others_keep_own (is_own old.nodes) (fails_others f), fails_nodes f)

  -- An access of a journal is one of its world's, after what others do, or is refused after that.
  pub access : {old new : JournalState L} {l : Letter} → IsJournalAccess contents old l new → After (Others (is_own old.nodes)) (MayRefuse IsOwnPart) old.world l new.world
  access {new} (fails fault f) = record { between = new.world; before = fails_others f; part = inr (fault, refl) }
  access (acts mid mine all (unwritten isnt part reads kept) nodes over lost) = record { between = mid.world; before = all_others all; part = inl part }
  access (acts mid mine all (written e holds part is_entry appends) nodes over lost) = record { between = mid.world; before = all_others all; part = inl part }
  access (acts mid mine all (declined fault same kept) nodes over lost) = record { between = mid.world; before = all_others all; part = inr (fault, same) }

  pub access_under : {old new : JournalState L} {l : Letter} → IsJournalAccess contents old l new → IsFallibleUnder (is_own old.nodes) old.world l new.world
  access_under {old} {new} {l} h = among_others (is_own old.nodes) old.world l new.world (access h)

  pub access_nodes : {old new : JournalState L} {l : Letter} → IsJournalAccess contents old l new → new.nodes ≡ old.nodes
  access_nodes (fails fault f) = fails_nodes f
  access_nodes (acts mid mine all part nodes over lost) = nodes ∙ all.nodes

  barred_still : {mine : Bool} {a b : JournalState L} → mine ≡ false → Fails contents mine a b → b ≡ a
  barred_still isnt (barred is same) = same
  barred_still {mine} {a} isnt (stopped w s holds t stops kept over) = absurd (not_yet mine a.is_over isnt holds)

  over_still : {mine : Bool} {a b : JournalState L} → a.is_over ≡ true → Fails contents mine a b → b ≡ a
  over_still is (barred isnt same) = same
  over_still {mine} {a} is (stopped w s holds t stops kept over) = let x = was_going mine a.is_over holds in absurd (cc)

  over_access : {a b : JournalState L} {l : Letter} → a.is_over ≡ true → IsJournalAccess contents a l b → IsFault l × (b ≡ a)
  over_access is (fails fault f) = (fault, over_still is f)
  over_access is (acts mid mine all part nodes over lost) = let x = all.was_not_over in absurd (cc)

-- ---- the laws of runs

module _ {L : Type 0} (contents : L → Option Contents) where
  pub goes_among_others : GoesAmongOthers contents
  goes_among_others a b [] done = done
  goes_among_others a b (l ∷ word) (next {mid} h r) = next (access h) (subst (λ xs. Run (After (Others (is_own xs)) (MayRefuse IsOwnPart)) mid.world word b.world) (access_nodes h) (goes_among_others mid b word r))

  pub goes_under : GoesUnderInterference contents
  goes_under a b [] done = done
  goes_under a b (l ∷ word) (next {mid} h r) = next (access_under h) (subst (λ xs. Run (IsFallibleUnder (is_own xs)) mid.world word b.world) (access_nodes h) (goes_under mid b word r))

  pub keeps_nodes : KeepsItsNodes contents
  keeps_nodes a b [] done = refl
  keeps_nodes a b (l ∷ word) (next {mid} h r) = keeps_nodes mid b word r ∙ access_nodes h

  pub refuses_others : RefusesOtherNodes contents
  refuses_others a b l isnt (fails fault f) = (fault, barred_still isnt f)
  refuses_others a b l isnt (acts mid mine all part nodes over lost) = absurd (cc)

  pub stays_over : StaysOver contents
  stays_over a b [] is done = (tt, refl)
  stays_over a b (l ∷ word) is (next {mid} h r) =
      let x = over_access is h in
      let y = stays_over mid b word (ap (λ (s : JournalState L). s.is_over) x.1 ∙ is) r in ((x.0, y.0), y.1 ∙ x.1)
