-- What accesses that give back what a node owes keep.
use Rattle.std.proofs.Common.{◌≡◌, inl, inr, ℕ, Bool, true, false, List, [], ◌∷◌, ◌++◌, Option, Some, None, Result, Ok, Err, refl, sym, ap, subst, ◌∙◌}
use Rattle.std.specs.Prelude.{◌&&◌, not, nat_eq}
use Rattle.std.proofs.lemmas.Bool.{eq-eqb}
use Rattle.iceoryx2_access.specs.declared.storage.Release.{Release as Released}
use Rattle.iceoryx2_access.specs.declared.storage.ReleaseError.{ReleaseError}
use Rattle.iceoryx2_access.specs.Letter.{Letter, acting_node}
use Rattle.iceoryx2_access.specs.Letter as letter
use Rattle.iceoryx2_access.specs.Registered.{Registered}
use Rattle.iceoryx2_access.specs.Run.{Run, Each, done, next}
use Rattle.iceoryx2_access.proofs.Run.{one, both, run_map}
use Rattle.iceoryx2_description.specs.declared.description.ServiceHash.{ServiceHash}
use Rattle.iceoryx2_world.specs.World.{World}
use Rattle.iceoryx2_world.specs.Agreement.{Agrees}
use Rattle.iceoryx2_world.specs.Interference.{Rely, IsFallibleUnder}
use Rattle.iceoryx2_world.specs.Standing.{Stands, Spares}
use Rattle.iceoryx2_world.proofs.agreement.Accesses.{run_keeps}
use Rattle.iceoryx2_world.proofs.agreement.Interference.{node_keeps_own, rely_both, rely_fewer, rely_same}
use Rattle.iceoryx2_world.proofs.agreement.Stands.{run_stands}
use Rattle.iceoryx2_table.specs.declared.holdings.Holding.{Holding}
use Rattle.iceoryx2_table.specs.declared.holdings.Holding.TheVariants as holding
use Rattle.iceoryx2_log.specs.Log.{Contents}
use Rattle.iceoryx2_journal.specs.declared.cleaning.Cleaned.{Cleaned}
use Rattle.iceoryx2_journal.specs.declared.cleaning.CleanError.{CleanError}
use Rattle.iceoryx2_journal.specs.declared.cleaning.CleanError.TheVariants as errors
use Rattle.iceoryx2_journal.specs.declared.cleaning.GivenBack.{GivenBack}
use Rattle.iceoryx2_journal.specs.declared.cleaning.Step.{Step}
use Rattle.iceoryx2_journal.specs.declared.cleaning.Step.TheVariants as step
use Rattle.iceoryx2_journal.specs.Cleaning.{has_segment, GivesUp, given_back, nothing_given, step_with, with_one}
use Rattle.iceoryx2_journal.specs.Journal.{JournalState, IsJournalAccess}
use Rattle.iceoryx2_journal.specs.Owed.{is_among, IsOwed, IsOwedOrNone, IsSpared, others_own, GivesOwed, SettlesBy, SettlesNext, SettlesInWorld}
use Rattle.iceoryx2_journal.specs.Replay.{Lives, begun, accesses}
use Rattle.iceoryx2_journal.specs.Taking.{is_own}
use Rattle.iceoryx2_journal.proofs.Cleaned.{gives_spares, removal_spares}
use Rattle.iceoryx2_journal.proofs.GivingBack.{given_more, gives_caller}
use Rattle.iceoryx2_journal.proofs.Runs.{access_nodes, access_under}

-- ---- one step after the other

module _ {i : ℕ} {spared : List ℕ} {S : Type 0} {world : S → World} {steps : S → Letter → S → Type 0} where
  pub none_settled : {old : S} {c : Cleaned} → c ≡ nothing_given → SettlesBy i spared world steps (Ok c) old old
  none_settled is = ([], done, is)

  pub one_settled : {old mid new : S} {c d : Cleaned} {g : GivenBack} → SettlesBy i spared world steps (Ok c) old mid → SettlesNext i spared world steps (step.Gave g) mid new
      → d ≡ with_one c (Some g) → SettlesBy i spared world steps (Ok d) old new
  one_settled {g = g} s x is = (s.0 ++ x.0 ∷ [], both s.1 (one x.1), is ∙ ap (λ z. with_one z (Some g)) s.2 ∙ given_more nothing_given s.0 x.0 g x.2)

  pub all_settled : {old mid new : S} {c : Cleaned} → SettlesBy i spared world steps (Ok c) old mid → new ≡ mid → SettlesBy i spared world steps (Ok c) old new
  all_settled {old} {c = c} s same = subst (λ n. SettlesBy i spared world steps (Ok c) old n) (sym same) s

  pub not_settled : {old mid new : S} {c : Cleaned} → SettlesBy i spared world steps (Ok c) old mid → SettlesNext i spared world steps step.Refused mid new → SettlesBy i spared world steps (Err errors.Refused) old new
  not_settled s x = (s.0 ++ x.0 ∷ [], both s.1 (one x.1), refl)

  pub cut_off : {old mid : S} {c : Cleaned} → SettlesBy i spared world steps (Ok c) old mid → SettlesBy i spared world steps (Err errors.Refused) old mid
  cut_off s = (s.0, s.1, refl)

  settled_case : {old new : S} (o : Option GivenBack) (l : Letter) → GivesOwed i spared world steps old l new → given_back l ≡ o → SettlesNext i spared world steps (step_with o) old new
  settled_case (Some g) l x e = (l, x, e)
  settled_case None l x e = (l, x, e)

module _ (i : ℕ) (spared : List ℕ) {S : Type 0} (world : S → World) (steps : S → Letter → S → Type 0) where
  pub settled_next : (old new : S) {held : Holding} {o : Option GivenBack} {s : Step} {h : Option Holding} → s ≡ step_with o → IsOwedOrNone (world old) i spared h → h ≡ Some held
      → (l : Letter) × GivesUp i held l × (given_back l ≡ o) × steps old l new → SettlesNext i spared world steps s old new
  settled_next old new {held} {o} is owes there gave =
      subst (λ s. SettlesNext i spared world steps s old new) (sym is)
      (settled_case o gave.0 (record { held = held; owes = subst (IsOwedOrNone (world old) i spared) there owes; gives = gave.1; access = gave.3 }) gave.2)

-- ---- what is kept in a world

and_first : (a b : Bool) → (a && b) ≡ true → a ≡ true
and_first true b e = refl
and_first false b e = absurd (cc)

and_not : (a b : Bool) → b ≡ true → (a && not b) ≡ false
and_not true true e = refl
and_not false true e = refl
and_not a false e = absurd (cc)

other_ticket : (i : ℕ) (spared : List ℕ) (f : Registered) (t : ℕ) (h : ServiceHash) (n : ℕ) (a : Result Released ReleaseError) → is_among spared t ≡ false → is_among spared f.ticket ≡ true
    → Spares f (letter.Release t i h n a)
other_ticket i spared f t h n (Ok a) isnt is = λ same node hash number. absurd (cc (ap (is_among spared) same))
other_ticket i spared f t h n (Err e) isnt is = tt

module _ (i : ℕ) (spared : List ℕ) where
  own_spares : (w : World) (x : Holding) (l : Letter) (f : Registered) → is_among spared f.ticket ≡ true → IsOwed w i spared x → GivesUp i x l → Spares f l
  own_spares w (holding.Ticket t h n) l f among owes g = subst (Spares f) (sym g.1) (other_ticket i spared f t h n g.0 owes.1 among)
  own_spares w (holding.Service h p) l f among owes g = subst (Spares f) (sym g.1) (removal_spares f i (has_segment p) h g.0)
  own_spares w (holding.Tag h) l f among owes g = subst (Spares f) (sym g.1) tt

  owed_spares : (w : World) (x : Holding) (l : Letter) (f : Registered) → IsSpared i spared f → IsOwed w i spared x → GivesUp i x l → Spares f l
  owed_spares w x l f (inl other) owes g = gives_spares i x l f other g
  owed_spares w x l f (inr among) owes g = own_spares w x l f among owes g

  module _ (own : ℕ → Bool) where
    abbrev Owed : World → Letter → World → Type 0
    Owed = GivesOwed i spared (λ w. w) (IsFallibleUnder own)

    plain : {w v : World} {word : List Letter} → Run Owed w word v → Run (IsFallibleUnder own) w word v
    plain run = run_map (λ w. w) (λ w v l x. x.access) run

    each_spares : (f : Registered) → IsSpared i spared f → {w v : World} {word : List Letter} → Run Owed w word v → Each (Spares f) word
    each_spares f is done = tt
    each_spares f is {w = w} (next {letter = l} x r) = (owed_spares w x.held l f is x.owes x.gives, each_spares f is r)

    run_agrees : {w v : World} {word : List Letter} → Run Owed w word v → Agrees w → Agrees v
    run_agrees run agrees = (run_keeps {own = own} (plain run) agrees).0

    still_stands : (f : Registered) → own f.node ≡ true → IsSpared i spared f → {w v : World} {word : List Letter} → Run Owed w word v → Agrees w → Stands w f → Stands v f
    still_stands f mine is run agrees stands = run_stands {own = own} f mine (plain run) (each_spares f is run) agrees stands

    abbrev others : ℕ → Bool
    others = others_own own i

    not_other : (l : Letter) → acting_node l ≡ i → others (acting_node l) ≡ false
    not_other l is = ap others is ∙ and_not (own i) (nat_eq i i) (eq-eqb i i refl)

    access_kept : (w v : World) (l : Letter) → acting_node l ≡ i → IsFallibleUnder own w l v → Rely others w v
    access_kept w v l is a =
        rely_both others w a.between v (rely_fewer others own w a.between (λ j. and_first (own j) _) a.before)
        (elim a.part [
          | inl part ↦ node_keeps_own others a.between l v (not_other l is) part
          | inr fault ↦ subst (Rely others a.between) (sym fault.1) (rely_same others a.between)
        ])

    run_kept : {w v : World} {word : List Letter} → Run Owed w word v → Rely others w v
    run_kept {w = w} done = rely_same others w
    run_kept {w = w} {v = v} (next {mid = u} {letter = l} x r) = rely_both others w u v (access_kept w u l (gives_caller i x.held l x.gives) x.access) (run_kept r)

    pub settled_agrees : (w v : World) (r : Result Cleaned CleanError) → SettlesInWorld own i spared r w v → Agrees w → Agrees v
    settled_agrees w v (Ok c) s agrees = run_agrees s.1 agrees
    settled_agrees w v (Err e) s agrees = run_agrees s.1 agrees

    pub settled_stands : (w v : World) (r : Result Cleaned CleanError) → SettlesInWorld own i spared r w v → (f : Registered) → own f.node ≡ true → IsSpared i spared f → Agrees w → Stands w f → Stands v f
    settled_stands w v (Ok c) s f mine is agrees stands = still_stands f mine is s.1 agrees stands
    settled_stands w v (Err e) s f mine is agrees stands = still_stands f mine is s.1 agrees stands

    pub settled_kept : (w v : World) (r : Result Cleaned CleanError) → SettlesInWorld own i spared r w v → Rely others w v
    settled_kept w v (Ok c) s = run_kept s.1
    settled_kept w v (Err e) s = run_kept s.1

-- ---- of a journal

module _ {L : Type 0} (contents : L → Option Contents) (i : ℕ) (spared : List ℕ) where
  abbrev OwedJournal : JournalState L → Letter → JournalState L → Type 0
  OwedJournal = GivesOwed i spared (λ j. j.world) (IsJournalAccess contents)

  abbrev OwedWorld : (own : ℕ → Bool) → World → Letter → World → Type 0
  OwedWorld own = GivesOwed i spared (λ w. w) (IsFallibleUnder own)

  run_nodes : {a b : JournalState L} {word : List Letter} → Run OwedJournal a word b → b.nodes ≡ a.nodes
  run_nodes done = refl
  run_nodes (next x r) = run_nodes r ∙ access_nodes x.access

  run_lives : {a b c : JournalState L} {word : List Letter} → Lives contents a b → Run OwedJournal b word c → Lives contents a c
  run_lives so_far done = so_far
  run_lives so_far (next {letter = l} x r) = run_lives (accesses l so_far x.access) r

  run_in_world : {a b : JournalState L} {word : List Letter} → Run OwedJournal a word b → Run (OwedWorld (is_own a.nodes)) a.world word b.world
  run_in_world done = done
  run_in_world {b = b} (next {mid = mid} {word = word} x r) =
      next (record { held = x.held; owes = x.owes; gives = x.gives; access = access_under x.access })
      (subst (λ xs. Run (OwedWorld (is_own xs)) mid.world word b.world) (access_nodes x.access) (run_in_world r))

  abbrev Settles : Result Cleaned CleanError → JournalState L → JournalState L → Type 0
  Settles = SettlesBy i spared (λ j. j.world) (IsJournalAccess contents)

  pub settled_in_world : (a b : JournalState L) (r : Result Cleaned CleanError) → Settles r a b → SettlesInWorld (is_own a.nodes) i spared r a.world b.world
  settled_in_world a b (Ok c) s = (s.0, run_in_world s.1, s.2)
  settled_in_world a b (Err e) s = (s.0, run_in_world s.1, s.2)

  pub settled_nodes : (a b : JournalState L) (r : Result Cleaned CleanError) → Settles r a b → b.nodes ≡ a.nodes
  settled_nodes a b (Ok c) s = run_nodes s.1
  settled_nodes a b (Err e) s = run_nodes s.1

  pub settled_lives : (a b : JournalState L) (r : Result Cleaned CleanError) → Settles r a b → Lives contents a b
  settled_lives a b (Ok c) s = run_lives begun s.1
  settled_lives a b (Err e) s = run_lives begun s.1
