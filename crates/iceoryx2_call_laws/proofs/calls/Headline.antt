-- What every call comes to.
use Rattle.std.proofs.Common.{◌≡◌, ℕ, Bool, true, List, [], ◌∷◌, Result, Ok, Err, sym, ap, subst, ◌∙◌}
use Rattle.std.specs.Prelude.{IfOk}
use Rattle.iceoryx2_access.proofs.Run.{one, last, run_map}
use Rattle.iceoryx2_world.proofs.Waiting.{table_access, refusable_access}
use Rattle.iceoryx2_world.specs.Tables.{TableState, IsTableAccess}
use Rattle.iceoryx2_testing.specs.Faults.{FaultyState, IsInjectedFault}
use Rattle.iceoryx2_testing.proofs.ScriptRuns.{refusable}
use Rattle.iceoryx2_access.specs.Registered.{Registered}
use Rattle.iceoryx2_access.specs.Letter.{Letter}
use Rattle.iceoryx2_access.specs.MayRefuse.{MayRefuse}
use Rattle.iceoryx2_access.specs.Run.{Run, Each}
use Rattle.iceoryx2_world.specs.World.{World}
use Rattle.iceoryx2_world.specs.Access.{IsOwnPart}
use Rattle.iceoryx2_world.specs.Agreement.{Agrees}
use Rattle.iceoryx2_world.specs.Interference.{Others, After, IsFallibleUnder}
use Rattle.iceoryx2_world.proofs.agreement.Interference.{among_others}
use Rattle.iceoryx2_world.specs.Standing.{Spares, Stands}
use Rattle.iceoryx2_world.proofs.agreement.Accesses.{faulty_keeps, run_keeps, unrefused, unrefused_run}
use Rattle.iceoryx2_world.proofs.agreement.Stands.{faulty_stands, older_ticket}
use Rattle.iceoryx2_call_laws.specs.Calls.{Throughout}
use Rattle.iceoryx2_rounds.specs.BuilderCalls.{BuilderCall, ErrorBy}
use Rattle.iceoryx2_rounds.specs.CallWords.{IsWordOf}
use Rattle.iceoryx2_call_laws.specs.Laws.{RunsOverWorld, FaultyRunsOverWorld}
use Rattle.iceoryx2_call_laws.specs.Headline.{IsOpen, IsOpenSince, IsOpenUntilReleased, IsGiven, EachIsAsPromised, answered, spared, inside, same_world}
use Rattle.iceoryx2_call_laws.proofs.calls.Words.{throughout, all_spared}
use Rattle.iceoryx2_call_laws.proofs.calls.Standing.{stands_among, carry_the_same}
use Rattle.iceoryx2_call_laws.proofs.calls.AnyCalls.{IsOfCall, each_is_short, any_letters, any_gives, any_carries}

is_open : (w : World) (f : Registered) → Agrees w → Stands w f → IsOpen w f
is_open w f old s = record { stands = s; one_description = λ g t same. (carry_the_same w g f t s same).1; among = stands_among w f old s }

open_throughout : (own : ℕ → Bool) (w : World) (word : List Letter) (f : Registered) → own f.node ≡ true → Each (Spares f) word → Agrees w → Stands w f → Throughout (IsFallibleUnder own) (λ v. IsOpen v f) w word
open_throughout own w word f mine each old s = throughout own f (λ v. IsOpen v f) (λ v new at. is_open v f new at) w word mine each old s

-- over a storage whose accesses are accesses of its world under interference
module _ (own : ℕ → Bool) {S : Type 0} (step : S → Letter → S → Type 0) (world : S → World) (of_world : (s t : S) (l : Letter) → step s l t → IsFallibleUnder own (world s) l (world t)) where
  pub along : (P : World → Type 0) (s : S) (word : List Letter) → Throughout (IsFallibleUnder own) P (world s) word → Throughout step (λ u. P (world u)) s word
  along P s [] p = p
  along P s (l ∷ word) p = (p.0, λ u a. along P u word (p.1 (world u) (of_world s u l a)))

  module _ {D E C : Type 0} (c : BuilderCall D E C) (mine : own c.caller.node ≡ true) where
    gives : (s t : S) (word : List Letter) (answer : Result Registered (ErrorBy E C c.way)) → IsWordOf c word answer → Run (IsFallibleUnder own) (world s) word (world t) → Agrees (world s) → IfOk answer (IsGiven step world c s t)
    gives s t word (Err e) is run old = tt
    gives s t word (Ok r) is run old =
        let of = any_carries c c.way word r is in
        let g = any_gives c c.way word r is (world s) (world t) run old in
        record {
          node = of.node;
          hash = of.hash;
          carries = of.carries;
          ticket = g.ticket;
          new_ticket = λ f stood. older_ticket (world s) f r.ticket old stood g.ticket;
          stays_open = λ more spares. along (λ u. IsOpen u r) t more (open_throughout own (world t) more r (ap own of.node ∙ mine) spares (run_keeps run old).0 g.stands);
        }

    pub as_promised : EachIsAsPromised step world c own
    as_promised word answer s t is run old =
        let worlds : Run (IsFallibleUnder own) (world s) word (world t) = run_map world of_world run in
        record {
          counts = each_is_short c c.way word answer is;
          stay_open = λ f own_node stood. along (λ u. IsOpen u f) s word (open_throughout own (world s) word f own_node (all_spared f word (any_letters c c.way word answer is)) old stood);
          given = gives s t word answer is worlds old;
          agrees = (run_keeps worlds old).0;
        }

-- Every open factory stands.
module _ (own : ℕ → Bool) {S : Type 0} (step : S → Letter → S → Type 0) (world : S → World) (of_world : (s t : S) (l : Letter) → step s l t → IsFallibleUnder own (world s) l (world t)) {D E C : Type 0} (c : BuilderCall D E C) (mine : own c.caller.node ≡ true) where
  record StillOpen (f : Registered) (s : S) : Type 0 where
    pub agrees : Agrees (world s)
    pub stands : Stands (world s) f
    pub of : IsOfCall c c.way f

  goes_on : {f : Registered} (l : Letter) (s t : S) → Spares f l → IsFallibleUnder own (world s) l (world t) → StillOpen f s → StillOpen f t
  goes_on {f} l s t spares a o = record {
    agrees = (faulty_keeps {own = own} (world s) l (world t) a o.agrees).0;
    stands = faulty_stands {own = own} (world s) l (world t) f (ap own o.of.node ∙ mine) a spares o.agrees o.stands;
    of = o.of;
  }

  still_open : {f : Registered} {s : S} → IsOpenSince step world c own f s → StillOpen f s
  still_open {f} (answered {word = word} {s = s} {t = t} old is run) =
      let worlds : Run (IsFallibleUnder own) (world s) word (world t) = run_map world of_world run in
      record { agrees = (run_keeps worlds old).0; stands = (any_gives c c.way word f is (world s) (world t) worlds old).stands; of = any_carries c c.way word f is }
  still_open (spared {letter = l} {s = s} {t = t} before spares a) = goes_on l s t spares (of_world s t l a) (still_open before)
  still_open (inside {letter = l} {s = s} {t = t} before spares a) = goes_on l s t spares a (still_open before)
  still_open {f} (same_world before e) = let o = still_open before in record { agrees = subst Agrees (sym e) o.agrees; stands = subst (λ u. Stands u f) (sym e) o.stands; of = o.of }

  pub open_until_released : IsOpenUntilReleased step world c own
  open_until_released f s is = let o = still_open is in record { is_open = is_open (world s) f o.agrees o.stands; node = o.of.node; hash = o.of.hash; carries = o.of.carries }

-- a table's accesses, and those of a faulty storage with a table inside
pub of_table : (own : ℕ → Bool) (s t : TableState) (l : Letter) → IsTableAccess s l t → IsFallibleUnder own s.world l t.world
of_table own s t l a = unrefused (among_others own s.world l t.world (table_access s t l a))

pub runs_over_world : RunsOverWorld
runs_over_world own s t word run =
    let accesses = run_map (λ u. u.world) (λ s t l a. among_others own s.world l t.world (table_access s t l a)) run in
    (accesses, unrefused_run accesses)

faulty_access : (own : ℕ → Bool) (s t : FaultyState TableState) (l : Letter) → IsInjectedFault IsTableAccess s l t → After (Others own) (MayRefuse IsOwnPart) s.inner.world l t.inner.world
faulty_access own s t l a = refusable_access s.inner t.inner l (last (refusable (one a)))

pub of_faulty_table : (own : ℕ → Bool) (s t : FaultyState TableState) (l : Letter) → IsInjectedFault IsTableAccess s l t → IsFallibleUnder own s.inner.world l t.inner.world
of_faulty_table own s t l a = among_others own s.inner.world l t.inner.world (faulty_access own s t l a)

pub faulty_runs_over_world : FaultyRunsOverWorld
faulty_runs_over_world own s t word run = (run_map (λ u. u.inner.world) (faulty_access own) run, run_map (λ u. u.inner.world) (of_faulty_table own) run)
