-- What calls and closes keep and leave over a storage whose accesses are accesses of its world under interference.
use Rattle.std.proofs.Common.{ℕ, Bool, List, [], ◌∷◌}
use Rattle.iceoryx2_access.proofs.Run.{run_map}
use Rattle.iceoryx2_access.specs.Letter.{Letter}
use Rattle.iceoryx2_access.specs.Run.{Run}
use Rattle.iceoryx2_world.specs.World.{World}
use Rattle.iceoryx2_world.specs.ServiceAgreement.{Later}
use Rattle.iceoryx2_world.specs.Agreement.{Agrees}
use Rattle.iceoryx2_world.specs.Interference.{IsFallibleUnder}
use Rattle.iceoryx2_world.specs.Standing.{Stands}
use Rattle.iceoryx2_world.proofs.agreement.Accesses.{faulty_keeps, run_keeps, later_refl, later_trans}
use Rattle.iceoryx2_world.proofs.agreement.Stands.{faulty_stands}
use Rattle.iceoryx2_rounds.specs.BuilderCalls.{BuilderCall}
use Rattle.iceoryx2_call_laws.specs.Calls.{Throughout}
use Rattle.iceoryx2_call_laws.specs.Laws.{KeepsAgreementAlong, AccessKeepsStanding, CallKeepsAgreement, CallKeepsStanding, LeavesWhatIsRefused, CloseKeepsAgreement, CloseSpares, HandsBackItsOwn, TakesTicketOut, CloseLeavesWhatIsRefused}
use Rattle.iceoryx2_call_laws.proofs.calls.Words.{throughout, all_spared, close_spares, hands_back_its_own}
use Rattle.iceoryx2_call_laws.proofs.calls.Tickets.{takes_ticket_out}
use Rattle.iceoryx2_call_laws.proofs.calls.CloseLeft.{close_leaves}
use Rattle.iceoryx2_call_laws.proofs.calls.AnyCalls.{any_letters}
use Rattle.iceoryx2_call_laws.proofs.calls.AnyLeft.{leaves_what_is_refused}
use Rattle.iceoryx2_call_laws.proofs.calls.Headline.{along}

-- each world that a word leads through agrees, and is later than one before it
later_throughout : (own : ℕ → Bool) (w u : World) (word : List Letter) → Agrees w → Later w u → Agrees u → Throughout (IsFallibleUnder own) (λ v. Agrees v × Later w v) u word
later_throughout own w u [] first later old = (old, later)
later_throughout own w u (l ∷ word) first later old = ((old, later), λ v a. let kept = faulty_keeps {own = own} u l v a old in later_throughout own w v word first (later_trans w u v first.everywhere later kept.1) kept.0)

module _ (own : ℕ → Bool) {S : Type 0} (step : S → Letter → S → Type 0) (world : S → World) (of_world : (s t : S) (l : Letter) → step s l t → IsFallibleUnder own (world s) l (world t)) where
  keeps_agreement : (s t : S) (word : List Letter) → Run step s word t → Agrees (world s) → KeepsAgreementAlong step world s word t
  keeps_agreement s t word run old =
      let kept = run_keeps {own = own} (run_map world of_world run) old in
      record {
        agrees = kept.0;
        later = kept.1;
        after_each = along own step world of_world (λ v. Agrees v × Later (world s) v) s word (later_throughout own (world s) (world s) word old (later_refl (world s)) old);
      }

  pub access_keeps_standing : AccessKeepsStanding step world own
  access_keeps_standing l s t f mine a spares old stands = faulty_stands {own = own} (world s) l (world t) f mine (of_world s t l a) spares old stands

  -- ---- a call

  module _ {D E C : Type 0} (c : BuilderCall D E C) where
    pub call_keeps_agreement : CallKeepsAgreement step world c
    call_keeps_agreement word answer s t is run old = keeps_agreement s t word run old

    pub call_keeps_standing : CallKeepsStanding step world c own
    call_keeps_standing word answer s f mine is old stands = along own step world of_world (λ v. Stands v f) s word (throughout own f (λ v. Stands v f) (λ v new at. at) (world s) word mine (all_spared f word (any_letters c c.way word answer is)) old stands)

    pub call_leaves_what_is_refused : LeavesWhatIsRefused step world c own c.way
    call_leaves_what_is_refused word refusal s t mine is run old = leaves_what_is_refused own c c.way word refusal (world s) (world t) mine is (run_map world of_world run) old

  -- ---- a close

  pub close_keeps_agreement : CloseKeepsAgreement step world
  close_keeps_agreement r word answer s t is run old = keeps_agreement s t word run old

  pub close_keeps_standing : CloseSpares step world own
  close_keeps_standing r word answer s f mine is old apart stands = along own step world of_world (λ v. Stands v f) s word (close_spares own r word answer (world s) f mine is old apart stands)

  pub close_hands_back : HandsBackItsOwn step world own
  close_hands_back r back word s mine is old = let own_one = hands_back_its_own own r back word (world s) mine is old in (own_one.0, λ stood. along own step world of_world (λ v. Stands v r) s word (own_one.1 stood))

  pub close_takes_ticket_out : TakesTicketOut step world own
  close_takes_ticket_out r word answer s t is here run old = takes_ticket_out own r word answer (world s) (world t) is here (run_map world of_world run) old

  pub close_leaves_what_is_refused : CloseLeavesWhatIsRefused step world own
  close_leaves_what_is_refused r word answer s t mine is here run old = close_leaves own r word answer (world s) (world t) mine is here (run_map world of_world run) old
