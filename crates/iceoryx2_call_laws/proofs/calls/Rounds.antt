-- What the rounds of a refused open or create leave.
use Rattle.std.proofs.Common.{ℕ, true, inl, List, Option, Some, None, Ok, Err, refl, ◌≡◌, Bool}
use Rattle.iceoryx2_description.specs.declared.description.ServiceHash.{ServiceHash}
use Rattle.iceoryx2_access.specs.Letter.{Letter}
use Rattle.iceoryx2_access.specs.Letter as letter
use Rattle.iceoryx2_access.specs.Run.{Run, Each, done, next}
use Rattle.iceoryx2_access.proofs.Run.{both, split, each_append}
use Rattle.iceoryx2_world.specs.World.{World}
use Rattle.iceoryx2_world.specs.Agreement.{Agrees}
use Rattle.iceoryx2_world.specs.ServiceAgreement.{IsSpent}
use Rattle.iceoryx2_world.specs.Interference.{IsAccessUnder, IsFallibleUnder}
use Rattle.iceoryx2_world.proofs.agreement.Interference.{tickets_refl, tickets_trans, tags_trans, spent_access}
use Rattle.iceoryx2_world.proofs.agreement.Accesses.{faulty_keeps, run_keeps, unrefused_run}
use Rattle.iceoryx2_world.proofs.agreement.Stands.{each_map}
use Rattle.iceoryx2_rounds.specs.GivesBack.{Owned, OwnSegment}
use Rattle.iceoryx2_rounds.specs.Fronts.{number_got, is_left}
use Rattle.iceoryx2_rounds.specs.Leaves as rounds
use Rattle.iceoryx2_rounds.specs.Leaves.{GivesBackByRounds}
use Rattle.iceoryx2_call_laws.specs.Leaves.{IsGranted, LeavesByRounds, LeavesNothing, SpendsNumber, StaysAway, no_round, one_more}
use Rattle.iceoryx2_call_laws.proofs.calls.Left.{gone_later, gives_back, gives_all_back, stays_away}
use Rattle.iceoryx2_call_laws.proofs.calls.Plain.{read_both}

-- a number that is spent stays so
spent_run : {own : ℕ → Bool} {w v : World} {word : List Letter} (h : ServiceHash) (n : ℕ) → Run (IsFallibleUnder own) w word v → Agrees w → IsSpent w h n → IsSpent v h n
spent_run h n done old is = is
spent_run {w = w} h n (next {mid = u} {letter = l} s rest) old is = spent_run h n rest (faulty_keeps w l u s old).0 (spent_access w l u h n s old is)

spends_on : {own : ℕ → Bool} {w v : World} {word : List Letter} (h : ServiceHash) → Run (IsFallibleUnder own) w word v → Agrees w → (l : Letter) → SpendsNumber h w l → SpendsNumber h v l
spends_on h run old (letter.Lock i g (Ok n)) is = spent_run h n run old is
spends_on h run old (letter.Lock i g (Err e)) is = tt
spends_on h run old _ is = tt

module _ (own : ℕ → Bool) (node : ℕ) (mine : own node ≡ true) (hash : ServiceHash) where
  -- what was given back of a lock stays away
  away_on : (got : Option ℕ) (left : Owned → Bool) {w v : World} {word : List Letter} → Run (IsFallibleUnder own) w word v → Agrees w → StaysAway node hash got left w → StaysAway node hash got left v
  away_on None left run old is = tt
  away_on (Some n) left run old is = λ e. gone_later node hash n (left OwnSegment) (run_keeps run old).1 (spent_run hash n run old) (is e)

  leaves_before : {word rest : List Letter} {w v end : World} → GivesBackByRounds node hash word → Run (IsFallibleUnder own) w word v → Run (IsFallibleUnder own) v rest end → Agrees w → LeavesByRounds node hash own w end word v
  leaves_before rounds.no_round done more old = no_round
  leaves_before (rounds.one_more {u = x} {v = y} before g) run more old =
      let parts = split x y run in
      let mid = (run_keeps parts.first old).0 in
      one_more (leaves_before before parts.first (both parts.second more) old) parts.second g (gives_back own node mine hash g parts.second mid)
      (away_on (number_got y) (is_left g.back) more (run_keeps run old).0 (stays_away own node mine hash g parts.second mid))

  pub leaves_by_rounds : {word : List Letter} {w v : World} → GivesBackByRounds node hash word → Run (IsFallibleUnder own) w word v → Agrees w → LeavesByRounds node hash own w v word v
  leaves_by_rounds back run old = leaves_before back run done old

  -- Where nothing is refused by a fault, each removal is granted, and nothing stays.
  pub rounds_give_back : {word : List Letter} {w v : World} → GivesBackByRounds node hash word → Run (IsAccessUnder own) w word v → Agrees w → Each IsGranted word × LeavesNothing node hash own word w v
  rounds_give_back {w = w} rounds.no_round done old = (tt, record { tickets = tickets_refl own w.tickets; tags = λ i h is. refl; phase = inl refl; numbers = tt })
  rounds_give_back {w = w} {v = v} (rounds.one_more {u = x} {v = y} before g) run old =
      let parts = split x y run in
      let mid = (run_keeps (unrefused_run parts.first) old).0 in
      let first = rounds_give_back before parts.first old in
      let second = gives_all_back own node mine hash g parts.second mid in (
        each_append IsGranted x y first.0 second.0,
        record {
          tickets = tickets_trans own w.tickets parts.mid.tickets v.tickets first.1.tickets second.1.tickets;
          tags = tags_trans own w.tags parts.mid.tags v.tags first.1.tags second.1.tags;
          phase = read_both first.1.phase second.1.phase;
          numbers = each_append (SpendsNumber hash v) x y (each_map (SpendsNumber hash parts.mid) (SpendsNumber hash v) (spends_on hash (unrefused_run parts.second) mid) x first.1.numbers) second.1.numbers;
        },
      )
