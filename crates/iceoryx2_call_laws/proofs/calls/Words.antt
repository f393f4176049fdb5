-- What the accesses of a call have in common.
use Rattle.std.proofs.Common.{◌≡◌, ◌≢◌, ℕ, Bool, true, List, [], ◌∷◌, Ok, Err, refl, sym, arith}
use Rattle.iceoryx2_world.specs.World.{World}
use Rattle.iceoryx2_access.specs.Letter.{Letter}
use Rattle.iceoryx2_access.specs.Letter as letter
use Rattle.iceoryx2_world.specs.Agreement.{Agrees}
use Rattle.iceoryx2_world.specs.Interference.{IsFallibleUnder}
use Rattle.iceoryx2_access.specs.Registered.{Registered}
use Rattle.iceoryx2_world.specs.Standing.{Stands, Spares}
use Rattle.iceoryx2_access.specs.Run.{Each}
use Rattle.iceoryx2_world.proofs.agreement.Accesses.{faulty_keeps}
use Rattle.iceoryx2_world.proofs.agreement.Stands.{faulty_stands, each_map}
use Rattle.iceoryx2_errors.specs.declared.error.CloseError.TheVariants.{NotHere}
use Rattle.iceoryx2_rounds.specs.Closes.{IsCloseWord, not_here, still_counted, left, last}
use Rattle.iceoryx2_rounds.proofs.HandedBack.{removed_here}
use Rattle.iceoryx2_call_laws.specs.Calls.{Throughout}
use Rattle.iceoryx2_call_laws.specs.Laws.{CloseIsShort, CloseSpares, HandsBackItsOwn}
use Rattle.iceoryx2_call_laws.specs.Tickets.{CloseAnswer}

-- What holds of each world that agrees and where an own node's factory stands holds throughout a word that spares it.
pub throughout : (own : ℕ → Bool) (f : Registered) (P : World → Type 0) → ((v : World) → Agrees v → Stands v f → P v) → (w : World) (word : List Letter) → own f.node ≡ true → Each (Spares f) word → Agrees w → Stands w f
    → Throughout (IsFallibleUnder own) P w word
throughout own f P holds w [] mine each old s = holds w old s
throughout own f P holds w (l ∷ word) mine each old s = (holds w old s, λ v a. throughout own f P holds v word mine each.1 (faulty_keeps w l v a old).0 (faulty_stands w l v f mine a each.0 old s))

-- no access of a create or an open releases a ticket
abbrev pub IsNoRelease : Letter → Type 0
IsNoRelease (letter.Release t i h n a) = ⊥
IsNoRelease _ = Unit {0}

pub spared : (f : Registered) (l : Letter) → IsNoRelease l → Spares f l
spared f (letter.Release t i h n a) o = absurd o
spared f _ o = tt

pub all_spared : (f : Registered) (word : List Letter) → Each IsNoRelease word → Each (Spares f) word
all_spared f word each = each_map IsNoRelease (Spares f) (spared f) word each

-- a close releases its own ticket alone,
spares_others : {r : Registered} {word : List Letter} {answer : CloseAnswer} (f : Registered) → f.ticket ≢ r.ticket → IsCloseWord r word answer → Each (Spares f) word
spares_others f apart not_here = (tt, tt)
spares_others f apart still_counted = (λ e _ _ _. apart (sym e), tt)
spares_others f apart (left tag) = (λ e _ _ _. apart (sym e), (tt, tt))
spares_others f apart (last tag segment description) = (λ e _ _ _. apart (sym e), (tt, (tt, (tt, tt))))

pub close_spares : (own : ℕ → Bool) → CloseSpares (IsFallibleUnder own) (λ u. u) own
close_spares own r word answer w f mine is old apart s = throughout own f (λ v. Stands v f) (λ v new at. at) w word mine (spares_others f apart is) old s

-- and none where it is not there
spares_its_own : {r : Registered} {word : List Letter} {answer : CloseAnswer} (s : Registered) → answer ≡ Err (NotHere s) → IsCloseWord r word answer → (s ≡ r) × Each (Spares r) word
spares_its_own s e not_here = (cc, (tt, tt))
spares_its_own s e still_counted = absurd (cc)
spares_its_own s e (left tag) = absurd (removed_here s tag (Ok tt) (Ok tt) e)
spares_its_own s e (last tag segment description) = absurd (removed_here s tag segment description e)

pub hands_back_its_own : (own : ℕ → Bool) → HandsBackItsOwn (IsFallibleUnder own) (λ u. u) own
hands_back_its_own own r s word w mine is old = let m = spares_its_own s refl is in (m.0, λ stood. throughout own r (λ v. Stands v r) (λ v new at. at) w word mine m.1 old stood)

-- A close is short.
pub close_is_short : CloseIsShort
close_is_short r word answer not_here = record { few_accesses = omega arith; few_looks = omega arith; few_openings = omega arith; few_makings = omega arith; few_removals = omega arith }
close_is_short r word answer still_counted = record { few_accesses = omega arith; few_looks = omega arith; few_openings = omega arith; few_makings = omega arith; few_removals = omega arith }
close_is_short r word answer (left tag) = record { few_accesses = omega arith; few_looks = omega arith; few_openings = omega arith; few_makings = omega arith; few_removals = omega arith }
close_is_short r word answer (last tag segment description) = record { few_accesses = omega arith; few_looks = omega arith; few_openings = omega arith; few_makings = omega arith; few_removals = omega arith }
