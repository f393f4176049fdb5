-- A close of a factory that stands.
use Rattle.std.proofs.Common.{◌≡◌, ℕ, List, Result, Ok, refl, sym, subst, ◌∙◌, Bool, true}
use Rattle.iceoryx2_access.specs.declared.storage.RemoveError.{RemoveError}
use Rattle.iceoryx2_world.specs.World.{World}
use Rattle.iceoryx2_access.specs.Letter.{Letter}
use Rattle.iceoryx2_access.specs.Letter as letter
use Rattle.iceoryx2_access.specs.Run.{Run}
use Rattle.iceoryx2_world.specs.Agreement.{Agrees}
use Rattle.iceoryx2_world.specs.Interference.{IsAccessUnder}
use Rattle.iceoryx2_world.specs.Standing.{Stands}
use Rattle.iceoryx2_access.proofs.Run.{head, last}
use Rattle.iceoryx2_world.proofs.agreement.Granted.{release_granted, MayClear, MayEnd}
use Rattle.iceoryx2_world.proofs.agreement.Accesses.{access_keeps, unrefused, unrefused_run}
use Rattle.iceoryx2_world.proofs.agreement.Closing.{released_last, tag_removed_phase, segment_removed_phase}
use Rattle.iceoryx2_access.specs.Registered.{Registered}
use Rattle.iceoryx2_rounds.specs.Closes.{IsCloseWord, first_refused, not_here, still_counted, left, last as last_left}
use Rattle.iceoryx2_call_laws.specs.Laws.{ClosesWhatStands}
use Rattle.iceoryx2_call_laws.specs.Tickets.{CloseAnswer}
use Rattle.iceoryx2_call_laws.proofs.calls.Removals.{tag_ok, segment_ok, description_ok}
use Rattle.iceoryx2_call_laws.proofs.calls.Tickets.{takes_ticket_out, no_refusal}

all_ok : {tag segment description : Result (Unit {0}) RemoveError} → tag ≡ Ok tt → segment ≡ Ok tt → description ≡ Ok tt → first_refused {F = Registered} tag segment description ≡ Ok tt
all_ok a b c = λ i. first_refused {F = Registered} (a i) (b i) (c i)

-- The table closes what stands.
close_ok : {own : ℕ → Bool} {r : Registered} {word : List Letter} {answer : CloseAnswer} {w v : World} → own r.node ≡ true → IsCloseWord r word answer → Run (IsAccessUnder own) w word v → Agrees w → Stands w r → answer ≡ Ok tt
close_ok {r = r} {w = w} {v = v} mine not_here run old s = absurd (release_granted w v r _ mine old s (last run))
close_ok mine still_counted run old s = refl
close_ok {r = r} {v = v} mine (left tag) run old s =
    let first = head run in
    all_ok (tag_ok first.mid v r.node r.description.hash tag (last first.rest)) refl refl
close_ok {own} {r = r} {w = w} {v = v} mine (last_left tag segment description) run old s =
    let i = r.node in
    let h = r.description.hash in
    let first = head run in
    let second = head first.rest in
    let third = head second.rest in
    let old_1 = (access_keeps w _ first.mid first.first old).0 in
    let old_2 = (access_keeps first.mid _ second.mid second.first old_1).0 in
    let old_3 = (access_keeps second.mid _ third.mid third.first old_2).0 in
    let leaving = released_last first.first.between first.mid r.ticket i h r.number first.first.part in
    let tagged = tag_removed_phase {own = own} first.mid second.mid i h tag mine old_1 (unrefused second.first) ∙ leaving.1 in
    let cleared = segment_ok second.mid third.mid i h segment mine old_2 (subst MayClear (sym tagged) tt) third.first in
    let phase = segment_removed_phase {own = own} second.mid third.mid i h leaving.0 tt mine old_2 tagged (unrefused (subst (λ a. IsAccessUnder own second.mid (letter.RemoveSegment i h a) third.mid) cleared third.first)) in
    all_ok (tag_ok first.mid second.mid i h tag second.first) cleared (description_ok third.mid v i h description mine old_3 (subst MayEnd (sym phase) tt) (last third.rest))

pub closes_what_stands : (own : ℕ → Bool) → ClosesWhatStands own
closes_what_stands own r word answer w v mine is run old stands =
    let ok = close_ok mine is run old stands in
    (ok, takes_ticket_out own r word answer w v is (no_refusal ok) (unrefused_run run) old)
