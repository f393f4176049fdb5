use Rattle.std.proofs.Common.{◌≤◌, ◌-◌, length, map, subst, sym, ap, ◌∙◌, length-drop, arith}
use Rattle.std.proofs.lemmas.List.{length-map}
use Rattle.iceoryx2_access.proofs.Run.{run_map}
use Rattle.iceoryx2_testing.specs.Entries.{entry_of}
use Rattle.iceoryx2_testing.proofs.TraceRuns.{from_none, latest_entries, latest_all, bound, same_room, total}
use Rattle.iceoryx2_testing.proofs.laws.traces.Goals as goal

pub returns-clause-inside : goal.returns-clause-inside
returns-clause-inside g c = λ a b word run. run_map (λ s. s.inner) (λ s t l h. h.inside) run

pub returns-clause-last : goal.returns-clause-last
returns-clause-last g c = λ a b word. from_none

pub returns-clause-whole : goal.returns-clause-whole
returns-clause-whole g c = λ a b word run none fits.
    from_none run none ∙ latest_all a.room (map entry_of word) (subst (λ n. n ≤ a.room) (sym (length-map word entry_of)) fits)

pub returns-clause-entries : goal.returns-clause-entries
returns-clause-entries g c = λ a b word. latest_entries

pub returns-clause-bound : goal.returns-clause-bound
returns-clause-bound g c = λ a b word. bound

pub returns-clause-room : goal.returns-clause-room
returns-clause-room g c = λ a b word. same_room

pub returns-clause-total : goal.returns-clause-total
returns-clause-total g c = λ a b word. total

pub returns-clause-forgotten : goal.returns-clause-forgotten
returns-clause-forgotten g c = λ a b word run new few.
    let all = total run (omega (arith, new.uncounted)) in
    let kept = ap length (from_none run new.empty) in
    let dropped = length-drop (length (map entry_of word) - a.room) (map entry_of word) in
    let same = length-map word entry_of in
    omega (arith, few, new.uncounted, all, kept, dropped, same)
