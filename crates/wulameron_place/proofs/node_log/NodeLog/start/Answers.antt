use Rattle.std.proofs.Common.{◌≡◌, ℕ, Bool, true, false, List, Option, Some, None, rules, sym, ap, subst, ◌∙◌}
use Rattle.iceoryx2_journal.specs.Journal.{JournalState}
use Rattle.iceoryx2_journal.specs.Replay.{Lives}
use Rattle.iceoryx2_world.specs.Agreement.{Agrees}
use Rattle.iceoryx2_world.specs.World.{empty_world}
use Rattle.iceoryx2_world.proofs.agreement.Empty.{empty_agrees}
use Rattle.wulameron_place.specs.declared.halt.Halt.TheVariants as halt
use Rattle.wulameron_place.specs.declared.trouble.Trouble.{Trouble}
use Rattle.wulameron_place.specs.Starting.{HaltsBy}
use Rattle.wulameron_place.specs.Troubles.{is_last, last_of, only_last}
use Rattle.wulameron_place.proofs.JournalLives.{lives_both}
use Rattle.wulameron_place.proofs.node_log.NodeLog.start.Goals as goal

abbrev fresh : {L : Type 0} → L → ℕ → List ℕ → JournalState L
fresh log counter nodes = record { world = empty_world counter; log = log; nodes = nodes; is_over = false; is_lost = false }

abbrev is_nothing : Option Trouble → Type 0
is_nothing None = Unit {0}
is_nothing (Some t) = ⊥

abbrev trouble_or : Trouble → Option Trouble → Trouble
trouble_or t None = t
trouble_or t (Some u) = u

last_is : (u t : Trouble) (b : Bool) → only_last u b ≡ Some t → halt.Log t ≡ halt.Log u
last_is u t true is = ap (λ (x : Trouble). halt.Log x) (sym (ap (trouble_or t) is))
last_is u t false is = absurd (subst is_nothing is tt)

-- the last trouble is what goes wrong
halts_by_last : (found : Option Trouble) (t : Trouble) → last_of found ≡ Some t → HaltsBy found (halt.Log t)
halts_by_last None t is = absurd (subst is_nothing is tt)
halts_by_last (Some u) t is = last_is u t (is_last u) is

pub returns-then-not-reads-clause-why : goal.returns-then-not-reads-clause-why
returns-then-not-reads-clause-why g c =
    let node_log = c.args.self in
    let C = g.L.Log.contents in
    let first = c.starting_at-journal.ensures ∙ ap (λ (ns : List ℕ). fresh node_log.log node_log.counter ns) c.new.ensures.items in
    let read : JournalState g.row.L.Denot = c.reads.new.journal in
    let looked : Lives C c.starting_at-journal.result read = c.reads.ensures.lives in
    record { journal = read; lives = subst (λ (j : JournalState g.row.L.Denot). Lives C j read) first looked; why = c.halt_at.ensures.why }

pub returns-then-not-adopt-clause-why : goal.returns-then-not-adopt-clause-why
returns-then-not-adopt-clause-why g c =
    let node_log = c.args.self in
    let C = g.L.Log.contents in
    let first = c.starting_at-journal.ensures ∙ ap (λ (ns : List ℕ). fresh node_log.log node_log.counter ns) c.new.ensures.items in
    let read : JournalState g.row.L.Denot = c.reads.new.journal in
    let looked : Lives C c.starting_at-journal.result read = c.reads.ensures.lives in
    let journal : JournalState g.row.L.Denot = c.adopt.new.journal in
    let lives = subst (λ (j : JournalState g.row.L.Denot). Lives C j journal) first (lives_both C c.starting_at-journal.result read journal looked c.adopt.ensures.lives) in
    record { journal = journal; lives = lives; why = c.halt_at-then-not-adopt.ensures.why }

pub returns-in-Some-clause-why : goal.returns-in-Some-clause-why
returns-in-Some-clause-why g c =
    let node_log = c.args.self in
    let C = g.L.Log.contents in
    let first = c.starting_at-journal.ensures ∙ ap (λ (ns : List ℕ). fresh node_log.log node_log.counter ns) c.new.ensures.items in
    let read : JournalState g.row.L.Denot = c.reads.new.journal in
    let looked : Lives C c.starting_at-journal.result read = c.reads.ensures.lives in
    let journal : JournalState g.row.L.Denot = c.adopt.new.journal in
    let lives = subst (λ (j : JournalState g.row.L.Denot). Lives C j journal) first (lives_both C c.starting_at-journal.result read journal looked c.adopt.ensures.lives) in
    record { journal = journal; lives = lives; why = halts_by_last _ c.in-Some.trouble (sym c.look.ensures ∙ c.in-Some.is) }

pub returns-in-None-clause-ok : goal.returns-in-None-clause-ok
returns-in-None-clause-ok g c =
    let node_log = c.args.self in
    let C = g.L.Log.contents in
    let first = c.starting_at-journal.ensures ∙ ap (λ (ns : List ℕ). fresh node_log.log node_log.counter ns) c.new.ensures.items in
    let read : JournalState g.row.L.Denot = c.reads.new.journal in
    let looked : Lives C c.starting_at-journal.result read = c.reads.ensures.lives in
    let journal : JournalState g.row.L.Denot = c.adopt.new.journal in
    let lives = subst (λ (j : JournalState g.row.L.Denot). Lives C j journal) first (lives_both C c.starting_at-journal.result read journal looked c.adopt.ensures.lives) in
    record {
      lives = lives;
      nodes = c.adopt.ensures.nodes (search rules);
      agrees = c.adopt.ensures.agrees (c.reads.ensures.agrees (subst (λ (j : JournalState g.row.L.Denot). Agrees j.world) (sym c.starting_at-journal.ensures) (empty_agrees node_log.counter)));
      usable = sym c.look.ensures ∙ c.in-None.is;
    }
