use Rattle.std.proofs.Common.{◌≡◌, ◌+◌, ◌∙◌, Err, ap, subst, inl, inr, ℕ, List, length}
use Rattle.iceoryx2_postgres_log.specs.declared.standing.Standing.{Standing}
use Rattle.iceoryx2_postgres_log.specs.Compacting.{GoesOn}
use Rattle.iceoryx2_postgres_log.specs.declared.fault.PostgresFault.TheVariants as fault
use Rattle.iceoryx2_postgres_log.proofs.Undone.{ends_behind, copied_rows, undone_leaves, going_leaves}
use Rattle.iceoryx2_postgres_log.proofs.compacting.ask_compact.Goals as goal

-- behind so many entries of a generation
abbrev behind : (log generation count : ℕ) → (place : List ℕ) → Standing
behind log generation count place = record {
  log = log;
  generation = generation;
  counter = 0;
  snapshot = count;
  number = count;
  place = place;
}

pub returns-in-Ok-ask_go_on-clause-ok : goal.returns-in-Ok-ask_go_on-clause-ok
returns-in-Ok-ask_go_on-clause-ok g c =
    let at = c.args.at.now in
    let count : ℕ = length c.args.entries.now in
    let later : c.in-Some.later ≡ at.generation + 1 = c.in-Some.ensures.1 in
    record {
      between = g.W.Write.contents c.copied.new.questions;
      heard = g.R.Read.remaining c.copied.new.replies;
      last = c.in-Ok.last;
      copied = c.in-Ok.ensures.ok;
      all = c.if-last-count.false;
      goes_on = subst (λ (n : ℕ). GoesOn at.log n count (g.W.Write.contents c.copied.new.questions)
          (g.W.Write.contents c.ask_go_on.new.questions) (g.R.Read.remaining c.copied.new.replies)
          (g.R.Read.remaining c.ask_go_on.new.replies)) later c.in-Ok-ask_go_on.ensures.ok;
      is = ap (λ (n : ℕ). behind at.log n count c.into_place.result) later
          ∙ ap (λ (p : List ℕ). behind at.log (at.generation + 1) count p) c.into_place.ensures;
    }

pub returns-in-Err-clause-err : goal.returns-in-Err-clause-err
returns-in-Err-clause-err g c =
    undone_leaves c.args.at.now _ _ _ _ _ _ _ c.in-Err.why c.in-Err.ensures.err c.undone.ensures

pub returns-then-last-count-clause-err : goal.returns-then-last-count-clause-err
returns-then-last-count-clause-err g c =
    undone_leaves c.args.at.now _ _ _ _ _ _ _ fault.NotUnderstood (inr (inr (copied_rows _ _ _ _ _ _ _ c.in-Ok.ensures.ok)))
    c.undone-then-last-count.ensures

pub returns-in-OutOfMemory-clause-err : goal.returns-in-OutOfMemory-clause-err
returns-in-OutOfMemory-clause-err g c =
    undone_leaves c.args.at.now _ _ _ _ _ _ _ c.in-Err-ask_go_on.why
    (ends_behind _ _ _ _ _ _ _ (copied_rows _ _ _ _ _ _ _ c.in-Ok.ensures.ok)
    (inr (inl (c.in-Err-ask_go_on.ensures.memory (ap (λ e. Err e) c.in-OutOfMemory.is))))) c.undone-in-OutOfMemory.ensures

pub returns : goal.returns
returns g c = record {
  ok = tt;
  err = going_leaves c.args.at.now c.in-Some.later (length c.args.entries.now) _ _ _ _ _ _ c.in-Err-ask_go_on.why
      (copied_rows _ _ _ _ _ _ _ c.in-Ok.ensures.ok) c.in_default-why.not-OutOfMemory c.in-Some.ensures.1
      c.in-Err-ask_go_on.ensures.refused;
}
