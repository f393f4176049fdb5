use Rattle.std.proofs.Common.{Option, Ok, Err, refl, sym, ap, inr, subst, ◌∙◌}
use Rattle.iceoryx2_log.specs.declared.entry.Entry.{Entry}
use Rattle.iceoryx2_log.specs.declared.log.LogError.{LogError}
use Rattle.iceoryx2_log.specs.Log.{is_shown}
use Rattle.iceoryx2_journal.specs.Taking.{unread, starved, own, disagrees}
use Rattle.iceoryx2_journal.specs.Follow.{Follows}
use Rattle.iceoryx2_journal.proofs.Logs.{none_shown, next_shown, next_taken}
use Rattle.iceoryx2_journal.proofs.taking.take_next.Goals as goal

pub returns-in-Err-clause-takes : goal.returns-in-Err-clause-takes
returns-in-Err-clause-takes g c = (unread c.stop_for.ensures refl, c.in-Err.ensures.same)

pub returns-in_default-clause-takes : goal.returns-in_default-clause-takes
returns-in_default-clause-takes g c =
    (refl, c.in-Ok.ensures.same, none_shown _ _ _ c.in_default.is c.in-Ok.ensures.same c.in-Ok.ensures.shows)

pub returns-then-has-clause-takes : goal.returns-then-has-clause-takes
returns-then-has-clause-takes g c =
    let n = next_shown c.in-Some.entry _ _ _ c.in-Some.is c.in-Ok.ensures.same c.in-Ok.ensures.shows in
    (own c.in-Some.entry refl n (sym c.has.ensures ∙ c.if-has.true) refl, c.in-Ok.ensures.same)

pub returns-in-Ok-follow-clause-takes : goal.returns-in-Ok-follow-clause-takes
returns-in-Ok-follow-clause-takes g c =
    let n = next_shown c.in-Some.entry _ _ _ c.in-Some.is c.in-Ok.ensures.same c.in-Ok.ensures.shows in
    let shown = c.in-Ok.ensures.shown ∙ ap (λ (o : Option Entry). is_shown {E = LogError} (Ok o)) c.in-Some.is in
    record {
      entry = c.in-Some.entry;
      of_other = sym c.has.ensures ∙ c.if-has.false;
      followed = c.in-Ok-follow.ensures;
      taken = next_taken c.in-Some.entry _ _ _ n c.in-Ok.ensures.same (c.accept.ensures.shown shown);
    }

pub returns-in-OutOfMemory-clause-takes : goal.returns-in-OutOfMemory-clause-takes
returns-in-OutOfMemory-clause-takes g c =
    let e = c.in-Some.entry in
    let n = next_shown c.in-Some.entry _ _ _ c.in-Some.is c.in-Ok.ensures.same c.in-Ok.ensures.shows in
    let f = subst (λ x. Follows e (Err x) c.args.world.now c.follow.new.world) c.in-OutOfMemory.is c.in-Err-follow.ensures in
    (starved e refl n (sym c.has.ensures ∙ c.if-has.false) f, c.in-Ok.ensures.same)

pub returns-clause-takes : goal.returns-clause-takes
returns-clause-takes g c =
    let e = c.in-Some.entry in
    let n = next_shown c.in-Some.entry _ _ _ c.in-Some.is c.in-Ok.ensures.same c.in-Ok.ensures.shows in
    let f = subst (λ x. Follows e (Err x) c.args.world.now c.follow.new.world) c.in-Disagrees.is c.in-Err-follow.ensures in
    (disagrees e refl n (sym c.has.ensures ∙ c.if-has.false) f, c.in-Ok.ensures.same)

pub returns-in-OutOfMemory-clause-later : goal.returns-in-OutOfMemory-clause-later
returns-in-OutOfMemory-clause-later g c =
    let e = c.in-Some.entry in
    let n = next_shown c.in-Some.entry _ _ _ c.in-Some.is c.in-Ok.ensures.same c.in-Ok.ensures.shows in
    let f = subst (λ x. Follows e (Err x) c.args.world.now c.follow.new.world) c.in-OutOfMemory.is c.in-Err-follow.ensures in
    λ _. inr (e, n, sym c.has.ensures ∙ c.if-has.false, f)
