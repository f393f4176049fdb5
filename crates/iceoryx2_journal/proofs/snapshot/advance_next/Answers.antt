use Rattle.std.proofs.Common.{refl, sym, subst, Err, ◌∙◌}
use Rattle.iceoryx2_journal.specs.Taking.{starved, disagrees}
use Rattle.iceoryx2_journal.specs.Follow.{Follows}
use Rattle.iceoryx2_journal.proofs.snapshot.advance_next.Goals as goal

pub returns-in-Ok-follow : goal.returns-in-Ok-follow
returns-in-Ok-follow c = record {
  entry = c.in-Some.entry;
  of_other = sym c.has.ensures ∙ c.if-has.false;
  followed = c.in-Ok-follow.ensures;
  taken = tt;
}

pub returns-in-OutOfMemory : goal.returns-in-OutOfMemory
returns-in-OutOfMemory c =
    let e = c.in-Some.entry in
    let f = subst (λ x. Follows e (Err x) c.args.world.now c.follow.new.world) c.in-OutOfMemory.is c.in-Err.ensures in
    (starved e refl tt (sym c.has.ensures ∙ c.if-has.false) f, refl)

pub returns : goal.returns
returns c =
    let e = c.in-Some.entry in
    let f = subst (λ x. Follows e (Err x) c.args.world.now c.follow.new.world) c.in-Disagrees.is c.in-Err.ensures in
    (disagrees e refl tt (sym c.has.ensures ∙ c.if-has.false) f, refl)
