use Rattle.std.proofs.Common.{◌≡◌, ℕ, List, [], ◌∷◌, ◌++◌, length, refl, sym, ap, subst, ◌∙◌, append_assoc, append-nil, arith}
use Rattle.std.specs.Vec.Iter.{into_iter_items}
use Rattle.iceoryx2_builder.specs.declared.command.Command.{Command}
use Rattle.iceoryx2_builder.specs.declared.command.Reply.{Reply}
use Rattle.iceoryx2_session.specs.SessionStates.{own_state}
use Rattle.iceoryx2_session.specs.CommandLists.{CarriesOut, none}
use Rattle.iceoryx2_session.proofs.CommandLists.{one_more, all_agree_in_world, all_own_in_world, all_stand_in_world}
use Rattle.iceoryx2_session.proofs.Shown.{all_in_world}
use Rattle.iceoryx2_session.proofs.session.Session.run_shared.Goals as goal

nothing_left : {X : Type 0} (l : List X) → length l ≡ 0 → l ≡ []
nothing_left [] h = refl
nothing_left (x ∷ xs) h = absurd (omega arith)

-- what was carried out of commands of which none is left is all of them
whole : {S : Type 0} (step : S → Command → Reply → S → Type 0) (old new : S) (commands yielded left : List Command) (replies : List Reply)
    → CarriesOut step old yielded replies new → yielded ++ left ≡ commands → left ≡ [] → CarriesOut step old commands replies new
whole step old new commands yielded left replies run in_order empty =
    subst (λ (l : List Command). CarriesOut step old l replies new) (sym (append-nil yielded) ∙ ap (λ (l : List Command). yielded ++ l) (sym empty) ∙ in_order) run

pub loop-command-init : goal.loop-command-init
loop-command-init g c =
    let taken = c.into_iter-command-iterator.ensures.into_iter_gives in
    let long = ap (λ (l : List Command). length l) taken.0 in
    let items = c.args.commands.ok in
    let asked = c.len.ensures in
    let empty = c.in_ok-replies.ensures.len in
    let room = c.in_ok-replies.ensures.capacity in
    record {
      so_far = rw c.in_ok-replies.ensures.items none;
      in_order = refl;
      left = omega (arith, taken.1, long, items.0);
      room = omega (arith, taken.1, asked, empty, room);
    }

pub loop-command-preserved : goal.loop-command-preserved
loop-command-preserved g c =
    let at = c.loop-command in
    let x = c.in-Some.command in
    let steps : into_iter_items at.command-iterator ≡ x ∷ into_iter_items c.next.new.self = c.in-Some.ensures.steps.0 in
    let fewer = c.in-Some.ensures.steps.1 in
    let shorter = ap (λ (l : List Command). length l) steps in
    let left = at.invariant.left in
    let room = at.invariant.room in
    let longer = c.push_reserved.ensures.len in
    let capacity = c.push_reserved.ensures.capacity in
    record {
      so_far = rw c.push_reserved.ensures.items (one_more at.invariant.so_far c.apply_shared.ensures.own);
      in_order = append_assoc at.yielded (x ∷ []) _ ∙ rw (← steps) at.invariant.in_order;
      left = omega (arith, fewer, shorter, left);
      room = omega (arith, fewer, room, longer, capacity);
    }

carried_out : {S : Type 0} (step : S → Command → Reply → S → Type 0) (old new : S) (commands yielded left : List Command) (replies : List Reply) (n : ℕ)
    → CarriesOut step old yielded replies new → yielded ++ left ≡ commands → n ≡ length left → n ≡ 0 → CarriesOut step old commands replies new
carried_out step old new commands yielded left replies n run in_order long end =
    whole step old new commands yielded left replies run in_order (nothing_left left (sym long ∙ end))

pub returns-clause-own : goal.returns-clause-own
returns-clause-own g c =
    let at = c.loop-command in
    carried_out _ (own_state c.args.self.now) (own_state at.self) c.args.commands.items at.yielded (into_iter_items at.command-iterator) at.replies.items _
    at.invariant.so_far (at.invariant.in_order ∙ c.into_iter-command-iterator.ensures.into_iter_gives.0) at.invariant.left c.in-None.ensures.steps.0

pub returns-clause-nodes : goal.returns-clause-nodes
returns-clause-nodes g c = (all_in_world g.S.Storage.step g.S.WorldStorage.world g.S.WorldStorage.own g.met.S.WorldStorage.accesses g.met.S.WorldStorage.keeps_own (returns-clause-own g c)).1

pub returns-clause-goes : goal.returns-clause-goes
returns-clause-goes g c = (all_in_world g.S.Storage.step g.S.WorldStorage.world g.S.WorldStorage.own g.met.S.WorldStorage.accesses g.met.S.WorldStorage.keeps_own (returns-clause-own g c)).0

pub returns-clause-agrees : goal.returns-clause-agrees
returns-clause-agrees g c = λ agrees. all_agree_in_world (returns-clause-goes g c) agrees

pub returns-clause-stands : goal.returns-clause-stands
returns-clause-stands g c = λ agrees old mine. (all_stand_in_world (returns-clause-goes g c) agrees old mine).1

pub returns-clause-owns : goal.returns-clause-owns
returns-clause-owns g c = λ agrees owned. all_own_in_world (returns-clause-goes g c) agrees owned

pub returns-clause-between : goal.returns-clause-between
returns-clause-between g c = λ agrees old mine. (all_stand_in_world (returns-clause-goes g c) agrees old mine).0
