-- What was found at a place, and what is lent there.
use Rattle.std.proofs.Common.{◌≡◌, Bool, true, Option, Some, sym, ap, subst, ◌∙◌}
use Rattle.std.specs.Prelude.{OnSome}
use Rattle.iceoryx2_world.specs.declared.world.Phase.{Phase}
use Rattle.std.specs.FinMap as map
use Rattle.iceoryx2_description.specs.declared.description.ServiceHash.{ServiceHash}
use Rattle.iceoryx2_world.specs.declared.world.Participant.{Participant}
use Rattle.iceoryx2_world.specs.World.{begins, or_idle}
use Rattle.iceoryx2_world.specs.Acts as act
use Rattle.iceoryx2_table.specs.ServicesState.{ServicesState}
use Rattle.iceoryx2_table.specs.Recorded.{RecordsStep}
use Rattle.iceoryx2_table.proofs.ServiceViews.{join_counter}

-- what is said of a value that is lent, where one is
pub at_some : {A P : Type 0} (o : Option A) (x : A) → o ≡ Some x → OnSome o P → P
at_some {P = P} o x e p = subst (λ r. OnSome r P) e p

-- who was found to hold nothing
pub free : (o : Option Phase) {x : Phase} {y : Bool} → x ≡ or_idle o → y ≡ begins x → y ≡ true → begins (or_idle o) ≡ true
free o found test e = ap begins (sym found) ∙ sym test ∙ e

-- what is said of a join that is done
pub join_keeps : {R : Type 0} (wrote declines : R → R → Type 0) (before after : R) (b c : ServicesState) (p : Participant) (h : ServiceHash) {done : Bool} → done ≡ true → RecordsStep wrote declines b p h act.Join done c before after → c.counter ≡ b.counter
join_keeps wrote declines before after b c p h told s =
    let x = subst (λ (y : Bool). RecordsStep wrote declines b p h act.Join y c before after) told s in
    ap (λ (y : ServicesState). y.counter) x.0.2
    ∙ join_counter p h (or_idle (map.get b.phases (p, h))) (map.get b.rows h) (map.get b.segments h) b.counter x.0.0 x.0.1
