-- Steps that give back what a node has, in a world of its own.
use Rattle.std.proofs.Common.{◌≡◌, ℕ, [], ◌∷◌, ◌++◌, Option, Some, None, sym, ap, subst, ◌∙◌}
use Rattle.iceoryx2_access.specs.Letter.{Letter}
use Rattle.iceoryx2_access.specs.Run.{done}
use Rattle.iceoryx2_access.proofs.Run.{one, both}
use Rattle.iceoryx2_world.specs.World.{World}
use Rattle.iceoryx2_world.specs.Access.{IsOwnPart}
use Rattle.iceoryx2_table.specs.Recorded.{IsRecordedPart}
use Rattle.iceoryx2_table.proofs.Recording.{is_own_part}
use Rattle.iceoryx2_table.specs.declared.holdings.Holding.{Holding}
use Rattle.iceoryx2_table.specs.Holdings.{IsHolding}
use Rattle.iceoryx2_journal.specs.declared.cleaning.Cleaned.{Cleaned}
use Rattle.iceoryx2_journal.specs.declared.cleaning.GivenBack.{GivenBack}
use Rattle.iceoryx2_journal.specs.declared.cleaning.Step.{Step}
use Rattle.iceoryx2_journal.specs.Cleaning.{GivesUp, given_back, with_one, nothing_given, step_with}
use Rattle.iceoryx2_journal.proofs.GivingBack.{given_more}
use Rattle.wulameron_place.specs.Rehearsal.{GivesIn, RehearsesNext, RehearsesSome}

-- what is recorded nowhere is the node's own part
pub own_part : {R : Type 0} {before after : R} {w v : World} {l : Letter} → IsRecordedPart {R = R} (λ _ _. Unit {0}) (λ _ _. ⊥) w l v before after → IsOwnPart w l v
own_part part = is_own_part (λ x y never. never) part

step_case : {i : ℕ} {w v : World} (o : Option GivenBack) (l : Letter) → GivesIn i w l v → given_back l ≡ o → RehearsesNext i (step_with o) w v
step_case (Some g) l c e = (l, c, e)
step_case None l c e = (l, c, e)

pub stepped : (i : ℕ) {w v : World} {held : Holding} {o : Option GivenBack} {s : Step} {h : Option Holding} → s ≡ step_with o → IsHolding w i h → h ≡ Some held
    → (l : Letter) × GivesUp i held l × (given_back l ≡ o) × IsOwnPart w l v → RehearsesNext i s w v
stepped i {w} {v} {held} {o} is has there gave =
    subst (λ s. RehearsesNext i s w v) (sym is)
    (step_case o gave.0 (record { held = held; has = subst (IsHolding w i) there has; gives = gave.1; part = gave.3 }) gave.2)

pub none_yet : {i : ℕ} {w : World} {c : Cleaned} → c ≡ nothing_given → RehearsesSome i w c w
none_yet is = record { word = []; run = done; counts = is }

pub one_more_step : {i : ℕ} {w u v : World} {c d : Cleaned} {g : GivenBack} → RehearsesSome i w c u → (l : Letter) × GivesIn i u l v × (given_back l ≡ Some g) → d ≡ with_one c (Some g) → RehearsesSome i w d v
one_more_step {c} {d} {g} s x is = record {
  word = s.word ++ x.0 ∷ [];
  run = both s.run (one x.1);
  counts = is ∙ ap (λ z. with_one z (Some g)) s.counts ∙ given_more nothing_given s.word x.0 g x.2;
}
