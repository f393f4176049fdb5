-- What is stated of whole calls: of the worlds that their accesses lead through, and of each access.
use Rattle.std.specs.Prelude.{◌≡◌, ◌+◌, ℕ, Bool, List, [], ◌∷◌}
use Rattle.iceoryx2_description.specs.declared.description.ServiceHash.{ServiceHash}
use Rattle.iceoryx2_world.specs.declared.world.Participant.TheVariants.{Node}
use Rattle.iceoryx2_world.specs.World.{World, count_of}
use Rattle.iceoryx2_access.specs.Letter.{Letter}
use Rattle.iceoryx2_world.specs.Access.{IsOwnPart}
use Rattle.iceoryx2_world.specs.Interference.{Rely, IsFallibleUnder}
use Rattle.iceoryx2_world.specs.Calm.{SameServices}

-- Whatever states the accesses of this word lead through, it is true of each: before the first access, between
-- any two and after the last.
abbrev pub Throughout : {S : Type 0} → (S → Letter → S → Type 0) → (S → Type 0) → S → List Letter
    → Type 0
Throughout step P w [] = P w
Throughout {S} step P w (l ∷ word) = P w × ((v : S) → step w l v → Throughout step P v word)

-- Whatever worlds the accesses of this word lead through, it is true of each access.
abbrev pub AtEach : (step P : World → Letter → World → Type 0) → World → List Letter → Type 0
AtEach step P w [] = Unit {0}
AtEach step P w (l ∷ word) = (v : World) → step w l v → P w l v × AtEach step P v word

-- The access's own part, without what others do before it, changes nothing that is published and nobody's count.
abbrev pub ActsCalmly : (own : ℕ → Bool) → World → Letter → World → Type 0
ActsCalmly own w l v = (u : World) → Rely own w u → IsOwnPart u l v → SameServices u v

-- Only the last access of the word changes what is published or counted: whatever worlds lead to it, and after what
-- others do there, its own part counts the node once more.
abbrev pub ChangesLast : (own : ℕ → Bool) (node : ℕ) (hash : ServiceHash) → World → List Letter → Type 0
ChangesLast own node hash w [] = ⊥
ChangesLast own node hash w (final ∷ []) = (u v : World) → Rely own w u → IsOwnPart u final v
    → count_of v (Node node) hash ≡ count_of u (Node node) hash + 1
ChangesLast own node hash w (l ∷ word) = (v : World) → IsFallibleUnder own w l v
    → ActsCalmly own w l v × ChangesLast own node hash v word
