-- The next batch and then an own part, of a table's parts.
use Rattle.std.proofs.Common.{◌≡◌, ℕ, List, ap, subst}
use Rattle.iceoryx2_access.specs.Letter.{Letter}
use Rattle.iceoryx2_world.specs.World.{World}
use Rattle.iceoryx2_world.specs.Access.{IsOwnPart}
use Rattle.iceoryx2_world.specs.Agreement.{Agrees}
use Rattle.iceoryx2_world.specs.ServiceAgreement.{Later}
use Rattle.iceoryx2_world.specs.declared.batches.Step.{Step}
use Rattle.iceoryx2_world.specs.Tables.{TableState, IsBatchRun, IsTableAccess}
use Rattle.iceoryx2_world.proofs.Waiting.{access_after, table_keeps}

-- an access, and what stands of the laws of worlds behind it
pub record Takes (s : TableState) (l : Letter) (v : TableState) : Type 0 where
  pub part : IsTableAccess s l v
  pub agrees : Agrees s.world → Agrees v.world
  pub later : Agrees s.world → Later s.world v.world

lawful : (s v : TableState) (l : Letter) → IsTableAccess s l v → Takes s l v
lawful s v l part = record {
  part = part;
  agrees = λ old. (table_keeps s v l part old).0;
  later = λ old. (table_keeps s v l part old).1;
}

-- after its batch a table u has the world a, these batches and this count, and comes to the world b
pub takes : {s u : TableState} (l : Letter) {a b : World} {w : List (List Step)} {k : ℕ} → record { world = a; waiting = w; skipped = k } ≡ u → IsBatchRun s u → IsOwnPart a l b → Takes s l (record { world = b; waiting = w; skipped = k })
takes {s} {u} l {b = b} {w} {k} is batch own =
    let v : TableState = record { world = b; waiting = w; skipped = k } in
    lawful s v l (access_after s u v l batch (subst (λ (x : TableState). IsOwnPart x.world l b) is own) (ap (λ (x : TableState). x.waiting) is) (ap (λ (x : TableState). x.skipped) is))

-- the same, where the own part changes nothing
pub looks : {s u : TableState} (l : Letter) {a : World} {w : List (List Step)} {k : ℕ} → record { world = a; waiting = w; skipped = k } ≡ u → IsBatchRun s u → IsOwnPart a l a → Takes s l u
looks {s} l is batch own = subst (Takes s l) is (takes l is batch own)
