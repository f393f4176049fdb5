-- What entries come to, in parts.
use Rattle.std.proofs.Common.{◌≡◌, ◌⊎◌, inl, inr, ℕ, List, [], ◌∷◌, ◌++◌, refl, sym, subst}
use Rattle.iceoryx2_description.specs.declared.description.ServiceHash.{ServiceHash}
use Rattle.iceoryx2_access.specs.Letter.{Letter}
use Rattle.iceoryx2_access.specs.Letter as letter
use Rattle.iceoryx2_access.specs.Run.{Run, done, next}
use Rattle.iceoryx2_access.proofs.Run.{both}
use Rattle.iceoryx2_world.specs.World.{World}
use Rattle.iceoryx2_world.specs.Agreement.{KeepsAgreement}
use Rattle.iceoryx2_world.specs.Access.{IsOwnPart}
use Rattle.iceoryx2_world.proofs.agreement.Accesses.{own_keeps, keeps_along}
use Rattle.iceoryx2_log.specs.declared.entry.Operation.TheVariants as operation
use Rattle.iceoryx2_log.specs.declared.entry.Entry.{Entry}
use Rattle.iceoryx2_table.specs.Spending.{Spends}
use Rattle.iceoryx2_journal.specs.Follow.{IsEntryOf}
use Rattle.iceoryx2_journal.specs.Replay.{ComesTo, fetches, happens, spends}
use Rattle.iceoryx2_journal.specs.Replay as replay
use Rattle.iceoryx2_journal.proofs.Following.{spent_by_locks}

-- first of some entries, and then of others
pub record Parted (es fs : List Entry) (w v : World) : Type 0 where
  pub mid : World
  pub first : ComesTo w es mid
  pub second : ComesTo mid fs v

pub parted : (es fs : List Entry) {gs : List Entry} {w v : World} → ComesTo w gs v → gs ≡ es ++ fs → Parted es fs w v
parted [] fs {w = w} {v = v} c e = record { mid = w; first = replay.nothing; second = subst (λ k. ComesTo w k v) e c }
parted (x ∷ es) fs replay.nothing e = absurd (cc)
parted (x ∷ es) fs (fetches i h a p c) e = let s = parted (x ∷ es) fs c e in record { mid = s.mid; first = fetches i h a p s.first; second = s.second }
parted (x ∷ es) fs (happens {es = rest} y l is p c) e =
    let same : y ≡ x = cc in
    let left : rest ≡ es ++ fs = cc in
    let s = parted es fs c left in
    record { mid = s.mid; first = happens x l (subst (λ z. IsEntryOf z l) same is) p s.first; second = s.second }
parted (x ∷ es) fs {w} (spends {u} {es = rest} y n is p c) e =
    let same : y ≡ x = cc in
    let left : rest ≡ es ++ fs = cc in
    let s = parted es fs c left in
    let is_spent = subst (λ (z : Entry). z.operation ≡ operation.Spend n) same is in
    let spent = subst (λ (z : Entry). Spends z.node z.hash n w u) same p in
    record { mid = s.mid; first = spends x n is_spent spent s.first; second = s.second }

pub comes_run : {w v : World} {es : List Entry} → ComesTo w es v → (word : List Letter) × Run IsOwnPart w word v
comes_run replay.nothing = ([], done)
comes_run (fetches i h a p c) = let r = comes_run c in (letter.Fetch i h a ∷ r.0, next p r.1)
comes_run (happens e l is p c) = let r = comes_run c in (l ∷ r.0, next p r.1)
comes_run (spends {w} {u} e n is s c) =
    let x = spent_by_locks s in
    let r = comes_run c in (x.word ++ r.0, both x.run r.1)

pub comes_keep : {w v : World} {es : List Entry} → ComesTo w es v → KeepsAgreement w v
comes_keep c = keeps_along own_keeps (comes_run c).1

pub spent_keeps : {i n : ℕ} {h : ServiceHash} {w v : World} → Spends i h n w v → KeepsAgreement w v
spent_keeps s = keeps_along own_keeps (spent_by_locks s).run

-- ---- fronts of one list

-- one front is a front of the other
pub record IsFrontOf (es r fs s : List Entry) : Type 0 where
  pub more : List Entry
  pub front : es ++ more ≡ fs
  pub rest : r ≡ more ++ s

pub fronts : (es r fs s : List Entry) → es ++ r ≡ fs ++ s → IsFrontOf es r fs s ⊎ IsFrontOf fs s es r
fronts [] r fs s e = inl (record { more = fs; front = refl; rest = e })
fronts (x ∷ es) r [] s e = inr (record { more = x ∷ es; front = refl; rest = sym e })
fronts (x ∷ es) r (y ∷ fs) s e =
    let head : x ≡ y = cc in
    let tail : es ++ r ≡ fs ++ s = cc in
    elim (fronts es r fs s tail) [
      | inl k ↦ inl (record { more = k.more; front = λ i. head i ∷ k.front i; rest = k.rest })
      | inr k ↦ inr (record { more = k.more; front = λ i. sym head i ∷ k.front i; rest = k.rest })
    ]
