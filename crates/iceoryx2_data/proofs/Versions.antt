-- The version, and the creator behind it.
use Rattle.std.proofs.Common.{◌≡◌, ℕ, zero, suc, ◌^◌, ◌<◌, List, [], ◌∷◌, ◌++◌, Option, Some, None, refl, ap, subst}
use Rattle.std.specs.Prelude.{IfSome}
use Rattle.std.specs.Int.{w64}
use Rattle.iceoryx2_data.specs.PartReading.{number_at}
use Rattle.iceoryx2_data.proofs.PartForms.{IsBytes, IsBytes-rest, bind_some, some_is, Takes, Reads, Reads-number64}
use Rattle.iceoryx2_data.specs.Form.{versioned}
use Rattle.iceoryx2_data.specs.Reading.{versioned_at}

abbrev IsId : ℕ → Type 0
IsId id = id < 2 ^ 64

abbrev some : ℕ → Option ℕ
some x = Some x

takes : (bytes : List ℕ) (x : Option ℕ × List ℕ) → IsBytes bytes → versioned_at bytes ≡ Some x → Takes bytes (versioned x.0) x.1 × IfSome x.0 IsId
unfolding versioned_at
takes [] x fits e = absurd cc
takes (zero ∷ bytes) x fits e = absurd cc
takes (suc zero ∷ bytes) x fits e =
    subst (λ (y : Option ℕ × List ℕ). Takes (1 ∷ bytes) (versioned y.0) y.1 × IfSome y.0 IsId) (some_is (None, bytes) x e) (record { parts = refl; rest_fits = IsBytes-rest 1 bytes fits }, tt)
takes (suc (suc zero) ∷ bytes) x fits e =
    let b = bind_some (number_at w64 bytes) (λ n. Some (some n.0, n.1)) x e in
    let t = Reads-number64.takes bytes b.0 (IsBytes-rest 2 bytes fits) b.1 in
    subst (λ (y : Option ℕ × List ℕ). Takes (2 ∷ bytes) (versioned y.0) y.1 × IfSome y.0 IsId) (some_is (Some b.0.0, b.0.1) x b.2) (record { parts = ap (λ (w : List ℕ). 2 ∷ w) t.0.parts; rest_fits = t.0.rest_fits }, t.1)
takes (suc (suc (suc b)) ∷ bytes) x fits e = absurd cc

again : (creator : Option ℕ) (rest : List ℕ) → IfSome creator IsId → versioned_at (versioned creator ++ rest) ≡ Some (creator, rest)
unfolding versioned_at
again None rest fits = refl
again (Some id) rest fits = rw (Reads-number64.again id rest fits) refl

pub Reads-versioned : Reads versioned_at versioned (λ creator. IfSome creator IsId)
Reads-versioned = record { takes = takes; again = again }
