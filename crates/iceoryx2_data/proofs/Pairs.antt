-- Pairs that are read one after the other, each put behind the others.
use Rattle.std.proofs.Common.{◌≡◌, ℕ, suc, ◌-◌, ◌+◌, ◌≤◌, ◌<◌, Bool, true, false, cond, List, [], ◌∷◌, ◌++◌, length, Option, Some, None, refl, sym, ap, subst, ◌∙◌, append_assoc, length-append, arith}
use Rattle.std.proofs.lemmas.List.{append-nil}
use Rattle.iceoryx2_attribute.specs.declared.attribute.TheConstants.{MAX_ATTRIBUTES}
use Rattle.iceoryx2_attribute.specs.Attributes.{Pair, pair_before, ascends, AreAttributes}
use Rattle.iceoryx2_attribute.proofs.Ascending.{ascends_front}
use Rattle.iceoryx2_data.specs.declared.parts.reading.DecodeError.{DecodeError}
use Rattle.iceoryx2_data.specs.declared.parts.reading.DecodeError.TheVariants.{Malformed, OutOfMemory}
use Rattle.iceoryx2_data.specs.PartReading.{◌>>=◌, Fails, list_at}
use Rattle.iceoryx2_data.proofs.PartForms.{guard_is, some_is}
use Rattle.iceoryx2_data.specs.Reading.{pair_at, pairs_at, more_at}

abbrev ReadPairs : Type 0
ReadPairs = Option (List Pair × List ℕ)

-- these pairs and those that are read, if all of them ascend
abbrev behind : List Pair → ReadPairs → ReadPairs
behind front read = read >>= λ x. cond (ascends (front ++ x.0)) (Some (front ++ x.0, x.1)) None

abbrev before : Pair → ReadPairs → ReadPairs
before p read = read >>= λ x. Some (p ∷ x.0, x.1)

abbrev with_read : List Pair → Option (Pair × List ℕ) → ReadPairs
with_read front read = read >>= λ p. Some (front ++ p.0 ∷ [], p.1)

abbrev ascending : ReadPairs → ReadPairs
ascending read = read >>= λ x. cond (ascends x.0) (Some x) None

abbrev some : List Pair × List ℕ → ReadPairs
some x = Some x

-- the pairs that were read, and how many are left
pub record Stands (front : List Pair) (left : ℕ) (bytes : List ℕ) (total : ReadPairs) : Type 0 where
  pub attributes : AreAttributes front
  pub few : length front + left ≤ MAX_ATTRIBUTES
  pub so_far : behind front (list_at pair_at left bytes) ≡ total

pub starts : (count : ℕ) (bytes : List ℕ) → AreAttributes [] → count ≤ MAX_ATTRIBUTES → Stands [] count bytes (pairs_at count bytes)
starts count bytes none few = record { attributes = none; few = omega (arith, few); so_far = refl }

-- ---- one more

one_more : (front : List Pair) (p : Pair) (read : ReadPairs) → behind front (before p read) ≡ behind (front ++ p ∷ []) read
one_more front p None = refl
one_more front p (Some x) = ap (λ (ps : List Pair). cond (ascends ps) (some (ps, x.1)) None) (sym (append_assoc front (p ∷ []) x.0))

record IsLonger (front new : List Pair) (left : ℕ) (read : Option (Pair × List ℕ)) (after : List ℕ) : Type 0 where
  size : length new ≡ length front + 1
  others : behind front (read >>= λ x. before x.0 (list_at pair_at left x.1)) ≡ behind new (list_at pair_at left after)

longer : (front new : List Pair) (left : ℕ) (read : Option (Pair × List ℕ)) (after : List ℕ) → ascending (with_read front read) ≡ some (new, after) → IsLonger front new left read after
longer front new left None after h = absurd cc
longer front new left (Some p) after h =
    let put : List Pair × List ℕ = (front ++ p.0 ∷ [], p.1) in
    let g = guard_is (ascends put.0) (Some put) (new, after) h in
    let whole : IsLonger front put.0 left (Some p) put.1 = record { size = length-append front (p.0 ∷ []); others = one_more front p.0 (list_at pair_at left p.1) } in
    subst (λ (x : List Pair × List ℕ). IsLonger front x.0 left (Some p) x.1) (some_is put (new, after) g.1) whole

goes_on : (front new : List Pair) (left : ℕ) (bytes after : List ℕ) (total : ReadPairs) → Stands front (suc left) bytes total → more_at front bytes ≡ Some (new, after) → AreAttributes new → Stands new left after total
unfolding more_at list_at
goes_on front new left bytes after total stands read fits =
    let l = longer front new left (pair_at bytes) after read in
    record { attributes = fits; few = omega (arith, stands.few, l.size); so_far = sym l.others ∙ stands.so_far }

-- ---- none more

not_true : (b : Bool) (x : List Pair × List ℕ) → cond b (Some x) None ≡ None → b ≡ false
not_true true x h = absurd cc
not_true false x h = refl

none_behind : (front all : List Pair) (x : List Pair × List ℕ) → ascends front ≡ false → (ascends all ≡ true → ascends front ≡ true) → cond (ascends all) (some x) None ≡ None
none_behind front all x h kept = elim (ascends all) as (λ b. (b ≡ true → ascends front ≡ true) → cond b (some x) None ≡ None) [
  | true ↦ λ k. let wrong : true ≡ false = sym (k refl) ∙ h in absurd cc
  | false ↦ λ k. refl
] kept

not_ascending : (front : List Pair) (read : ReadPairs) → ascends front ≡ false → behind front read ≡ None
not_ascending front None h = refl
not_ascending front (Some x) h = none_behind front (front ++ x.0) (front ++ x.0, x.1) h (ascends_front pair_before front x.0)

none_more : (front : List Pair) (left : ℕ) (read : Option (Pair × List ℕ)) → ascending (with_read front read) ≡ None → behind front (read >>= λ x. before x.0 (list_at pair_at left x.1)) ≡ None
none_more front left None h = refl
none_more front left (Some p) h = one_more front p.0 (list_at pair_at left p.1) ∙ not_ascending (front ++ p.0 ∷ []) (list_at pair_at left p.1) (not_true (ascends (front ++ p.0 ∷ [])) (front ++ p.0 ∷ [], p.1) h)

pub ends : (e : DecodeError) (front : List Pair) (count i : ℕ) (bytes : List ℕ) (total : ReadPairs) → i < count → Fails e (more_at front bytes) → Stands front (count - i) bytes total → Fails e total
unfolding more_at list_at
ends OutOfMemory front count i bytes total lt h stands = tt
ends Malformed front count i bytes total lt h stands =
    let k : count - i ≡ suc (count - (i + 1)) = omega arith in
    let one : behind front (list_at pair_at (count - i) bytes) ≡ None = rw k (none_more front (count - (i + 1)) (pair_at bytes) h) in
    sym stands.so_far ∙ one

pub goes_on_from : (front new : List Pair) (count i : ℕ) (bytes after : List ℕ) (total : ReadPairs) → i < count → Stands front (count - i) bytes total → more_at front bytes ≡ Some (new, after) → AreAttributes new → Stands new (count - (i + 1)) after total
goes_on_from front new count i bytes after total lt stands read fits =
    let k : count - i ≡ suc (count - (i + 1)) = omega arith in
    goes_on front new (count - (i + 1)) bytes after total (subst (λ (n : ℕ). Stands front n bytes total) k stands) read fits

pub is_done : (front : List Pair) (count i : ℕ) (bytes : List ℕ) (total : ReadPairs) → count ≤ i → Stands front (count - i) bytes total → total ≡ Some (front, bytes)
unfolding list_at
is_done front count i bytes total le stands =
    let k : count - i ≡ 0 = omega arith in
    let whole : behind front (list_at pair_at (count - i) bytes) ≡ Some (front, bytes) = rw (k, append-nil front, stands.attributes.ascending) refl in
    sym stands.so_far ∙ whole
