-- The clauses of required attributes are decided by the first that is lacking.
use Rattle.std.proofs.Common.{◌≡◌, Bool, true, false, not, ℕ, List, [], ◌∷◌, Option, Some, None, Result, Ok, Err, refl, sym, ap, ◌∙◌}
use Rattle.std.specs.Prelude.{map}
use Rattle.std.specs.List.{find}
use Rattle.iceoryx2_attribute.specs.Attributes.{Pair, has_pair, has_key}
use Rattle.iceoryx2_attribute.specs.Requirements.{Requirements, pair_or_key, lacking_pair, lacking_key, first_lacking}
use Rattle.iceoryx2_rounds.specs.Verdict.{Clause, verdict, and_then}
use Rattle.iceoryx2_rounds.specs.OwnAttributes.{pair_clause, key_clause, attribute_clauses}
use Rattle.iceoryx2_rounds.proofs.Verdicts.{verdict_append}

abbrev test : {A E : Type 0} → (A → Bool) → E → A → Clause E
test met error x = record { is_met = met x; error = error }

abbrev if_lacking : {A E : Type 0} → E → Option A → Result (Unit {0}) E
if_lacking error None = Ok tt
if_lacking error (Some x) = Err error

one_clause_more : {A E : Type 0} (met : A → Bool) (error : E) (x : A) (xs : List A) (b : Bool) → met x ≡ b
    → verdict (map (test met error) xs) ≡ if_lacking error (find (λ y. not (met y)) xs)
    → verdict (map (test met error) (x ∷ xs)) ≡ if_lacking error (find (λ y. not (met y)) (x ∷ xs))
unfolding verdict
one_clause_more met error x xs true e h = rw e h
one_clause_more met error x xs false e h = rw e refl

tests_by : {A E : Type 0} (met : A → Bool) (error : E) (xs : List A)
    → verdict (map (test met error) xs) ≡ if_lacking error (find (λ y. not (met y)) xs)
unfolding verdict
tests_by met error [] = refl
tests_by met error (x ∷ xs) = one_clause_more met error x xs (met x) refl (tests_by met error xs)

pair_then_key : {E : Type 0} (error : E) (p : Option Pair) (key : Option (List ℕ))
    → and_then (if_lacking error p) (if_lacking error key) ≡ if_lacking error (pair_or_key p key)
pair_then_key error None key = refl
pair_then_key error (Some p) key = refl

decided : {E : Type 0} (error : E) (r : Requirements) (ps : List Pair)
    → verdict (attribute_clauses error r ps) ≡ if_lacking error (first_lacking r ps)
unfolding first_lacking lacking_pair lacking_key
decided error r ps =
    verdict_append (map (pair_clause error ps) r.pairs) (map (key_clause error ps) r.keys)
    ∙ rw (tests_by (has_pair ps) error r.pairs, tests_by (has_key ps) error r.keys)
    (pair_then_key error (find (λ p. not (has_pair ps p)) r.pairs) (find (λ key. not (has_key ps key)) r.keys))

-- nothing is lacking, so each clause is met
pub nothing_lacks : {E : Type 0} (error : E) (r : Requirements) (ps : List Pair) → first_lacking r ps ≡ None
    → Ok tt ≡ verdict (attribute_clauses error r ps)
nothing_lacks error r ps h = sym (decided error r ps ∙ ap (if_lacking error) h)

-- something is lacking, so a clause isn't
pub something_lacks : {E : Type 0} (error : E) (r : Requirements) (ps : List Pair) (key : List ℕ)
    → first_lacking r ps ≡ Some key → Err error ≡ verdict (attribute_clauses error r ps)
something_lacks error r ps key h = sym (decided error r ps ∙ ap (if_lacking error) h)
