-- What meets required attributes and a pattern's settings meets weaker ones too.
use Rattle.std.proofs.Common.{◌≡◌, Bool, true, false, cond, List, ◌++◌, Option, Some, None, Result, Ok, refl, sym, ◌∙◌}
use Rattle.std.specs.Prelude.{ℕ, Contains, IsTrue}
use Rattle.std.proofs.lemmas.List.Elements.{All-weaker, All-contains}
use Rattle.iceoryx2_attribute.specs.Attributes.{Pair, has_pair, has_key}
use Rattle.iceoryx2_attribute.specs.Requirements.{Requirements, AreMetBy, first_lacking}
use Rattle.iceoryx2_attribute.proofs.Requirements.{is_met, none_lacking}
use Rattle.iceoryx2_description.specs.Description.{Description}
use Rattle.iceoryx2_rounds.specs.PatternRules.{PatternRules}
use Rattle.iceoryx2_rounds.specs.Verdict.{Clause, verdict, and_then}
use Rattle.iceoryx2_rounds.specs.OwnAttributes.{attribute_clauses, requiring}
use Rattle.iceoryx2_rounds.proofs.Verdicts.{verdict_append}
use Rattle.iceoryx2_rounds.proofs.OwnAttributes.{nothing_lacks, something_lacks}
use Rattle.iceoryx2_rounds.specs.Adjusting.{Accepts}
use Rattle.iceoryx2_rounds.proofs.Rows.{both}
use Rattle.iceoryx2_builder.specs.Weaker.{AreSomeOf}

lacks_nothing : {E : Type 0} (error : E) (r : Requirements) (ps : List Pair) (lacking : Option (List ℕ))
    → first_lacking r ps ≡ lacking → verdict (attribute_clauses error r ps) ≡ Ok tt → first_lacking r ps ≡ None
lacks_nothing error r ps None k h = k
lacks_nothing error r ps (Some key) k h = let j = something_lacks error r ps key k in absurd (cc)

fewer : (required other : Requirements) (ps : List Pair) → AreSomeOf required other → AreMetBy other ps → AreMetBy required ps
fewer required other ps some met =
    let has : Pair → Type 0 = λ p. IsTrue (has_pair ps p) in
    let knows : List ℕ → Type 0 = λ key. IsTrue (has_key ps key) in (
      All-weaker (Contains other.pairs) has (λ p there. All-contains has other.pairs p met.0 there) required.pairs some.pairs,
      All-weaker (Contains other.keys) knows (λ key there. All-contains knows other.keys key met.1 there) required.keys some.keys,
    )

fewer_attributes : {E : Type 0} (e f : E) (required other : Requirements) (ps : List Pair) → AreSomeOf required other
    → verdict (attribute_clauses f other ps) ≡ Ok tt → verdict (attribute_clauses e required ps) ≡ Ok tt
fewer_attributes e f required other ps some h = sym (nothing_lacks e required ps (none_lacking required ps
    (fewer required other ps some (is_met other ps (lacks_nothing f other ps (first_lacking other ps) refl h)))))

join : {E : Type 0} {v w : Result (Unit {0}) E} → v ≡ Ok tt → w ≡ Ok tt → and_then v w ≡ Ok tt
join h k = rw h k

-- attributes and then settings
fewer_clauses : {E : Type 0} (e f : E) (required other : Requirements) (ps : List Pair) (weaker stronger : List (Clause E))
    → AreSomeOf required other → (verdict stronger ≡ Ok tt → verdict weaker ≡ Ok tt)
    → verdict (attribute_clauses f other ps ++ stronger) ≡ Ok tt
    → verdict (attribute_clauses e required ps ++ weaker) ≡ Ok tt
fewer_clauses e f required other ps weaker stronger some settings h =
    let parts = both _ _ (sym (verdict_append (attribute_clauses f other ps) stronger) ∙ h) in
    verdict_append (attribute_clauses e required ps) weaker
    ∙ join (fewer_attributes e f required other ps some parts.0) (settings parts.1)

-- what one open takes, another takes that asks no more
pub accepts_less : {E C : Type 0} (weaker stronger : PatternRules E C) (some all : Requirements) (d : Description)
    → AreSomeOf some all → (stronger.misfit d ≡ None → weaker.misfit d ≡ None)
    → (verdict (stronger.requirement d) ≡ Ok tt → verdict (weaker.requirement d) ≡ Ok tt)
    → Accepts (requiring all stronger) d → Accepts (requiring some weaker) d
accepts_less weaker stronger some all d are fits meets accepts = record {
  fits = fits accepts.fits;
  meets = fewer_clauses _ _ some all d.attributes (weaker.requirement d) (stronger.requirement d) are meets accepts.meets;
}

-- a test that finds no fault has passed, and what is asked next finds none
pub passed : {F : Type 0} (fits : Bool) (next : Option F) (fault : F) → cond fits next (Some fault) ≡ None → (fits ≡ true) × (next ≡ None)
passed true next fault h = (refl, h)
passed false next fault h = absurd (cc)
