-- Attributes that meet what an open requires refuse nothing, so its settings alone decide.
use Rattle.std.proofs.Common.{◌≡◌, List, Result, Ok, Err, sym, ◌∙◌}
use Rattle.std.specs.Prelude.{IsTrue}
use Rattle.std.proofs.lemmas.List.Elements.{All-nil}
use Rattle.iceoryx2_attribute.specs.Attributes.{Pair, has_pair, has_key}
use Rattle.iceoryx2_attribute.specs.Requirements.{Requirements, AreMetBy, no_requirements}
use Rattle.iceoryx2_attribute.proofs.Requirements.{none_lacking}
use Rattle.iceoryx2_description.specs.Description.{Description}
use Rattle.iceoryx2_rounds.specs.declared.pattern.OpenRefusal.TheVariants.{IncompatibleAttributes}
use Rattle.iceoryx2_rounds.specs.PatternRules.{PatternRules}
use Rattle.iceoryx2_rounds.specs.OwnAttributes.{attribute_clauses, requiring}
use Rattle.iceoryx2_rounds.specs.Verdict.{verdict, and_then}
use Rattle.iceoryx2_rounds.proofs.OwnAttributes.{nothing_lacks}
use Rattle.iceoryx2_rounds.proofs.Verdicts.{verdict_append}
use Rattle.iceoryx2_rounds.specs.declared.caller.Caller.{Caller}
use Rattle.iceoryx2_rounds.specs.OwnSettings.{AcceptsOwn}
use Rattle.iceoryx2_rounds.specs.Adjusting.{Accepts}

both_accept : {E : Type 0} {v w : Result (Unit {0}) E} → v ≡ Ok tt → w ≡ Ok tt → and_then v w ≡ Ok tt
both_accept h k = rw h k

second_accepts : {E : Type 0} (v w : Result (Unit {0}) E) → and_then v w ≡ Ok tt → w ≡ Ok tt
second_accepts (Ok u) w h = h
second_accepts (Err e) w h = absurd (cc)

module _ {E C : Type 0} (m : PatternRules E C) (required : Requirements) (d : Description) where
  pub met_with_attributes : AreMetBy required d.attributes → verdict (m.requirement d) ≡ Ok tt
      → verdict ((requiring required m).requirement d) ≡ Ok tt
  met_with_attributes met h =
      let e = m.open_refusal IncompatibleAttributes in
      verdict_append (attribute_clauses e required d.attributes) (m.requirement d)
      ∙ both_accept (sym (nothing_lacks e required d.attributes (none_lacking required d.attributes met))) h

  pub met_without_attributes : verdict ((requiring required m).requirement d) ≡ Ok tt → verdict (m.requirement d) ≡ Ok tt
  met_without_attributes h =
      let e = m.open_refusal IncompatibleAttributes in
      let clauses = attribute_clauses e required d.attributes in
      second_accepts (verdict clauses) (verdict (m.requirement d)) (sym (verdict_append clauses (m.requirement d)) ∙ h)

  -- so what an open takes is taken with each requirement of attributes that it meets, and without any
  pub accepts_with_attributes : AreMetBy required d.attributes → Accepts m d → Accepts (requiring required m) d
  accepts_with_attributes met a = record { fits = a.fits; meets = met_with_attributes met a.meets }

  pub accepts_without_attributes : Accepts (requiring required m) d → Accepts m d
  accepts_without_attributes a = record { fits = a.fits; meets = met_without_attributes a.meets }

-- where none are required they are met
pub none_required : (pairs : List Pair) → AreMetBy no_requirements pairs
none_required pairs = (All-nil (λ p. IsTrue (has_pair pairs p)), All-nil (λ key. IsTrue (has_key pairs key)))

pub own_without_attributes : {E C : Type 0} (making asking : PatternRules E C) (caller : Caller) → AcceptsOwn making (requiring no_requirements asking) caller → AcceptsOwn making asking caller
own_without_attributes making asking caller own = record { fits = own.fits; accepted = own.accepted }
