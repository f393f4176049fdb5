use Rattle.std.proofs.Common.{◌≡◌, ◌⊎◌, ◌≢◌, ◌∙◌, ℕ, List, Bool, true, false, not, nat_eq, inl, inr, ap, subst, sym}
use Rattle.std.specs.Cmp.Lexicographic.{pointwise, same_text, other_text}
use Rattle.std.proofs.lemmas.Bool.{not-true, not-false}
use Rattle.iceoryx2_description.specs.declared.description.ServiceHash.{ServiceHash}
use Rattle.iceoryx2_access.specs.declared.storage.Existence.{Existence}
use Rattle.iceoryx2_access.specs.declared.storage.Existence.TheVariants as existence
use Rattle.iceoryx2_description.specs.Description.{Description}
use Rattle.iceoryx2_access.specs.Letter.{Letter}
use Rattle.iceoryx2_rounds.specs.PatternRules.{PatternRules}
use Rattle.iceoryx2_rounds.specs.declared.look.Fault.{Fault}
use Rattle.iceoryx2_rounds.specs.declared.look.Outcome.{Outcome}
use Rattle.iceoryx2_rounds.specs.declared.look.Outcome.TheVariants.{Nothing, Found, Faulty}
use Rattle.iceoryx2_rounds.specs.declared.look.Presence.TheVariants as presence
use Rattle.iceoryx2_rounds.specs.Looks.{MayBeThere, yes, being_set_up, IsLookWord, presence_of}

pub may_be_there : (there : Existence) → (there ≡ existence.Yes) ⊎ (there ≡ existence.BeingSetUp) → MayBeThere there
may_be_there there (inl e) = subst MayBeThere (sym e) yes
may_be_there there (inr e) = subst MayBeThere (sym e) being_set_up

-- what the comparison of two hashes tells
pub other_hashes : (a b : ServiceHash) (r : Bool) → r ≡ not (pointwise nat_eq a.0 b.0) → r ≡ true → a ≢ b
other_hashes a b r e h s = other_text a.0 b.0 (sym (not-true (pointwise nat_eq a.0 b.0) (sym e ∙ h))) (ap (λ (x : ServiceHash). x.0) s)

pub same_hashes : (a b : ServiceHash) (r : Bool) → r ≡ not (pointwise nat_eq a.0 b.0) → r ≡ false → a ≡ b
same_hashes a b r e h = let same = same_text a.0 b.0 (sym (not-false (pointwise nat_eq a.0 b.0) (sym e ∙ h))) in λ i. record { 0 = same i }

-- some service is found by this word
pub record Finds {E C : Type 0} (m : PatternRules E C) (node : ℕ) (hash : ServiceHash) (word : List Letter) : Type 0 where
  pub number : ℕ
  pub description : Description
  pub look : IsLookWord m node hash word (Found number description)

-- what was seen of an outcome
module _ {E C : Type 0} {m : PatternRules E C} {node : ℕ} {hash : ServiceHash} {word : List Letter} where
  pub sees_none : (outcome : Outcome E) → presence.Absent ≡ presence_of outcome → IsLookWord m node hash word outcome → IsLookWord m node hash word Nothing
  sees_none Nothing e look = look
  sees_none (Found n d) e look = cc
  sees_none (Faulty fault) e look = cc

  pub sees_fault : {fault : Fault E} (outcome : Outcome E) → presence.AtFault fault ≡ presence_of outcome → IsLookWord m node hash word outcome → IsLookWord m node hash word (Faulty fault)
  sees_fault Nothing e look = cc
  sees_fault (Found n d) e look = cc
  sees_fault {fault} (Faulty other) e look = let same : fault ≡ other = cc in rw same look

  pub sees_service : (outcome : Outcome E) → presence.Present ≡ presence_of outcome → IsLookWord m node hash word outcome → Finds m node hash word
  sees_service Nothing e look = cc
  sees_service (Found n d) e look = record { number = n; description = d; look = look }
  sees_service (Faulty fault) e look = cc
