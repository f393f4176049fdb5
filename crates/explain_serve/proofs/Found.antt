-- The service that is published at an entry.
use Rattle.std.proofs.Common.{◌≡◌, ℕ, ◌+◌, ◌<◌, ◌≤◌, Bool, true, false, List, length, take, get_or, All, Option, Some, None, if◌then◌else◌, refl, sym, ap, ◌∙◌, subst}
use Rattle.std.proofs.lemmas.List.{take_all}
use Rattle.std.proofs.lemmas.List.Elements.{All-more}
use Rattle.iceoryx2_description.specs.Description.{Description}
use Rattle.iceoryx2_data.specs.Form.{IsForm}
use Rattle.iceoryx2_world.specs.declared.listing.Entry.{Entry}
use Rattle.iceoryx2_world.specs.declared.listing.ListedRow.TheVariants as listed
use Rattle.iceoryx2_builder.specs.declared.command.Call.{Call}
use Rattle.explain_serve.specs.Standing.{is_asked_for, IsServiceAt, IsFoundAt}

module _ (call : Call) (e : Entry) (number : ℕ) (bytes : List ℕ) (d : Description) (row : e.row ≡ listed.Published number bytes) (form : IsForm d bytes) (only : (other : Description) → IsForm other bytes → d ≡ other) where
  -- there is no other description of the same bytes
  same_service : (other : Description) → IsServiceAt call e other → d ≡ other
  same_service other s =
      let whole : listed.Published number bytes ≡ listed.Published s.number s.bytes = sym row ∙ s.row in
      let same : bytes ≡ s.bytes = cc in
      only other (subst (λ bs. IsForm other bs) (sym same) s.form)

  decided : (b : Bool) → is_asked_for call d ≡ b → IsFoundAt call e (if b then Some d else None)
  decided true holds = record { number = number; bytes = bytes; row = row; form = form; asked_for = holds }
  decided false lacks = λ other s. let asked : is_asked_for call d ≡ true = ap (λ x. is_asked_for call x) (same_service other s) ∙ s.asked_for in cc

  pub found_at : (r : Option Description) → r ≡ (if is_asked_for call d then Some d else None) → IsFoundAt call e r
  found_at r is = subst (λ x. IsFoundAt call e x) (sym is) (decided (is_asked_for call d) refl)

-- at none of the entries so far, nor at the next one
pub none_more : (call : Call) (entries : List Entry) (i : ℕ) (e : Entry) (r : Option Description) → i < length entries → e ≡ get_or entries i e
    → IsFoundAt call e r → r ≡ None → All (λ x. IsFoundAt call x None) (take i entries) → All (λ x. IsFoundAt call x None) (take (i + 1) entries)
none_more call entries i e r within is found none before =
    All-more (λ x. IsFoundAt call x None) entries i e within before
    (subst (λ x. IsFoundAt call x None) is (subst (λ o. IsFoundAt call e o) none found))

pub none_of_all : (call : Call) (entries : List Entry) (i : ℕ) → length entries ≤ i → All (λ x. IsFoundAt call x None) (take i entries) → All (λ x. IsFoundAt call x None) entries
none_of_all call entries i ends before = subst (λ xs. All (λ x. IsFoundAt call x None) xs) (take_all i entries ends) before
