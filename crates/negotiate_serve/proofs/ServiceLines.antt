-- What is written of the entries of a listing, one after the other.
use Rattle.std.proofs.Common.{◌≡◌, ℕ, ◌+◌, ◌<◌, Bool, true, false, List, [], ◌∷◌, ◌++◌, Some, length, take, get_or, sym, ap, subst, ◌∙◌, append_assoc, append-nil, add-one}
use Rattle.std.proofs.Math.Seq.{take-suc}
use Rattle.iceoryx2_description.specs.Description.{Description}
use Rattle.iceoryx2_data.specs.Form.{IsForm}
use Rattle.iceoryx2_world.specs.declared.listing.Entry.{Entry}
use Rattle.iceoryx2_world.specs.declared.listing.ListedRow.TheVariants as listed
use Rattle.iceoryx2_world.specs.declared.listing.ListedSegment.{ListedSegment}
use Rattle.negotiate_lines.specs.declared.leaf.Form.{Form}
use Rattle.negotiate_serve.specs.Replies.{IsService, who_it_is, how_many_it_has, service_line, AreServiceLines, none, service, other, GrowsByEntry, GrowsByService}

-- the line of a published description beside its segment
pub grows_by_service : (form : Form) (e : Entry) (number : ℕ) (bytes : List ℕ) (d : Description) (s : ListedSegment) (found : Bool) (old new : List ℕ)
    → e.row ≡ listed.Published number bytes → IsForm d bytes → e.segment ≡ Some s
    → GrowsByService found (who_it_is form e.hash.0 d ++ how_many_it_has number s) old new → GrowsByEntry form found e old new
grows_by_service form e number bytes d s found old new row is_form beside grows = subst (λ (b : Bool). GrowsByEntry form b e old new) (sym grows.0) (
  record { number = number; bytes = bytes; description = d; segment = s; row = row; form = is_form; beside = beside },
  grows.1,
)

-- one more service, and one more entry that is none
one_service : {form : Form} {entries : List Entry} {n : ℕ} {lines : List ℕ} (e : Entry) (s : IsService e) → AreServiceLines form entries n lines
    → AreServiceLines form (entries ++ e ∷ []) (n + 1) (lines ++ service_line form e s)
one_service {form = form} e s none = subst (λ (t : List ℕ). AreServiceLines form (e ∷ []) (0 + 1) t) (append-nil (service_line form e s)) (service s none)
one_service {form = form} e s (service {e = d} {entries = es} {n = n} {lines = lines} t rest) =
    subst (λ (u : List ℕ). AreServiceLines form (d ∷ es ++ e ∷ []) (n + 1 + 1) u) (sym (append_assoc (service_line form d t) lines (service_line form e s))) (service t (one_service e s rest))
one_service e s (other never rest) = other never (one_service e s rest)

one_other : {form : Form} {entries : List Entry} {n : ℕ} {lines : List ℕ} (e : Entry) → (IsService e → ⊥) → AreServiceLines form entries n lines
    → AreServiceLines form (entries ++ e ∷ []) n lines
one_other e never none = other never none
one_other e never (service s rest) = service s (one_other e never rest)
one_other e never (other lacks rest) = other lacks (one_other e never rest)

-- the text has grown by the lines of these entries, so many of which are services
pub record HasLines (form : Form) (entries : List Entry) (n : ℕ) (old now : List ℕ) : Type 0 where
  pub lines : List ℕ
  pub services : AreServiceLines form entries n lines
  pub grown : now ≡ old ++ lines

pub no_lines_yet : (form : Form) (old : List ℕ) → HasLines form [] 0 old old
no_lines_yet form old = record { lines = []; services = none; grown = sym (append-nil old) }

-- the entries up to the next one
next_entry : (entries : List Entry) (i : ℕ) (e : Entry) → i < length entries → e ≡ get_or entries i e → take (i + 1) entries ≡ take i entries ++ e ∷ []
next_entry entries i e within is = rw (add-one i) (take-suc entries i e within ∙ ap (λ (x : Entry). take i entries ++ x ∷ []) (sym is))

-- of the entries, the next one is such
module _ (form : Form) (entries : List Entry) (i : ℕ) (e : Entry) (within : i < length entries) (is : e ≡ get_or entries i e) where
  pub one_more_service : (n m : ℕ) (found : Bool) (old mid new : List ℕ) → HasLines form (take i entries) n old mid → GrowsByEntry form found e mid new
      → found ≡ true → m ≡ n + 1 → HasLines form (take (i + 1) entries) m old new
  one_more_service n m found old mid new so_far grows so count =
      let by : GrowsByEntry form true e mid new = subst (λ (b : Bool). GrowsByEntry form b e mid new) so grows in
      let more : HasLines form (take i entries ++ e ∷ []) (n + 1) old new = record {
        lines = so_far.lines ++ service_line form e by.0;
        services = one_service e by.0 so_far.services;
        grown = by.1 ∙ ap (λ (t : List ℕ). t ++ service_line form e by.0) so_far.grown ∙ append_assoc old so_far.lines (service_line form e by.0);
      } in
      subst (λ (k : ℕ). HasLines form (take (i + 1) entries) k old new) (sym count) (subst (λ (es : List Entry). HasLines form es (n + 1) old new) (sym (next_entry entries i e within is)) more)

  pub one_more_other : (n m : ℕ) (found : Bool) (old mid new : List ℕ) → HasLines form (take i entries) n old mid → GrowsByEntry form found e mid new
      → found ≡ false → m ≡ n → HasLines form (take (i + 1) entries) m old new
  one_more_other n m found old mid new so_far grows so count =
      let by : GrowsByEntry form false e mid new = subst (λ (b : Bool). GrowsByEntry form b e mid new) so grows in
      let more : HasLines form (take i entries ++ e ∷ []) n old new = record { lines = so_far.lines; services = one_other e by.0 so_far.services; grown = by.1 ∙ so_far.grown } in
      subst (λ (k : ℕ). HasLines form (take (i + 1) entries) k old new) (sym count) (subst (λ (es : List Entry). HasLines form es n old new) (sym (next_entry entries i e within is)) more)
