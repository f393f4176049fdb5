-- What describes an entry of a listing.
use Rattle.std.proofs.Common.{◌≡◌, ℕ, List, None, sym, subst, ◌∙◌}
use Rattle.iceoryx2_data.specs.Form.{IsForm}
use Rattle.iceoryx2_data.specs.declared.bytes.DecodeError.{DecodeError}
use Rattle.iceoryx2_data.specs.declared.bytes.DecodeError.TheVariants as decode
use Rattle.iceoryx2_description.specs.Description.{Description}
use Rattle.iceoryx2_world.specs.declared.listing.ListedRow.{ListedRow}
use Rattle.iceoryx2_world.specs.declared.listing.ListedRow.TheVariants as row
use Rattle.escaped_serve.specs.Entries.{Describes, nothing}

same_bytes : (n m : ℕ) (bs cs : List ℕ) → row.Published n bs ≡ row.Published m cs → bs ≡ cs
same_bytes n m bs cs e = cc

not_both : (e : DecodeError) → e ≡ decode.Malformed → e ≡ decode.OutOfMemory → ⊥
not_both e is other = cc

-- Bytes that are no description's describe nothing.
pub malformed : (stored : ListedRow) (number : ℕ) (bytes lent : List ℕ) (e : DecodeError) → stored ≡ row.Published number bytes → lent ≡ bytes → e ≡ decode.Malformed
    → ((d : Description) → IsForm d lent → e ≡ decode.OutOfMemory) → Describes stored None
malformed stored number bytes lent e is same wrong only = nothing (λ n bs d at form.
    not_both e wrong (only d (subst (IsForm d) (same_bytes n number bs bytes (sym at ∙ is) ∙ sym same) form)))

-- Nor does a row that isn't published.
not_locked : (stored : ListedRow) (number n : ℕ) (bs : List ℕ) → stored ≡ row.Locked number → stored ≡ row.Published n bs → ⊥
not_locked stored number n bs is at = cc

not_absent : (stored : ListedRow) (n : ℕ) (bs : List ℕ) → stored ≡ row.Absent → stored ≡ row.Published n bs → ⊥
not_absent stored n bs is at = cc

pub locked : (stored : ListedRow) (number : ℕ) → stored ≡ row.Locked number → Describes stored None
locked stored number is = nothing (λ n bs d at form. not_locked stored number n bs is at)

pub absent : (stored : ListedRow) → stored ≡ row.Absent → Describes stored None
absent stored is = nothing (λ n bs d at form. not_absent stored n bs is at)
