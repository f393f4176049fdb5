-- Types of messages.
use Rattle.std.proofs.Common.{◌≡◌, ℕ, zero, suc, Bool, true, false, List, [], ◌∷◌, refl, subst, append_assoc, arith}
use Rattle.std.specs.Int.{w64, is_power_of_two}
use Rattle.iceoryx2_types.specs.declared.types.TheConstants.{MIN_TYPE_NAME_LENGTH, MAX_TYPE_NAME_LENGTH}
use Rattle.iceoryx2_types.specs.declared.types.TypeVariant.{TypeVariant}
use Rattle.iceoryx2_types.specs.declared.types.TypeVariant.TheVariants.{FixedSize, Dynamic}
use Rattle.iceoryx2_description.specs.Messages.{IsMeasured, IsMeasuredMessage}
use Rattle.iceoryx2_data.specs.PartForm.{number, truth, variant, detail, message}
use Rattle.iceoryx2_data.specs.PartReading.{Part, as_at, number_at, truth_at, variant_at, detail_from, detail_at, message_from, message_at}
use Rattle.iceoryx2_data.proofs.PartForms.{Any, Reads, Reads-then, Reads-as, Reads-where, Reads-form, Reads-number64, Reads-text, Reads-truth}
use Rattle.iceoryx2_data.proofs.Times.{Below64}

-- a variant is spelled as a truth value
abbrev dynamic : TypeVariant → Bool
dynamic FixedSize = false
dynamic Dynamic = true

abbrev kind : Bool → TypeVariant
kind false = FixedSize
kind true = Dynamic

kind_dynamic : (v : TypeVariant) → kind (dynamic v) ≡ v
kind_dynamic FixedSize = refl
kind_dynamic Dynamic = refl

dynamic_kind : (b : Bool) → dynamic (kind b) ≡ b
dynamic_kind false = refl
dynamic_kind true = refl

same_form : (v : TypeVariant) → truth (dynamic v) ≡ variant v
same_form FixedSize = refl
same_form Dynamic = refl

same_part : (bytes : List ℕ) → as_at kind truth_at bytes ≡ variant_at bytes
unfolding variant_at truth_at
same_part [] = refl
same_part (zero ∷ rest) = refl
same_part (suc zero ∷ rest) = refl
same_part (suc (suc b) ∷ rest) = refl

Reads-variant : Reads variant_at variant Any
Reads-variant = subst (λ (r : Part TypeVariant). Reads r variant Any) (λ i bytes. same_part bytes i)
    (Reads-form (as_at kind truth_at) (λ v. truth (dynamic v)) variant Any (Reads-as kind dynamic truth_at truth Any Any kind_dynamic dynamic_kind (λ b h. tt) (λ v h. tt) Reads-truth) same_form)

Reads-detail : Reads detail_at detail IsMeasured
unfolding detail_at
Reads-detail = Reads-form _ _ detail IsMeasured (Reads-as detail_from (λ d. (d.variant, (d.name, (d.size, d.alignment)))) _ _ _ IsMeasured (λ b. refl) (λ a. refl)
    (λ a h. record { detail = record { name = h.1.0; alignment = h.1.1.1.1 }; size = h.1.1.0; alignment = h.1.1.1.0 })
    (λ d h. (tt, (h.detail.name, (h.size, (h.alignment, h.detail.alignment)))))
    (Reads-then _ _ _ _ _ _ Reads-variant (Reads-then _ _ _ _ _ _ (Reads-text MIN_TYPE_NAME_LENGTH MAX_TYPE_NAME_LENGTH (omega arith))
    (Reads-then _ _ _ _ _ _ Reads-number64 (Reads-where is_power_of_two (number_at w64) number Below64 Reads-number64)))))
    (λ d. simp append_assoc)

pub Reads-message : Reads message_at message IsMeasuredMessage
unfolding message_at
Reads-message = Reads-form _ _ message IsMeasuredMessage (Reads-as message_from (λ m. (m.header, (m.user_header, m.payload))) _ _ _ IsMeasuredMessage (λ b. refl) (λ a. refl)
    (λ a h. record { header = h.0; user_header = h.1.0; payload = h.1.1 })
    (λ m h. (h.header, (h.user_header, h.payload)))
    (Reads-then _ _ _ _ _ _ Reads-detail (Reads-then _ _ _ _ _ _ Reads-detail Reads-detail)))
    (λ m. simp append_assoc)
