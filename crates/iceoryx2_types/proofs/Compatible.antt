use Rattle.std.proofs.Common.{◌≡◌, ℕ, ◌≤◌, ap, refl, ◌∙◌, ◌↔◌, IsTrue, rules}
use Rattle.std.proofs.Math.Nat.{le_refl, le_trans}
use Rattle.iceoryx2_types.specs.Types.{Detail, Message, Fits, IsCompatible}
use Rattle.std.specs.Prelude.{◌&&◌, bytes_eq, nat_eq, nat_le}
use Rattle.std.specs.Bool.{Decides}
use Rattle.std.proofs.lemmas.Bool.Decides.{Decides-and, Decides-eqb}
use Rattle.std.proofs.lemmas.Bool.{le-leb, leb-true}
use Rattle.std.proofs.lemmas.Slice.Eq.{bytes_eq-Decides}
use Rattle.iceoryx2_types.specs.declared.types.TypeVariant.{TypeVariant}
use Rattle.iceoryx2_types.specs.declared.types.TypeVariant.TheVariants.{FixedSize, Dynamic}
use Rattle.iceoryx2_types.specs.Types.{same_variant, same_type, same_detail, fits, compatible}

fits_itself : (d : Detail) → Fits d d
fits_itself d = record { variant = refl; name = refl; size = refl; alignment = le_refl d.alignment }

fits_further : {c d e : Detail} → Fits c d → Fits d e → Fits c e
fits_further f g = record {
  variant = f.variant ∙ g.variant;
  name = f.name ∙ g.name;
  size = f.size ∙ g.size;
  alignment = le_trans f.alignment g.alignment;
}

pub reflexive : (a : Message) → IsCompatible a a
reflexive a = record {
  header = refl;
  user_header = fits_itself a.user_header;
  payload = fits_itself a.payload;
}

pub transitive : (a b c : Message) → IsCompatible a b → IsCompatible b c → IsCompatible a c
transitive a b c f g = record {
  header = f.header ∙ g.header;
  user_header = fits_further f.user_header g.user_header;
  payload = fits_further f.payload g.payload;
}

-- ---- the tests decide the relations

variant_decides : (v w : TypeVariant) → Decides (same_variant v w) (v ≡ w)
variant_decides FixedSize FixedSize = (λ e. refl, λ e. refl)
variant_decides FixedSize Dynamic = search rules
variant_decides Dynamic FixedSize = search rules
variant_decides Dynamic Dynamic = (λ e. refl, λ e. refl)

le_decides : (m n : ℕ) → Decides (nat_le m n) (m ≤ n)
le_decides m n = (λ h. leb-true m n h, λ h. le-leb m n h)

abbrev IsSameType : Detail → Detail → Type 0
IsSameType d e = ((d.variant ≡ e.variant) × (d.name ≡ e.name)) × (d.size ≡ e.size)

abbrev Parts : Detail → Detail → Type 0
Parts d e = IsSameType d e × (d.alignment ≡ e.alignment)

type_decides : (d e : Detail) → Decides (same_type d e) (IsSameType d e)
type_decides d e = Decides-and (same_variant d.variant e.variant && bytes_eq d.name e.name) (nat_eq d.size e.size)
    (Decides-and (same_variant d.variant e.variant) (bytes_eq d.name e.name)
    (variant_decides d.variant e.variant) (bytes_eq-Decides d.name e.name))
    (Decides-eqb d.size e.size)

same_parts : (d e : Detail) → Parts d e → d ≡ e
same_parts d e p = λ i. record { variant = p.0.0.0 i; name = p.0.0.1 i; size = p.0.1 i; alignment = p.1 i }

parts : (d e : Detail) → d ≡ e → Parts d e
parts d e h =
    (((ap (λ x. x.variant) h, ap (λ x. x.name) h), ap (λ x. x.size) h), ap (λ x. x.alignment) h)

detail_decides : (d e : Detail) → Decides (same_detail d e) (d ≡ e)
detail_decides d e =
    let both : Decides (same_detail d e) (Parts d e) =
    Decides-and (same_type d e) (nat_eq d.alignment e.alignment) (type_decides d e) (Decides-eqb d.alignment e.alignment) in
    (λ h. same_parts d e (both.0 h), λ h. both.1 (parts d e h))

fits_decides : (d e : Detail) → Decides (fits d e) (Fits d e)
fits_decides d e =
    let both : Decides (fits d e) (IsSameType d e × (d.alignment ≤ e.alignment)) =
    Decides-and (same_type d e) (nat_le d.alignment e.alignment) (type_decides d e) (le_decides d.alignment e.alignment) in (
      λ h. let p : IsSameType d e × (d.alignment ≤ e.alignment) = both.0 h in
          record { variant = p.0.0.0; name = p.0.0.1; size = p.0.1; alignment = p.1 },
      λ f. both.1 (((f.variant, f.name), f.size), f.alignment),
    )

abbrev MessageParts : Message → Message → Type 0
MessageParts a b = ((a.header ≡ b.header) × Fits a.user_header b.user_header) × Fits a.payload b.payload

pub decided : (a b : Message) → IsTrue (compatible a b) ↔ IsCompatible a b
unfolding compatible
decided a b =
    let all : Decides (compatible a b) (MessageParts a b) =
    Decides-and (same_detail a.header b.header && fits a.user_header b.user_header) (fits a.payload b.payload)
    (Decides-and (same_detail a.header b.header) (fits a.user_header b.user_header)
    (detail_decides a.header b.header) (fits_decides a.user_header b.user_header))
    (fits_decides a.payload b.payload) in (
      λ h. let p : MessageParts a b = all.0 h in record { header = p.0.0; user_header = p.0.1; payload = p.1 },
      λ c. all.1 ((c.header, c.user_header), c.payload),
    )
