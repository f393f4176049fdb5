use Rattle.std.proofs.Common.{◌≡◌, ap, rules}
use Rattle.std.specs.Prelude.{Bool, ◌&&◌}
use Rattle.std.specs.Bool.{Decides}
use Rattle.std.proofs.lemmas.Bool.Decides.{Decides-and}
use Rattle.iceoryx2_types.specs.Types.{Detail, Message, same_detail}

-- ---- the derived comparisons, which go by the fields in order

abbrev equal : Detail → Detail → Bool
equal = same_detail

abbrev equal_messages : Message → Message → Bool
equal_messages a b = equal a.header b.header
    && (equal a.user_header b.user_header && equal a.payload b.payload)

abbrev Parts : Message → Message → Type 0
Parts a b = (a.header ≡ b.header) × ((a.user_header ≡ b.user_header) × (a.payload ≡ b.payload))

details : (d e : Detail) → Decides (equal d e) (d ≡ e)
details d e = search rules

parts : (a b : Message) → Decides (equal_messages a b) (Parts a b)
parts a b = Decides-and (equal a.header b.header)
    (equal a.user_header b.user_header && equal a.payload b.payload) (details a.header b.header)
    (Decides-and (equal a.user_header b.user_header) (equal a.payload b.payload)
    (details a.user_header b.user_header) (details a.payload b.payload))

pub messages : (a b : Message) → Decides (equal_messages a b) (a ≡ b)
messages a b = (
  λ h. let p : Parts a b = (parts a b).0 h in
      λ i. record { header = p.0 i; user_header = p.1.0 i; payload = p.1.1 i },
  λ e. (parts a b).1 (ap (λ m. m.header) e, (ap (λ m. m.user_header) e, ap (λ m. m.payload) e)),
)
