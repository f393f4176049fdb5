-- What a standing factory carries.
use Rattle.std.proofs.Common.{◌≡◌, Some, refl, sym, ap, subst, ◌∙◌}
use Rattle.iceoryx2_description.specs.Description.{Description}
use Rattle.iceoryx2_data.specs.Form as form
use Rattle.iceoryx2_data.proofs.Fields.{one_description}
use Rattle.iceoryx2_world.specs.declared.world.Row.TheVariants as row
use Rattle.iceoryx2_world.specs.World.{row_of, phase_of}
use Rattle.iceoryx2_world.specs.ServiceAgreement.{IsSegmentOf}
use Rattle.iceoryx2_call_laws.specs.Laws.{StandsAmong, CarryTheSame}

-- its segment is one for its description
pub stands_among : StandsAmong
stands_among w f old s =
    let d = (old.everywhere f.description.hash).published f.number (form.description f.description) s.row in
    let same : d.description ≡ f.description = one_description (form.description f.description) d.description f.description d.form (s.limits, refl) in
    subst (λ (e : Description). IsSegmentOf e f.number (λ p. phase_of w p f.description.hash) s.segment.segment) same (d.segment s.segment.segment s.segment.there)

-- two factories of one service
pub carry_the_same : CarryTheSame
carry_the_same w f g s t same =
    let rows : Some (row.Published f.number (form.description f.description)) ≡ Some (row.Published g.number (form.description g.description)) = sym s.row ∙ ap (row_of w) same ∙ t.row in
    let bytes : form.description f.description ≡ form.description g.description = cc in
    (cc, one_description (form.description f.description) f.description g.description (s.limits, refl) (t.limits, bytes))
