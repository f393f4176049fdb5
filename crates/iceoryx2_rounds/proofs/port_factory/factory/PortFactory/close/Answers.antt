use Rattle.std.proofs.Common.{◌≡◌, ap, ◌∙◌, Err}
use Rattle.iceoryx2_rounds.proofs.HandedBack.{handed_back}
use Rattle.iceoryx2_rounds.proofs.port_factory.factory.PortFactory.close.Goals as goal

pub new-requires : goal.new-requires
new-requires g c =
    let back : c.in-NotHere.registration ≡ c.into_registration.result = handed_back c.in-NotHere.registration (c.in-Err.is ∙ ap Err c.in-NotHere.is) c.close.ensures.is_word in
    ap (λ r. g.K.Kind.is_of r.description.pattern) (back ∙ c.into_registration.ensures.value) ∙ c.into_registration.ensures.pattern
