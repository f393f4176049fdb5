use Rattle.std.proofs.Common.{◌++◌, ◌∷◌, ◌∙◌, ap, string_bytes}
use Rattle.iceoryx2_types.specs.Types.{Message}
use Rattle.escaped_serve.specs.Asking.{term_text, type_text}
use Rattle.escaped_serve.proofs.AskingTexts.{first, grown, last, then}
use Rattle.escaped_serve.proofs.asking.write_types.Goals as goal

pub returns : goal.returns
returns c =
    let payload = ap (λ (m : Message). string_bytes c.args.text.now ++ (32 ∷ term_text c.args.payload.now (type_text m.payload))) c.types.view_is in
    let user_header = ap (λ (m : Message). string_bytes c.write_type.new.text ++ (32 ∷ term_text c.args.user_header.now (type_text m.user_header))) c.types.view_is in
    then c.write_type-2.result c.write_type-2.ensures (λ h. grown (first (c.in_ok-write_type.ensures ∙ payload) (last (h ∙ user_header))))
