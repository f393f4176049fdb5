use Rattle.std.proofs.Common.{◌≡◌, Some, sym, ap, ◌∙◌}
use Rattle.iceoryx2_errors.proofs.Known.{read, is_read}
use Rattle.iceoryx2_errors.proofs.error.texts_of_errors_differ.Goals as goal

pub returns : goal.returns
returns c = λ one other same. let both : Some one ≡ Some other = sym (is_read one) ∙ ap read same ∙ is_read other in cc
