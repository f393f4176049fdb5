use Rattle.std.proofs.Common.{refl}
use Rattle.negotiate_lines.specs.Wrongs.{no_equals_sign, wrong_value}
use Rattle.negotiate_lines.proofs.wrong_terms.wrong_term.Goals as goal

pub wrong_value-requires : goal.wrong_value-requires
wrong_value-requires g c = λ instruction is_such. c.requires instruction (record { name = c.in-Some.name.now; value = c.in-Some.value.now; around = c.in-Some.ensures; value_is = is_such })

pub returns-in-Some : goal.returns-in-Some
returns-in-Some g c = wrong_value c.in-Some.name.now c.in-Some.value.now c.in-Some.ensures c.wrong_value.ensures

pub returns-in-None : goal.returns-in-None
returns-in-None g c = no_equals_sign refl c.in-None.ensures
