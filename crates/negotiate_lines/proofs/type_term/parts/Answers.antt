use Rattle.negotiate_lines.proofs.OneType.{no_second_comma, no_third_comma}
use Rattle.negotiate_lines.proofs.type_term.parts.Goals as goal

pub returns-in_default-around : goal.returns-in_default-around
returns-in_default-around c = no_second_comma _ _ _ c.in-Some.ensures c.in_default-around.ensures

pub returns-in_default-around-2 : goal.returns-in_default-around-2
returns-in_default-around-2 c = no_third_comma _ _ _ _ _ c.in-Some.ensures c.in-Some-around.ensures c.in_default-around-2.ensures
