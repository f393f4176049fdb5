use Rattle.wulameron_trail.proofs.verdicts.write_found.Goals as goal

pub returns : goal.returns
returns c = rw (c.in_ok-wrong.ensures, c.remedy-remedy.ensures) at c.writeln.ensures.bytes
