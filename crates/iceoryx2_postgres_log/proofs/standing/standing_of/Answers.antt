use Rattle.std.proofs.Common.{◌++◌, ap, ◌∙◌, refl}
use Rattle.iceoryx2_postgres_log.proofs.standing.standing_of.Goals as goal

pub returns : goal.returns
returns c = record {
  sum = c.in-Some-behind.sum.now;
  long = c.if-sum-ne-SUM_LENGTH.false;
  is = c.in-Some-behind.ensures ∙ ap (λ l. l ++ c.in-Some-behind.sum.now) (c.as_bytes.ensures.value ∙ c.in-Ok.ensures);
  number = refl;
  place = c.in-Ok-first_place.ensures;
}
