use Rattle.std.proofs.Common.{◌≡◌, ◌+◌, take, string_bytes}
use Rattle.iceoryx2_postgres_log.specs.Questions.{insertings}
use Rattle.iceoryx2_postgres_log.proofs.question.copying.Given as goal

abbrev pub invariant-loop-form : goal.invariant-loop-form
invariant-loop-form l = record {
  last_is : l.last ≡ l.number + l.form-index;
  text : string_bytes l.question ≡ insertings l.log l.generation l.number (take l.form-index l.forms);
}
