use Rattle.std.proofs.Common.{take, ap, ◌∙◌, arith, ◌≡◌, ℕ, List, ◌<◌, length}
use Rattle.negotiate_serve.proofs.InputLines.{read_line}
use Rattle.negotiate_lines.specs.Lines.{without_end_of}
use Rattle.negotiate_serve.proofs.input.next_line.Goals as goal

some_read : (n : ℕ) (taken : List ℕ) → (n ≡ 0 → ⊥) → length taken ≡ n → 0 < length taken
some_read n taken some long = omega arith

pub returns-in-Ok-clause-read : goal.returns-in-Ok-clause-read
returns-in-Ok-clause-read g c = λ input known.
    let read = c.in-Ok.ensures in
    let cut : c.truncate.new.self.items ≡ take (length (without_end_of c.read_until.new.buf.items)) c.read_until.new.buf.items =
    c.truncate.ensures.items ∙ ap (λ l. take (length l) c.read_until.new.buf.items) (c.without_end-length.ensures ∙ ap without_end_of c.deref.ensures.value) in
    read_line _ _ c.clear.new.self.items c.read_until.new.buf.items c.truncate.new.self.items input known read.bytes read.rest c.clear.ensures.items
    (some_read c.in-Ok.field-0 c.read_until.new.buf.items c.in-Ok.field-0-test.1
    (omega (arith, read.ok, c.clear.ensures.len, c.clear.new.self.ok.0, c.read_until.new.buf.ok.0))) cut
