use Rattle.std.proofs.Common.{sym, subst}
use Rattle.negotiate_lines.specs.CallTerms.{Instruction, IsInstructionOf, in_place, instruction_of}
use Rattle.negotiate_lines.specs.Commands.{admitted_of}
use Rattle.negotiate_lines.specs.Wrongs.{no_instruction}
use Rattle.negotiate_lines.proofs.WrongTerms.{follows_judged, malformed}
use Rattle.negotiate_lines.proofs.arguments.judge_term.Goals as goal

pub returns-in-Ok : goal.returns-in-Ok
returns-in-Ok g c =
    let v = g.V.HasVocabulary.vocabulary in
    let term = c.args.term.now in
    let instruction = instruction_of c.in-Ok.instruction in
    follows_judged c.args.form v c.args.how c.args.arguments.now term instruction (subst (λ a. IsInstructionOf c.args.form v a term instruction) c.admitted.ensures c.in-Ok.ensures)
    (in_place c.judge.result c.judge.new.self) c.judge.ensures

pub wrong_term-requires : goal.wrong_term-requires
wrong_term-requires g c = λ instruction is_such.
    let v = g.V.HasVocabulary.vocabulary in
    let found = c.in-Err-Malformed in
    malformed (IsInstructionOf c.args.form v c.admitted.result c.args.term.now) c.call_term.result found.field-0 found.is found.field-0-is c.call_term.ensures instruction
    (subst (λ a. IsInstructionOf c.args.form v a c.args.term.now instruction) (sym c.admitted.ensures) is_such)

pub returns-in-Err-Malformed : goal.returns-in-Err-Malformed
returns-in-Err-Malformed g c =
    let v = g.V.HasVocabulary.vocabulary in
    let found = c.in-Err-Malformed in
    let none : (instruction : Instruction g.row.V-Setter.Denot) → IsInstructionOf c.args.form v (admitted_of v.has_clock c.args.how) c.args.term.now instruction → ⊥ = λ instruction is_such.
    malformed (IsInstructionOf c.args.form v c.admitted.result c.args.term.now) c.call_term.result found.field-0 found.is found.field-0-is c.call_term.ensures instruction
    (subst (λ a. IsInstructionOf c.args.form v a c.args.term.now instruction) (sym c.admitted.ensures) is_such) in
    ((λ new taken. none taken.0 taken.1), no_instruction none c.wrong_term.ensures)
