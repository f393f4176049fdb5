-- A line that begins with a word of a command begins with none of a question.
use Rattle.std.proofs.Common.{◌≡◌, ℕ, Bool, true, false, List, [], ◌∷◌, Result, Ok, Err, OnOk, codes, refl, ap, ◌∙◌}
use Rattle.std.specs.declared.alloc.AllocError.{AllocError}
use Rattle.std.specs.Str.{IsUtf8}
use Rattle.iceoryx2_builder.specs.declared.command.Call.{Call}
use Rattle.iceoryx2_builder.specs.declared.command.Command.{Command}
use Rattle.iceoryx2_builder.specs.declared.command.Command.TheVariants as command
use Rattle.iceoryx2_builder.specs.declared.command.Settings.{Settings}
use Rattle.iceoryx2_builder.specs.declared.command.Settings.TheVariants as settings
use Rattle.negotiate_lines.specs.declared.leaf.Form.TheVariants as form
use Rattle.negotiate_lines.specs.declared.line.Line.{Line}
use Rattle.negotiate_lines.specs.declared.line.Line.TheVariants as line
use Rattle.negotiate_lines.specs.declared.question.Request.TheVariants as request
use Rattle.negotiate_lines.specs.declared.line_error.LineError.{LineError}
use Rattle.negotiate_lines.specs.Commands.{IsCallOf, IsCommandOf}
use Rattle.negotiate_lines.specs.Lines.{IsLineIn}
use Rattle.negotiate_lines.specs.Questions.{begins_question}
use Rattle.negotiate_lines.specs.Terms.{terms_of}
use Rattle.negotiate_lines.specs.Wrongs.{IsWrong, WrongTerms, not_utf8, in_terms, no_command, behind_list, at_slot, behind_slot, event, publish_subscribe, request_response}
use Rattle.negotiate_serve.specs.Replies.{GrowsBy}
use Rattle.negotiate_serve.specs.Transcripts.{Answering}
use Rattle.escaped_serve.specs.Lines.{AnsweringQuestions, AnswersEscapedLine, AnswersKnown, begins_otherwise}

call_begins : (of : Settings) (terms : List (List ℕ)) (call : Call) → IsCallOf form.Escaped of terms call → begins_question terms ≡ false
call_begins (settings.Event s) terms call is = ap begins_question is.are
call_begins (settings.PublishSubscribe s) terms call is = ap begins_question is.are
call_begins (settings.RequestResponse s) terms call is = ap begins_question is.are

command_begins : (terms : List (List ℕ)) (c : Command) → IsCommandOf form.Escaped terms c → begins_question terms ≡ false
command_begins terms (command.Call call) is = call_begins call.settings terms call is
command_begins terms (command.Close slot) is = ap begins_question is.are
command_begins terms command.List is = ap begins_question is

wrong_begins : (terms : List (List ℕ)) (w : LineError) → begins_otherwise (line.NotACommand w) ≡ false → WrongTerms form.Escaped terms w → begins_question terms ≡ false
wrong_begins terms w other (no_command rest are none) = absurd cc
wrong_begins terms w other (behind_list rest are) = ap begins_question are
wrong_begins terms w other (at_slot rest are is) = ap begins_question are
wrong_begins terms w other (behind_slot slot rest are is) = ap begins_question are
wrong_begins terms w other (event rest are is) = ap begins_question are
wrong_begins terms w other (publish_subscribe rest are is) = ap begins_question are
wrong_begins terms w other (request_response rest are is) = ap begins_question are

in_bytes : (bytes : List ℕ) (w : LineError) → begins_otherwise (line.NotACommand w) ≡ false → IsWrong form.Escaped bytes w → IsUtf8 bytes
    → begins_question (terms_of bytes) ≡ false
in_bytes bytes w other (not_utf8 none) utf8 = absurd (none utf8)
in_bytes bytes w other (in_terms is wrongs) utf8 = wrong_begins (terms_of bytes) w other wrongs

pub no_question : (bytes : List ℕ) (l : Line) → begins_otherwise l ≡ false → IsLineIn form.Escaped bytes l → IsUtf8 bytes
    → begins_question (terms_of bytes) ≡ false
no_question bytes line.Blank other is utf8 = ap begins_question is.1
no_question bytes (line.Command c) other is utf8 = command_begins (terms_of bytes) c is.1
no_question bytes (line.NotACommand w) other is utf8 = in_bytes bytes w other is.1 utf8

-- what answers such a line answers a request
pub known_answered : {M : Type 0} (Answers Escaped : Answering M) (Asks : AnsweringQuestions M) (m n : M) (bytes old new : List ℕ) (l : Line)
    → begins_otherwise l ≡ false → IsLineIn form.Escaped bytes l → (r : Result (Unit {0}) AllocError)
    → OnOk r (GrowsBy (λ added. AnswersKnown Answers Escaped Asks m bytes l added n) old new)
    → OnOk r (GrowsBy (λ added. AnswersEscapedLine Answers Escaped Asks m bytes added n) old new)
known_answered Answers Escaped Asks m n bytes old new l other is (Ok x) grown =
    (grown.0, record { known = request.Line l; is_request = (no_question bytes l other is, is); is_answer = grown.1 }, grown.2)
known_answered Answers Escaped Asks m n bytes old new l other is (Err e) grown = tt
