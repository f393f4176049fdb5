-- What is answered to the questions of an escaped session.
use Rattle.std.specs.Prelude.{◌≡◌, ℕ, List, ◌++◌, Option, Some, None, codes, decimal, slice_set}
use Rattle.std.specs.Option.{option_map}
use Rattle.hex.specs.Hex.{encode_lower}
use Rattle.iceoryx2_access.specs.Registered.{Registered}
use Rattle.iceoryx2_data.specs.Form.{IsForm}
use Rattle.iceoryx2_errors.specs.declared.refusal.Refusal.{Refusal}
use Rattle.iceoryx2_description.specs.Span.{Span}
use Rattle.iceoryx2_description.specs.declared.description.MessagingPattern.{MessagingPattern}
use Rattle.iceoryx2_description.specs.declared.description.MessagingPattern.TheVariants as pattern
use Rattle.iceoryx2_session.specs.Sessions.{SessionOver}
use Rattle.iceoryx2_session.specs.Slots.{held_at}
use Rattle.iceoryx2_world.specs.Listing.{Lists}
use Rattle.iceoryx2_world.specs.World.{World}
use Rattle.iceoryx2_world.specs.declared.listing.Entry.{Entry}
use Rattle.explain_serve.specs.Refusals.{refusal_row}
use Rattle.negotiate_lines.specs.Leaves.{leaf_of}
use Rattle.negotiate_lines.specs.declared.question.Question.{Question}
use Rattle.negotiate_lines.specs.declared.question.Question.TheVariants as question
use Rattle.iceoryx2_errors.specs.Texts.{text_of}
use Rattle.escaped_serve.specs.Asking.{asking}
use Rattle.escaped_serve.specs.Entries.{TellsEntries}
use Rattle.iceoryx2_errors.specs.Numbers.{numbered}

-- ---- of a slot

abbrev pub empty_reply : (slot : ℕ) → List ℕ
empty_reply slot = codes "slot " ++ (decimal slot ++ codes " empty\n")

-- a number, or that there is none
abbrev pub number_or_none : Option ℕ → List ℕ
number_or_none (Some n) = decimal n
number_or_none None = codes "none"

-- a time, or that there is none
abbrev pub time_or_none : Option Span → List ℕ
time_or_none (Some time) = decimal time.seconds ++ (codes "," ++ decimal time.nanoseconds)
time_or_none None = codes "none"

-- when a service was created, which one of events with a deadline tells
abbrev pub created_of : MessagingPattern → Option Span
created_of (pattern.Event s) = option_map (λ deadline. deadline.creation_time) s.deadline
created_of (pattern.PublishSubscribe s) = None
created_of (pattern.RequestResponse s) = None

-- what was agreed on in a slot, with the line that asks for it
abbrev pub agreed_reply : (slot : ℕ) → Registered → List ℕ
agreed_reply slot held =
    codes "agreed " ++ (decimal slot ++ (codes " number=" ++ (decimal held.number ++ (codes " node="
    ++ (decimal held.node ++ (codes " creator=" ++ (number_or_none held.description.creator ++ (codes " created="
    ++ (time_or_none (created_of held.description.pattern) ++ (codes " hash="
    ++ (encode_lower held.description.hash.0 ++ (codes " " ++ (asking held.node slot held.description
    ++ codes "\n")))))))))))))

abbrev pub shown_reply : (slot : ℕ) → Option Registered → List ℕ
shown_reply slot (Some held) = agreed_reply slot held
shown_reply slot None = empty_reply slot

-- The description is told as it is stored.
abbrev pub IsBytesReply : (slot : ℕ) → Option Registered → (text : List ℕ) → Type 0
IsBytesReply slot (Some held) text = (bytes : List ℕ) × IsForm held.description bytes
    × (text ≡ codes "bytes " ++ (decimal slot ++ (codes " " ++ (encode_lower bytes ++ codes "\n"))))
IsBytesReply slot None text = text ≡ empty_reply slot

-- The slot held something, which it has let go of, or it is empty.
abbrev pub abandoned_reply : (slot : ℕ) → Option Registered → List ℕ
abandoned_reply slot (Some held) = codes "abandoned " ++ (decimal slot ++ codes "\n")
abandoned_reply slot None = empty_reply slot

-- ---- of a refusal

-- its name, when it comes, and what can be done; or that no refusal has this number
abbrev pub refusal_reply : (number : ℕ) → Option Refusal → List ℕ
refusal_reply number (Some e) =
    codes "refusal " ++ (decimal number ++ (codes " " ++ (leaf_of (text_of e) ++ (codes " "
    ++ (leaf_of (refusal_row e).comes_when ++ (codes " " ++ (leaf_of (refusal_row e).what_can_be_done
    ++ codes "\n")))))))
refusal_reply number None = codes "no refusal " ++ (decimal number ++ codes "\n")

-- ---- of each

-- what is answered to what only a log can be asked
abbrev pub only_over_a_log : List ℕ
only_over_a_log = codes "only over a log\n"

-- It is no plain line. That is carried out by what answers lines.
abbrev pub IsNoPlain : Question → Type 0
IsNoPlain (question.Plain line) = ⊥
IsNoPlain _ = Unit {0}

-- What is answered to a question over a storage that isn't a log, and what that makes of the session. Only an abandon
-- changes it: its slot is empty then.
abbrev pub AnswersQuestion : {S : Type 0} (world : S → World) → SessionOver S → Question → (text : List ℕ)
    → SessionOver S → Type 0
AnswersQuestion world old (question.Show slot) text new =
    (new ≡ old) × (text ≡ shown_reply slot (held_at old.slots slot))
AnswersQuestion world old (question.Bytes slot) text new =
    (new ≡ old) × IsBytesReply slot (held_at old.slots slot) text
AnswersQuestion world old (question.Abandon slot) text new =
    (new ≡ record old { slots = slice_set old.slots slot None })
    × (text ≡ abandoned_reply slot (held_at old.slots slot))
AnswersQuestion world old question.Entries text new =
    (new ≡ old) × ((entries : List Entry) × Lists (world old.table) entries × TellsEntries entries text)
AnswersQuestion world old (question.Refusal number) text new =
    (new ≡ old) × (text ≡ refusal_reply number (numbered number))
AnswersQuestion world old question.Nodes text new = (new ≡ old) × (text ≡ only_over_a_log)
AnswersQuestion world old (question.Clean only) text new = (new ≡ old) × (text ≡ only_over_a_log)
AnswersQuestion world old (question.Rehearse only) text new = (new ≡ old) × (text ≡ only_over_a_log)
AnswersQuestion world old (question.Plain line) text new = ⊥
