-- What the text of a reply is in an escaped session.
use Rattle.std.specs.Prelude.{◌≡◌, ℕ, List, ◌++◌, codes, decimal}
use Rattle.iceoryx2_errors.specs.declared.refusal.Refusal.{Refusal}
use Rattle.iceoryx2_builder.specs.declared.command.Reply.{Reply}
use Rattle.iceoryx2_builder.specs.declared.command.Reply.TheVariants as reply
use Rattle.negotiate_lines.specs.declared.leaf.Form.TheVariants as form
use Rattle.negotiate_serve.specs.Replies.{IsReplyText, ListsServices}
use Rattle.iceoryx2_errors.specs.Texts.{text_of}
use Rattle.iceoryx2_errors.specs.Numbers.{number_of}

-- the number of a refusal, and the text of its error
abbrev pub refused_reply : Refusal → List ℕ
refused_reply e = codes "refused " ++ (decimal (number_of e) ++ (codes " " ++ (text_of e ++ codes "\n")))

-- The text of a reply to a command for this slot: a refusal has its number, and the names in a listing are leaves. All
-- else is as in plain lines.
abbrev pub IsEscapedReply : ℕ → Reply → List ℕ → Type 0
IsEscapedReply slot (reply.Refused e) text = text ≡ refused_reply e
IsEscapedReply slot (reply.Listing entries) text = ListsServices form.Escaped entries.items text
IsEscapedReply slot r text = IsReplyText slot r text
