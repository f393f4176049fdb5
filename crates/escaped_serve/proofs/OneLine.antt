-- Answers are one line of printable ASCII.
use Rattle.std.proofs.Common.{◌≡◌, ℕ, ◌<◌, ◌^◌, ◌/◌, ◌%◌, Bool, true, false, ◌&&◌, nat_le, nat_lt, List, [], ◌∷◌, ◌++◌, All, Option, Some, None, codes, decimal, length, slice_index, refl, sym, ap, subst, ◌∙◌, append_assoc, arith}
use Rattle.std.specs.Prelude.{IfSome, if◌then◌else◌}
use Rattle.std.specs.Option.{option_map}
use Rattle.std.proofs.lemmas.Bool.Decides.{nat_tests}
use Rattle.std.proofs.lemmas.List.Elements.{All-append, All-cons, All-head, All-nil, All-tail}
use Rattle.hex.specs.Hex.{encode_lower, encode_with, lower_digits}
use Rattle.iceoryx2_access.specs.Registered.{Registered}
use Rattle.iceoryx2_data.proofs.EachByte.{form_bytes}
use Rattle.iceoryx2_builder.specs.Commands.{slot_count}
use Rattle.iceoryx2_errors.specs.declared.refusal.Refusal.{Refusal}
use Rattle.iceoryx2_errors.specs.declared.refusal.Refusal.TheVariants as refusal
use Rattle.iceoryx2_builder.specs.declared.command.Reply.{Reply}
use Rattle.iceoryx2_builder.specs.declared.command.Reply.TheVariants as reply
use Rattle.iceoryx2_description.specs.Description.{IsDeadline, IsDescription, IsPattern}
use Rattle.iceoryx2_description.specs.declared.event.Deadline.{Deadline}
use Rattle.iceoryx2_description.specs.declared.description.MessagingPattern.{MessagingPattern}
use Rattle.iceoryx2_description.specs.declared.description.MessagingPattern.TheVariants as pattern
use Rattle.iceoryx2_description.specs.Description.{Description}
use Rattle.iceoryx2_errors.specs.declared.error.events.EventOpenError.TheVariants as opening
use Rattle.iceoryx2_errors.specs.declared.error.events.EventCreateError.TheVariants as creating
use Rattle.iceoryx2_errors.specs.declared.error.publish_subscribe.PublishSubscribeOpenError.TheVariants as subscribe_opening
use Rattle.iceoryx2_errors.specs.declared.error.publish_subscribe.PublishSubscribeCreateError.TheVariants as subscribe_creating
use Rattle.iceoryx2_errors.specs.declared.error.request_response.RequestResponseOpenError.TheVariants as request_opening
use Rattle.iceoryx2_errors.specs.declared.error.request_response.RequestResponseCreateError.TheVariants as request_creating
use Rattle.iceoryx2_errors.specs.declared.error.events.EventOpenOrCreateError.TheVariants as event_either
use Rattle.iceoryx2_errors.specs.declared.error.publish_subscribe.PublishSubscribeOpenOrCreateError.TheVariants as subscribe_either
use Rattle.iceoryx2_errors.specs.declared.error.request_response.RequestResponseOpenOrCreateError.TheVariants as request_either
use Rattle.iceoryx2_world.specs.declared.listing.Entry.{Entry}
use Rattle.iceoryx2_world.specs.declared.listing.ListedRow.{ListedRow}
use Rattle.iceoryx2_world.specs.declared.listing.ListedRow.TheVariants as row
use Rattle.iceoryx2_world.specs.declared.listing.ListedSegment.{ListedSegment}
use Rattle.explain_serve.specs.Refusals.{refusal_row}
use Rattle.negotiate_lines.specs.Leaves.{leaf_of}
use Rattle.negotiate_serve.specs.Replies.{pattern_term}
use Rattle.iceoryx2_errors.specs.Texts.{text_of}
use Rattle.escaped_serve.specs.Asking.{IsPrintable, asking}
use Rattle.escaped_serve.specs.Entries.{AreEntryTexts, IsEntryText, TellsEntries, none, first, known_name, known_pattern, max_nodes_of, nodes_of, service_number, state_term}
use Rattle.escaped_serve.specs.Lines.{plain_reply, wrong_reply}
use Rattle.escaped_serve.specs.OneLine.{IsEntryWithin, IsOneLine, IsShort, IsWithin}
use Rattle.escaped_serve.specs.Questions.{IsBytesReply, abandoned_reply, agreed_reply, created_of, empty_reply, number_or_none, refusal_reply, shown_reply, time_or_none}
use Rattle.iceoryx2_errors.specs.Numbers.{number_of, numbered}
use Rattle.escaped_serve.specs.Replies.{IsEscapedReply, refused_reply}
use Rattle.escaped_serve.proofs.AskingCall.{one_line}
use Rattle.escaped_serve.proofs.AskingGraphic.{graphic_all, leaf_graphic, loosely, number_graphic, parts_all}

-- ---- printable texts

unfoldable pub printable_all : List ℕ → Bool
printable_all [] = true
printable_all (b ∷ rest) = (nat_le 32 b && nat_le b 126) && printable_all rest

passes_all : (text : List ℕ) → printable_all text ≡ true → All IsPrintable text
unfolding printable_all
passes_all [] h = All-nil IsPrintable
passes_all (b ∷ rest) h =
    All-cons IsPrintable b rest (grind (arith, nat_tests, h), grind (arith, nat_tests, h)) (passes_all rest (grind (arith, nat_tests, h)))

-- each byte is printable
record Prints (text : List ℕ) : Type 0 where
  all : All IsPrintable text

passes : (text : List ℕ) → printable_all text ≡ true → Prints text
passes text h = record { all = passes_all text h }

graphic_printable : (text : List ℕ) → graphic_all text ≡ true → All IsPrintable text
graphic_printable [] h = All-nil IsPrintable
graphic_printable (b ∷ rest) h =
    let here = parts_all b rest h in
    All-cons IsPrintable b rest (omega (arith, here.low), here.high) (graphic_printable rest here.rest_is)

number : (n : ℕ) → n < 2 ^ 64 → Prints (decimal n)
number n small = record { all = graphic_printable (decimal n) (loosely (decimal n) (number_graphic n small)) }

leaf : (text : List ℕ) → Prints (leaf_of text)
leaf text = record { all = graphic_printable (leaf_of text) (loosely (leaf_of text) (leaf_graphic text)) }

all_digits : All IsPrintable lower_digits
unfolding printable_all
all_digits = passes_all lower_digits refl

digit : (i : ℕ) → i < 16 → IsPrintable (slice_index lower_digits i)
digit i below = all_digits i 0 below

hex_all : (bytes : List ℕ) → All (λ b. b < 256) bytes → All IsPrintable (encode_lower bytes)
unfolding encode_with
hex_all [] all = All-nil IsPrintable
hex_all (b ∷ rest) all =
    let below : b < 256 = All-head (λ (b : ℕ). b < 256) b rest all in
    All-cons IsPrintable (slice_index lower_digits (b / 16)) (slice_index lower_digits (b % 16) ∷ encode_with lower_digits rest) (digit (b / 16) (omega (arith, below)))
    (All-cons IsPrintable (slice_index lower_digits (b % 16)) (encode_with lower_digits rest) (digit (b % 16) (omega arith))
    (hex_all rest (All-tail (λ (b : ℕ). b < 256) b rest all)))

hex : (bytes : List ℕ) → All (λ b. b < 256) bytes → Prints (encode_lower bytes)
hex bytes all = record { all = hex_all bytes all }

-- ---- lines

line_end : IsOneLine (codes "\n")
line_end = ([], All-nil IsPrintable, refl)

before : {front rest : List ℕ} → Prints front → IsOneLine rest → IsOneLine (front ++ rest)
before {front = front} {rest = rest} prints line =
    (front ++ line.0, All-append IsPrintable front line.0 prints.all line.1, ap (λ (t : List ℕ). front ++ t) line.2 ∙ sym (append_assoc front line.0 (codes "\n")))

constant : (front : List ℕ) → printable_all front ≡ true → IsOneLine (front ++ codes "\n")
constant front h = (front, passes_all front h, refl)

both : {front back : List ℕ} → Prints front → Prints back → Prints (front ++ back)
both {front = front} {back = back} p q = record { all = All-append IsPrintable front back p.all q.all }

pub same_line : (text other : List ℕ) → text ≡ other → IsOneLine other → IsOneLine text
same_line text other same line = subst IsOneLine (sym same) line

small_slot : (slot : ℕ) → slot < slot_count → slot < 2 ^ 64
small_slot slot below = omega (arith, below)

-- ---- refusals

error_passes : (e : Refusal) → printable_all (text_of e) ≡ true
unfolding printable_all
error_passes (refusal.EventOpen opening.DoesNotExist) = refl
error_passes (refusal.EventCreate creating.ServiceInCorruptedState) = refl
error_passes (refusal.EventOpenOrCreate (event_either.EventOpenError opening.DoesNotExist)) = refl
error_passes (refusal.EventOpenOrCreate (event_either.EventCreateError creating.ServiceInCorruptedState)) = refl
error_passes (refusal.PublishSubscribeOpen subscribe_opening.DoesNotExist) = refl
error_passes (refusal.PublishSubscribeCreate subscribe_creating.ServiceInCorruptedState) = refl
error_passes (refusal.PublishSubscribeOpenOrCreate (subscribe_either.PublishSubscribeOpenError subscribe_opening.DoesNotExist)) = refl
error_passes (refusal.PublishSubscribeOpenOrCreate (subscribe_either.PublishSubscribeCreateError subscribe_creating.ServiceInCorruptedState)) = refl
error_passes (refusal.RequestResponseOpen request_opening.DoesNotExist) = refl
error_passes (refusal.RequestResponseCreate request_creating.AlreadyExists) = refl
error_passes (refusal.RequestResponseOpenOrCreate (request_either.RequestResponseOpenError request_opening.DoesNotExist)) = refl
error_passes (refusal.RequestResponseOpenOrCreate (request_either.RequestResponseCreateError request_creating.AlreadyExists)) = refl
error_passes _ = refl

number_passes : (e : Refusal) → nat_lt (number_of e) 10000 ≡ true
number_passes (refusal.EventOpen opening.DoesNotExist) = refl
number_passes (refusal.EventCreate creating.ServiceInCorruptedState) = refl
number_passes (refusal.EventOpenOrCreate (event_either.EventOpenError opening.DoesNotExist)) = refl
number_passes (refusal.EventOpenOrCreate (event_either.EventCreateError creating.ServiceInCorruptedState)) = refl
number_passes (refusal.PublishSubscribeOpen subscribe_opening.DoesNotExist) = refl
number_passes (refusal.PublishSubscribeCreate subscribe_creating.ServiceInCorruptedState) = refl
number_passes (refusal.PublishSubscribeOpenOrCreate (subscribe_either.PublishSubscribeOpenError subscribe_opening.DoesNotExist)) = refl
number_passes (refusal.PublishSubscribeOpenOrCreate (subscribe_either.PublishSubscribeCreateError subscribe_creating.ServiceInCorruptedState)) = refl
number_passes (refusal.RequestResponseOpen request_opening.DoesNotExist) = refl
number_passes (refusal.RequestResponseCreate request_creating.AlreadyExists) = refl
number_passes (refusal.RequestResponseOpenOrCreate (request_either.RequestResponseOpenError request_opening.DoesNotExist)) = refl
number_passes (refusal.RequestResponseOpenOrCreate (request_either.RequestResponseCreateError request_creating.AlreadyExists)) = refl
number_passes _ = refl

below_limit : (n : ℕ) → nat_lt n 10000 ≡ true → n < 2 ^ 64
below_limit n h = grind (arith, nat_tests, h)

refused_line : (e : Refusal) → IsOneLine (refused_reply e)
unfolding printable_all
refused_line e =
    before (passes (codes "refused ") refl) (before (number (number_of e) (below_limit (number_of e) (number_passes e)))
    (before (passes (codes " ") refl) (before (passes (text_of e) (error_passes e)) line_end)))

refusal_line : (n : ℕ) (r : Option Refusal) → n < 2 ^ 64 → IsOneLine (refusal_reply n r)
unfolding printable_all
refusal_line n (Some e) small =
    before (passes (codes "refusal ") refl) (before (number n small) (before (passes (codes " ") refl) (before (leaf (text_of e))
    (before (passes (codes " ") refl) (before (leaf (refusal_row e).comes_when) (before (passes (codes " ") refl)
    (before (leaf (refusal_row e).what_can_be_done) line_end)))))))
refusal_line n None small = before (passes (codes "no refusal ") refl) (before (number n small) line_end)

pub refusals : (n : ℕ) (text : List ℕ) → n < 2 ^ 64 → text ≡ refusal_reply n (numbered n) → IsOneLine text
refusals n text small same = same_line text (refusal_reply n (numbered n)) same (refusal_line n (numbered n) small)

-- ---- replies

pub replies : (slot : ℕ) (r : Reply) (text : List ℕ) → slot < slot_count → IsShort r → IsEscapedReply slot r text → IsOneLine text
unfolding printable_all
replies slot (reply.Opened k n) text below small same = (
  codes "ok " ++ decimal k ++ codes " number=" ++ decimal n,
  (both (both (both (passes (codes "ok ") refl) (number k small.0)) (passes (codes " number=") refl)) (number n small.1)).all,
  same,
)
replies slot (reply.Refused e) text below small same = same_line text (refused_reply e) same (refused_line e)
replies slot (reply.Closed k) text below small same = (codes "closed " ++ decimal k, (both (passes (codes "closed ") refl) (number k small)).all, same)
replies slot (reply.NotClosed k) text below small same = (codes "not closed " ++ decimal k, (both (passes (codes "not closed ") refl) (number k small)).all, same)
replies slot reply.SlotInUse text below small same =
    same_line text _ same (before (both (passes (codes "slot ") refl) (number slot (small_slot slot below))) (constant (codes " in use") refl))
replies slot reply.SlotEmpty text below small same =
    same_line text _ same (before (both (passes (codes "slot ") refl) (number slot (small_slot slot below))) (constant (codes " empty") refl))
replies slot reply.NoSuchSlot text below small same =
    (codes "no slot " ++ decimal slot, (both (passes (codes "no slot ") refl) (number slot (small_slot slot below))).all, same)
replies slot (reply.Listing entries) text below small same = absurd small
replies slot reply.OutOfMemory text below small same = absurd same

-- ---- slots

empty_line : (slot : ℕ) → slot < slot_count → IsOneLine (empty_reply slot)
unfolding printable_all
empty_line slot below = before (passes (codes "slot ") refl) (before (number slot (small_slot slot below)) (constant (codes " empty") refl))

number_or : (o : Option ℕ) → IfSome o (λ n. n < 2 ^ 64) → Prints (number_or_none o)
unfolding printable_all
number_or (Some n) small = number n small
number_or None small = passes (codes "none") refl

deadline_created : (o : Option Deadline) → IfSome o IsDeadline → Prints (time_or_none (option_map (λ (d : Deadline). d.creation_time) o))
unfolding printable_all
deadline_created (Some d) is =
    both (number d.creation_time.seconds is.1.0) (both (passes (codes ",") refl) (number d.creation_time.nanoseconds (omega (arith, is.1.1))))
deadline_created None is = passes (codes "none") refl

created : (p : MessagingPattern) → IsPattern p → Prints (time_or_none (created_of p))
unfolding printable_all
created (pattern.Event s) is = deadline_created s.deadline is.deadline
created (pattern.PublishSubscribe s) is = passes (codes "none") refl
created (pattern.RequestResponse s) is = passes (codes "none") refl

asked : (node slot : ℕ) (d : Description) → node < 2 ^ 64 → slot < slot_count → IsDescription d → Prints (asking node slot d)
asked node slot d small below is = record { all = one_line node slot d small below is }

agreed_line : (slot : ℕ) (held : Registered) → slot < slot_count → IsWithin (Some held) → IsOneLine (agreed_reply slot held)
unfolding printable_all
agreed_line slot held below is =
    before (passes (codes "agreed ") refl) (before (number slot (small_slot slot below)) (before (passes (codes " number=") refl) (before (number held.number is.0)
    (before (passes (codes " node=") refl) (before (number held.node is.1) (before (passes (codes " creator=") refl)
    (before (number_or held.description.creator is.2.creator) (before (passes (codes " created=") refl)
    (before (created held.description.pattern is.2.pattern) (before (passes (codes " hash=") refl)
    (before (hex held.description.hash.0 is.2.hash.bytes) (before (passes (codes " ") refl)
    (before (asked held.node slot held.description is.1 below is.2) line_end)))))))))))))

pub shown : (slot : ℕ) (held : Option Registered) → slot < slot_count → IsWithin held → IsOneLine (shown_reply slot held)
shown slot (Some held) below is = agreed_line slot held below is
shown slot None below is = empty_line slot below

pub told_bytes : (slot : ℕ) (held : Option Registered) (text : List ℕ) → slot < slot_count → IsBytesReply slot held text → IsOneLine text
unfolding printable_all
told_bytes slot (Some held) text below is =
    same_line text _ is.2 (before (passes (codes "bytes ") refl) (before (number slot (small_slot slot below)) (before (passes (codes " ") refl)
    (before (hex is.0 (form_bytes held.description is.0 is.1)) line_end))))
told_bytes slot None text below is = same_line text (empty_reply slot) is (empty_line slot below)

pub abandoned : (slot : ℕ) (held : Option Registered) → slot < slot_count → IsOneLine (abandoned_reply slot held)
unfolding printable_all
abandoned slot (Some held) below = before (passes (codes "abandoned ") refl) (before (number slot (small_slot slot below)) line_end)
abandoned slot None below = empty_line slot below

-- ---- entries

marked_or : (b : Bool) → Prints (if b then codes "marked" else codes "published")
unfolding printable_all
marked_or true = passes (codes "marked") refl
marked_or false = passes (codes "published") refl

state : (r : ListedRow) (s : Option ListedSegment) → Prints (state_term r s)
unfolding printable_all
state (row.Locked n) s = passes (codes "being_created") refl
state (row.Published n b) (Some segment) = marked_or segment.marked
state (row.Published n b) None = passes (codes "marked") refl
state row.Absent s = passes (codes "segment_alone") refl

pattern_passes : (p : MessagingPattern) → Prints (pattern_term p)
unfolding printable_all
pattern_passes (pattern.Event s) = passes (codes "event") refl
pattern_passes (pattern.PublishSubscribe s) = passes (codes "pubsub") refl
pattern_passes (pattern.RequestResponse s) = passes (codes "rr") refl

pattern_known : (d : Option Description) → Prints (known_pattern d)
unfolding printable_all
pattern_known (Some d) = pattern_passes d.pattern
pattern_known None = passes (codes "none") refl

name_known : (d : Option Description) → Prints (known_name d)
unfolding printable_all
name_known (Some d) = leaf d.name
name_known None = passes (codes "%") refl

comma : Prints (codes ",")
unfolding printable_all
comma = passes (codes ",") refl

entry : (e : Entry) (text : List ℕ) → IsEntryWithin e → IsEntryText e text → Prints text
unfolding printable_all
entry e text within is =
    subst Prints (sym is.2)
    (both (passes (codes " ") refl) (both (state e.row e.segment) (both comma (both (pattern_known is.0) (both comma
    (both (number (service_number e.row e.segment) within.number) (both comma (both (number (nodes_of e.segment) within.nodes) (both comma
    (both (number (max_nodes_of e.segment) within.max_nodes) (both comma (both (hex e.hash.0 within.hash.bytes) (both comma (name_known is.0))))))))))))))

each : {entries : List Entry} {texts : List ℕ} → All IsEntryWithin entries → AreEntryTexts entries texts → Prints texts
each all none = record { all = All-nil IsPrintable }
each all (first {e = e} {entries = es} {text = t} {texts = ts} is rest) =
    both {front = t} {back = ts} (entry e t (All-head IsEntryWithin e es all) is) (each (All-tail IsEntryWithin e es all) rest)

pub told_entries : (entries : List Entry) (text : List ℕ) → length entries < 2 ^ 64 → All IsEntryWithin entries → TellsEntries entries text → IsOneLine text
unfolding printable_all
told_entries entries text small within is =
    same_line text _ is.are (before (passes (codes "entries ") refl) (before (number (length entries) small) (before (each within is.each) line_end)))

-- ---- others

pub plain_line : (told : List ℕ) → IsOneLine (plain_reply told)
unfolding printable_all
plain_line told = before (passes (codes "plain ") refl) (before (leaf told) line_end)

pub wrong_line : (told : List ℕ) → IsOneLine (wrong_reply told)
unfolding printable_all
wrong_line told = before (passes (codes "wrong ") refl) (before (leaf told) line_end)

pub other_line : IsOneLine (codes "only over a log\n")
unfolding printable_all
other_line = constant (codes "only over a log") refl
