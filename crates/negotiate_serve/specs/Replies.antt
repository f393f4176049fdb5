-- What the text of a reply is.
use Rattle.std.specs.Prelude.{◌≡◌, ℕ, ◌+◌, List, [], ◌∷◌, ◌++◌, Bool, true, false, Some}
use Rattle.std.specs.Prelude.{codes, decimal}
use Rattle.hex.specs.Hex.{encode_lower}
use Rattle.iceoryx2_description.specs.declared.description.MessagingPattern.{MessagingPattern}
use Rattle.iceoryx2_description.specs.declared.description.MessagingPattern.TheVariants as pattern
use Rattle.iceoryx2_description.specs.Description.{Description}
use Rattle.iceoryx2_data.specs.Form.{IsForm}
use Rattle.iceoryx2_errors.specs.Texts.{text_of}
use Rattle.iceoryx2_world.specs.declared.listing.Entry.{Entry}
use Rattle.iceoryx2_world.specs.declared.listing.ListedRow.TheVariants as listed
use Rattle.iceoryx2_world.specs.declared.listing.ListedSegment.{ListedSegment}
use Rattle.iceoryx2_builder.specs.declared.command.Reply.{Reply}
use Rattle.iceoryx2_builder.specs.declared.command.Reply.TheVariants as reply
use Rattle.negotiate_lines.specs.declared.leaf.Form.{Form}
use Rattle.negotiate_lines.specs.declared.leaf.Form.TheVariants as form
use Rattle.negotiate_lines.specs.Leaves.{leaf_of}

-- the term by which a pattern's command lines begin
abbrev pub pattern_term : MessagingPattern → List ℕ
pattern_term (pattern.Event s) = codes "event"
pattern_term (pattern.PublishSubscribe s) = codes "pubsub"
pattern_term (pattern.RequestResponse s) = codes "rr"

-- The entry is a service: its description is published, and its segment stands beside it.
pub record IsService (e : Entry) : Type 0 where
  pub number : ℕ
  pub bytes : List ℕ
  pub description : Description
  pub segment : ListedSegment
  pub row : e.row ≡ listed.Published number bytes
  pub form : IsForm description bytes
  pub beside : e.segment ≡ Some segment

-- a service's name, as lines of this form have it
abbrev pub name_in : Form → List ℕ → List ℕ
name_in form.Plain name = name
name_in form.Escaped name = leaf_of name

-- a service by its pattern, its name and its hash
abbrev pub who_it_is : Form → List ℕ → Description → List ℕ
who_it_is form hash d =
    pattern_term d.pattern ++ (codes " " ++ (name_in form d.name ++ (codes " " ++ encode_lower hash)))

-- its number, and how many nodes it has of how many
abbrev pub how_many_it_has : ℕ → ListedSegment → List ℕ
how_many_it_has number s =
    codes " number=" ++ (decimal number ++ (codes " nodes=" ++ (decimal s.participants
    ++ (codes "/" ++ (decimal s.max_nodes ++ codes "\n")))))

-- its line
abbrev pub service_line : Form → (e : Entry) → IsService e → List ℕ
service_line form e s = who_it_is form e.hash.0 s.description ++ how_many_it_has s.number s.segment

-- The lines of the services among these entries, in their order, and how many they are. What is no service has none.
pub data AreServiceLines (form : Form) : List Entry → ℕ → List ℕ → Type 0 where
  none : AreServiceLines form [] 0 []
  service : {e : Entry} {entries : List Entry} {n : ℕ} {lines : List ℕ} (s : IsService e)
      → AreServiceLines form entries n lines
      → AreServiceLines form (e ∷ entries) (n + 1) (service_line form e s ++ lines)
  other : {e : Entry} {entries : List Entry} {n : ℕ} {lines : List ℕ} → (IsService e → ⊥)
      → AreServiceLines form entries n lines → AreServiceLines form (e ∷ entries) n lines

-- A listing has its services line by line, with names of this form, and then how many they are.
pub record ListsServices (form : Form) (entries : List Entry) (text : List ℕ) : Type 0 where
  pub count : ℕ
  pub lines : List ℕ
  pub services : AreServiceLines form entries count lines
  pub are : text ≡ lines ++ decimal count ++ codes " services\n"

-- The text of a reply to a command for this slot. That there was no memory has no text.
abbrev pub IsReplyText : ℕ → Reply → List ℕ → Type 0
IsReplyText slot (reply.Opened k n) text =
    text ≡ codes "ok " ++ decimal k ++ codes " number=" ++ decimal n ++ codes "\n"
IsReplyText slot (reply.Refused e) text = text ≡ text_of e ++ codes "\n"
IsReplyText slot (reply.Closed k) text = text ≡ codes "closed " ++ decimal k ++ codes "\n"
IsReplyText slot (reply.NotClosed k) text = text ≡ codes "not closed " ++ decimal k ++ codes "\n"
IsReplyText slot reply.SlotInUse text = text ≡ codes "slot " ++ decimal slot ++ codes " in use\n"
IsReplyText slot reply.SlotEmpty text = text ≡ codes "slot " ++ decimal slot ++ codes " empty\n"
IsReplyText slot reply.NoSuchSlot text = text ≡ codes "no slot " ++ decimal slot ++ codes "\n"
IsReplyText slot (reply.Listing entries) text = ListsServices form.Plain entries.items text
IsReplyText slot reply.OutOfMemory text = ⊥

-- The text has grown by what is added.
abbrev pub GrowsBy : (IsAdded : List ℕ → Type 0) → (old new : List ℕ) → Type 0
GrowsBy IsAdded old new = (text : List ℕ) × IsAdded text × (new ≡ old ++ text)

-- The text has grown by a service's line, and the answer is that this is a service.
abbrev pub GrowsByService : Bool → (line : List ℕ) → (old new : List ℕ) → Type 0
GrowsByService found line old new = (found ≡ true) × (new ≡ old ++ line)

-- The text has grown by the entry's line where that is a service, and else it is as it was.
abbrev pub GrowsByEntry : Form → Bool → Entry → (old new : List ℕ) → Type 0
GrowsByEntry form true e old new = (s : IsService e) × (new ≡ old ++ service_line form e s)
GrowsByEntry form false e old new = (IsService e → ⊥) × (new ≡ old)
