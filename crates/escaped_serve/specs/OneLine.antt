-- Which answers are one line.
use Rattle.std.specs.Prelude.{◌≡◌, ◌<◌, ◌^◌, ℕ, List, ◌++◌, All, Option, Some, None, codes}
use Rattle.iceoryx2_access.specs.Registered.{Registered}
use Rattle.iceoryx2_builder.specs.declared.command.Reply.{Reply}
use Rattle.iceoryx2_builder.specs.declared.command.Reply.TheVariants as reply
use Rattle.iceoryx2_description.specs.Description.{IsDescription, IsHash}
use Rattle.iceoryx2_world.specs.declared.listing.Entry.{Entry}
use Rattle.escaped_serve.specs.Asking.{IsPrintable}
use Rattle.escaped_serve.specs.Entries.{max_nodes_of, nodes_of, service_number}

-- One line of printable ASCII: there is one line feed, the last byte.
abbrev pub IsOneLine : List ℕ → Type 0
IsOneLine text = (front : List ℕ) × All IsPrintable front × (text ≡ front ++ codes "\n")

-- A reply that is no listing, with numbers that programs have.
abbrev pub IsShort : Reply → Type 0
IsShort (reply.Opened k n) = (k < 2 ^ 64) × (n < 2 ^ 64)
IsShort (reply.Closed k) = k < 2 ^ 64
IsShort (reply.NotClosed k) = k < 2 ^ 64
IsShort (reply.Listing entries) = ⊥
IsShort _ = Unit {0}

-- What a slot holds is within its limits.
abbrev pub IsWithin : Option Registered → Type 0
IsWithin (Some held) = (held.number < 2 ^ 64) × (held.node < 2 ^ 64) × IsDescription held.description
IsWithin None = Unit {0}

-- An entry is.
pub record IsEntryWithin (e : Entry) : Type 0 where
  pub hash : IsHash e.hash
  pub number : service_number e.row e.segment < 2 ^ 64
  pub nodes : nodes_of e.segment < 2 ^ 64
  pub max_nodes : max_nodes_of e.segment < 2 ^ 64
