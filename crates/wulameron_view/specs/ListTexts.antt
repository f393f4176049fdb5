-- The services of a world as a table.
use Rattle.std.specs.Prelude.{ℕ, ◌+◌, ◌-◌, ◌==◌, nat_lt, Bool, true, false, List, [], ◌∷◌, ◌++◌, filter, map, length}
use Rattle.std.specs.Prelude.{Option, Some, None, codes, decimal, if◌then◌else◌, max, min}
use Rattle.std.specs.List.{flat_map}
use Rattle.hex.specs.Hex.{encode_lower}
use Rattle.iceoryx2_description.specs.declared.description.MessagingPattern.{MessagingPattern}
use Rattle.iceoryx2_description.specs.declared.description.MessagingPattern.TheVariants as pattern
use Rattle.negotiate_lines.specs.SettingTerms.{event_vocabulary, publish_subscribe_vocabulary}
use Rattle.negotiate_lines.specs.SettingTerms.{request_response_vocabulary}
use Rattle.wulameron_view.specs.declared.services.Service.{Service}
use Rattle.wulameron_view.specs.declared.services.Creation.{Creation}
use Rattle.wulameron_view.specs.declared.services.Services.{Services}
use Rattle.wulameron_view.specs.declared.list_text.Column.{Column}
use Rattle.wulameron_view.specs.declared.list_text.Column.TheVariants as column
use Rattle.wulameron_view.specs.declared.list_text.Widths.{Widths}
use Rattle.iceoryx2_monitoring.specs.declared.state.NodeStatus.{NodeStatus}
use Rattle.negotiate_lines.specs.Escapes.{escaped}
use Rattle.wulameron_arguments.specs.declared.asked.Listed.{Listed}
use Rattle.wulameron_view.specs.States.{dead_count, dead_holders, lost_count, lost_holders}
use Rattle.wulameron_view.specs.Tables.{cut, padded, red, width_of}

-- ---- the cells of a line

-- the last two aren't padded
pub record Cells : Type 0 where
  pub pattern : List ℕ
  pub name : List ℕ
  pub nodes : List ℕ
  pub creator : List ℕ
  pub number : List ℕ
  pub mark : List ℕ

abbrev pub header : Cells
header = record {
  pattern = codes "PATTERN";
  name = codes "NAME";
  nodes = codes "NODES";
  creator = codes "CREATOR";
  number = codes "NUMBER";
  mark = [];
}

-- the term by which a pattern's command lines begin
abbrev pub pattern_term : MessagingPattern → List ℕ
pattern_term (pattern.Event s) = event_vocabulary.pattern
pattern_term (pattern.PublishSubscribe s) = publish_subscribe_vocabulary.pattern
pattern_term (pattern.RequestResponse s) = request_response_vocabulary.pattern

-- a node, where one is known
abbrev pub node_or_dash : Option ℕ → List ℕ
node_or_dash None = codes "-"
node_or_dash (Some node) = decimal node

-- so many of its nodes are what the word says
abbrev pub mark_of : ℕ → (word : List ℕ) → List ℕ
mark_of n word = if n == 0 then [] else codes "  " ++ (decimal n ++ (codes " " ++ word))

-- so many of its nodes are dead, and so many lost
abbrev pub marks : (dead lost : ℕ) → List ℕ
marks dead lost = mark_of dead (codes "dead") ++ mark_of lost (codes "lost")

abbrev pub service_cells : List NodeStatus → Service → Cells
service_cells states s = record {
  pattern = pattern_term s.description.pattern;
  name = escaped s.description.name;
  nodes = decimal (length s.members.items) ++ (codes "/" ++ decimal s.max_nodes);
  creator = node_or_dash s.description.creator;
  number = decimal s.number;
  mark = marks (dead_count states s.members.items) (lost_count states s.members.items);
}

-- of a service that is being created neither pattern nor name nor room is known
abbrev pub creation_cells : List NodeStatus → Creation → Cells
creation_cells states c = record {
  pattern = codes "-";
  name = encode_lower c.hash.0;
  nodes = codes "-";
  creator = node_or_dash c.node;
  number = decimal c.number ++ codes "  being created";
  mark = marks (dead_holders states c) (lost_holders states c);
}

abbrev pub list_cells : List NodeStatus → Services → List Cells
list_cells states all =
    header ∷ map (service_cells states) all.published.items ++ map (creation_cells states) all.creations.items

-- ---- lines

abbrev pub cell_of : Column → Cells → List ℕ
cell_of column.Pattern c = c.pattern
cell_of column.Name c = c.name
cell_of column.Nodes c = c.nodes
cell_of column.Creator c = c.creator
cell_of column.Number c = c.number
cell_of column.Mark c = c.mark

-- how wide each column of these lines is
abbrev pub widths_of : List Cells → Widths
widths_of lines = record {
  pattern = width_of (cell_of column.Pattern) lines;
  name = width_of (cell_of column.Name) lines;
  nodes = width_of (cell_of column.Nodes) lines;
  creator = width_of (cell_of column.Creator) lines;
  number = width_of (cell_of column.Number) lines;
  mark = width_of (cell_of column.Mark) lines;
}

-- what the other columns and the gaps leave for names of a line with so many columns
abbrev pub room_for : (most : ℕ) → Widths → ℕ
room_for most w = most - 8 - w.pattern - w.nodes - w.creator - w.number - w.mark

-- Names are cut so that a line has at most so many columns, but not to fewer than eight.
abbrev pub fitted : (most : Option ℕ) → Widths → Widths
fitted None w = w
fitted (Some most) w = record w { name = min w.name (max (room_for most w) 8) }

abbrev pub cell_text : (width : ℕ) → List ℕ → List ℕ
cell_text width cell = padded width cell ++ codes "  "

abbrev pub name_text : (width : ℕ) → List ℕ → List ℕ
name_text width name = cell_text width (cut width name)

-- a line's cells, each padded to its column, two spaces apart
abbrev pub padded_cells : Widths → Cells → List ℕ
padded_cells w c =
    cell_text w.pattern c.pattern ++ (name_text w.name c.name ++ (cell_text w.nodes c.nodes
    ++ cell_text w.creator c.creator))

-- that nodes are dead is red
abbrev pub rest_of_line : (colours : Bool) → Cells → List ℕ
rest_of_line colours c = c.number ++ (red colours c.mark ++ codes "\n")

abbrev pub line_text : (colours : Bool) → Widths → Cells → List ℕ
line_text colours w c = padded_cells w c ++ rest_of_line colours c

abbrev pub table_text : (colours : Bool) → (most : Option ℕ) → List Cells → List ℕ
table_text colours most lines = flat_map (line_text colours (fitted most (widths_of lines))) lines

-- ---- below the table

-- so many of the services have dead nodes
abbrev pub dead_published : List NodeStatus → List Service → ℕ
dead_published states all = length (filter (λ s. nat_lt 0 (dead_count states s.members.items)) all)

abbrev pub dead_creations : List NodeStatus → List Creation → ℕ
dead_creations states all = length (filter (λ c. nat_lt 0 (dead_holders states c)) all)

abbrev pub with_dead : List NodeStatus → Services → ℕ
with_dead states all = dead_published states all.published.items + dead_creations states all.creations.items

-- the program by whose commands a log is used
abbrev pub program_of : (is_in_database : Bool) → List ℕ
program_of true = codes "wulameron-postgres"
program_of false = codes "wulameron"

abbrev pub dead_line : (is_in_database : Bool) → ℕ → List ℕ
dead_line is_in_database n =
    if n == 0 then [] else decimal n ++ (codes " with dead nodes; run `"
    ++ (program_of is_in_database ++ codes " clean` to release them\n"))

abbrev pub count_lines : (is_in_database : Bool) → List NodeStatus → Services → List ℕ
count_lines is_in_database states all =
    decimal (length all.published.items + length all.creations.items)
    ++ (codes " services\n" ++ dead_line is_in_database (with_dead states all))

-- The header, a line for each service, how many they are, and how many have dead nodes.
abbrev pub list_text : Listed → List NodeStatus → Services → List ℕ
list_text l states all =
    table_text l.shown.is_coloured l.width (list_cells states all) ++ count_lines l.is_in_database states all

-- ---- what names each service that is published

abbrev pub service_name : Service → List ℕ
service_name s = escaped s.description.name ++ codes "\n"

abbrev pub names_text : Services → List ℕ
names_text all = flat_map service_name all.published.items
