-- The table of the messages, as HTML.
use Rattle.std.specs.Prelude.{ℕ, ◌==◌, not, Bool, true, false, List, [], ◌∷◌, ◌++◌, Option, Some, None, codes, length}
use Rattle.std.specs.Prelude.{if◌then◌else◌}
use Rattle.std.specs.List.{enumerate_from, flat_map, list_any}
use Rattle.can_id.specs.Ident.{dbc_number}
use Rattle.can_id.specs.declared.ident.Ident.{Ident}
use Rattle.can_id.specs.J1939.{Fields, ident_fields, pgn_of}
use Rattle.dbc_sheet.specs.declared.message.Message.{Message}
use Rattle.markup.specs.Html.{element_html, end_tag, escaped, start_tag, valued}
use Rattle.markup.specs.Writing.{Writing, adding, ending}
use Rattle.markup.specs.declared.tag.Tag.TheVariants as tag
use Rattle.page_parts.specs.Frames.{with_part, with_table, with_wide}
use Rattle.page_parts.specs.Letters.{badge}
use Rattle.page_parts.specs.Marks.{mark_at, state_at}
use Rattle.page_parts.specs.Numbers.{ident_hex, runs}
use Rattle.page_parts.specs.Subjects.{messages_of, owner_at}
use Rattle.page_parts.specs.Words.{bad, cell, number_cell}
use Rattle.page_parts.specs.declared.marks.Mark.{Mark}
use Rattle.page_parts.specs.declared.marks.Marks.{Marks}
use Rattle.page_parts.specs.declared.marks.State.{State}
use Rattle.page_parts.specs.declared.marks.State.TheVariants.{Same, New, Changed, Breaking}
use Rattle.page_parts.specs.declared.subject.Subject.{Subject}
use Rattle.page_messages.specs.Names.{message_head, sender_of}
use Rattle.page_messages.specs.Used.{used_bits}
use Rattle.page_messages.specs.declared.messages.Columns.{Columns}

-- ---- columns

-- it is another message than in the last release
abbrev pub is_other : State → Bool
is_other Same = false
is_other state = true

-- one of them is
abbrev pub has_other : List Mark → Bool
has_other marks = list_any (λ (mark : Mark). is_other mark.state) marks

-- which columns are there that aren't always
abbrev pub columns_of : Subject → Marks → Columns
columns_of subject marks = record {
  groups = subject.is_j1939;
  owners = not subject.is_alone;
  releases = marks.has_releases;
  states = has_other marks.marks.items;
}

abbrev pub only : Bool → List (List ℕ) → List (List ℕ)
only is_there heads = if is_there then heads else []

-- the heads of the columns
abbrev pub heads_of : Columns → List (List ℕ)
heads_of columns =
    (codes "Message" ∷ codes "Number" ∷ codes "DBC number" ∷ [])
    ++ (only columns.groups (codes "PGN" ∷ codes "SA" ∷ [])
    ++ ((codes "Bytes" ∷ codes "Bits used" ∷ codes "Signals" ∷ codes "Sent by" ∷ [])
    ++ (only columns.owners (codes "Owner" ∷ [])
    ++ (only columns.releases (codes "Releases" ∷ [])
    ++ only columns.states (codes "State" ∷ [])))))

-- ---- cells

abbrev pub no_cell : List ℕ
no_cell = element_html tag.Cell [] []

-- the parameter group and the source address; empty of a message of 11 bits
abbrev pub group_cells : Option Fields → List ℕ
group_cells (Some f) = number_cell (pgn_of f) ++ number_cell f.source
group_cells None = no_cell ++ no_cell

abbrev pub groups_html : Columns → Message → List ℕ
groups_html columns m = if columns.groups then group_cells (ident_fields m.ident) else []

abbrev pub ident_cell : Ident → List ℕ
ident_cell ident = cell (start_tag tag.Code [] ++ (ident_hex ident ++ end_tag tag.Code))

-- a message's numbers
abbrev pub number_cells : Columns → Message → List ℕ
number_cells columns m =
    ident_cell m.ident ++ (number_cell (dbc_number m.ident)
    ++ (groups_html columns m
    ++ (number_cell m.length ++ (number_cell (used_bits m) ++ number_cell (length m.signals)))))

-- the node that sends it; of a sheet alone that is its owner
abbrev pub sender_cell : Subject → Message → List ℕ
sender_cell subject m = if subject.is_alone then [] else element_html tag.Cell [] (sender_of m)

-- the node that sends it, and in a network the team that owns it
abbrev pub people_cells : Subject → ℕ → Message → List ℕ
people_cells subject i m =
    sender_cell subject m ++ cell (badge subject.letters.now (owner_at subject i))

-- the releases that have it
abbrev pub releases_html : Option Mark → List ℕ
releases_html None = []
releases_html (Some mark) = runs mark.releases.items

-- what has become of it
abbrev pub state_html : State → List ℕ
state_html Same = []
state_html New = element_html tag.Emphasis [] (codes "new")
state_html Changed = codes "changed"
state_html (Breaking count) = bad count (codes "breaking")

abbrev pub releases_cell : Columns → Marks → ℕ → List ℕ
releases_cell columns marks i = if columns.releases then cell (releases_html (mark_at marks i)) else []

abbrev pub state_cell : Columns → Marks → ℕ → List ℕ
state_cell columns marks i = if columns.states then cell (state_html (state_at marks i)) else []

-- ---- rows

-- the cells of the message at an index, and its row
abbrev pub cells_of : Subject → Marks → Columns → ℕ → Message → List ℕ
cells_of subject marks columns i m =
    message_head m ++ (number_cells columns m ++ (people_cells subject i m
    ++ (releases_cell columns marks i ++ state_cell columns marks i)))

abbrev pub row_attributes : Message → List ℕ
row_attributes m = valued (codes " id=\"t-") (escaped m.name)

abbrev pub row_of : Subject → Marks → Columns → ℕ → Message → List ℕ
row_of subject marks columns i m =
    start_tag tag.Row (row_attributes m) ++ (cells_of subject marks columns i m ++ end_tag tag.Row)

abbrev pub message_row : Subject → Marks → Columns → ℕ × Message → List ℕ
message_row subject marks columns x = row_of subject marks columns x.0 x.1

-- a row for each message, in their order
abbrev pub message_rows : Subject → Marks → Columns → List ℕ
message_rows subject marks columns =
    flat_map (message_row subject marks columns) (enumerate_from 0 (messages_of subject))

-- ---- the part

abbrev pub with_message_table : Subject → Marks → Writing → Writing
with_message_table subject marks page =
    let columns = columns_of subject marks in
    ending (ending (ending (adding (message_rows subject marks columns)
    (with_table (codes "nums") (heads_of columns) (with_wide (codes "Messages") page)))))

-- the table, or that there is no message
abbrev pub with_messages_in : Subject → Marks → Writing → Writing
with_messages_in subject marks page = if length (messages_of subject) == 0
    then adding (element_html tag.Paragraph [] (codes "No message yet.")) page
    else with_message_table subject marks page

abbrev pub with_messages : Subject → Marks → Writing → Writing
with_messages subject marks page =
    ending (with_messages_in subject marks (with_part (codes "messages") (codes "Messages") None page))
