-- The map of the numbers.
use Rattle.std.specs.Prelude.{◌≡◌, ℕ, ◌==◌, ◌&&◌, Bool, List, [], ◌++◌, Option, Some, None, codes, length}
use Rattle.std.specs.Prelude.{MatchBool, if◌then◌else◌}
use Rattle.std.specs.List.{filter_map, flat_map}
use Rattle.dbc_sheet.specs.declared.message.Message.{Message}
use Rattle.markup.specs.declared.tag.Tag.TheVariants as tag
use Rattle.office_seen.specs.Owners.{team_at}
use Rattle.office_types.specs.Free.{is_taken}
use Rattle.office_types.specs.declared.block.BlockForm.{BlockForm}
use Rattle.office_types.specs.declared.state.GrantedBlock.{GrantedBlock}
use Rattle.page_parts.specs.Numbers.{hex}
use Rattle.page_parts.specs.Subjects.{messages_of, names_of}
use Rattle.page_parts.specs.declared.subject.Subject.{Subject}
use Rattle.page_numbers.specs.CellHtml.{IsCellHtml}
use Rattle.page_numbers.specs.Charts.{charts, form_of, has, numbers_of, width_of}
use Rattle.page_numbers.specs.Elements.{ArePieces, around, part_html}
use Rattle.page_numbers.specs.Index.{live_at, number_of}
use Rattle.page_numbers.specs.Rows.{AreRows}
use Rattle.page_numbers.specs.declared.charts.Chart.{Chart}
use Rattle.page_numbers.specs.declared.map.ChartFacts.{ChartFacts}
use Rattle.page_numbers.specs.declared.map.TheConstants.{SENDERS}

-- what cells are of: messages, and the numbers that are held, of a form; blocks, and the names that have letters
pub record Facts : Type 0 where
  pub form : BlockForm
  pub messages : List Message
  pub held : List ℕ
  pub blocks : List GrantedBlock
  pub names : List (List ℕ)

abbrev pub facts_of : Chart → Subject → Facts
facts_of chart subject = record {
  form = form_of chart;
  messages = messages_of subject;
  held = filter_map (number_of (form_of chart)) subject.held.now;
  blocks = subject.blocks.now;
  names = names_of subject;
}

-- those that the code has at hand
abbrev pub facts_in : ChartFacts → Facts
facts_in facts = record {
  form = facts.index.now.live.form;
  messages = facts.index.now.live.messages;
  held = facts.index.now.held;
  blocks = facts.blocks.now;
  names = facts.letters.now;
}

-- the first number of a row, at its head
abbrev pub row_head : Chart → ℕ → List ℕ
row_head chart row = around tag.HeadCell [] (hex (width_of chart) row)

-- the cell of a number
abbrev pub IsCellAt : Chart → Facts → ℕ → List ℕ → Type 0
IsCellAt chart facts n bytes =
    IsCellHtml facts.names n (live_at facts.messages facts.form n) (is_taken n facts.held)
    (team_at facts.blocks facts.form n) (has chart n) bytes

-- a row that has the number: its 16 numbers, after the number at its head
pub record IsRow (chart : Chart) (facts : Facts) (row : ℕ) (bytes : List ℕ) : Type 0 where
  pub cells : List ℕ
  pub are : ArePieces (IsCellAt chart facts) (numbers_of chart row) cells
  pub is : bytes ≡ around tag.Row [] (row_head chart row ++ cells)

-- a table of these rows
pub record IsTable (chart : Chart) (facts : Facts) (rows : List ℕ) (bytes : List ℕ) : Type 0 where
  pub head : List ℕ
  pub body : List ℕ
  pub are : ArePieces (IsRow chart facts) rows body
  pub is : bytes ≡ around tag.Table (codes " class=\"map\"") (head ++ around tag.TableBody [] body)

-- tables that have all rows of the chart, in order
pub record IsChart (subject : Subject) (chart : Chart) (bytes : List ℕ) : Type 0 where
  pub rows : List ℕ
  pub all : AreRows chart subject rows
  pub tables : List (List ℕ)
  pub together : flat_map (λ table. table) tables ≡ rows
  pub are : ArePieces (IsTable chart (facts_of chart subject)) tables bytes

-- whose the letters are, where they aren't teams'
abbrev pub whose : Subject → Option (List ℕ)
whose subject = if subject.is_alone then Some SENDERS.now else None

-- a legend, and the charts
pub record IsWholeMap (subject : Subject) (bytes : List ℕ) : Type 0 where
  pub legend : List ℕ
  pub body : List ℕ
  pub are : ArePieces (IsChart subject) charts body
  pub is : bytes ≡ part_html (codes "map") (codes "Map of the numbers") (whose subject)
      (legend ++ around tag.Division (codes " class=\"grid\"") body)

-- there is a message or a block
abbrev pub has_nothing : Subject → Bool
has_nothing subject = length (messages_of subject) == 0 && length subject.blocks.now == 0

-- nothing where there is no message and no block
abbrev pub IsMap : Subject → List ℕ → Type 0
IsMap subject bytes = MatchBool (has_nothing subject) (bytes ≡ []) (IsWholeMap subject bytes)
