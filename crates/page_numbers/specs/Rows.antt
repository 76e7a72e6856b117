-- Which rows of the map there are.
use Rattle.std.specs.Prelude.{ℕ, ◌+◌, ◌-◌, Bool, List, [], ◌∷◌, ◌++◌, Option, Some, None, if◌then◌else◌}
use Rattle.std.specs.List.{flat_map}
use Rattle.std.specs.List.Sorted.{IsStrictlyIncreasing}
use Rattle.can_id.specs.declared.ident.Ident.{Ident}
use Rattle.dbc_sheet.specs.declared.message.Message.{Message}
use Rattle.office_blocks.specs.Blocks.{numbers_in}
use Rattle.office_blocks.specs.Numbers.{HaveSame}
use Rattle.office_types.specs.Block.{Range, same_form}
use Rattle.office_types.specs.declared.state.GrantedBlock.{GrantedBlock}
use Rattle.page_parts.specs.Subjects.{messages_of}
use Rattle.page_parts.specs.declared.subject.Subject.{Subject}
use Rattle.page_numbers.specs.Charts.{form_of, has, is_shown, row_of, shows}
use Rattle.page_numbers.specs.Index.{number_of}
use Rattle.page_numbers.specs.declared.charts.Chart.{Chart}
use Rattle.page_numbers.specs.declared.charts.Chart.TheVariants.{Standard, Broadcast, Addressed, Extended}

-- ---- of a live or a held number

abbrev pub shown_row : Chart → Bool → List GrantedBlock → ℕ → List ℕ
shown_row chart is_j1939 blocks n = if shows chart is_j1939 blocks n then row_of chart n ∷ [] else []

abbrev pub row_if : Chart → Bool → List GrantedBlock → Option ℕ → List ℕ
row_if chart is_j1939 blocks None = []
row_if chart is_j1939 blocks (Some n) = shown_row chart is_j1939 blocks n

abbrev pub ident_row : Chart → Bool → List GrantedBlock → Ident → List ℕ
ident_row chart is_j1939 blocks i = row_if chart is_j1939 blocks (number_of (form_of chart) i)

abbrev pub message_row : Chart → Bool → List GrantedBlock → Message → List ℕ
message_row chart is_j1939 blocks m = ident_row chart is_j1939 blocks m.ident

-- ---- of a block: of each of its numbers; of 29-bit identifiers only those of its ends

abbrev pub own_row : Chart → ℕ → List ℕ
own_row chart n = if has chart n then row_of chart n ∷ [] else []

abbrev pub block_rows : Chart → Range → List ℕ
block_rows Standard b = flat_map (own_row Standard) (numbers_in b)
block_rows Broadcast b = flat_map (own_row Broadcast) (numbers_in b)
block_rows Addressed b = flat_map (own_row Addressed) (numbers_in b)
block_rows Extended b = row_of Extended b.first ∷ row_of Extended b.last ∷ []

abbrev pub granted_rows : Chart → GrantedBlock → List ℕ
granted_rows chart g = if same_form g.block.form (form_of chart) then block_rows chart g.block else []

-- ---- all

-- the row of each live number, of each held one, and those of each block, however often
abbrev pub rows_in : Chart → Subject → List ℕ
rows_in chart subject =
    let is_j1939 = subject.is_j1939 in
    let blocks = subject.blocks.now in
    flat_map (message_row chart is_j1939 blocks) (messages_of subject)
    ++ (flat_map (ident_row chart is_j1939 blocks) subject.held.now ++ flat_map (granted_rows chart) blocks)

-- these, in ascending order, each once; none of a chart that isn't shown
pub record AreRows (chart : Chart) (subject : Subject) (rows : List ℕ) : Type 0 where
  pub rising : IsStrictlyIncreasing rows
  pub same : HaveSame rows (if is_shown chart subject.is_j1939 then rows_in chart subject else [])
