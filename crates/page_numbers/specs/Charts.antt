-- The charts of the map, and what a number of one is.
use Rattle.std.specs.Prelude.{ℕ, ◌+◌, ◌-◌, ◌*◌, ◌%◌, ◌&&◌, ◌||◌, nat_le, not, is_some, Bool, true, List, [], ◌∷◌, map}
use Rattle.std.specs.List.{range_with_len}
use Rattle.can_id.specs.J1939.{format_of, is_pdu1, is_pgn}
use Rattle.office_seen.specs.Owners.{team_at}
use Rattle.office_types.specs.Block.{same_form}
use Rattle.office_types.specs.declared.block.BlockForm.{BlockForm}
use Rattle.office_types.specs.declared.block.BlockForm.TheVariants as form
use Rattle.office_types.specs.declared.state.GrantedBlock.{GrantedBlock}
use Rattle.page_parts.specs.declared.numbers.HexWidth.{HexWidth}
use Rattle.page_parts.specs.declared.numbers.HexWidth.TheVariants as width
use Rattle.page_numbers.specs.declared.charts.Chart.{Chart}
use Rattle.page_numbers.specs.declared.charts.Chart.TheVariants.{Standard, Broadcast, Addressed, Extended}

-- the form of its numbers
abbrev pub form_of : Chart → BlockForm
form_of Standard = form.Std
form_of Broadcast = form.Pgn
form_of Addressed = form.Pgn
form_of Extended = form.Ext

-- a number of the form is one of the chart's: parameter groups with a destination address are apart from those without
abbrev pub has : Chart → ℕ → Bool
has Standard n = true
has Broadcast n = is_pgn n && not (is_pdu1 (format_of n))
has Addressed n = is_pgn n && is_pdu1 (format_of n)
has Extended n = true

-- how many hexadecimal digits its numbers have
abbrev pub width_of : Chart → HexWidth
width_of Standard = width.Three
width_of Broadcast = width.Four
width_of Addressed = width.Four
width_of Extended = width.Eight

-- the page shows the chart
abbrev pub is_shown : Chart → Bool → Bool
is_shown Standard is_j1939 = true
is_shown Broadcast is_j1939 = is_j1939
is_shown Addressed is_j1939 = is_j1939
is_shown Extended is_j1939 = true

-- the charts in the order of the map
abbrev pub charts : List Chart
charts = Standard ∷ Broadcast ∷ Addressed ∷ Extended ∷ []

-- ---- rows of 16 numbers

-- the first number of the row that has the number
abbrev pub row_of : Chart → ℕ → ℕ
row_of Standard n = n - n % 16
row_of Broadcast n = n - n % 16
row_of Addressed n = n - n % 4096
row_of Extended n = n - n % 16

-- the number in a column, 0 to 15, of that row
abbrev pub number_in : Chart → ℕ → ℕ → ℕ
number_in Standard n column = n - n % 16 + column % 16
number_in Broadcast n column = n - n % 16 + column % 16
number_in Addressed n column = n - n % 4096 + 256 * (column % 16)
number_in Extended n column = n - n % 16 + column % 16

abbrev pub numbers_of : Chart → ℕ → List ℕ
numbers_of chart n = map (number_in chart n) (range_with_len 0 16)

-- ---- blocks

-- the block has a number of the form from `first` to `last`
abbrev pub is_near : BlockForm → ℕ → ℕ → GrantedBlock → Bool
is_near form first last g = same_form g.block.form form && (nat_le g.block.first last && nat_le first g.block.last)

-- a number that is live or held is shown: of a J1939 network a 29-bit identifier only where a block has it
abbrev pub shows : Chart → Bool → List GrantedBlock → ℕ → Bool
shows Standard is_j1939 blocks n = true
shows Broadcast is_j1939 blocks n = has Broadcast n
shows Addressed is_j1939 blocks n = has Addressed n
shows Extended is_j1939 blocks n = not is_j1939 || is_some (team_at blocks form.Ext n)
