-- What is left of each team's numbers, as HTML.
use Rattle.std.specs.Prelude.{ℕ, ◌+◌, ◌-◌, ◌==◌, false, List, [], ◌∷◌, ◌++◌, None, Option}
use Rattle.std.specs.Prelude.{Some, codes, decimal, length, map, take, if◌then◌else◌}
use Rattle.std.specs.List.{flat_map}
use Rattle.columns.specs.declared.run.Run.{Run}
use Rattle.markup.specs.Html.{element_html, escaped, valued}
use Rattle.markup.specs.declared.tag.Tag.TheVariants as tag
use Rattle.office_blocks.specs.declared.numbers.Numbers.{Numbers}
use Rattle.office_seen.specs.declared.view.View.{View}
use Rattle.office_types.specs.Block.{Range}
use Rattle.office_types.specs.declared.block.BlockForm.{BlockForm}
use Rattle.office_types.specs.declared.block.BlockForm.TheVariants as block
use Rattle.office_types.specs.declared.free.NumberForm.{NumberForm}
use Rattle.office_types.specs.declared.free.NumberForm.TheVariants.{Std, Ext, Pdu1, Pdu2, Spn}
use Rattle.office_types.specs.declared.state.GrantedBlock.{GrantedBlock}
use Rattle.page_parts.specs.Letters.{badge, class_in}
use Rattle.page_parts.specs.Numbers.{both}
use Rattle.page_parts.specs.Subjects.{names_of}
use Rattle.page_parts.specs.Words.{cell, counted, number_cell, quiet}
use Rattle.page_parts.specs.declared.letters.Shade.{Shade}
use Rattle.page_parts.specs.declared.letters.Shade.TheVariants as shade
use Rattle.page_parts.specs.declared.numbers.HexWidth.{HexWidth}
use Rattle.page_parts.specs.declared.numbers.HexWidth.TheVariants.{Three, Four, Eight}
use Rattle.page_parts.specs.declared.subject.Subject.{Subject}
use Rattle.page_numbers.specs.Counts.{Counts, Known, few, granted, known_of, left_of, short}
use Rattle.page_numbers.specs.Elements.{around, classed, fold_html, part_html, table_html, wide_html}
use Rattle.page_numbers.specs.Tally.{block_form}
use Rattle.page_numbers.specs.declared.left.TheConstants.{HEADS, NOTE}

-- ---- words

abbrev pub form_words : NumberForm → List ℕ
form_words Std = codes "11 bits"
form_words Ext = codes "29 bits"
form_words Pdu1 = codes "PGN addressed"
form_words Pdu2 = codes "PGN broadcast"
form_words Spn = codes "SPN"

abbrev pub block_words : BlockForm → List ℕ
block_words block.Std = codes "11 bits"
block_words block.Ext = codes "29 bits"
block_words block.Pgn = codes "PGN"
block_words block.Spn = codes "SPN"

-- how many hexadecimal digits numbers of a form have; suspect parameter numbers are decimal alone
abbrev pub width_of : BlockForm → Option HexWidth
width_of block.Std = Some Three
width_of block.Ext = Some Eight
width_of block.Pgn = Some Four
width_of block.Spn = None

-- ---- cells

-- a part of a bar, if it isn't 0
abbrev pub share_html : List ℕ → ℕ → List ℕ
share_html class n =
    if n == 0 then []
    else element_html tag.Italic (classed class ++ valued (codes " style=\"flex:") (decimal (short n))) []

-- a bar of what is live, held and free, in the team's colour
unfoldable pub bar_cell : List (List ℕ) → List ℕ → Counts → List ℕ
bar_cell names team left =
    cell (around tag.Division (codes " class=\"bar\"")
    (share_html (class_in shade.Live names team) left.live
    ++ (share_html (class_in shade.Held names team) left.held
    ++ share_html (class_in shade.Free names team) left.free)))

abbrev pub held_cell : ℕ → List ℕ
held_cell n = if n == 0 then element_html tag.Cell [] [] else number_cell (short n)

-- few free numbers, in red
abbrev pub few_html : ℕ → List ℕ
few_html n =
    if n == 0 then element_html tag.Emphasis [] (codes "none")
    else around tag.Emphasis [] (codes "only " ++ decimal (short n))

unfoldable pub free_html : Counts → List ℕ
free_html left = if few left then few_html left.free else decimal (short left.free)

-- a comma and the run for each
abbrev pub later_html : Option HexWidth → List Run → List ℕ
later_html width runs = flat_map (λ (r : Run). codes ", " ++ both width r) runs

-- runs with commas between
abbrev pub runs_html : Option HexWidth → List Run → List ℕ
runs_html width [] = []
runs_html width (r ∷ runs) = both width r ++ later_html width runs

abbrev pub more_html : ℕ → List ℕ
more_html n = if n == 0 then [] else codes " and " ++ (decimal n ++ codes " more")

-- the first runs of free numbers, and how many more there are
unfoldable pub runs_cell : NumberForm → List Run → List ℕ
runs_cell form runs =
    cell (runs_html (width_of (block_form form)) (take 4 runs) ++ more_html (length runs - 4))

-- ---- rows

-- a team's numbers of a kind
unfoldable pub left_row : List (List ℕ) → List ℕ → NumberForm → Counts → List ℕ
left_row names team form left =
    around tag.Row []
    (around tag.HeadCell [] (badge names team) ++ (element_html tag.Cell [] (form_words form)
    ++ (number_cell (short (granted left)) ++ (bar_cell names team left ++ (number_cell (short left.live)
    ++ (held_cell left.held ++ (cell (free_html left) ++ runs_cell form left.runs)))))))

-- a row, if the team has such a number
abbrev pub row_if : List (List ℕ) → List ℕ → NumberForm → Counts → List ℕ
row_if names team form left = if granted left == 0 then [] else left_row names team form left

-- the kinds, in the order of the table
abbrev pub forms : List NumberForm
forms = Std ∷ Ext ∷ Pdu2 ∷ Pdu1 ∷ Spn ∷ []

abbrev pub form_row : (BlockForm → Known) → List GrantedBlock → List (List ℕ) → List ℕ → NumberForm → List ℕ
form_row known blocks names team form = row_if names team form (left_of known blocks team form)

-- a row for each kind of which the team has a number
abbrev pub team_rows : (BlockForm → Known) → List GrantedBlock → List (List ℕ) → List ℕ → List ℕ
team_rows known blocks names team = flat_map (form_row known blocks names team) forms

-- those of each team
abbrev pub all_rows : (BlockForm → Known) → Subject → List ℕ
all_rows known subject =
    flat_map (team_rows known subject.blocks.now (names_of subject)) (names_of subject)

abbrev pub heads : List (List ℕ)
heads = map (λ head. head.now) HEADS.now

abbrev pub teams_table : (BlockForm → Known) → Subject → List ℕ
teams_table known subject =
    wide_html (codes "Numbers left") (table_html (codes "nums lot") heads (all_rows known subject))

-- ---- blocks

abbrev pub run_of : Range → Run
run_of b = record { first = b.first; last = b.last }

-- a block and whose it is
unfoldable pub block_item : List (List ℕ) → GrantedBlock → List ℕ
block_item names g =
    around tag.Item []
    (element_html tag.Bold [] (block_words g.block.form) ++ (codes " " ++ (both (width_of g.block.form) (run_of g.block)
    ++ (codes " " ++ badge names g.team))))

-- an item for each block, in order
abbrev pub block_list : List (List ℕ) → List GrantedBlock → List ℕ
block_list names blocks = around tag.List (codes " class=\"cols\"") (flat_map (block_item names) blocks)

abbrev pub blocks_html : Subject → List ℕ
blocks_html subject =
    fold_html false (counted (length subject.blocks.now) (codes "block"))
    (block_list (names_of subject) subject.blocks.now)

-- ---- the part

-- how a block is granted, for a network that has no blocks
abbrev pub no_block_html : List ℕ → List ℕ
no_block_html name =
    around tag.Paragraph []
    (codes "No block is granted. " ++ (quiet (codes "The office grants them: ")
    ++ around tag.Code [] (codes "grant net=" ++ (escaped name ++ codes " team=.. form=.. first=.. last=.."))))

abbrev pub left_body : View → Subject → List ℕ
left_body view subject =
    if length subject.blocks.now == 0 then no_block_html subject.name.now
    else teams_table (known_of view) subject
    ++ (element_html tag.Paragraph (codes " class=\"q\"") NOTE.now ++ blocks_html subject)

abbrev pub left_html : View → Subject → List ℕ
left_html view subject = part_html (codes "left") (codes "Numbers left") None (left_body view subject)
