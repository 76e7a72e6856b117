-- The granted blocks, and what is left of them.
use Rattle.std.specs.Prelude.{ℕ, ◌+◌, ◌-◌, ◌==◌, ◌&&◌, not, Bool, true, List, [], ◌∷◌, ◌++◌, length, map, filter}
use Rattle.std.specs.Prelude.{sum, count_by, Option, Some, None}
use Rattle.std.specs.List.{filter_map, flat_map, range_with_len}
use Rattle.std.specs.Str.{bytes_eq}
use Rattle.columns.specs.Run.{runs_of}
use Rattle.columns.specs.declared.run.Run.{Run}
use Rattle.can_id.specs.declared.form.IdentForm.TheVariants.{Standard, Extended}
use Rattle.can_id.specs.declared.ident.Ident.{Ident}
use Rattle.dbc_sheet.specs.declared.message.Message.{Message}
use Rattle.office_types.specs.Block.{Range, block_word, same_form}
use Rattle.office_types.specs.Free.{has_form, is_taken}
use Rattle.office_types.specs.declared.block.BlockForm.{BlockForm}
use Rattle.office_types.specs.declared.block.BlockForm.TheVariants as form
use Rattle.office_types.specs.declared.free.NumberForm.{NumberForm}
use Rattle.office_types.specs.declared.free.NumberForm.TheVariants as number
use Rattle.office_types.specs.declared.state.GrantedBlock.{GrantedBlock}
use Rattle.office_rules.specs.Facts.{group_of, number_in}
use Rattle.office_seen.specs.declared.view.View.{View}
use Rattle.office_blocks.specs.declared.blocks.TheConstants.{BLOCKS, BLOCK_TOTALS}
use Rattle.rows.specs.Fact.{Fact, of_free, of_name, of_number, of_word}
use Rattle.rows.specs.Table.{Listing, plain}

-- ---- which numbers are live, and which may not be given out

-- the suspect parameter numbers of a message's signals
abbrev pub spns_of : Message → List ℕ
spns_of m = filter (λ n. not (n == 0)) (map (λ s. s.spn) m.signals)

-- the numbers of a form that these identifiers have; they have no suspect parameter numbers
abbrev pub ident_numbers : BlockForm → List Ident → List ℕ
ident_numbers form.Std idents = filter_map (number_in Standard) idents
ident_numbers form.Ext idents = filter_map (number_in Extended) idents
ident_numbers form.Pgn idents = filter_map group_of idents
ident_numbers form.Spn idents = []

abbrev pub live_idents : View → List Ident
live_idents view = map (λ m. m.ident) view.sheet.messages

-- the numbers that live messages have, or their signals
abbrev pub live_numbers : BlockForm → View → List ℕ
live_numbers form.Spn view = flat_map spns_of view.sheet.messages
live_numbers form view = ident_numbers form (live_idents view)

-- the numbers that may not be given out: live and held ones; of suspect parameter numbers all that were ever used
abbrev pub taken_numbers : BlockForm → View → List ℕ
taken_numbers form.Spn view = view.used
taken_numbers form view = ident_numbers form (live_idents view ++ view.held)

-- ---- the numbers of a block

abbrev pub numbers_in : Range → List ℕ
numbers_in b = range_with_len b.first (b.last + 1 - b.first)

-- those that are live
abbrev pub live_count : List ℕ → Range → ℕ
live_count live b = count_by (λ n. is_taken n live) (numbers_in b)

-- those that are taken and not live
abbrev pub held_count : List ℕ → List ℕ → Range → ℕ
held_count live taken b = count_by (λ n. is_taken n taken && not (is_taken n live)) (numbers_in b)

-- what a block's numbers may be: parameter groups with a destination address, and those without one (SAE J1939-21)
abbrev pub forms_in : BlockForm → List NumberForm
forms_in form.Std = number.Std ∷ []
forms_in form.Ext = number.Ext ∷ []
forms_in form.Pgn = number.Pdu1 ∷ number.Pdu2 ∷ []
forms_in form.Spn = number.Spn ∷ []

-- how far neighbours are apart: the low byte of a group with a destination address is 0
abbrev pub step_of : NumberForm → ℕ
step_of number.Pdu1 = 256
step_of form = 1

-- the numbers of the form that may be given out
abbrev pub free_numbers : List ℕ → Range → NumberForm → List ℕ
free_numbers taken b form = filter (λ n. has_form form n && not (is_taken n taken)) (numbers_in b)

abbrev pub free_count : List ℕ → Range → ℕ
free_count taken b = length (flat_map (free_numbers taken b) (forms_in b.form))

-- the same as runs
abbrev pub runs_in : List ℕ → Range → NumberForm → List Run
runs_in taken b form = runs_of (step_of form) (free_numbers taken b form)

abbrev pub free_runs : List ℕ → Range → List Run
free_runs taken b = flat_map (runs_in taken b) (forms_in b.form)

-- ---- the rows

-- form, first, last, team; how many numbers are live, held and free, and which are free
abbrev pub row_with : List ℕ → List ℕ → GrantedBlock → List Fact
row_with live taken g =
    of_name (block_word g.block.form) ∷ of_number g.block.first ∷ of_number g.block.last ∷ of_word g.team
    ∷ of_number (live_count live g.block) ∷ of_number (held_count live taken g.block)
    ∷ of_number (free_count taken g.block) ∷ of_free (free_runs taken g.block) ∷ []

abbrev pub block_row : View → GrantedBlock → List Fact
block_row view g = row_with (live_numbers g.block.form view) (taken_numbers g.block.form view) g

-- ---- the whole

-- the block is the team's; without a team any block is wanted
abbrev pub is_wanted : Option (List ℕ) → GrantedBlock → Bool
is_wanted None g = true
is_wanted (Some team) g = bytes_eq g.team team

-- how many numbers of a form are left in the blocks
abbrev pub free_of_form : View → List GrantedBlock → BlockForm → ℕ
free_of_form view blocks form =
    sum (map (λ g. free_count (taken_numbers form view) g.block) (filter (λ g. same_form g.block.form form) blocks))

abbrev pub blocks_table : Option (List ℕ) → View → Listing
blocks_table team view =
    let blocks = filter (is_wanted team) view.blocks in
    let free = free_of_form view blocks in
    plain BLOCKS (map (block_row view) blocks) BLOCK_TOTALS
    (of_number (length blocks) ∷ of_number (free form.Std) ∷ of_number (free form.Ext) ∷ of_number (free form.Pgn)
    ∷ of_number (free form.Spn) ∷ [])
