-- Blocks of numbers of one form.
use Rattle.std.specs.Prelude.{ℕ, ◌≤◌, ◌==◌, Bool, true, false, ◌&&◌, nat_le, List, Option, Some, None, if◌then◌else◌}
use Rattle.std.specs.Prelude.{codes}
use Rattle.can_id.specs.Form.{greatest_number}
use Rattle.can_id.specs.declared.form.IdentForm.{IdentForm}
use Rattle.can_id.specs.declared.form.IdentForm.TheVariants.{Standard, Extended}
use Rattle.dbc_words.specs.Limits.{spn_limit}
use Rattle.office_types.specs.declared.block.BlockForm.{BlockForm}
use Rattle.office_types.specs.declared.block.BlockForm.TheVariants.{Std, Ext, Pgn, Spn}
use Rattle.office_types.specs.declared.block.Block.{Block}

-- the greatest parameter group number with the extended data page clear (SAE J1939-21)
abbrev pub greatest_pgn : ℕ
greatest_pgn = 131071

-- no suspect parameter number is 0, which says that a signal has none
abbrev pub least_of : BlockForm → ℕ
least_of Std = 0
least_of Ext = 0
least_of Pgn = 0
least_of Spn = 1

abbrev pub greatest_of : BlockForm → ℕ
greatest_of Std = greatest_number Standard
greatest_of Ext = greatest_number Extended
greatest_of Pgn = greatest_pgn
greatest_of Spn = spn_limit

-- the form of the blocks that hold identifiers of a form
abbrev pub block_form : IdentForm → BlockForm
block_form Standard = Std
block_form Extended = Ext

abbrev pub block_word : BlockForm → List ℕ
block_word Std = codes "std"
block_word Ext = codes "ext"
block_word Pgn = codes "pgn"
block_word Spn = codes "spn"

-- the number of a form, by which a network's blocks are in order
abbrev pub form_number : BlockForm → ℕ
form_number Std = 0
form_number Ext = 1
form_number Pgn = 2
form_number Spn = 3

-- the form of a number
abbrev pub form_at : ℕ → Option BlockForm
form_at n =
    if n == 0 then Some Std else (if n == 1 then Some Ext
    else (if n == 2 then Some Pgn else (if n == 3 then Some Spn else None)))

abbrev pub same_form : BlockForm → BlockForm → Bool
same_form Std Std = true
same_form Ext Ext = true
same_form Pgn Pgn = true
same_form Spn Spn = true
same_form a b = false

-- whether the numbers are suspect parameter numbers, whose blocks are the whole office's
abbrev pub is_spn : BlockForm → Bool
is_spn form = same_form form Spn

-- the numbers from first to last
pub record Range : Type 0 where
  pub form : BlockForm
  pub first : ℕ
  pub last : ℕ

abbrev pub IsRange : Range → Type 0
IsRange r = (least_of r.form ≤ r.first) × (r.first ≤ r.last) × (r.last ≤ greatest_of r.form)

-- the number is in the block
abbrev pub in_block : ℕ → Block → Bool
in_block n b = nat_le b.first n && nat_le n b.last

-- some number is in both, and they have the same form
abbrev pub have_common : Range → Range → Bool
have_common a b = same_form a.form b.form && nat_le a.first b.last && nat_le b.first a.last
