-- Numbers of blocks as ascending lists.
use Rattle.std.specs.Prelude.{◌≡◌, ℕ, ◌+◌, ◌≤◌, not, List, [], ◌∷◌, filter}
use Rattle.std.specs.List.{range_with_len}
use Rattle.office_types.specs.Free.{is_taken}
use Rattle.office_types.specs.declared.block.BlockForm.{BlockForm}
use Rattle.office_types.specs.declared.block.BlockForm.TheVariants.{Std, Ext, Pgn, Spn}
use Rattle.office_seen.specs.declared.view.View.{View}
use Rattle.office_blocks.specs.Blocks.{live_numbers, taken_numbers}
use Rattle.office_blocks.specs.declared.numbers.FormNumbers.{FormNumbers}
use Rattle.office_blocks.specs.declared.numbers.Numbers.{Numbers}

-- the lists have the same numbers
abbrev pub HaveSame : List ℕ → List ℕ → Type 0
HaveSame a b = (n : ℕ) → is_taken n a ≡ is_taken n b

-- these are the live and the taken numbers
pub record AreOf (live taken : List ℕ) (numbers : FormNumbers) : Type 0 where
  pub same_live : HaveSame numbers.live live
  pub same_taken : HaveSame numbers.taken taken

-- those of the form
abbrev pub of_form : BlockForm → Numbers → FormNumbers
of_form Std numbers = numbers.std
of_form Ext numbers = numbers.ext
of_form Pgn numbers = numbers.pgn
of_form Spn numbers = numbers.spn

-- these are what a view has, form by form
abbrev pub AreNumbersOf : View → Numbers → Type 0
AreNumbersOf view numbers =
    (form : BlockForm) → AreOf (live_numbers form view) (taken_numbers form view) (of_form form numbers)

-- ascending numbers from `from` on, below `to`
abbrev pub AreWithin : ℕ → ℕ → List ℕ → Type 0
AreWithin from to [] = from ≤ to
AreWithin from to (n ∷ numbers) = (from ≤ n) × AreWithin (n + 1) to numbers

-- the numbers of a list that are in the range, ascending
pub record ArePart (numbers : List ℕ) (first last : ℕ) (part : List ℕ) : Type 0 where
  pub within : AreWithin first (last + 1) part
  pub same : (n : ℕ) → first ≤ n → n ≤ last → is_taken n part ≡ is_taken n numbers

-- the numbers of a range, `len` from `from` on, that aren't in the list
abbrev pub left_numbers : List ℕ → ℕ → ℕ → List ℕ
left_numbers numbers from len = filter (λ n. not (is_taken n numbers)) (range_with_len from len)
