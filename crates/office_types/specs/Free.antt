-- The least number of some blocks that has a form and isn't taken.
use Rattle.std.specs.Prelude.{◌≡◌, ℕ, ◌+◌, ◌-◌, ◌%◌, ◌<◌, ◌≤◌, Bool, true, not, ◌&&◌, ◌==◌, nat_le, List, [], ◌∷◌}
use Rattle.std.specs.Prelude.{length, min, Option, Some, None, slice_index}
use Rattle.std.specs.List.{list_any}
use Rattle.can_id.specs.Form as identifiers
use Rattle.can_id.specs.declared.form.IdentForm.{IdentForm}
use Rattle.can_id.specs.declared.form.IdentForm.TheVariants.{Standard, Extended}
use Rattle.can_id.specs.J1939.{format_of, is_pdu1}
use Rattle.dbc_words.specs.Limits.{spn_limit}
use Rattle.office_types.specs.Least.{IsLeastOf, least_from}
use Rattle.office_types.specs.Block.{greatest_pgn, in_block}
use Rattle.office_types.specs.declared.free.NumberForm.{NumberForm}
use Rattle.office_types.specs.declared.free.NumberForm.TheVariants.{Std, Ext, Pdu1, Pdu2, Spn}
use Rattle.office_types.specs.declared.block.Block.{Block}

abbrev pub greatest_number : NumberForm → ℕ
greatest_number Std = identifiers.greatest_number Standard
greatest_number Ext = identifiers.greatest_number Extended
greatest_number Pdu1 = greatest_pgn
greatest_number Pdu2 = greatest_pgn
greatest_number Spn = spn_limit

-- the form of the numbers of identifiers
abbrev pub number_form : IdentForm → NumberForm
number_form Standard = Std
number_form Extended = Ext

-- what else the form requires: a parameter group has a destination address, and then a low byte of 0, or it has none
-- (SAE J1939-21); and no suspect parameter number is 0
abbrev pub is_formed : NumberForm → ℕ → Bool
is_formed Std n = true
is_formed Ext n = true
is_formed Pdu1 n = is_pdu1 (format_of n) && n % 256 == 0
is_formed Pdu2 n = not (is_pdu1 (format_of n))
is_formed Spn n = nat_le 1 n

abbrev pub has_form : NumberForm → ℕ → Bool
has_form form n = nat_le n (greatest_number form) && is_formed form n

-- the number is the least from `from` on that the form allows, but for its greatest number
pub record IsNextFormed (form : NumberForm) (from n : ℕ) : Type 0 where
  pub above : from ≤ n
  pub formed : is_formed form n ≡ true
  pub least : (m : ℕ) → from ≤ m → is_formed form m ≡ true → n ≤ m

-- the answer is the least number from `from` on that has the form, or there is none
abbrev pub IsNextOf : NumberForm → ℕ → Option ℕ → Type 0
IsNextOf form from = IsLeastOf (λ n. nat_le from n && has_form form n)

abbrev pub is_taken : ℕ → List ℕ → Bool
is_taken n taken = list_any (λ t. t == n) taken

-- the number may be given out: it is in one of the blocks, has the form and isn't taken
abbrev pub is_free : List ℕ → List Block → NumberForm → ℕ → Bool
is_free taken blocks form n = list_any (in_block n) blocks && (has_form form n && not (is_taken n taken))

-- the answer is the least number that may be given out, or there is none
abbrev pub IsLeastFree : List ℕ → List Block → NumberForm → Option ℕ → Type 0
IsLeastFree taken blocks form = IsLeastOf (is_free taken blocks form)

-- the lesser of two numbers, or the one that there is
abbrev pub lesser_of : Option ℕ → Option ℕ → Option ℕ
lesser_of (Some x) (Some y) = Some (min x y)
lesser_of (Some x) None = Some x
lesser_of None b = b

-- the same number, computed block by block
abbrev pub least_free : List ℕ → List Block → NumberForm → Option ℕ
least_free taken [] form = None
least_free taken (b ∷ bs) form =
    lesser_of (least_from (λ n. has_form form n && not (is_taken n taken)) (b.last + 1 - b.first) b.first)
    (least_free taken bs form)

-- the first numbers of the list, `below` of them, are below n, and no later one is
pub record SplitsAt (numbers : List ℕ) (below n : ℕ) : Type 0 where
  pub within : below ≤ length numbers
  pub lower : (k : ℕ) → k < below → slice_index numbers k < n
  pub upper : (k : ℕ) → below ≤ k → k < length numbers → n ≤ slice_index numbers k
