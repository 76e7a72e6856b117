-- The messages of a number, found by binary search.
use Rattle.std.specs.Prelude.{◌≡◌, ℕ, ◌==◌, nat_lt, Bool, true, false, List, [], ◌∷◌, Option, Some, None, filter, map}
use Rattle.std.specs.List.{flat_map}
use Rattle.std.specs.List.Sorted.{IsNonDecreasingBy, IsPartitionPoint}
use Rattle.can_id.specs.declared.form.IdentForm.TheVariants.{Standard, Extended}
use Rattle.can_id.specs.declared.ident.Ident.{Ident}
use Rattle.dbc_sheet.specs.declared.message.Message.{Message}
use Rattle.office_rules.specs.Facts.{group_of, number_in}
use Rattle.office_types.specs.declared.block.BlockForm.{BlockForm}
use Rattle.office_types.specs.declared.block.BlockForm.TheVariants as form

-- the number of the form that the identifier has
abbrev pub number_of : BlockForm → Ident → Option ℕ
number_of form.Std i = number_in Standard i
number_of form.Ext i = number_in Extended i
number_of form.Pgn i = group_of i
number_of form.Spn i = None

abbrev pub is_number : ℕ → Option ℕ → Bool
is_number n None = false
is_number n (Some m) = m == n

abbrev pub has_number : BlockForm → ℕ → Message → Bool
has_number form n m = is_number n (number_of form m.ident)

-- the messages that have the number
abbrev pub live_at : List Message → BlockForm → ℕ → List Message
live_at messages form n = filter (has_number form n) messages

-- ---- in order

-- a message, and its number of a form
abbrev pub Numbered : Type 0
Numbered = ℕ × Message

abbrev pub number_at : Numbered → ℕ
number_at x = x.0

abbrev pub message_at : Numbered → Message
message_at x = x.1

abbrev pub numbered_if : Option ℕ → Message → List Numbered
numbered_if None m = []
numbered_if (Some n) m = (n, m) ∷ []

abbrev pub numbered : BlockForm → Message → List Numbered
numbered form m = numbered_if (number_of form m.ident) m

-- those of all messages
abbrev pub all_numbered : BlockForm → List Message → List Numbered
all_numbered form messages = flat_map (numbered form) messages

-- in the order of their numbers, with those of one number as in the sheet
pub record AreInOrder (form : BlockForm) (messages : List Message) (found : List Numbered) : Type 0 where
  pub rising : IsNonDecreasingBy number_at found
  pub of_number : (n : ℕ) → map message_at (filter (λ x. number_at x == n) found) ≡ live_at messages form n

-- so many of the first have lesser numbers, and no other
abbrev pub AreBelow : ℕ → List Numbered → ℕ → Type 0
AreBelow n found count =
    IsPartitionPoint (λ x. nat_lt (number_at x) n ≡ true) (λ x. nat_lt (number_at x) n ≡ false) found count

-- what an index is of
pub record Indexed : Type 0 where
  pub form : BlockForm
  pub messages : List Message
