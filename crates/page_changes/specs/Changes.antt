-- The differences of two sheets, by message. What differs of a message is a list of differences.
use Rattle.std.specs.Prelude.{ℕ, ◌+◌, ◌*◌, ◌≤◌, ◌==◌, ◌&&◌, not, Bool, true, false, List, [], ◌∷◌, Option, None}
use Rattle.std.specs.Prelude.{count_by, filter, find, map, unwrap_or, vec_len, if◌then◌else◌}
use Rattle.std.specs.Borrow.{Bor}
use Rattle.std.specs.List.Sorted.{IsStrictlySortedBy}
use Rattle.std.specs.Ordering.{nat_cmp, on}
use Rattle.can_id.specs.Ident.{dbc_number}
use Rattle.dbc_compare.specs.List.{breaks}
use Rattle.dbc_compare.specs.declared.difference.Alteration.{Alteration}
use Rattle.dbc_compare.specs.declared.difference.Alteration.TheVariants as change
use Rattle.dbc_compare.specs.declared.difference.Difference.{Difference}
use Rattle.dbc_compare.specs.declared.place.Region.{Region}
use Rattle.dbc_compare.specs.declared.place.Region.TheVariants as place
use Rattle.page_changes.specs.Parts.{parts_by}
use Rattle.page_changes.specs.declared.changes.Changes.{Changes}

-- ---- of a difference

abbrev pub place_is_in_message : Region → Bool
place_is_in_message (place.Message old new) = true
place_is_in_message here = false

abbrev pub is_in_message : Difference → Bool
is_in_message d = place_is_in_message d.place

-- the message in a place: the number that it had, the number that it has, and its name
abbrev pub old_number_at : Region → ℕ
old_number_at (place.Message old new) = dbc_number old.ident
old_number_at here = 0

abbrev pub number_at : Region → ℕ
number_at (place.Message old new) = dbc_number new.ident
number_at here = 0

abbrev pub name_at : Region → List ℕ
name_at (place.Message old new) = new.name
name_at here = []

-- the message itself was removed, and not a signal of it
abbrev pub is_gone_by : Option (List ℕ) → Alteration → Bool
is_gone_by None change.Removed = true
is_gone_by name c = false

-- the message that it is in is gone
abbrev pub is_gone : Difference → Bool
is_gone d = is_gone_by d.name d.change

-- the rank of a message of a number among those that differ: by number, and of one number first the message that has it
-- now, and then the one that is gone
abbrev pub rank_by : Bool → ℕ → ℕ
rank_by gone n = if gone then 2 * n + 1 else 2 * n

-- of the message that a difference is in
abbrev pub rank_of : Difference → ℕ
rank_of d = rank_by (is_gone d) (number_at d.place)

-- both are in one message
abbrev pub is_beside : Difference → Difference → Bool
is_beside d e = is_in_message d && is_in_message e && rank_of d == rank_of e

-- ---- of a message that differs

abbrev pub is_of_message : List Difference → Bool
is_of_message [] = false
is_of_message (d ∷ ds) = is_in_message d

abbrev pub old_number_in : List Difference → ℕ
old_number_in [] = 0
old_number_in (d ∷ ds) = old_number_at d.place

abbrev pub rank_in : List Difference → ℕ
rank_in [] = 0
rank_in (d ∷ ds) = rank_of d

abbrev pub name_in : List Difference → List ℕ
name_in [] = []
name_in (d ∷ ds) = name_at d.place

-- how many of its differences break a receiver
abbrev pub breaking_in : List Difference → ℕ
breaking_in ds = count_by breaks ds

-- ---- of two sheets

abbrev pub list_of : Bor (List Difference) → List Difference
list_of message = message.now

abbrev pub rank_of_change : Bor (List Difference) → ℕ
rank_of_change message = rank_in (list_of message)

-- the differences, if this holds
abbrev pub kept_if : Bool → List Difference → List (List Difference)
kept_if holds ds = if holds then ds ∷ [] else []

-- the messages that differ, each with all that differs of it
abbrev pub messages_in : List Difference → List (List Difference)
messages_in differences = filter is_of_message (parts_by is_beside differences)

abbrev pub is_elsewhere : Difference → Bool
is_elsewhere d = not (is_in_message d)

abbrev pub changes_in : Changes → List (List Difference)
changes_in changes = map list_of changes.messages.items

-- the messages that differ ascend by their numbers, and of one number the one that is gone is the last
abbrev pub AreByNumber : Changes → Type 0
AreByNumber changes = IsStrictlySortedBy (on rank_of_change nat_cmp) changes.messages.items

-- what differs of the message that has a number now
abbrev pub change_at : List (List Difference) → ℕ → List Difference
change_at messages n = unwrap_or (find (λ m. rank_in m == rank_by false n) messages) []

-- nothing differs
abbrev pub is_nothing : Changes → Bool
is_nothing changes = changes.others == 0 && vec_len changes.messages == 0

-- ---- in which order differences come

-- those that are in no message first, and then those of messages by rank
abbrev pub order_at : Bool → Region → ℕ
order_at gone (place.Message old new) = rank_by gone (dbc_number new.ident) + 1
order_at gone here = 0

abbrev pub order_of : Difference → ℕ
order_of d = order_at (is_gone d) d.place

-- each comes no sooner than that, and no sooner than the one before it
abbrev pub Rise : ℕ → List Difference → Type 0
Rise least [] = Unit {0}
Rise least (d ∷ ds) = (least ≤ order_of d) × Rise (order_of d) ds

-- as a comparison lists them
abbrev pub AreRising : List Difference → Type 0
AreRising differences = Rise 0 differences
