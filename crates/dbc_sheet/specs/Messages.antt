-- The messages of a sheet (Vector's DBC File Format Documentation, messages): a finite map from DBC number to
-- message, kept as the list of the messages in ascending order of their numbers.
use Rattle.std.specs.Prelude.{◌≡◌, ◌≤◌, ◌==◌, ℕ, Bool, not, nat_le, List, [], ◌∷◌, length, filter, find, Option}
use Rattle.std.specs.List.{list_any}
use Rattle.std.specs.List.Sorted.{IsStrictlySortedBy}
use Rattle.std.specs.Ordering.{nat_cmp, on}
use Rattle.std.specs.declared.cmp.Ordering.{Ordering}
use Rattle.base.specs.Refusing.{Test}
use Rattle.bitlayout.specs.Clear.{IsClear}
use Rattle.can_id.specs.Ident.{dbc_number}
use Rattle.dbc_words.specs.Limits.{message_limit}
use Rattle.dbc_words.specs.Named.{AreNamedApart, has_name, holds_name}
use Rattle.dbc_words.specs.declared.fault.SheetCode.{SheetCode}
use Rattle.dbc_words.specs.declared.fault.SheetCode.TheVariants.{DoubleNumber, DoubleName, TooMany}
use Rattle.dbc_words.specs.declared.name_set.NameSet.{NameSet}
use Rattle.dbc_sheet.specs.Signals.{places_of}
use Rattle.dbc_sheet.specs.declared.message.Message.{Message}

abbrev pub message_name : Message → List ℕ
message_name m = m.name

-- the number that a DBC file writes for the message's identifier
abbrev pub number_of : Message → ℕ
number_of m = dbc_number m.ident

abbrev pub by_number : Message → Message → Ordering
by_number = on number_of nat_cmp

-- the message of a number
abbrev pub message_at : List Message → ℕ → Option Message
message_at messages n = find (λ m. number_of m == n) messages

-- whether there is one
abbrev pub has_number : List Message → ℕ → Bool
has_number messages n = list_any (λ m. number_of m == n) messages

-- all except the one of this number
abbrev pub without_number : List Message → ℕ → List Message
without_number messages n = filter (λ m. not (number_of m == n)) messages

-- the signals of the message fit together in its payload
abbrev pub IsClearMessage : Message → Type 0
IsClearMessage m = IsClear (places_of m.signals) m.length

-- The messages of one sheet: each number once, in ascending order, each name once, and at most as many as the limit.
pub record AreMessages (messages : List Message) : Type 0 where
  pub ascending : IsStrictlySortedBy by_number messages
  pub apart : AreNamedApart message_name messages
  pub few : length messages ≤ message_limit

-- why one more message is refused
abbrev pub message_tests : List Message → Message → List (Test SheetCode)
message_tests messages m = record { holds = nat_le message_limit (length messages); refusal = TooMany }
    ∷ record { holds = has_number messages (number_of m); refusal = DoubleNumber }
    ∷ record { holds = has_name message_name messages m.name; refusal = DoubleName } ∷ []

-- what the code keeps in addition to the messages: the set of their names
pub record AreIndexed (messages : List Message) (names : NameSet) : Type 0 where
  pub together : AreMessages messages
  pub index : (n : List ℕ) → holds_name names n ≡ has_name message_name messages n
