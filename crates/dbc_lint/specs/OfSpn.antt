-- One suspect parameter number on two signals.
use Rattle.std.specs.Prelude.{ℕ, ◌==◌, Bool, false, ◌||◌, List, [], ◌∷◌, Option, Some, None, find, map, if◌then◌else◌}
use Rattle.std.specs.List.{flat_map}
use Rattle.std.specs.Option.{option_or}
use Rattle.std.specs.Str.{bytes_eq}
use Rattle.can_id.specs.J1939.{Fields, ident_fields, pgn_of}
use Rattle.dbc_sheet.specs.Messages.{number_of}
use Rattle.dbc_sheet.specs.declared.message.Message.{Message}
use Rattle.dbc_sheet.specs.declared.sheet.Sheet.{Sheet}
use Rattle.dbc_sheet.specs.declared.signal.Signal.{Signal}
use Rattle.dbc_lint.specs.Remark.{remark, with_word}
use Rattle.dbc_lint.specs.declared.kind.Kind.TheVariants.{SpnTwice}
use Rattle.dbc_lint.specs.declared.remark.Remark.{Remark}

-- a signal and its message
abbrev pub SpnPlace : Type 0
SpnPlace = Message × Signal

abbrev pub place_of : Message → Signal → SpnPlace
place_of m s = (m, s)

abbrev pub has_spn : ℕ → SpnPlace → Bool
has_spn n p = p.1.spn == n

-- the signals of the message, and those of all messages, in order
abbrev pub places_in : Message → List SpnPlace
places_in m = map (place_of m) m.signals

abbrev pub places : List Message → List SpnPlace
places messages = flat_map places_in messages

-- the first of the signals that has the number
abbrev pub first_place : List SpnPlace → ℕ → Option SpnPlace
first_place ps n = find (has_spn n) ps

-- ---- which signals may have one number

-- the messages are of one parameter group (SAE J1939-21); a message of 11 bits is of none
abbrev pub is_one_group : Option Fields → Option Fields → Bool
is_one_group (Some f) (Some g) = pgn_of f == pgn_of g
is_one_group f g = false

-- two messages may have one number where two nodes send one parameter group
abbrev pub may_share : Message → Message → Bool
may_share m o = number_of m == number_of o || is_one_group (ident_fields m.ident) (ident_fields o.ident)

-- it is the signal of this name
abbrev pub is_named : List ℕ → SpnPlace → Bool
is_named name p = bytes_eq p.1.name name

-- the place, unless the test holds
abbrev pub unless : (SpnPlace → Bool) → Option SpnPlace → Option SpnPlace
unless test None = None
unless test (Some p) = if test p then None else Some p

-- the first signal of the message that has the number, if that is another one
abbrev pub earlier_in : Message → Signal → Option SpnPlace
earlier_in m s = unless (is_named s.name) (first_place (places_in m) s.spn)

-- the first signal of the file that has the number, if it is of a message that may not share it with this one
abbrev pub first_outside : List Message → Message → Signal → Option SpnPlace
first_outside messages m s = unless (λ p. may_share m p.0) (first_place (places messages) s.spn)

-- the signal that had the number before this one; 0 is no number
abbrev pub holder_of_spn : List Message → Message → Signal → Option SpnPlace
holder_of_spn messages m s =
    if s.spn == 0 then None else option_or (earlier_in m s) (first_outside messages m s)

-- ---- the remark

-- with the names of the other message and signal
abbrev pub spn_remark : List ℕ → ℕ → SpnPlace → Remark
spn_remark words at p = remark SpnTwice at (with_word (with_word words p.0.name) p.1.name)

abbrev pub remark_of : List ℕ → ℕ → Option SpnPlace → List Remark
remark_of words at None = []
remark_of words at (Some p) = spn_remark words at p ∷ []

-- another signal had the number of this one before
abbrev pub spn_twice : Sheet → Message → Signal → List ℕ → ℕ → List Remark
spn_twice sheet m s words at = remark_of words at (holder_of_spn sheet.messages m s)
