-- Which messages a node sends, and which of their signals it receives.
use Rattle.std.specs.Prelude.{ℕ, nat_lt, Bool, false, List, count_by, Option, Some, None}
use Rattle.std.specs.List.{list_any}
use Rattle.std.specs.Str.{bytes_eq}
use Rattle.dbc_sheet.specs.declared.message.Message.{Message}
use Rattle.dbc_sheet.specs.declared.signal.Signal.{Signal}

abbrev pub is_name_of : List ℕ → Option (List ℕ) → Bool
is_name_of name None = false
is_name_of name (Some other) = bytes_eq other name

-- the node sends the message
abbrev pub sends : List ℕ → Message → Bool
sends node m = is_name_of node m.transmitter

-- the node receives the signal
abbrev pub receives : List ℕ → Signal → Bool
receives node s = list_any (λ r. bytes_eq r node) s.receivers

-- how many signals of the message the node receives
abbrev pub received : List ℕ → Message → ℕ
received node m = count_by (receives node) m.signals

-- it receives one at least
abbrev pub receives_some : List ℕ → Message → Bool
receives_some node m = nat_lt 0 (received node m)
