-- Which bits of a payload are used.
use Rattle.std.specs.Prelude.{ℕ, ◌*◌, Bool, List, count_by}
use Rattle.std.specs.List.{list_any, range_with_len}
use Rattle.bitlayout.specs.Bits.{is_bit}
use Rattle.dbc_sheet.specs.declared.message.Message.{Message}
use Rattle.dbc_sheet.specs.declared.signal.Signal.{Signal}

-- a signal has the position
abbrev pub has_position : List Signal → ℕ → Bool
has_position signals p = list_any (λ (s : Signal). is_bit s.layout p) signals

-- how many positions of the payload signals have
abbrev pub used_bits : Message → ℕ
used_bits m = count_by (has_position m.signals) (range_with_len 0 (8 * m.length))
