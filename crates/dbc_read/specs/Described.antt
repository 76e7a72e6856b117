-- The signals of a message with the offsets of where they are described.
use Rattle.std.specs.Prelude.{List, [], ◌∷◌, drop}
use Rattle.dbc_sheet.specs.declared.signal.Signal.{Signal}
use Rattle.dbc_statements.specs.declared.statement.MessageLine.{MessageLine}
use Rattle.dbc_statements.specs.declared.statement.SignalOffsets.{SignalOffsets}
use Rattle.dbc_read.specs.Built.{first_or}

pub record Described : Type 0 where
  pub signal : Signal
  pub offsets : SignalOffsets

-- each of the signals with its offsets, or with others where there are none
abbrev pub described_with : SignalOffsets → List Signal → List SignalOffsets → List Described
described_with other [] offsets = []
described_with other (s ∷ signals) offsets = record { signal = s; offsets = first_or other offsets }
    ∷ described_with other signals (drop 1 offsets)

-- the message's own offset, for a signal that has none
abbrev pub own_offsets : MessageLine → SignalOffsets
own_offsets m = record { at = m.at; mux_at = m.at }

abbrev pub described : MessageLine → List Described
described m = described_with (own_offsets m) m.signals.items m.offsets.items
