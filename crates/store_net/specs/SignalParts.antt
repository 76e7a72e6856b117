-- Live messages as far as they are read.
use Rattle.std.specs.Prelude.{List, [], map}
use Rattle.dbc_sheet.specs.declared.signal.Signal.{Signal}
use Rattle.office_types.specs.declared.state.LiveMessage.{LiveMessage}
use Rattle.store_rows.specs.Live.{bare_signal}
use Rattle.store_net.specs.declared.signal_parts.SignalParts.{SignalParts}
use Rattle.store_net.specs.declared.signal_parts.SignalParts.TheVariants.{All, Received, RowOnly}

abbrev pub received_signal : Signal → Signal
received_signal s = record s { values = [] }

-- signals whole, or all but their value texts, or all but these and their receivers
abbrev pub signals_in : SignalParts → List Signal → List Signal
signals_in All signals = signals
signals_in Received signals = map received_signal signals
signals_in RowOnly signals = map bare_signal signals

-- the message with them
abbrev pub live_in : SignalParts → LiveMessage → LiveMessage
live_in detail m = record m { message = record m.message { signals = signals_in detail m.message.signals } }
