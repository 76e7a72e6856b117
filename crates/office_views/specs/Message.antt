-- The chart of a message of a sheet.
use Rattle.std.specs.Prelude.{ℕ, List, map}
use Rattle.dbc_sheet.specs.Signal.{place_of}
use Rattle.dbc_sheet.specs.declared.message.Message.{Message}
use Rattle.dbc_sheet.specs.declared.signal.Signal.{Signal}
use Rattle.office_views.specs.Text.{chart_of}
use Rattle.office_views.specs.declared.signal.ChartSignal.{ChartSignal}

-- a signal's name, and its place
abbrev pub chart_signal : Signal → ChartSignal
chart_signal s = record { name = s.name; place = place_of s }

-- the chart of all its signals, in their order
abbrev pub message_chart : Message → List ℕ
message_chart m = chart_of m.length (map chart_signal m.signals)
