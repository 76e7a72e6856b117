use Rattle.dbc_sheet.proofs.Common.{◌≡◌, take}
use Rattle.dbc_sheet.specs.Signals.{places_of}
use Rattle.dbc_sheet.proofs.signals.Signals.places.Given as goal

abbrev pub invariant-loop-signal : goal.invariant-loop-signal
invariant-loop-signal l = l.places.items ≡ places_of (take l.signal-index l.signal-items)
