use Rattle.std.proofs.Common.{◌≡◌, map, take}
use Rattle.office_views.specs.Message.{chart_signal}
use Rattle.office_views.proofs.message.signals_of.Given as goal

abbrev pub invariant-loop-signal : goal.invariant-loop-signal
invariant-loop-signal l = l.signals.items ≡ map chart_signal (take l.signal-index l.signal-items)
