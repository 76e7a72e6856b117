use Rattle.std.proofs.Common.{take}
use Rattle.office_views.specs.Held.{IsHeldBy}
use Rattle.office_views.proofs.text.held_by.Given as goal

abbrev pub invariant-loop-signal : goal.invariant-loop-signal
invariant-loop-signal l = IsHeldBy (record { some = l.some; several = l.several }) (take l.signal-index l.signals)
