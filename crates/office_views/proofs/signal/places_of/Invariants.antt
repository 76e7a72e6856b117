use Rattle.std.proofs.Common.{◌≡◌, map, take}
use Rattle.office_views.proofs.signal.places_of.Given as goal

abbrev pub invariant-loop-signal : goal.invariant-loop-signal
invariant-loop-signal l = l.places.items ≡ map (λ signal. signal.place) (take l.signal-index l.signals)
