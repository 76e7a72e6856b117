use Rattle.dbc_lint.proofs.Common.{◌≡◌, ◌++◌, drop, map, flat_map, Signal}
use Rattle.dbc_lint.specs.Whole.{text_of}
use Rattle.dbc_lint.proofs.whole.add_receivers.Given as goal

abbrev pub invariant-loop-signal : goal.invariant-loop-signal
invariant-loop-signal l =
    map text_of l.names.items ++ flat_map (λ (s : Signal). s.receivers) (drop l.signal-index l.signals)
    ≡ map text_of l.initial.names.items ++ flat_map (λ (s : Signal). s.receivers) l.signals
