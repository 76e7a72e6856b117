use Rattle.dbc_lint.proofs.Common.{◌≡◌, ◌++◌, drop, flat_map}
use Rattle.dbc_lint.specs.OfSignal.{of_kind, signal_kinds}
use Rattle.dbc_lint.proofs.of_signal.add_of_kinds.Given as goal

abbrev pub invariant-loop-kind : goal.invariant-loop-kind
invariant-loop-kind l =
    l.remarks.items ++ flat_map (of_kind l.message l.signal l.at) (drop l.kind-index l.kind-items)
    ≡ l.initial.remarks.items ++ flat_map (of_kind l.message l.signal l.at) signal_kinds
