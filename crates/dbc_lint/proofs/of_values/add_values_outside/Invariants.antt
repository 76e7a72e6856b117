use Rattle.dbc_lint.proofs.Common.{◌≡◌, ◌++◌, drop, flat_map}
use Rattle.dbc_lint.specs.OfSignal.{value_outside}
use Rattle.dbc_lint.proofs.of_values.add_values_outside.Given as goal

abbrev pub invariant-loop-entry : goal.invariant-loop-entry
invariant-loop-entry l =
    l.remarks.items ++ flat_map (value_outside l.words l.at l.signal) (drop l.entry-index l.entry-items)
    ≡ l.initial.remarks.items ++ flat_map (value_outside l.words l.at l.signal) l.signal.values
