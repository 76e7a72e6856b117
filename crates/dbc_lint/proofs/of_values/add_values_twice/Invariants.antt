use Rattle.dbc_lint.proofs.Common.{◌≡◌, ◌++◌, drop, take}
use Rattle.dbc_lint.specs.NumberSet.{HasValuesOf}
use Rattle.dbc_lint.specs.OfSignal.{values_twice}
use Rattle.dbc_lint.proofs.of_values.add_values_twice.Given as goal

-- the set has the values so far
abbrev pub invariant-loop-entry : goal.invariant-loop-entry
invariant-loop-entry l = record {
  seen : HasValuesOf (take l.entry-index l.entries) l.seen;
  reported : l.remarks.items ++ values_twice l.words l.at l.entries l.entry-index (drop l.entry-index l.entries)
      ≡ l.initial.remarks.items ++ values_twice l.words l.at l.entries 0 l.entries;
}
