use Rattle.office_looks.proofs.Common.{◌≡◌, ◌++◌, map, take}
use Rattle.office_looks.specs.Message.{value_row}
use Rattle.office_looks.proofs.signal_rows.push_values.Given as goal

abbrev pub invariant-loop-value : goal.invariant-loop-value
invariant-loop-value l = l.rows ≡ l.initial.rows ++ map (value_row l.signal) (take l.value-index l.value-items)
