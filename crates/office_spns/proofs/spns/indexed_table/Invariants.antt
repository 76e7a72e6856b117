use Rattle.std.proofs.Common.{◌≡◌, take}
use Rattle.std.specs.List.{flat_map}
use Rattle.office_spns.specs.Spns.{spn_rows}
use Rattle.office_spns.proofs.spns.indexed_table.Given as goal

abbrev pub invariant-loop-number : goal.invariant-loop-number
invariant-loop-number l = l.rows ≡ flat_map (spn_rows l.view) (take l.number-index l.number-items)
