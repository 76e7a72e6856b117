use Rattle.dbc_compare.proofs.Common.{◌≡◌, take}
use Rattle.std.proofs.Common.{◌≤◌}
use Rattle.std.specs.Prelude.{count_by}
use Rattle.dbc_compare.specs.List.{breaks}
use Rattle.dbc_compare.proofs.list.breaking_count.Given as goal

abbrev pub invariant-loop-difference : goal.invariant-loop-difference
invariant-loop-difference l = record {
  counted : l.count ≡ count_by breaks (take l.difference-index l.found);
  few : l.count ≤ l.difference-index;
}
