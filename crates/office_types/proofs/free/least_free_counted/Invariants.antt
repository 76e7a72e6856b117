use Rattle.std.proofs.Common.{take, length, ◌≤◌, ◌+◌, ◌*◌}
use Rattle.office_types.specs.Free.{IsLeastFree}
use Rattle.office_types.proofs.free.least_free_counted.Given as goal

abbrev pub invariant-loop-block : goal.invariant-loop-block
invariant-loop-block l = record {
  least : IsLeastFree l.taken (take l.block-index l.blocks) l.form l.least;
  few : l.turns ≤ (length l.taken + 1) * l.block-index;
}
