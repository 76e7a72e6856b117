use Rattle.std.proofs.Common.{take}
use Rattle.office_types.specs.Free.{IsLeastFree}
use Rattle.office_types.proofs.halving.least_in_blocks.Given as goal

abbrev pub invariant-loop-block : goal.invariant-loop-block
invariant-loop-block l = IsLeastFree l.numbers (take l.block-index l.blocks) l.form l.lowest
