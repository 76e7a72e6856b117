use Rattle.std.proofs.Common.{◌≡◌, drop}
use Rattle.office_reasons.specs.Blocks.{nearest_after, nearest_of}
use Rattle.office_reasons.proofs.blocks.nearest.Given as goal

-- the nearest one is that so far, or among those that are left
abbrev pub invariant-loop-block : goal.invariant-loop-block
invariant-loop-block l = nearest_of l.number l.blocks ≡ nearest_after l.number l.best (drop l.block-index l.blocks)
