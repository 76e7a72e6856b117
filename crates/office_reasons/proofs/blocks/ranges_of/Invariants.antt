use Rattle.std.proofs.Common.{◌≡◌, ◌++◌, drop, map}
use Rattle.std.specs.Prelude.{string_bytes}
use Rattle.office_reasons.specs.Pieces.{range_text}
use Rattle.office_reasons.proofs.blocks.ranges_of.Given as goal

abbrev pub invariant-loop-block : goal.invariant-loop-block
invariant-loop-block l = map (λ s. string_bytes s) l.ranges.items ++ map range_text (drop l.block-index l.blocks)
    ≡ map range_text l.blocks
