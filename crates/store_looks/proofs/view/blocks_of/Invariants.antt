use Rattle.store_looks.proofs.Common.{◌≡◌, ◌++◌, filter, map, take, bytes_eq}
use Rattle.office_seen.specs.View.{spn_block}
use Rattle.store_looks.proofs.view.blocks_of.Given as goal

abbrev pub invariant-loop-block : goal.invariant-loop-block
invariant-loop-block l = l.blocks
    ≡ l.net.blocks ++ map spn_block (filter (λ b. bytes_eq b.net l.net.name) (take l.block-index l.block-items))
