use Rattle.page_numbers.proofs.Common.{take, flat_map, Becomes, adding}
use Rattle.page_numbers.specs.Left.{block_item}
use Rattle.page_numbers.proofs.left.put_items.Given as goal

abbrev pub invariant-loop-granted : goal.invariant-loop-granted
invariant-loop-granted l =
    Becomes l.page (adding (flat_map (block_item l.letters) (take l.granted-index l.blocks)) l.initial.page)
