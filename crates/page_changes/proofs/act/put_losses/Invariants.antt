use Rattle.page_changes.proofs.Common.{take, flat_map, Becomes, adding}
use Rattle.page_changes.specs.Act.{lost_item}
use Rattle.page_changes.proofs.act.put_losses.Given as goal

abbrev pub invariant-loop-loss : goal.invariant-loop-loss
invariant-loop-loss l =
    Becomes l.page (adding (flat_map lost_item (take l.loss-index l.losses)) l.initial.page)
