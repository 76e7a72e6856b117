use Rattle.page_changes.proofs.Common.{◌++◌, flat_map}
use Rattle.page_changes.specs.Act.{is_one_thing, losses_at, things_of}
use Rattle.page_changes.proofs.Cutting.{part_added}
use Rattle.page_changes.proofs.LostParts.{alike_things}
use Rattle.page_changes.proofs.act.add_things.Goals as goal

pub loop-first-preserved : goal.loop-first-preserved
loop-first-preserved c =
    let f = losses_at c.args.old.now in
    part_added is_one_thing alike_things f c.count_alike-count.result c.loop-first.rest.now c.in-Some.later.now
    c.split_at.result.0.now c.split_at.result.1.now c.in-Some.first.now c.loop-first.losses.items
    c.add_losses.new.losses.items (c.args.losses.now.items ++ flat_map f (things_of c.args.differences.now))
    c.in-Some.ensures.cases.0 c.count_alike-count.ensures.is c.split_at.ensures.front c.split_at.ensures.back
    c.in_ok-add_losses.ensures c.loop-first.invariant
