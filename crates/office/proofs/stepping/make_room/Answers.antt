use Rattle.office.proofs.Common.{◌<◌, List, Option, length, sym, subst, arith}
use Rattle.office.specs.Indexed.{AreIndexes}
use Rattle.office.specs.declared.net_index.NetIndex.{NetIndex}
use Rattle.office.proofs.Runs.{indexes-push}
use Rattle.office.proofs.stepping.make_room.Goals as goal

pub loop-indexes-preserved : goal.loop-indexes-preserved
loop-indexes-preserved c =
    let xs = c.loop-indexes.indexes.items in
    let nets = c.args.nets.now in
    let within = c.requires.within in
    let le = c.loop-indexes-test.true in
    let len = c.len.ensures in
    let room : length xs < length nets = omega (arith, within, le, len, c.loop-indexes.indexes.ok.0) in
    subst (λ (v : List (Option NetIndex)). AreIndexes v nets) (sym c.in-Ok.ensures.items)
    (indexes-push xs nets c.loop-indexes.invariant room)
