use Rattle.std.proofs.Common.{arith, length}
use Rattle.desk_types.proofs.Gives.{gives_these, reads_to_fault}
use Rattle.desk_head.specs.Limits.{head_limit}
use Rattle.desk_head.proofs.reading.read_head.Goals as goal

pub returns-in-Err-clause-reads : goal.returns-in-Err-clause-reads
returns-in-Err-clause-reads g c =
    let got = c.loop-spans.got in
    let before = c.loop-spans.invariant in
    reads_to_fault _ _ g.R.Source _ _ _ (length got.items) _ head_limit c.in-Err.e
    (gives_these _ _ got.items _ before.moves (omega arith)) before.count c.in-Err.ensures.reads
    (omega (arith, before.small, c.len-room.ensures, got.ok.0))
