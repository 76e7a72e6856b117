use Rattle.std.proofs.Common.{arith, length, ◌+◌}
use Rattle.desk_types.proofs.Gives.{gives_these, reads_to_fault}
use Rattle.desk_client.specs.Limits.{response_limit}
use Rattle.desk_client.proofs.reading.read_all.Goals as goal

pub returns-in-Err-clause-reads : goal.returns-in-Err-clause-reads
returns-in-Err-clause-reads g c =
    let got = c.loop-got.got in
    let before = c.loop-got.invariant in
    reads_to_fault _ _ g.R.Source _ _ _ (length got.items) _ (response_limit + 1) c.in-Err.e
    (gives_these _ _ got.items _ before.moves (omega arith)) before.count c.in-Err.ensures.reads
    (omega (arith, before.small, c.len-in-loop-got.ensures, got.ok.0))
