use Rattle.desk_call.proofs.Common.{◌-◌, ◌≤◌, ap, arith, length, length-append, vec_len, reads_to_fault}
use Rattle.desk_call.proofs.Gives.{gives_moved}
use Rattle.desk_call.proofs.reading.read_until.Goals as goal

pub returns-in-Err-clause-reads : goal.returns-in-Err-clause-reads
returns-in-Err-clause-reads g c =
    let old = c.args.got.now in
    let got = c.loop-got.got in
    let before = c.loop-got.invariant in
    let moves = before.moves in
    let longer : vec_len old ≤ vec_len got =
    omega (arith, ap length moves.1, length-append old.items moves.0, got.ok.0, old.ok.0) in
    reads_to_fault _ _ g.R.Source _ _ _ (vec_len got - vec_len old) _ (c.args.until - vec_len old) c.in-Err.e
    (gives_moved _ _ old.items got.items _ moves (omega (arith, longer, got.ok.0, old.ok.0))) before.count
    c.in-Err.ensures.reads (omega (arith, longer, c.len-in-loop-got.ensures, before.most))
