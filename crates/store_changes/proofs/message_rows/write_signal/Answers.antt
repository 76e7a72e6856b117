use Rattle.store_changes.proofs.Common.{◌∙◌, arith, state, HasCleanDisk, edits_end}
use Rattle.std.proofs.Common.{rules}
use Rattle.sqlite.proofs.InsideLemmas.{keeps_then}
use Rattle.store_rows.proofs.Frames.{ends_then, nothing_left}
use Rattle.store_changes.proofs.message_rows.write_signal.Goals as goal

pub returns-clause-frame : goal.returns-clause-frame
returns-clause-frame g c =
    let first = edits_end g.S.Store c.args.tx.now c.write_sig.new.tx _ c.in_ok-write_sig.ensures.frame
    c.in_ok-write_sig.ensures.written in
    let second = ends_then g.S.Store c.args.tx.now c.write_sig.new.tx c.write_receivers.new.tx _ _ first
    c.in_ok-write_receivers.ensures.frame in
    ends_then g.S.Store c.args.tx.now c.write_receivers.new.tx c.write_values.new.tx _ _ second
    c.write_values.ensures.frame

pub returns-in_err-write_receivers-clause-frame : goal.returns-in_err-write_receivers-clause-frame
returns-in_err-write_receivers-clause-frame g c =
    let old = state g.S.Store c.args.tx.now.conn.now in
    let mid = state g.S.Store c.write_sig.new.tx.conn.now in
    let now = state g.S.Store c.write_receivers.new.tx.conn.now in
    let first = edits_end g.S.Store c.args.tx.now c.write_sig.new.tx _ c.in_ok-write_sig.ensures.frame
    c.in_ok-write_sig.ensures.written in
    let second = c.in_err-write_receivers.ensures.frame in
    record {
      same_reference = second.same_reference ∙ first.same_reference;
      office = search rules;
      same_schema = search rules;
      statistics = search rules;
      inside = search rules;
      kept = λ clean.
          let early : HasCleanDisk mid = omega (arith, second.survives.clean, clean) in
          keeps_then old mid now (first.kept early) (second.kept clean);
      survives = nothing_left old mid now first.survives second.survives;
    }
