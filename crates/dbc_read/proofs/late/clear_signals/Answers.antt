use Rattle.dbc_read.proofs.Common.{◌<◌, ◌∙◌, length, arith, HasNothingAttached, signal_of}
use Rattle.dbc_read.proofs.Cleared.{one_more}
use Rattle.dbc_read.proofs.Fed.{set_leaves}
use Rattle.dbc_read.proofs.late.clear_signals.Goals as goal

pub loop-at-preserved : goal.loop-at-preserved
loop-at-preserved c =
    let xs = c.loop-at.signals in
    let i = c.loop-at.at in
    let y = c.clear_signal.new.signal in
    let lt : i < length xs = let long = c.loop-at.auto.signals in let test = c.loop-at-test.true in omega arith in
    record {
      stays = set_leaves signal_of xs i c.index-signals-at.result y c.clear_signal.ensures.stays
          ∙ c.loop-at.invariant.stays;
      nothing = one_more HasNothingAttached xs i y lt c.loop-at.invariant.nothing c.clear_signal.ensures.nothing;
    }
