use Rattle.dbc_read.proofs.Common.{◌<◌, ◌∙◌, length, arith, HaveNothingAttached, message_of, MessageLine}
use Rattle.dbc_read.proofs.Cleared.{one_more}
use Rattle.dbc_read.proofs.Fed.{set_leaves}
use Rattle.dbc_read.proofs.late.clear_lines.Goals as goal

pub loop-at-preserved : goal.loop-at-preserved
loop-at-preserved c =
    let xs = c.loop-at.lines in
    let i = c.loop-at.at in
    let y = c.clear_line.new.line in
    let lt : i < length xs = let long = c.loop-at.auto.lines in let test = c.loop-at-test.true in omega arith in
    record {
      stays = set_leaves message_of xs i c.index-lines-at.result y c.clear_line.ensures.stays
          ∙ c.loop-at.invariant.stays;
      bare = one_more (λ (m : MessageLine). HaveNothingAttached m.signals.items) xs i y lt c.loop-at.invariant.bare
          c.clear_line.ensures.nothing;
    }
