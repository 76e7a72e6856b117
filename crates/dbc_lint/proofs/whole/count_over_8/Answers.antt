use Rattle.dbc_lint.proofs.Common.{arith}
use Rattle.dbc_lint.proofs.LongMessages.{counted_more}
use Rattle.dbc_lint.proofs.whole.count_over_8.Goals as goal

pub loop-message-preserved : goal.loop-message-preserved
loop-message-preserved c =
    let before = c.loop-message.invariant.few in
    let more = c.one_more_if-count.ensures.few in record {
      counted = counted_more c.args.messages.now c.loop-message.message-index c.message-item.result c.is_over_8.result
          c.loop-message.count c.one_more_if-count.result c.loop-message-test.true c.message-item.is c.is_over_8.ensures
          c.loop-message.invariant.counted c.one_more_if-count.ensures.is;
      few = omega (arith, before, more);
    }
