use Rattle.page_messages.proofs.Common.{◌<◌, ◌∙◌, sym, arith, mask_end}
use Rattle.std.specs.Cmp.{both_ways}
use Rattle.page_messages.specs.Used.{has_position}
use Rattle.page_messages.proofs.Counting.{counted_no, counted_yes}
use Rattle.page_messages.proofs.used.used_bits.Goals as goal
use Rattle.page_messages.proofs.used.used_bits.Goals.{then-has, else-has}

pub loop-position-preserved : goal.loop-position-preserved
loop-position-preserved c =
    let before = c.loop-position.invariant in
    let signals = c.args.message.now.signals in
    let position = c.loop-position.position in
    let within : position < mask_end = omega arith in
    let are = c.as_slice.ensures.signals in
    let is = rw are at (c.positions_of-mask.ensures position within) in
    let same = both_ways c.has.result (has_position signals position) (λ e. is.0 (c.has.ensures.0 e))
    (λ e. c.has.ensures.1 (is.1 e)) in
    elim c.if-has.branch [
      | then-has w ↦ record {
        counted = rw w.count-is (counted_yes (has_position signals) position c.loop-position.count
            (sym same ∙ w.if-has.true) before.counted);
        few = omega (arith, before.few);
      }
      | else-has w ↦ record {
        counted = rw w.count-is (counted_no (has_position signals) position c.loop-position.count
            (sym same ∙ w.if-has.false) before.counted);
        few = omega (arith, before.few);
      }
    ]
