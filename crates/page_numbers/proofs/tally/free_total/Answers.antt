use Rattle.page_numbers.proofs.Common.{◌∙◌, sym, arith}
use Rattle.page_numbers.specs.Tally.{is_of, free_at}
use Rattle.page_numbers.proofs.InBlocks.{formed, free_few}
use Rattle.page_numbers.proofs.Totals.{sum_kept, sum_passed}
use Rattle.page_numbers.proofs.tally.free_total.Goals.{then-is_of+in_ok-left, else-is_of}
use Rattle.page_numbers.proofs.tally.free_total.Goals as goal

pub block_left-requires : goal.block_left-requires
block_left-requires c =
    formed c.args.team.now c.args.form c.granted-item.result (sym c.is_of.ensures.is ∙ c.if-is_of.true)

pub loop-granted-preserved : goal.loop-granted-preserved
loop-granted-preserved c =
    let p = is_of c.args.team.now c.args.form in
    let f = free_at c.args.taken.now c.args.form in
    let blocks = c.args.blocks.now in
    let i = c.loop-granted.granted-index in
    let granted = c.granted-item.result in
    elim c.if-is_of.branch [
      | then-is_of+in_ok-left w ↦
          record {
            counted = rw w.count-is
                (sum_kept p blocks i granted c.loop-granted-test.true c.granted-item.is f c.loop-granted.count
                w.in_ok-left.left.count (sym c.is_of.ensures.is ∙ w.if-is_of.true)
                c.loop-granted.invariant.counted w.in_ok-left.ensures.count);
            few = rw w.count-is
                (omega (
                  arith,
                  free_few c.args.taken.now c.args.form granted c.is_of.ensures.range,
                  w.in_ok-left.ensures.count,
                  c.loop-granted.invariant.few,
                ));
          }
      | else-is_of w ↦
          record {
            counted = rw w.count-is
                (sum_passed p blocks i granted c.loop-granted-test.true c.granted-item.is f c.loop-granted.count
                (sym c.is_of.ensures.is ∙ w.if-is_of.false) c.loop-granted.invariant.counted);
            few = rw w.count-is (omega (arith, c.loop-granted.invariant.few));
          }
    ]
