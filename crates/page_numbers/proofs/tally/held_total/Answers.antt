use Rattle.page_numbers.proofs.Common.{◌∙◌, sym, arith}
use Rattle.page_numbers.specs.Tally.{is_of, held_at}
use Rattle.page_numbers.proofs.InBlocks.{held_few}
use Rattle.page_numbers.proofs.Totals.{sum_kept, sum_passed}
use Rattle.page_numbers.proofs.tally.held_total.Goals.{then-is_of, else-is_of}
use Rattle.page_numbers.proofs.tally.held_total.Goals as goal

pub loop-granted-preserved : goal.loop-granted-preserved
loop-granted-preserved c =
    let p = is_of c.args.team.now c.args.form in
    let f = held_at c.args.numbers.now.live c.args.numbers.now.taken c.args.form in
    let blocks = c.args.blocks.now in
    let i = c.loop-granted.granted-index in
    let granted = c.granted-item.result in
    elim c.if-is_of.branch [
      | then-is_of w ↦
          record {
            counted = rw w.count-is
                (sum_kept p blocks i granted c.loop-granted-test.true c.granted-item.is f c.loop-granted.count
                w.held_in.result (sym c.is_of.ensures.is ∙ w.if-is_of.true)
                c.loop-granted.invariant.counted w.held_in.ensures);
            few = rw w.count-is
                (omega (
                  arith,
                  held_few c.args.numbers.now.live c.args.numbers.now.taken c.args.form granted c.is_of.ensures.range,
                  w.held_in.ensures,
                  c.loop-granted.invariant.few,
                ));
          }
      | else-is_of w ↦
          record {
            counted = rw w.count-is
                (sum_passed p blocks i granted c.loop-granted-test.true c.granted-item.is f c.loop-granted.count
                (sym c.is_of.ensures.is ∙ w.if-is_of.false) c.loop-granted.invariant.counted);
            few = rw w.count-is (omega (arith, c.loop-granted.invariant.few));
          }
    ]
