use Rattle.office_blocks.proofs.Common.{◌∙◌, ap, sym, arith, option_copied, GrantedBlock}
use Rattle.office_types.specs.Block.{same_form}
use Rattle.office_blocks.specs.Blocks.{free_count, is_wanted, taken_numbers}
use Rattle.office_blocks.proofs.Same.{free_is}
use Rattle.office_blocks.proofs.Wanted.{sum_kept, sum_passed}
use Rattle.office_blocks.proofs.blocks.free_of_form.Goals.{then-is_of+in_ok-left, else-is_of}
use Rattle.office_blocks.proofs.blocks.free_of_form.Goals as goal

pub loop-granted-preserved : goal.loop-granted-preserved
loop-granted-preserved c =
    let p = is_wanted (option_copied c.args.team) in
    let form = c.args.form in
    let q = λ (g : GrantedBlock). same_form g.block.form form in
    let f = λ (g : GrantedBlock). free_count (taken_numbers form c.args.view.now) g.block in
    let blocks = c.as_slice-granted-items.result.now in
    let i = c.loop-granted.granted-index in
    let granted = c.granted-item.result in
    elim c.if-is_of.branch [
      | then-is_of+in_ok-left w ↦
          record {
            counted = rw w.count-is
                (sum_kept p blocks i granted c.loop-granted-test.true c.granted-item.is q f c.loop-granted.count
                w.in_ok-left.left.count (sym c.is_of.ensures ∙ w.if-is_of.true) c.loop-granted.invariant.counted
                (w.in_ok-left.ensures.count ∙ ap (λ n. free_count n.taken granted.block) c.of_form.ensures
                ∙ free_is c.args.view.now c.args.numbers.now form granted.block c.requires));
            few = omega arith;
          }
      | else-is_of w ↦
          record {
            counted = rw w.count-is
                (sum_passed p blocks i granted c.loop-granted-test.true c.granted-item.is q f c.loop-granted.count
                (sym c.is_of.ensures ∙ w.if-is_of.false) c.loop-granted.invariant.counted);
            few = omega arith;
          }
    ]
