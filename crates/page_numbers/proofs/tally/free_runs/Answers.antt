use Rattle.page_numbers.proofs.Common.{◌∙◌, sym}
use Rattle.page_numbers.specs.Tally.{is_of, runs_at}
use Rattle.page_numbers.proofs.InBlocks.{formed}
use Rattle.page_numbers.proofs.Totals.{list_kept, list_passed}
use Rattle.page_numbers.proofs.tally.free_runs.Goals.{then-is_of+in_ok-left+in_ok-extend_from_slice, else-is_of}
use Rattle.page_numbers.proofs.tally.free_runs.Goals as goal

pub block_left-requires : goal.block_left-requires
block_left-requires c =
    formed c.args.team.now c.args.form c.granted-item.result (sym c.is_of.ensures.is ∙ c.if-is_of.true)

pub loop-granted-preserved : goal.loop-granted-preserved
loop-granted-preserved c =
    let p = is_of c.args.team.now c.args.form in
    let f = runs_at c.args.taken.now c.args.form in
    let blocks = c.args.blocks.now in
    let i = c.loop-granted.granted-index in
    let granted = c.granted-item.result in
    elim c.if-is_of.branch [
      | then-is_of+in_ok-left+in_ok-extend_from_slice w ↦
          rw w.runs-is
          (list_kept p blocks i granted c.loop-granted-test.true c.granted-item.is f c.loop-granted.runs.items
          w.in_ok-left.left.runs.items _ (sym c.is_of.ensures.is ∙ w.if-is_of.true) c.loop-granted.invariant
          w.in_ok-left.ensures.runs (rw w.deref.ensures.value at w.in_ok-extend_from_slice.ensures.items))
      | else-is_of w ↦
          rw w.runs-is
          (list_passed p blocks i granted c.loop-granted-test.true c.granted-item.is f c.loop-granted.runs.items
          (sym c.is_of.ensures.is ∙ w.if-is_of.false) c.loop-granted.invariant)
    ]
