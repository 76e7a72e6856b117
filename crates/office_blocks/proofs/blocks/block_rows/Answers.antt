use Rattle.office_blocks.proofs.Common.{◌∙◌, sym, refl, option_copied}
use Rattle.office_blocks.specs.Blocks.{block_row, is_wanted}
use Rattle.office_blocks.proofs.Wanted.{row_kept, row_passed}
use Rattle.office_blocks.proofs.blocks.block_rows.Goals.{then-is_wanted+in_ok-push_block, else-is_wanted}
use Rattle.office_blocks.proofs.blocks.block_rows.Goals as goal

pub loop-granted-preserved : goal.loop-granted-preserved
loop-granted-preserved c =
    let p = is_wanted (option_copied c.args.team) in
    let blocks = c.as_slice-granted-items.result.now in
    let i = c.loop-granted.granted-index in
    let granted = c.granted-item.result in
    let row = block_row c.args.view.now in
    elim c.if-is_wanted.branch [
      | then-is_wanted+in_ok-push_block w ↦
          rw w.rows-is
          (row_kept p blocks i granted c.loop-granted-test.true c.granted-item.is row c.loop-granted.rows _ _
          (sym c.is_wanted.ensures ∙ w.if-is_wanted.true) c.loop-granted.invariant refl
          (w.in_ok-push_block.ensures c.args.view.now c.requires))
      | else-is_wanted w ↦
          rw w.rows-is
          (row_passed p blocks i granted c.loop-granted-test.true c.granted-item.is row c.loop-granted.rows
          (sym c.is_wanted.ensures ∙ w.if-is_wanted.false) c.loop-granted.invariant)
    ]
