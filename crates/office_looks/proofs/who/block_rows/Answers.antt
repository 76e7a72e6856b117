use Rattle.office_looks.proofs.Common.{◌≡◌, ◌+◌, ◌<◌, ◌++◌, ◌∷◌, length, drop, filter, map, get_or, refl, sym, ap, ◌∙◌}
use Rattle.office_looks.proofs.Common.{arith, drop_more, block_row}
use Rattle.office_looks.specs.Who.{block_rows, has_one}
use Rattle.office_looks.proofs.Owning.{failing, item_more, passing}
use Rattle.office_looks.proofs.who.block_rows.Goals as goal
use Rattle.office_looks.proofs.who.block_rows.Goals.{then-has_one+in_ok-push_block, else-has_one}

pub loop-granted-preserved : goal.loop-granted-preserved
loop-granted-preserved c =
    let view = c.args.view.now in
    let i = c.loop-granted.granted-index in
    let wanted = c.in_ok-wanted.wanted.items in
    let granted = c.granted-item.result in
    let blocks = view.blocks in
    let rest = drop (i + 1) blocks in
    let row = block_row view in
    let items = c.as_slice-granted-items.result.now in
    let is_blocks : items ≡ blocks = c.as_slice-granted-items.ensures in
    let same : length items ≡ length blocks = ap length is_blocks in
    let inside : i < length items = c.loop-granted-test.true in
    let below : i < length blocks = omega arith in
    let is : granted ≡ get_or blocks i granted = c.granted-item.is ∙ ap (λ v. get_or v i granted) is_blocks in
    let here : drop i blocks ≡ granted ∷ rest = drop_more blocks i granted below ∙ ap (λ g. g ∷ rest) (sym is) in
    let tested : c.has_one.result ≡ has_one wanted granted =
    c.has_one.ensures ∙ ap (λ v. has_one v granted) c.deref.ensures.value in
    let before = c.loop-granted.rows in
    elim c.if-has_one.branch [
      | then-has_one+in_ok-push_block w ↦
          item_more row granted (filter (has_one wanted) rest) (block_rows c.args.sought.now view) before (row granted)
          c.if-has_one.rows
          (c.loop-granted.invariant
          ∙ ap (λ v. before ++ map row (filter (has_one wanted) v)) here
          ∙ ap (λ v. before ++ map row v) (passing (has_one wanted) granted rest (sym tested ∙ w.if-has_one.true)))
          refl (w.rows-is ∙ w.in_ok-push_block.ensures view c.in_ok-numbers.ensures)
      | else-has_one w ↦
          c.loop-granted.invariant
          ∙ ap (λ v. before ++ map row (filter (has_one wanted) v)) here
          ∙ ap (λ v. before ++ map row v) (failing (has_one wanted) granted rest (sym tested ∙ w.if-has_one.false))
          ∙ ap (λ v. v ++ map row (filter (has_one wanted) rest)) (sym w.rows-is)
    ]
