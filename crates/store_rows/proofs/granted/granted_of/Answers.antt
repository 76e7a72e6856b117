use Rattle.store_rows.proofs.Common.{◌≡◌, ◌∷◌, ◌++◌, ◌+◌, ◌<◌, [], true, false, filter, length, take, sym, ap, subst}
use Rattle.store_rows.proofs.Common.{◌∙◌, append-nil, take_more}
use Rattle.store_rows.specs.Listed.{AreShown}
use Rattle.store_rows.specs.Showing.{ShowsBlock, is_own}
use Rattle.store_rows.proofs.Reading.{own_last, shown_none, shown_push}
use Rattle.store_rows.proofs.granted.granted_of.Goals.{then-branch+in_ok-from_row+in_ok-push, else-branch}
use Rattle.store_rows.proofs.granted.granted_of.Goals as goal

pub loop-row-init : goal.loop-row-init
loop-row-init c others shown = c.new-items.ensures ∙ sym (shown_none ShowsBlock others shown)

pub loop-row-preserved : goal.loop-row-preserved
loop-row-preserved c others shown =
    let rows = c.args.rows.now in
    let at = c.loop-row.row-index in
    let item = c.row-item.result in
    let within : at < length rows = c.loop-row-test.true in
    let next : take (at + 1) rows ≡ take at rows ++ item ∷ [] = rw (take_more rows at item within, ← c.row-item.is) in
    elim c.if-branch.branch [
      | then-branch+in_ok-from_row+in_ok-push w ↦
          let own : is_own item ≡ true = sym c.in_ok-is_own.ensures ∙ w.if-branch.true in
          let parts = shown_push ShowsBlock (filter is_own (take at rows)) item others
          (subst (AreShown ShowsBlock others) (ap (filter is_own) next ∙ own_last (take at rows) item true own)
          shown) in
          w.items-is ∙ w.in_ok-push.ensures.ok
          ∙ ap (λ l. l ++ w.in_ok-from_row.field-0 ∷ []) (c.loop-row.invariant parts.0 parts.3)
          ∙ ap (λ x. parts.0 ++ x ∷ []) (w.in_ok-from_row.ensures parts.1 parts.4) ∙ sym parts.2
      | else-branch w ↦
          let other : is_own item ≡ false = sym c.in_ok-is_own.ensures ∙ w.if-branch.false in
          w.items-is ∙ c.loop-row.invariant others
          (subst (AreShown ShowsBlock others) (ap (filter is_own) next ∙ own_last (take at rows) item false other
          ∙ append-nil (filter is_own (take at rows))) shown)
    ]
