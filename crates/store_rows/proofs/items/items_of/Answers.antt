use Rattle.store_rows.proofs.Common.{◌≡◌, ◌∷◌, ◌++◌, ◌+◌, ◌<◌, [], length, take, sym, ap, subst, ◌∙◌, take_more}
use Rattle.store_rows.specs.Listed.{AreShown}
use Rattle.store_rows.proofs.Reading.{shown_none, shown_push}
use Rattle.store_rows.proofs.items.items_of.Goals as goal

pub loop-row-init : goal.loop-row-init
loop-row-init g c others shown = c.new-items.ensures ∙ sym (shown_none g.T.FromRow.shows others shown)

pub loop-row-preserved : goal.loop-row-preserved
loop-row-preserved g c others shown =
    let rows = c.args.rows.now in
    let at = c.loop-row.row-index in
    let item = c.row-item.result in
    let within : at < length rows = c.loop-row-test.true in
    let next : take (at + 1) rows ≡ take at rows ++ item ∷ [] = rw (take_more rows at item within, ← c.row-item.is) in
    let parts = shown_push g.T.FromRow.shows (take at rows) item others
    (subst (AreShown g.T.FromRow.shows others) next shown) in
    c.in_ok-push.ensures.ok ∙ ap (λ l. l ++ c.in_ok-from_row.field-0 ∷ []) (c.loop-row.invariant parts.0 parts.3)
    ∙ ap (λ x. parts.0 ++ x ∷ []) (c.in_ok-from_row.ensures parts.1 parts.4) ∙ sym parts.2
