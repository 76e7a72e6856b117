use Rattle.store_changes.proofs.Common.{◌≡◌, ◌∙◌, ◌∷◌, ◌++◌, [], ◌<◌, ◌+◌, take, length, sym, ap, arith, take_more}
use Rattle.store_changes.proofs.Common.{state, HasCleanDisk, tables_of, without_place, without_places, edits_end}
use Rattle.store_changes.proofs.Common.{ends_and_stays, writes_then}
use Rattle.store_changes.specs.Places.{number_in, places_shown}
use Rattle.store_changes.proofs.SignalPlaces.{places_removed}
use Rattle.store_changes.proofs.one_signal.remove_shown.Goals as goal

pub loop-row-preserved : goal.loop-row-preserved
loop-row-preserved g c =
    let old = state g.S.Store c.args.tx.now.conn.now in
    let mid = state g.S.Store c.loop-row.tx.conn.now in
    let now = state g.S.Store c.remove_place.new.tx.conn.now in
    let net = c.args.net.now in
    let number = c.args.number in
    let rows = c.args.rows.now in
    let at = c.loop-row.row-index in
    let row = c.row-item.result in
    let place = c.in_ok-place.place in
    let i = c.loop-row.invariant in
    let w = c.in_ok-remove_place.ensures in
    let within : at < length rows = c.loop-row-test.true in
    let done : take (at + 1) rows ≡ take at rows ++ row ∷ [] = rw (take_more rows at row within, ← c.row-item.is) in
    let early : HasCleanDisk now → HasCleanDisk mid = λ clean. omega (arith, w.frame.survives.clean, clean) in
    let before = tables_of old.now.trees in
    record {
      frame = writes_then g.S.Store c.args.tx.now c.loop-row.tx c.remove_place.new.tx _ i.frame
          (ends_and_stays _ _ _ _ (edits_end _ _ _ _ w.frame w.removed));
      removed = λ clean was.
          (w.removed clean (i.frame.office (early clean) was)).tables_are
          ∙ ap (without_place net number place) (i.removed (early clean) was)
          ∙ ap (λ n. without_place net number n (without_places net number (places_shown (take at rows)) before))
          (sym (ap number_in c.in_ok-place.ensures))
          ∙ sym (ap (λ l. without_places net number (places_shown l) before) done
          ∙ places_removed net number (take at rows) row before);
    }
