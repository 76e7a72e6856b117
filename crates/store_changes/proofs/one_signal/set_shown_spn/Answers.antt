use Rattle.store_changes.proofs.Common.{◌≡◌, ◌∙◌, ℕ, List, ◌∷◌, ◌++◌, [], ◌<◌, ◌+◌, take, length, sym, ap, subst, arith}
use Rattle.store_changes.proofs.Common.{take_more, Signal, state, HasCleanDisk, tables_of, AreShown, with_spns}
use Rattle.store_changes.proofs.Common.{PlacesAscend, ShowsPlaced, shown_none, shown_push, none_written, writes_then}
use Rattle.store_changes.proofs.SetSignals.{ascend_parts, numbered_after, none_numbered}
use Rattle.store_changes.proofs.one_signal.set_shown_spn.Goals as goal

pub loop-row-init : goal.loop-row-init
loop-row-init g c =
    let t = tables_of (state g.S.Store c.args.tx.now.conn.now).now.trees in
    record {
      frame = none_written g.S.Store c.args.tx.now;
      written = λ clean was placed ascend shown.
          sym (ap (λ (l : List (ℕ × Signal)). with_spns c.args.net.now c.args.number c.args.spn l t)
          (shown_none ShowsPlaced placed shown) ∙ none_numbered c.args.net.now c.args.number c.args.spn t);
    }

pub loop-row-preserved : goal.loop-row-preserved
loop-row-preserved g c =
    let old = state g.S.Store c.args.tx.now.conn.now in
    let mid = state g.S.Store c.loop-row.tx.conn.now in
    let now = state g.S.Store c.set_row_spn.new.tx.conn.now in
    let net = c.args.net.now in
    let number = c.args.number in
    let n = c.args.spn in
    let rows = c.args.rows.now in
    let at = c.loop-row.row-index in
    let row = c.row-item.result in
    let i = c.loop-row.invariant in
    let w = c.in_ok-set_row_spn.ensures in
    let within : at < length rows = c.loop-row-test.true in
    let done : take (at + 1) rows ≡ take at rows ++ row ∷ [] = rw (take_more rows at row within, ← c.row-item.is) in
    let early : HasCleanDisk now → HasCleanDisk mid = λ clean. omega (arith, w.frame.survives.clean, clean) in
    let t = tables_of old.now.trees in
    record {
      frame = writes_then g.S.Store c.args.tx.now c.loop-row.tx c.set_row_spn.new.tx _ i.frame w.frame;
      written = λ clean was placed ascend shown.
          let parts = shown_push ShowsPlaced (take at rows) row placed
          (subst (AreShown ShowsPlaced placed) done shown) in
          let whole : PlacesAscend (parts.0 ++ parts.1 ∷ []) = subst PlacesAscend parts.2 ascend in
          w.written clean (i.frame.office (early clean) was) parts.1 parts.4
          ∙ ap (with_spns net number n (parts.1 ∷ []))
          (i.written (early clean) was parts.0 (ascend_parts parts.0 parts.1 whole).0 parts.3)
          ∙ numbered_after net number n parts.0 parts.1 t whole
          ∙ ap (λ (l : List (ℕ × Signal)). with_spns net number n l t) (sym parts.2);
    }
