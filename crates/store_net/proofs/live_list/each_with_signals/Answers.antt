use Rattle.store_net.proofs.Common.{◌≡◌, ◌∷◌, ◌++◌, [], ◌≤◌, ◌+◌, List, length, map, take, sym, ap, subst, ◌∙◌, arith}
use Rattle.store_net.proofs.Common.{add-one, take_all, dbc_number, Database, state, HasCleanDisk, unchanged_then}
use Rattle.store_net.proofs.Common.{keeps_then, LiveMessage, IsOffice, tables_of, AreSignalsOf, live_rows, ShowsLive}
use Rattle.store_net.proofs.Common.{nothing_left, on_any}
use Rattle.std.proofs.lemmas.List.{map-append}
use Rattle.store_net.specs.SignalParts.{live_in}
use Rattle.store_net.proofs.EachMessage.{count_shown, shown_next}
use Rattle.store_net.proofs.live_list.each_with_signals.Goals as goal

pub loop-row-preserved : goal.loop-row-preserved
loop-row-preserved g c =
    let old = state g.S.Store c.args.tx.now.conn.now in
    let mid = state g.S.Store c.loop-row.tx.conn.now in
    let now = state g.S.Store c.with_signals.new.tx.conn.now in
    let net = c.args.net.now in
    let rows = c.args.rows.now in
    let at = c.loop-row.row-index in
    let i = c.loop-row.invariant in
    let w = c.in_ok-message.ensures in
    let made = c.in_ok-message.message in
    let early : HasCleanDisk now → HasCleanDisk mid = λ clean. omega (arith, w.frame.survives.clean, clean) in
    let office : HasCleanDisk now → IsOffice old.now → IsOffice mid.now =
    λ clean was. subst IsOffice (sym (i.now_is (early clean) was)) was in
    record {
      same_reference = w.frame.same_reference ∙ i.same_reference;
      now_is = λ clean was. w.unchanged clean (office clean was) ∙ i.now_is (early clean) was;
      same = λ clean was is_open. unchanged_then old mid now (i.same (early clean) was is_open)
          (w.frame.same clean (office clean was) (i.same (early clean) was is_open).0.is_open);
      kept = λ clean was. keeps_then old mid now (i.kept (early clean) was) (w.frame.kept clean (office clean was));
      survives = nothing_left old mid now i.survives w.frame.survives;
      reported = λ clean was live shown all.
          let n = shown_next ShowsLive
          (λ (m : LiveMessage). AreSignalsOf net (dbc_number m.message.ident)
          (live_rows net (tables_of old.now.trees)) m.message.signals) live rows at c.row-item.result shown all
          c.loop-row-test.true c.row-item.is in
          let own = subst (λ (d : Database). AreSignalsOf net (dbc_number n.item.message.ident)
          (live_rows net (tables_of d.trees)) n.item.message.signals) (sym (i.now_is (early clean) was))
          n.holds in
          let f = live_in c.args.detail in
          let is : made ≡ f n.item = w.found clean (office clean was) n.item n.shown own in
          let next : take (at + 1) live ≡ take at live ++ n.item ∷ [] = rw add-one n.next in
          c.in_ok-push.ensures.items
          ∙ ap (λ (l : List LiveMessage). l ++ made ∷ []) (i.reported (early clean) was live shown all)
          ∙ ap (λ (m : LiveMessage). map f (take at live) ++ m ∷ []) is
          ∙ sym (map-append f (take at live) (n.item ∷ [])) ∙ ap (map f) (sym next);
    }

pub returns-clause-found : goal.returns-clause-found
returns-clause-found g c clean office live shown all =
    let at = c.loop-row.row-index in
    let rows = c.args.rows.now in
    let ended : length rows ≤ at = c.loop-row-test.false in
    let over : length live ≤ at = subst (λ n. n ≤ at) (count_shown ShowsLive live rows shown) ended in
    c.loop-row.invariant.reported clean office live shown all ∙ ap (map (live_in c.args.detail)) (take_all at live over)

pub returns-in_err-push-clause-frame : goal.returns-in_err-push-clause-frame
returns-in_err-push-clause-frame g c =
    let old = state g.S.Store c.args.tx.now.conn.now in
    let mid = state g.S.Store c.loop-row.tx.conn.now in
    let now = state g.S.Store c.with_signals.new.tx.conn.now in
    let i = c.loop-row.invariant in
    let w = c.in_ok-message.ensures in
    let early : HasCleanDisk now → HasCleanDisk mid = λ clean. omega (arith, w.frame.survives.clean, clean) in
    let office : HasCleanDisk now → IsOffice old.now → IsOffice mid.now =
    λ clean was. subst IsOffice (sym (i.now_is (early clean) was)) was in
    record {
      same_reference = w.frame.same_reference ∙ i.same_reference;
      same = λ clean was is_open. on_any c.from_residual-in_err-push.result
          (unchanged_then old mid now (i.same (early clean) was is_open)
          (w.frame.same clean (office clean was) (i.same (early clean) was is_open).0.is_open));
      kept = λ clean was. keeps_then old mid now (i.kept (early clean) was) (w.frame.kept clean (office clean was));
      survives = nothing_left old mid now i.survives w.frame.survives;
    }
