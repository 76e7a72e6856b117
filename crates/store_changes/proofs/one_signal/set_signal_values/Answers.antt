use Rattle.store_changes.proofs.Common.{◌≡◌, ◌∙◌, sym, ap, subst, arith, AllByRecursion, dbc_number, ValueText}
use Rattle.store_changes.proofs.Common.{IsDecimal, Database, state, HasCleanDisk, has_name_of, sigs_order, sigs_shown}
use Rattle.store_changes.proofs.Common.{live_named, IsSelected, IsOffice, tables_of, placed_named, with_texts}
use Rattle.store_changes.proofs.Common.{ShowsPlaced, named_ascend, named_sigs_are_shown, places_ascend, its_signals}
use Rattle.store_changes.proofs.Common.{stays_if_read}
use Rattle.store_changes.proofs.OneByOne.{both_ok}
use Rattle.store_changes.proofs.SetSignals.{all_shown, texts_set}
use Rattle.store_changes.proofs.SignalPlaces.{there_if_numbered}
use Rattle.store_changes.proofs.one_signal.set_signal_values.Goals as goal

pub returns-in_ok-rows-in-Some-clause-written : goal.returns-in_ok-rows-in-Some-clause-written
returns-in_ok-rows-in-Some-clause-written g c clean office =
    let name = c.args.name.now in
    let path = c.args.path.now in
    let s0 = state g.S.Store c.args.tx.now.conn.now in
    let s1 = state g.S.Store c.number_named.new.tx.conn.now in
    let s2 = state g.S.Store c.select_sigs_named.new.tx.conn.now in
    let clean2 : HasCleanDisk s2 = omega (arith, c.set_shown_values.ensures.frame.survives.clean, clean) in
    let clean1 : HasCleanDisk s1 = omega (arith, c.select_sigs_named.ensures.frame.survives.clean, clean2) in
    let now1 : s1.now ≡ s0.now = (c.in_ok-number_named.ensures.frame.same clean1 office).0.now_is in
    let office1 : IsOffice s1.now = subst IsOffice (sym now1) office in
    let now2 : s2.now ≡ s0.now = (c.in_ok-rows-in-Some.ensures.frame.same clean2 office1).0.now_is ∙ now1 in
    let office2 : IsOffice s2.now = subst IsOffice (sym now2) office in
    let t = tables_of s0.now.trees in
    let number = c.in-Some.number in
    let rows = c.in_ok-rows-in-Some.rows.items in
    let shown : IsSelected (has_name_of name number path.signal) sigs_shown sigs_order t.sig rows =
    subst (λ (d : Database). IsSelected (has_name_of name number path.signal) sigs_shown sigs_order
    (tables_of d.trees).sig rows) now1
    (rw (c.as_bytes-net.ensures.bytes, c.as_bytes.ensures.bytes) at
    (c.in_ok-rows-in-Some.ensures.found clean2 office1)) in
    let after = tables_of (state g.S.Store c.set_shown_values.new.tx.conn.now).now.trees in
    let values = c.args.values.now in
    both_ok c.set_shown_values.result (λ decimals made live h.
    let there = there_if_numbered (live_named live path.message) number
    (sym c.in-Some.is ∙ c.in_ok-number_named.ensures.found clean1 office live h) in
    let m = there.0 in
    let its = dbc_number m.message.ident in
    let before = its_signals name path.message t live m h there.1 in
    let own = placed_named path.signal before.placed in
    let its_shown : IsSelected (has_name_of name its path.signal) sigs_shown sigs_order t.sig rows =
    subst (λ k. IsSelected (has_name_of name k path.signal) sigs_shown sigs_order t.sig rows) (sym there.2) shown in
    let own_shown = named_sigs_are_shown name its path.signal t m.message.signals rows before its_shown in
    texts_set name path values live m t after there.1 (record {
      before = before;
      decimals = all_shown ShowsPlaced (AllByRecursion (λ (v : ValueText). IsDecimal v.value) values) own rows own_shown
          decimals;
      tables_are =
          made own (named_ascend path.signal before.placed (places_ascend name its t m.message.signals before))
          own_shown
          ∙ ap (λ (d : Database). with_texts name number values own (tables_of d.trees)) now2
          ∙ ap (λ k. with_texts name k values own t) (sym there.2);
    })) (rw (c.deref.ensures.value, c.as_slice.ensures.entries) at c.set_shown_values.ensures.decimals)
    (rw (c.deref.ensures.value, c.as_bytes-net.ensures.bytes, c.as_slice.ensures.entries) at
    (c.set_shown_values.ensures.written clean office2))

pub returns-in-None-clause-frame : goal.returns-in-None-clause-frame
returns-in-None-clause-frame g c = stays_if_read g.S.Store c.args.tx.now c.number_named.new.tx _
    c.in_ok-number_named.ensures.frame
