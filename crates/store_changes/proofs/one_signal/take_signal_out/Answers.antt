use Rattle.store_changes.proofs.Common.{◌≡◌, ◌∙◌, sym, ap, subst, arith, on_ok_weaker, Database, state, HasCleanDisk}
use Rattle.store_changes.proofs.Common.{has_name_of, sigs_order, sigs_shown, live_named, IsSelected, IsOffice}
use Rattle.store_changes.proofs.Common.{tables_of, IsGone, without_places, named_sigs_are_shown, places_ascend}
use Rattle.store_changes.proofs.Common.{stays_if_read}
use Rattle.store_changes.specs.Places.{places_shown}
use Rattle.store_changes.proofs.SignalPlaces.{its_places, taken_out, there_if_numbered}
use Rattle.store_changes.proofs.one_signal.take_signal_out.Goals as goal

pub returns-in_ok-rows-in-Some-clause-written : goal.returns-in_ok-rows-in-Some-clause-written
returns-in_ok-rows-in-Some-clause-written g c clean office =
    let name = c.args.name.now in
    let path = c.args.path.now in
    let s0 = state g.S.Store c.args.tx.now.conn.now in
    let s1 = state g.S.Store c.number_named.new.tx.conn.now in
    let s2 = state g.S.Store c.select_sigs_named.new.tx.conn.now in
    let clean2 : HasCleanDisk s2 = omega (arith, c.remove_shown.ensures.frame.survives.clean, clean) in
    let clean1 : HasCleanDisk s1 = omega (arith, c.select_sigs_named.ensures.frame.survives.clean, clean2) in
    let now1 : s1.now ≡ s0.now = (c.in_ok-number_named.ensures.frame.same clean1 office).0.now_is in
    let office1 : IsOffice s1.now = subst IsOffice (sym now1) office in
    let now2 : s2.now ≡ s0.now = (c.in_ok-rows-in-Some.ensures.frame.same clean2 office1).0.now_is ∙ now1 in
    let office2 : IsOffice s2.now = subst IsOffice (sym now2) office in
    let t = tables_of s0.now.trees in
    let number = c.in-Some.number in
    let rows = c.in_ok-rows-in-Some.rows.items in
    let shown : IsSelected (has_name_of name number path.signal) sigs_shown sigs_order t.sig rows =
    subst (λ (d : Database). IsSelected (has_name_of name number path.signal) sigs_shown sigs_order
    (tables_of d.trees).sig rows) now1
    (rw (c.as_bytes-net.ensures.bytes, c.as_bytes.ensures.bytes) at
    (c.in_ok-rows-in-Some.ensures.found clean2 office1)) in
    let after = tables_of (state g.S.Store c.remove_shown.new.tx.conn.now).now.trees in
    let removed = ap (λ (d : Database). without_places name number (places_shown rows) (tables_of d.trees)) now2 in
    on_ok_weaker c.remove_shown.result (λ made live h.
    let there = there_if_numbered (live_named live path.message) number
    (sym c.in-Some.is ∙ c.in_ok-number_named.ensures.found clean1 office live h) in
    taken_out name path live there.0 t after there.1
    (subst (λ n. IsGone name n path.signal t after) (sym there.2) (record {
      places = places_shown rows;
      own = λ signals placed. its_places path.signal placed.placed rows
          (named_sigs_are_shown name number path.signal t signals rows placed shown)
          (places_ascend name number t signals placed);
      tables_are = made ∙ removed;
    }))) (rw (c.deref.ensures.value, c.as_bytes-net.ensures.bytes) at (c.remove_shown.ensures.removed clean office2))

pub returns-in-None-clause-frame : goal.returns-in-None-clause-frame
returns-in-None-clause-frame g c = stays_if_read g.S.Store c.args.tx.now c.number_named.new.tx _
    c.in_ok-number_named.ensures.frame
