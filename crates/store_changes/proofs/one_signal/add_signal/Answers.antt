use Rattle.store_changes.proofs.Common.{◌≡◌, ◌∙◌, sym, ap, subst, arith, Database, state, HasCleanDisk}
use Rattle.store_changes.proofs.Common.{has_net_and_number, IsOffice, tables_of, IsAfter, with_signal, live_named}
use Rattle.store_statements.specs.Shown.{last_place_order, last_place_shown}
use Rattle.store_tables.specs.Selected.{IsFirstSelected}
use Rattle.store_changes.proofs.OneByOne.{both_ok}
use Rattle.store_changes.proofs.SignalPlaces.{there_if_numbered}
use Rattle.store_changes.proofs.one_signal.add_signal.Goals as goal

pub returns-clause-written : goal.returns-clause-written
returns-clause-written g c clean office =
    let name = c.args.name.now in
    let s0 = state g.S.Store c.args.tx.now.conn.now in
    let s1 = state g.S.Store c.number_named.new.tx.conn.now in
    let s2 = state g.S.Store c.select_last_place.new.tx.conn.now in
    let s3 = state g.S.Store c.write_signal.new.tx.conn.now in
    let clean2 : HasCleanDisk s2 = omega (arith, c.write_signal.ensures.frame.survives.clean, clean) in
    let clean1 : HasCleanDisk s1 = omega (arith, c.select_last_place.ensures.frame.survives.clean, clean2) in
    let now1 : s1.now ≡ s0.now = (c.in_ok-number.ensures.frame.same clean1 office).0.now_is in
    let office1 : IsOffice s1.now = subst IsOffice (sym now1) office in
    let now2 : s2.now ≡ s0.now = (c.in_ok-rows.ensures.frame.same clean2 office1).0.now_is ∙ now1 in
    let office2 : IsOffice s2.now = subst IsOffice (sym now2) office in
    let t = tables_of s0.now.trees in
    let number = c.in-Some.number in
    let place = c.in_ok-place.place in
    let signal = c.args.signal.now in
    let selected : IsFirstSelected (has_net_and_number name number) last_place_shown last_place_order t.sig
    c.in_ok-rows.rows.items =
    subst (λ (d : Database). IsFirstSelected (has_net_and_number name number) last_place_shown last_place_order
    (tables_of d.trees).sig c.in_ok-rows.rows.items) now1
    (rw c.as_bytes-net.ensures.bytes at (c.in_ok-rows.ensures.found clean2 office1)) in
    let after : IsAfter name number t place = c.in_ok-place.ensures name number t (rw c.deref.ensures.value selected) in
    both_ok c.write_signal.result (λ known written live h.
    let there = there_if_numbered (live_named live c.args.message.now) number
    (sym c.in-Some.is ∙ c.in_ok-number.ensures.found clean1 office live h) in
    record {
      known = known;
      m = there.0;
      there = there.1;
      place = place;
      after = subst (λ n. IsAfter name n t place) (sym there.2) after;
      tables_are = written ∙ ap (λ (d : Database). with_signal name number place signal (tables_of d.trees)) now2
          ∙ ap (λ n. with_signal name n place signal t) (sym there.2);
    }) c.write_signal.ensures.signal (rw c.as_bytes-net.ensures.bytes at (c.write_signal.ensures.written clean office2))
