use Rattle.store_net.proofs.Common.{◌≡◌, ◌∙◌, List, ap, sym, subst, arith, slice_get, Database, state, HasCleanDisk}
use Rattle.store_net.proofs.Common.{Signal, IsOffice, tables_of, AreSignalsOf, live_rows}
use Rattle.store_rows.proofs.OneMessage.{none_named, one_message}
use Rattle.store_net.proofs.message.message_at.Goals as goal

pub returns-in-None-clause-found : goal.returns-in-None-clause-found
returns-in-None-clause-found g c clean office live h =
    let s0 = state g.S.Store c.args.tx.now.conn.now in
    none_named c.args.name.now (tables_of s0.now.trees) live c.args.message.now c.in_ok-rows.rows.items h
    (rw (c.as_bytes.ensures.bytes, c.as_bytes-2.ensures.bytes) at (c.in_ok-rows.ensures.found clean office))
    (c.in-None.ensures.value ∙ ap (λ l. slice_get l 0) c.deref.ensures.value)

pub returns-clause-found : goal.returns-clause-found
returns-clause-found g c clean office live h =
    let name = c.args.name.now in
    let s0 = state g.S.Store c.args.tx.now.conn.now in
    let s1 = state g.S.Store c.select_msg_named.new.tx.conn.now in
    let clean1 : HasCleanDisk s1 = omega (arith, c.signals_at.ensures.frame.survives.clean) in
    let now1 : s1.now ≡ s0.now = (c.in_ok-rows.ensures.frame.same clean1 office).0.now_is in
    let office1 : IsOffice s1.now = subst IsOffice (sym now1) office in
    let signals = c.in_ok-signals-in-Some.signals in
    let number = c.in_ok-number-in-Some.number in
    let read1 = rw c.as_bytes-in-Some.ensures.bytes at (c.in_ok-signals-in-Some.ensures.found clean office1) in
    let read = subst (λ (d : Database). (others : List Signal)
    → AreSignalsOf name number (live_rows name (tables_of d.trees)) others → signals ≡ others) now1 read1 in
    one_message name (tables_of s0.now.trees) live c.args.message.now c.in_ok-rows.rows.items h
    (rw (c.as_bytes.ensures.bytes, c.as_bytes-2.ensures.bytes) at (c.in_ok-rows.ensures.found clean1 office))
    c.in-Some.row.now number signals c.in_ok-live_message_of-in-Some.field-0
    (c.in-Some.ensures.value ∙ ap (λ l. slice_get l 0) c.deref.ensures.value) c.in_ok-number-in-Some.ensures read
    c.in_ok-live_message_of-in-Some.ensures
