use Rattle.store_net.proofs.Common.{◌≡◌, ◌∙◌, sym, subst, arith, rules, Database, state, HasCleanDisk, unchanged_then}
use Rattle.store_net.proofs.Common.{IsOffice, tables_of, AreLiveRows, live_rows}
use Rattle.store_rows.proofs.LiveChanges.{each_signals}
use Rattle.store_rows.proofs.LiveRows.{heads_are_shown}
use Rattle.store_net.proofs.live_list.messages_with.Goals as goal

pub returns-clause-found : goal.returns-clause-found
returns-clause-found g c clean office live h =
    let name = c.args.name.now in
    let s0 = state g.S.Store c.args.tx.now.conn.now in
    let s1 = state g.S.Store c.select_msgs.new.tx.conn.now in
    let clean1 : HasCleanDisk s1 = omega (arith, c.each_with_signals.ensures.frame.survives.clean, clean) in
    let first = c.in_ok-rows.ensures.frame.same clean1 office in
    let now1 : s1.now ≡ s0.now = first.0.now_is in
    let office1 : IsOffice s1.now = subst IsOffice (sym now1) office in
    let h1 : AreLiveRows name (live_rows name (tables_of s1.now.trees)) live =
    subst (λ (d : Database). AreLiveRows name (live_rows name (tables_of d.trees)) live) (sym now1) h in
    let shown = heads_are_shown name (tables_of s0.now.trees) live c.in_ok-rows.rows.items h
    (rw c.as_bytes.ensures.bytes at (c.in_ok-rows.ensures.found clean1 office)) in
    let one = rw c.as_bytes-2.ensures.bytes at (c.in_ok-messages.ensures.found clean office1) in
    c.from_vec.ensures ∙ one live (rw c.deref.ensures.value shown)
    (each_signals name (live_rows name (tables_of s1.now.trees)) live h1)

pub returns-clause-frame : goal.returns-clause-frame
returns-clause-frame g c = record {
  same_reference = search rules;
  same = λ clean office.
      let s0 = state g.S.Store c.args.tx.now.conn.now in
      let s1 = state g.S.Store c.select_msgs.new.tx.conn.now in
      let s2 = state g.S.Store c.each_with_signals.new.tx.conn.now in
      let clean1 : HasCleanDisk s1 = omega (arith, c.each_with_signals.ensures.frame.survives.clean, clean) in
      let first = c.in_ok-rows.ensures.frame.same clean1 office in
      let office1 : IsOffice s1.now = subst IsOffice (sym first.0.now_is) office in
      unchanged_then s0 s1 s2 first (c.in_ok-messages.ensures.frame.same clean office1 first.0.is_open);
  kept = search rules;
  survives = search rules;
}
