use Rattle.store_changes.proofs.Common.{◌≡◌, sym, ap, subst, ◌∙◌, Some, arith, slice_get, option_map, Database, state}
use Rattle.store_changes.proofs.Common.{HasCleanDisk, Answered, IsOffice, tables_of}
use Rattle.office_history.specs.History.{answer_again}
use Rattle.store_changes.specs.Kept.{AreKeptParts}
use Rattle.store_changes.proofs.Kept.{is_kept, not_kept}
use Rattle.store_changes.proofs.replies.answer_at.Goals as goal

pub returns-in-None-clause-found : goal.returns-in-None-clause-found
returns-in-None-clause-found g c clean office h kept parts a team key content =
    let table = (tables_of (state g.S.Store c.args.tx.now.conn.now).now.trees).reply in
    sym (ap (option_map (λ (first : Answered). answer_again first a.content))
    (not_kept a h c.as_bytes.result.now c.as_bytes-2.result.now table c.in_ok-rows.rows.items kept
    (c.in_ok-rows.ensures.found clean office)
    (team ∙ sym c.as_bytes.ensures.bytes) (key ∙ sym c.as_bytes-2.ensures.bytes)
    (c.in-None.ensures.value ∙ ap (λ l. slice_get l 0) c.deref.ensures.value)))

pub returns-clause-found : goal.returns-clause-found
returns-clause-found g c clean office h kept parts a team key content =
    let s0 = state g.S.Store c.args.tx.now.conn.now in
    let s1 = state g.S.Store c.select_reply.new.tx.conn.now in
    let clean1 : HasCleanDisk s1 = omega (arith, c.parts_at.ensures.frame.survives.clean, clean) in
    let now1 : s1.now ≡ s0.now = (c.in_ok-rows.ensures.frame.same clean1 office).0.now_is in
    let office1 : IsOffice s1.now = subst IsOffice (sym now1) office in
    let parts1 = subst (λ (d : Database). AreKeptParts h (tables_of d.trees).part) (sym now1) parts in
    let table = (tables_of s0.now.trees).reply in
    let first = is_kept a h c.as_bytes.result.now c.as_bytes-2.result.now table c.in_ok-rows.rows.items
    c.in-Some.row.now kept (c.in_ok-rows.ensures.found clean1 office)
    (team ∙ sym c.as_bytes.ensures.bytes) (key ∙ sym c.as_bytes-2.ensures.bytes)
    (c.in-Some.ensures.value ∙ ap (λ l. slice_get l 0) c.deref.ensures.value) in
    let reported = c.in_ok-parts-in-Some.ensures.found clean office1 h parts1 a first.0 team key first.1 in
    ap Some (c.in_ok-answer_in-in-Some.ensures first.0 first.2 reported ∙ ap (answer_again first.0) (sym content))
    ∙ sym (ap (option_map (λ (f : Answered). answer_again f a.content)) first.1)
