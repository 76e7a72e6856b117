use Rattle.store_net.proofs.Common.{◌≡◌, ◌<◌, ◌∙◌, Some, sym, subst, arith, rules, Database, state, HasCleanDisk, Sheet}
use Rattle.store_net.proofs.Common.{IsOffice, tables_of, IsNetAt, reads_any, reads_then, while_open}
use Rattle.store_net.specs.NetParts.{HasLast}
use Rattle.store_net.specs.Texts.{release_at}
use Rattle.store_net.proofs.LastRelease.{last_found, none_last}
use Rattle.store_net.proofs.releases.last_sheets_at.Goals as goal

pub returns-then-count-eq0-clause-found : goal.returns-then-count-eq0-clause-found
returns-then-count-eq0-clause-found g c clean office net there =
    subst (HasLast net.releases) (sym c.new.ensures)
    (none_last net.releases (sym c.if-count-eq0.true ∙ c.in_ok-count.ensures.found clean office net there))

pub returns-in_ok-sheets_before-in-Ok-clause-found : goal.returns-in_ok-sheets_before-in-Ok-clause-found
returns-in_ok-sheets_before-in-Ok-clause-found g c clean office net there =
    let name = c.args.name.now in
    let s0 = state g.S.Store c.args.tx.now.conn.now in
    let s1 = state g.S.Store c.release_count.new.tx.conn.now in
    let clean1 : HasCleanDisk s1 = omega (arith, c.release_numbered.ensures.frame.survives.clean, clean) in
    let now1 : s1.now ≡ s0.now = (c.in_ok-count.ensures.frame.same clean1 office).0.now_is in
    let office1 : IsOffice s1.now = subst IsOffice (sym now1) office in
    let there1 : IsNetAt name (tables_of s1.now.trees) (Some net) =
    subst (λ (d : Database). IsNetAt name (tables_of d.trees) (Some net)) (sym now1) there in
    let count = c.in_ok-count.count in
    let number : c.in-Ok.number ≡ count = search rules in
    let some : 0 < count = omega (arith, c.if-count-eq0.false) in
    last_found net count c.in-Ok.number c.into_sheet.result _
    (c.in_ok-count.ensures.found clean1 office net there) some number
    (subst (λ (sheet : Sheet). release_at (Some net) c.in-Ok.number ≡ Some sheet) (sym c.into_sheet.ensures)
    (c.in_ok-last-in-Ok.ensures.found clean office1 (Some net) there1))
    c.in_ok-sheets_before-in-Ok.ensures.many c.in_ok-sheets_before-in-Ok.ensures.last

pub returns-in_ok-sheets_before-in-Ok-clause-frame : goal.returns-in_ok-sheets_before-in-Ok-clause-frame
returns-in_ok-sheets_before-in-Ok-clause-frame g c =
    reads_any g.S.Store _ _ _ _
    (reads_then g.S.Store _ _ _ _ _ c.in_ok-count.ensures.frame
    (while_open g.S.Store _ _ _ c.in_ok-last-in-Ok.ensures.frame))
