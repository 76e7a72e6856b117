use Rattle.store_looks.proofs.Common.{◌≡◌, ◌∙◌, Some, sym, subst, arith, Database, state, HasCleanDisk, IsOffice}
use Rattle.store_looks.proofs.Common.{tables_of, IsNetAt, IsBookIn, reads_any, reads_then, while_open}
use Rattle.store_looks.proofs.Seeing.{nothing_seen, seen_with}
use Rattle.store_looks.proofs.view.view_at.Goals as goal

pub returns-in_default-clause-found : goal.returns-in_default-clause-found
returns-in_default-clause-found g c clean office net at book in_book =
    nothing_seen c.args.reads net book (sym c.in_default.is ∙ c.in_ok-net.ensures.found clean office net at)

pub returns-clause-found : goal.returns-clause-found
returns-clause-found g c clean office net at book in_book =
    let name = c.args.name.now in
    let s0 = state g.S.Store c.args.tx.now.conn.now in
    let s1 = state g.S.Store c.net_for.new.tx.conn.now in
    let s2 = state g.S.Store c.book_of.new.tx.conn.now in
    let clean2 : HasCleanDisk s2 = omega (arith, c.releases_for.ensures.frame.survives.clean) in
    let clean1 : HasCleanDisk s1 = omega (arith, c.book_of.ensures.frame.survives.clean) in
    let now1 : s1.now ≡ s0.now = (c.in_ok-net.ensures.frame.same clean1 office).0.now_is in
    let office1 : IsOffice s1.now = subst IsOffice (sym now1) office in
    let now2 : s2.now ≡ s0.now = (c.in_ok-book.ensures.frame.same clean2 office1).0.now_is ∙ now1 in
    let office2 : IsOffice s2.now = subst IsOffice (sym now2) office in
    seen_with name (tables_of s0.now.trees) net c.args.reads c.in-Some.net c.in_ok-releases.releases book
    c.in_ok-book.book c.in_ok-seen.field-0 at
    (sym c.in-Some.is ∙ c.in_ok-net.ensures.found clean1 office net at)
    (λ n is. c.in_ok-releases.ensures.found clean office2 n
    (subst (λ (d : Database). IsNetAt name (tables_of d.trees) (Some n)) (sym now2)
    (subst (IsNetAt name (tables_of s0.now.trees)) is at)))
    (c.in_ok-book.ensures.found clean2 office1 book
    (subst (λ (d : Database). IsBookIn (tables_of d.trees) book) (sym now1) in_book))
    c.in_ok-seen.ensures

pub returns-clause-frame : goal.returns-clause-frame
returns-clause-frame g c =
    reads_any g.S.Store _ _ _ _
    (reads_then g.S.Store _ _ _ _ _
    (reads_then g.S.Store _ _ _ _ _ c.in_ok-net.ensures.frame
    (while_open g.S.Store _ _ _ c.in_ok-book.ensures.frame))
    c.in_ok-releases.ensures.frame)

pub returns-in_err-seen-clause-frame : goal.returns-in_err-seen-clause-frame
returns-in_err-seen-clause-frame g c =
    reads_any g.S.Store _ _ _ _
    (reads_then g.S.Store _ _ _ _ _
    (reads_then g.S.Store _ _ _ _ _ c.in_ok-net.ensures.frame
    (while_open g.S.Store _ _ _ c.in_ok-book.ensures.frame))
    c.in_ok-releases.ensures.frame)
