use Rattle.store_looks.proofs.Common.{◌≡◌, ◌∙◌, sym, subst, arith, Database, state, HasCleanDisk, IsOffice, tables_of}
use Rattle.store_looks.proofs.Common.{IsBookIn, reads_any, reads_then, while_open}
use Rattle.store_net.specs.Nets.{AreKnownNets}
use Rattle.store_looks.proofs.ReadWhole.{all_named, none_named}
use Rattle.store_looks.proofs.reading.read_net_at.Goals as goal

pub returns-then-is_some-clause-found : goal.returns-then-is_some-clause-found
returns-then-is_some-clause-found g c clean office net at book in_book =
    let s0 = state g.S.Store c.args.tx.now.conn.now in
    let s1 = state g.S.Store c.net_so.new.tx.conn.now in
    let clean1 : HasCleanDisk s1 = omega (arith, c.book_of.ensures.frame.survives.clean) in
    let now1 : s1.now ≡ s0.now = (c.in_ok-net.ensures.frame.same clean1 office).0.now_is in
    let office1 : IsOffice s1.now = subst IsOffice (sym now1) office in
    record {
      net = c.in_ok-net.ensures.found clean1 office net at;
      book = c.in_ok-book.ensures.found clean office1 book
          (subst (λ (d : Database). IsBookIn (tables_of d.trees) book) (sym now1) in_book);
    }

pub returns-clause-found : goal.returns-clause-found
returns-clause-found g c clean office net at book in_book =
    let s0 = state g.S.Store c.args.tx.now.conn.now in
    let s1 = state g.S.Store c.net_so.new.tx.conn.now in
    let s2 = state g.S.Store c.names_of.new.tx.conn.now in
    let clean2 : HasCleanDisk s2 = omega (arith, c.book_of-2.ensures.frame.survives.clean) in
    let clean1 : HasCleanDisk s1 = omega (arith, c.names_of.ensures.frame.survives.clean) in
    let now1 : s1.now ≡ s0.now = (c.in_ok-net.ensures.frame.same clean1 office).0.now_is in
    let office1 : IsOffice s1.now = subst IsOffice (sym now1) office in
    let now2 : s2.now ≡ s0.now = (c.in_ok-names.ensures.frame.same clean2 office1).0.now_is ∙ now1 in
    let office2 : IsOffice s2.now = subst IsOffice (sym now2) office in
    record {
      net = c.in_ok-net.ensures.found clean1 office net at;
      book = c.in_ok-book-2.ensures.found clean office2 book
          (subst (λ (d : Database). IsBookIn (tables_of d.trees) book) (sym now2) in_book);
    }

pub returns-then-is_some-clause-names : goal.returns-then-is_some-clause-names
returns-then-is_some-clause-names g c clean office held at nets are =
    let clean1 : HasCleanDisk (state g.S.Store c.net_so.new.tx.conn.now) =
    omega (arith, c.book_of.ensures.frame.survives.clean) in
    none_named c.args.releases held c.in_ok-net.net nets c.new-names.result.items
    (c.in_ok-net.ensures.found clean1 office held at) (sym c.is_some.ensures ∙ c.if-is_some.true)
    c.new-names.ensures.items

pub returns-clause-names : goal.returns-clause-names
returns-clause-names g c clean office held at nets are =
    let s0 = state g.S.Store c.args.tx.now.conn.now in
    let s1 = state g.S.Store c.net_so.new.tx.conn.now in
    let clean2 : HasCleanDisk (state g.S.Store c.names_of.new.tx.conn.now) =
    omega (arith, c.book_of-2.ensures.frame.survives.clean) in
    let clean1 : HasCleanDisk s1 = omega (arith, c.names_of.ensures.frame.survives.clean) in
    let now1 : s1.now ≡ s0.now = (c.in_ok-net.ensures.frame.same clean1 office).0.now_is in
    all_named c.args.releases held c.in_ok-net.net nets c.in_ok-names.names.items
    (c.in_ok-net.ensures.found clean1 office held at) (sym c.is_some.ensures ∙ c.if-is_some.false)
    (c.in_ok-names.ensures.found clean2 (subst IsOffice (sym now1) office) nets
    (subst (λ (d : Database). AreKnownNets (tables_of d.trees) nets) (sym now1) are))

pub returns-clause-frame : goal.returns-clause-frame
returns-clause-frame g c =
    reads_any g.S.Store _ _ _ _
    (reads_then g.S.Store _ _ _ _ _
    (reads_then g.S.Store _ _ _ _ _ c.in_ok-net.ensures.frame
    (while_open g.S.Store _ _ _ c.in_ok-names.ensures.frame))
    (while_open g.S.Store _ _ _ c.in_ok-book-2.ensures.frame))
