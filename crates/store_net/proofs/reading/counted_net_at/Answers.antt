use Rattle.store_net.proofs.Common.{◌≡◌, ◌∙◌, Some, sym, subst, arith, Database, state, HasCleanDisk, IsOffice}
use Rattle.store_net.proofs.Common.{tables_of, Net, IsNetAt, reads_any, reads_then, while_open}
use Rattle.store_net.proofs.Whole.{none_counted, with_as_many}
use Rattle.store_net.proofs.reading.counted_net_at.Goals as goal

pub returns-in_default-clause-found : goal.returns-in_default-clause-found
returns-in_default-clause-found g c clean office net at =
    none_counted net (sym c.in_default.is ∙ c.in_ok-net.ensures.found clean office net at)

pub returns-clause-found : goal.returns-clause-found
returns-clause-found g c clean office net at =
    let name = c.args.name.now in
    let s0 = state g.S.Store c.args.tx.now.conn.now in
    let s1 = state g.S.Store c.unreleased_net_at.new.tx.conn.now in
    let clean1 : HasCleanDisk s1 = omega (arith, c.release_count.ensures.frame.survives.clean) in
    let now1 : s1.now ≡ s0.now = (c.in_ok-net.ensures.frame.same clean1 office).0.now_is in
    let office1 : IsOffice s1.now = subst IsOffice (sym now1) office in
    let at1 : (n : Net) → net ≡ Some n → IsNetAt name (tables_of s1.now.trees) (Some n)
    = λ n is. subst (λ (d : Database). IsNetAt name (tables_of d.trees) (Some n)) (sym now1)
    (subst (IsNetAt name (tables_of s0.now.trees)) is at) in
    with_as_many net c.in-Some.net c.in_ok-net-2.field-0 c.in_ok-count.count
    (sym c.in-Some.is ∙ c.in_ok-net.ensures.found clean1 office net at)
    c.in_ok-net-2.ensures (λ n is. c.in_ok-count.ensures.found clean office1 n (at1 n is))

pub returns-in_err-net-2-clause-frame : goal.returns-in_err-net-2-clause-frame
returns-in_err-net-2-clause-frame g c =
    reads_any g.S.Store _ _ _ _
    (reads_then g.S.Store _ _ _ _ _ c.in_ok-net.ensures.frame
    (while_open g.S.Store _ _ _ c.in_ok-count.ensures.frame))

pub returns-clause-frame : goal.returns-clause-frame
returns-clause-frame g c =
    reads_any g.S.Store _ _ _ _
    (reads_then g.S.Store _ _ _ _ _ c.in_ok-net.ensures.frame
    (while_open g.S.Store _ _ _ c.in_ok-count.ensures.frame))
