use Rattle.store_net.proofs.Common.{◌≡◌, sym, subst, ◌∙◌, arith, state, HasCleanDisk, IsOffice}
use Rattle.store_net.specs.Parts.{HasUsed}
use Rattle.store_net.proofs.Whole.{read_before}
use Rattle.store_net.proofs.reading.book_of.Goals as goal

pub returns-in-Some-clause-found : goal.returns-in-Some-clause-found
returns-in-Some-clause-found g c clean office book at =
    let s0 = state g.S.Store c.args.tx.now.conn.now in
    let s1 = state g.S.Store c.spn_blocks_of.new.tx.conn.now in
    let clean1 : HasCleanDisk s1 = omega (arith, c.used_of.ensures.frame.survives.clean) in
    let now1 : s1.now ≡ s0.now = (c.in_ok-blocks.ensures.frame.same clean1 office).0.now_is in
    let office1 : IsOffice s1.now = subst IsOffice (sym now1) office in
    let blocks : c.in_ok-blocks.blocks ≡ book.blocks =
    c.in_ok-blocks.ensures.found clean1 office book.blocks at.blocks in
    let numbers = read_before HasUsed c.in_ok-numbers.numbers s1.now s0.now now1
    (c.in_ok-numbers.ensures.found clean office1) book.used at.used in
    let used : c.in-Some.used ≡ book.used = c.in-Some.ensures.1 ∙ numbers in
    λ i. record { blocks = blocks i; used = used i }
