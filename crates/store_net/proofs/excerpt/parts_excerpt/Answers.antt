use Rattle.store_net.proofs.Common.{◌≡◌, ◌∙◌, sym, subst, arith, state, HasCleanDisk, AreFacts, facts_in, IsOffice}
use Rattle.store_net.proofs.Common.{tables_of}
use Rattle.office_facts.specs.Scope as scope
use Rattle.store_net.specs.Parts.{HasBlocks}
use Rattle.store_net.proofs.Excerpts.{none_there, one_there}
use Rattle.store_net.proofs.Whole.{read_before}
use Rattle.store_net.proofs.excerpt.parts_excerpt.Goals as goal

pub returns-in_default-clause-found : goal.returns-in_default-clause-found
returns-in_default-clause-found g c clean office net at team =
    none_there (λ n e. AreFacts team n scope.Parts (facts_in e)) c.args.name.now
    (tables_of (state g.S.Store c.args.tx.now.conn.now).now.trees) net
    (λ other h. sym c.in_default.is ∙ c.in_ok-head.ensures.found clean office other h) at

pub returns-clause-found : goal.returns-clause-found
returns-clause-found g c clean office net at team =
    let name = c.args.name.now in
    let s0 = state g.S.Store c.args.tx.now.conn.now in
    let s1 = state g.S.Store c.head_of.new.tx.conn.now in
    let clean1 : HasCleanDisk s1 = omega (arith, c.blocks_of.ensures.frame.survives.clean, clean) in
    let now1 : s1.now ≡ s0.now = (c.in_ok-head.ensures.frame.same clean1 office).0.now_is in
    let office1 : IsOffice s1.now = subst IsOffice (sym now1) office in
    let blocks = read_before (HasBlocks name) c.in_ok-blocks.blocks s1.now s0.now now1
    (c.in_ok-blocks.ensures.found clean office1) in
    one_there (λ n e. AreFacts team n scope.Parts (facts_in e)) name (tables_of s0.now.trees) net c.in-Some.head _
    (λ other h. sym c.in-Some.is ∙ c.in_ok-head.ensures.found clean1 office other h)
    (λ n parts same. (same, blocks n.blocks parts.blocks)) at
