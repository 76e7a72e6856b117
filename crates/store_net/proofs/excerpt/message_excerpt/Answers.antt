use Rattle.store_net.proofs.Common.{◌≡◌, ◌∙◌, List, sym, subst, arith, Database, state, HasCleanDisk, AreFacts}
use Rattle.store_net.proofs.Common.{facts_in, LiveMessage, live_named, IsOffice, tables_of, AreLiveRows, live_rows}
use Rattle.office_facts.specs.Scope as scope
use Rattle.store_net.proofs.Excerpts.{facts_read, none_there, one_there}
use Rattle.store_net.proofs.excerpt.message_excerpt.Goals as goal

pub returns-in_default-clause-found : goal.returns-in_default-clause-found
returns-in_default-clause-found g c clean office net at team =
    none_there (λ n e. AreFacts team n (scope.Message c.args.message.now) (facts_in e)) c.args.name.now
    (tables_of (state g.S.Store c.args.tx.now.conn.now).now.trees) net
    (λ other h. sym c.in_default.is ∙ c.in_ok-head.ensures.found clean office other h) at

pub returns-clause-found : goal.returns-clause-found
returns-clause-found g c clean office net at team =
    let name = c.args.name.now in
    let message = c.args.message.now in
    let s0 = state g.S.Store c.args.tx.now.conn.now in
    let s1 = state g.S.Store c.head_of.new.tx.conn.now in
    let clean1 : HasCleanDisk s1 = omega (arith, c.message_at.ensures.frame.survives.clean, clean) in
    let now1 : s1.now ≡ s0.now = (c.in_ok-head.ensures.frame.same clean1 office).0.now_is in
    let office1 : IsOffice s1.now = subst IsOffice (sym now1) office in
    let found = subst (λ (d : Database). (live : List LiveMessage)
    → AreLiveRows name (live_rows name (tables_of d.trees)) live
    → c.in_ok-found.found ≡ live_named live message) now1
    (c.in_ok-found.ensures.found clean office1) in
    one_there (λ n e. AreFacts team n (scope.Message message) (facts_in e)) name (tables_of s0.now.trees) net
    c.in-Some.head _
    (λ other h. sym c.in-Some.is ∙ c.in_ok-head.ensures.found clean1 office other h)
    (λ n parts same. facts_read n message _ _ same (found n.live parts.live)) at
