use Rattle.store_net.proofs.Common.{◌∙◌, sym, state, AreFacts, facts_in, tables_of}
use Rattle.office_facts.specs.Scope as scope
use Rattle.store_net.proofs.Excerpts.{none_there, one_there}
use Rattle.store_net.proofs.excerpt.head_excerpt.Goals as goal

pub returns-in_default-clause-found : goal.returns-in_default-clause-found
returns-in_default-clause-found g c clean office net at team =
    none_there (λ n e. AreFacts team n scope.Head (facts_in e)) c.args.name.now
    (tables_of (state g.S.Store c.args.tx.now.conn.now).now.trees) net
    (λ other h. sym c.in_default.is ∙ c.in_ok-head.ensures.found clean office other h) at

pub returns-clause-found : goal.returns-clause-found
returns-clause-found g c clean office net at team =
    one_there (λ n e. AreFacts team n scope.Head (facts_in e)) c.args.name.now
    (tables_of (state g.S.Store c.args.tx.now.conn.now).now.trees) net c.in-Some.head _
    (λ other h. sym c.in-Some.is ∙ c.in_ok-head.ensures.found clean office other h) (λ n parts same. same) at
