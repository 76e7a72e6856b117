use Rattle.store_net.proofs.Common.{ap, sym, subst, IfOk-weaker, state, tables_of}
use Rattle.office_facts.specs.Scope.{scope_as}
use Rattle.store_net.specs.Excerpts.{IsExcerptIn}
use Rattle.store_net.proofs.Excerpts.{by_parts}
use Rattle.store_net.proofs.excerpt.excerpt_at.Goals as goal

pub returns-in-Head-clause-found : goal.returns-in-Head-clause-found
returns-in-Head-clause-found g c clean office =
    by_parts c.head_excerpt.result c.args.name.now c.args.team.now
    (tables_of (state g.S.Store c.args.tx.now.conn.now).now.trees) _ _ (ap scope_as c.in-Head.is)
    (IfOk-weaker c.head_excerpt.result _ _ (λ found read net at. read net at c.args.team.now)
    (c.head_excerpt.ensures.found clean office))

pub returns-in-Parts-clause-found : goal.returns-in-Parts-clause-found
returns-in-Parts-clause-found g c clean office =
    by_parts c.parts_excerpt.result c.args.name.now c.args.team.now
    (tables_of (state g.S.Store c.args.tx.now.conn.now).now.trees) _ _ (ap scope_as c.in-Parts.is)
    (IfOk-weaker c.parts_excerpt.result _ _ (λ found read net at. read net at c.args.team.now)
    (c.parts_excerpt.ensures.found clean office))

pub returns-in-Message-clause-found : goal.returns-in-Message-clause-found
returns-in-Message-clause-found g c clean office =
    by_parts c.message_excerpt.result c.args.name.now c.args.team.now
    (tables_of (state g.S.Store c.args.tx.now.conn.now).now.trees) _ _ (ap scope_as c.in-Message.is)
    (IfOk-weaker c.message_excerpt.result _ _ (λ found read net at. read net at c.args.team.now)
    (c.message_excerpt.ensures.found clean office))

pub returns-in-Idents-clause-found : goal.returns-in-Idents-clause-found
returns-in-Idents-clause-found g c clean office =
    by_parts c.ident_excerpt.result c.args.name.now c.args.team.now
    (tables_of (state g.S.Store c.args.tx.now.conn.now).now.trees) _ _ (ap scope_as c.in-Idents.is)
    (c.ident_excerpt.ensures.found clean office)

pub returns-in-Groups-clause-found : goal.returns-in-Groups-clause-found
returns-in-Groups-clause-found g c clean office =
    by_parts c.group_excerpt.result c.args.name.now c.args.team.now
    (tables_of (state g.S.Store c.args.tx.now.conn.now).now.trees) _ _ (ap scope_as c.in-Groups.is)
    (IfOk-weaker c.group_excerpt.result _ _ (λ found read net at. read net at c.args.team.now)
    (c.group_excerpt.ensures.found clean office))

pub returns-in-Retiring-clause-found : goal.returns-in-Retiring-clause-found
returns-in-Retiring-clause-found g c clean office =
    IfOk-weaker c.retiring_excerpt.result _ _
    (λ found read net at is_net. subst (λ s. IsExcerptIn c.args.team.now s net found)
    (sym (ap scope_as c.in-Retiring.is)) (read net at is_net c.args.team.now))
    (c.retiring_excerpt.ensures.found clean office)
