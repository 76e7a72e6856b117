use Rattle.dbc_read.proofs.Common.{◌∷◌, [], append-nil, append_assoc, subst, sym, drop_of_length-le, statements_of}
use Rattle.dbc_read.specs.Lookups.{AreCitedIndices}
use Rattle.dbc_read.proofs.IteratorItems.{drop_item}
use Rattle.dbc_read.proofs.lookups.cited_indices.Goals as goal

pub loop-statement-preserved : goal.loop-statement-preserved
loop-statement-preserved c = λ all are more indices.
    let ss = c.args.statements.now in
    let i = c.loop-statement.statement-index in
    let index = c.cited_index.result in
    let found = c.loop-statement.found.items in
    let here = subst (λ l. AreCitedIndices all (statements_of l) (index ∷ more))
    (sym (drop_item ss i c.statement-item.result c.loop-statement-test.true c.statement-item.is))
    (c.cited_index.ensures all are, indices) in
    rw c.in_ok-push.ensures.items (rw append_assoc (c.loop-statement.invariant all are (index ∷ more) here))

pub returns : goal.returns
returns c = λ all are.
    let none = drop_of_length-le c.args.statements.now c.loop-statement-test.false in
    subst (λ l. AreCitedIndices all (statements_of c.args.statements.now) l) (append-nil c.loop-statement.found.items)
    (c.loop-statement.invariant all are [] (subst (λ l. AreCitedIndices all (statements_of l) []) (sym none) tt))
