use Rattle.dbc_read.proofs.Common.{◌∙◌, subst, sym, into_iter_items, content_of, statements_of, statement_of}
use Rattle.dbc_read.specs.Lookups.{AreCitedIndices, IsCitedIndex}
use Rattle.dbc_read.specs.Gathering.{Gathers}
use Rattle.dbc_read.proofs.Gathering.{all_gathered, next_index, nothing_gathered, one_gathered}
use Rattle.dbc_read.proofs.IteratorItems.{nothing_left}
use Rattle.dbc_read.proofs.gathered.gathered_of.Goals as goal

pub loop-statement-init : goal.loop-statement-init
loop-statement-init c =
    let ss = statements_of c.args.statements.items in
    let begun = rw c.deref.ensures.value at c.in_ok-gathered.ensures in
    let here = sym c.into_iter-statement-iterator.ensures.into_iter_gives.0 in
    record {
      gathers = subst (λ l. Gathers ss c.in_ok-gathered.gathered (statements_of l)) here
          (nothing_gathered ss c.in_ok-gathered.gathered begun.nothing);
      indices = subst (λ l. AreCitedIndices ss (statements_of l) c.of-indices.result) here
          (subst (AreCitedIndices ss ss) (sym (c.of-indices.ensures ∙ c.from_vec.ensures)) begun.indices);
    }

pub loop-statement-preserved : goal.loop-statement-preserved
loop-statement-preserved c =
    let ss = statements_of c.args.statements.items in
    let at = c.loop-statement in
    let s = c.in-Some.statement in
    let rest = into_iter_items c.next.new.self in
    let next = next_index ss (statement_of s) (statements_of rest) at.indices
    (subst (λ l. AreCitedIndices ss (statements_of l) at.indices) c.in-Some.ensures.steps.0
    at.invariant.indices) in
    record {
      gathers = one_gathered ss s (statements_of rest) c.next_or-index.result at.gathered
          c.gather_statement.new.gathered
          (subst (IsCitedIndex ss (content_of s.content)) (sym c.next_or-index.ensures.value) next.0)
          c.in_ok-gather_statement.ensures
          (subst (λ l. Gathers ss at.gathered (statements_of l)) c.in-Some.ensures.steps.0 at.invariant.gathers);
      indices = subst (AreCitedIndices ss (statements_of rest)) (sym c.next_or-index.ensures.rest) next.1;
    }

pub returns : goal.returns
returns c =
    let ss = statements_of c.args.statements.items in
    let at = c.loop-statement in
    all_gathered ss at.gathered
    (subst (λ l. Gathers ss at.gathered (statements_of l))
    (nothing_left at.statement-iterator c.in-None.ensures.steps.0) at.invariant.gathers)
