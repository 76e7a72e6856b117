use Rattle.dbc_read.proofs.Common.{◌≡◌, ◌++◌, map, into_iter_items}
use Rattle.dbc_read.proofs.messages.apart.Given as goal

abbrev pub invariant-loop-line : goal.invariant-loop-line
invariant-loop-line l = record {
  lines : l.lines.items ++ map (λ p. p.0) (into_iter_items l.line-iterator) ≡ map (λ p. p.0) l.fn.pairs.items;
  comments : l.comments.items ++ map (λ p. p.1) (into_iter_items l.line-iterator) ≡ map (λ p. p.1) l.fn.pairs.items;
}
