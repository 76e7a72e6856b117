use Rattle.dbc_read.proofs.Common.{◌≡◌, ◌++◌, into_iter_items}
use Rattle.dbc_read.specs.Attaching.{commented}
use Rattle.dbc_read.proofs.messages.with_comments.Given as goal

abbrev pub invariant-loop-line : goal.invariant-loop-line
invariant-loop-line l = l.pairs.items ++ commented (into_iter_items l.line-iterator) l.comments
    ≡ commented l.fn.lines.items l.fn.comments
