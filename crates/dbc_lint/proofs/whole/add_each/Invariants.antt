use Rattle.dbc_lint.proofs.Common.{◌≡◌, ◌++◌, drop, map}
use Rattle.dbc_lint.specs.Whole.{text_of}
use Rattle.dbc_lint.proofs.whole.add_each.Given as goal

abbrev pub invariant-loop-one : goal.invariant-loop-one
invariant-loop-one l =
    map text_of l.names.items ++ drop l.one-index l.more ≡ map text_of l.initial.names.items ++ l.more
