use Rattle.dbc_lint.proofs.Common.{◌≡◌, ◌++◌, drop, map}
use Rattle.dbc_lint.specs.OfNode.{names_used}
use Rattle.dbc_lint.specs.Whole.{text_of}
use Rattle.dbc_lint.proofs.whole.names_used.Given as goal

abbrev pub invariant-loop-message : goal.invariant-loop-message
invariant-loop-message l =
    map text_of l.names.items ++ names_used (drop l.message-index l.messages) ≡ names_used l.messages
