use Rattle.dbc_read.proofs.Common.{◌≡◌, [], length}
use Rattle.dbc_read.specs.Gathering.{AreBare, IsDefining}
use Rattle.dbc_read.proofs.OneByOne.{ReadSoFar}
use Rattle.dbc_read.proofs.one_by_one.gather_definitions.Given as goal

abbrev pub invariant-statements : goal.invariant-statements
invariant-statements l = record {
  source : l.statements.source ≡ l.initial.statements.source;
  read : ReadSoFar (λ stated. IsDefining [] l.initial.gathered → IsDefining stated l.gathered)
      l.initial.statements.tokens l.statements.tokens;
  bare : AreBare l.initial.gathered.messages → AreBare l.gathered.messages;
}

abbrev pub decreases-statements : goal.decreases-statements
decreases-statements l = length l.statements.tokens
