use Rattle.dbc_read.proofs.Common.{◌≡◌, ◌++◌, List, length}
use Rattle.dbc_grammar.specs.Statement as dbc
use Rattle.dbc_read.specs.Definitions.{AreDefinitions, HaveFewTexts}
use Rattle.dbc_read.proofs.OneByOne.{ReadSoFar}
use Rattle.dbc_read.proofs.definitions.further_definitions.Given as goal

abbrev pub invariant-statements : goal.invariant-statements
invariant-statements l = record {
  source : l.statements.source ≡ l.initial.statements.source;
  read : ReadSoFar (λ stated. HaveFewTexts stated
      × ((before : List dbc.Statement) → AreDefinitions before l.fn.gathered
      → AreDefinitions (before ++ stated) l.definitions)) l.initial.statements.tokens l.statements.tokens;
}

abbrev pub decreases-statements : goal.decreases-statements
decreases-statements l = length l.statements.tokens
