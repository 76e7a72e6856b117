use Rattle.dbc_statements.proofs.Common.{◌≡◌, length, with_front, many_at, is_more, statement_at, Within}
use Rattle.dbc_statements.specs.Tokens.{IsReached}
use Rattle.dbc_statements.specs.Statement.{statements_of}
use Rattle.dbc_statements.proofs.reading.all_statements.Given as goal

abbrev pub invariant-statements : goal.invariant-statements
invariant-statements l = record {
  read : with_front (statements_of l.statements.items) (many_at is_more statement_at l.tokens)
      ≡ many_at is_more statement_at l.initial.tokens;
  within : Within l.initial.tokens l.tokens;
  reached : IsReached l.initial.tokens l.reached;
}

abbrev pub decreases-statements : goal.decreases-statements
decreases-statements l = length l.tokens
