use Rattle.dbc_read.proofs.Common.{◌≡◌, length, map, message_of}
use Rattle.dbc_read.specs.Late.{SettlesApart}
use Rattle.dbc_read.proofs.OneByOne.{ReadSoFar}
use Rattle.dbc_read.proofs.settling.settle_others.Given as goal

abbrev pub invariant-statements : goal.invariant-statements
invariant-statements l = record {
  source : l.statements.source ≡ l.initial.statements.source;
  messages : map message_of l.lines ≡ map message_of l.initial.lines;
  read : ReadSoFar (λ stated. SettlesApart l.finders stated l.initial.lines l.initial.gathered l.lines l.gathered)
      l.initial.statements.tokens l.statements.tokens;
}

abbrev pub decreases-statements : goal.decreases-statements
decreases-statements l = length l.statements.tokens
