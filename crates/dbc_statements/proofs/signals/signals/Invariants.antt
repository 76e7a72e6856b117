use Rattle.dbc_statements.proofs.Common.{◌≡◌, length, Signal, is_key, with_front, many_at, signal_at, starts}
use Rattle.dbc_grammar.specs.Parsing.{signals_at}
use Rattle.dbc_statements.specs.Statement.{HaveNothingAttached, signals_of}
use Rattle.dbc_statements.proofs.signals.signals.Given as goal

abbrev pub invariant-signals : goal.invariant-signals
invariant-signals l = record {
  read : with_front (signals_of l.signals.items) (many_at (starts (is_key Signal)) signal_at l.tokens)
      ≡ signals_at l.initial.tokens;
  nothing : HaveNothingAttached l.signals.items;
}

abbrev pub decreases-signals : goal.decreases-signals
decreases-signals l = length l.tokens
