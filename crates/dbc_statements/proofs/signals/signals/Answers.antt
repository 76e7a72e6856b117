use Rattle.dbc_statements.proofs.Common.{sym, ◌∙◌, Signal, is_key, many_at, signal_at, starts}
use Rattle.dbc_grammar.specs.Parsing.{signals_at}
use Rattle.dbc_grammar.proofs.Repeating.{signals_take}
use Rattle.dbc_statements.specs.Statement.{signals_of}
use Rattle.dbc_statements.proofs.LoopRounds.{at_start, fewer, one_more}
use Rattle.dbc_statements.proofs.signals.signals.Goals as goal

pub signals-init : goal.signals-init
unfolding signals_at
signals-init c = record {
  read = rw c.new-signals.ensures.items (at_start (many_at (starts (is_key Signal)) signal_at c.args.tokens.now));
  nothing = rw c.new-signals.ensures.items tt;
}

pub signals-smaller : goal.signals-smaller
signals-smaller c =
    fewer signals_take (signals_of c.signals.signals.items) c.signals.tokens (signals_of c.add_signal.new.signals.items)
    c.add_signal.new.tokens (sym c.is_signal.ensures ∙ c.signals-test.true) c.in_ok-ended.ensures.ok

pub signals-preserved : goal.signals-preserved
signals-preserved c = record {
  read = one_more signals_take (signals_of c.signals.signals.items) c.signals.tokens
      (signals_of c.add_signal.new.signals.items) c.add_signal.new.tokens _
      (sym c.is_signal.ensures ∙ c.signals-test.true) c.in_ok-ended.ensures.ok c.signals.invariant.read;
  nothing = c.in_ok-ended.ensures.nothing c.signals.invariant.nothing;
}
