use Rattle.dbc_read.proofs.Common.{◌≡◌, ◌++◌, drop, map, node_names_of, numbers_of, signal_keys_of, statements_of}
use Rattle.dbc_read.specs.Keys.{key_of, text_of}
use Rattle.dbc_read.proofs.keys.keys_of.Given as goal

abbrev pub invariant-loop-statement : goal.invariant-loop-statement
invariant-loop-statement l = record {
  nodes : map text_of l.nodes.items ++ node_names_of (statements_of (drop l.statement-index l.statements))
      ≡ node_names_of (statements_of l.statements);
  messages : l.messages.items ++ numbers_of (statements_of (drop l.statement-index l.statements))
      ≡ numbers_of (statements_of l.statements);
  signals : map key_of l.signals.items ++ signal_keys_of (statements_of (drop l.statement-index l.statements))
      ≡ signal_keys_of (statements_of l.statements);
}
