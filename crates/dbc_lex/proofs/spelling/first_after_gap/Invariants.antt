use Rattle.std.proofs.Common.{◌≡◌, ◌+◌, ◌≤◌, ◌-◌, length, drop}
use Rattle.std.specs.List.{prefix_len}
use Rattle.dbc_grammar.specs.Spelling.{is_gap}
use Rattle.dbc_lex.proofs.spelling.first_after_gap.Given as goal

abbrev pub invariant-loop-end : goal.invariant-loop-end
invariant-loop-end l = record {
  within : l.end ≤ length l.source;
  same : l.end + prefix_len is_gap (drop l.end l.source) ≡ l.at + prefix_len is_gap (drop l.at l.source);
}

abbrev pub decreases-loop-end : goal.decreases-loop-end
decreases-loop-end l = length l.source - l.end
