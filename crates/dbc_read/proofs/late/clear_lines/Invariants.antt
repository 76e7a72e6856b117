use Rattle.dbc_read.proofs.Common.{◌≡◌, map, take, message_of}
use Rattle.dbc_read.specs.Gathering.{AreBare}
use Rattle.dbc_read.proofs.late.clear_lines.Given as goal

abbrev pub invariant-loop-at : goal.invariant-loop-at
invariant-loop-at l = record {
  stays : map message_of l.lines ≡ map message_of l.initial.lines;
  bare : AreBare (take l.at l.lines);
}
