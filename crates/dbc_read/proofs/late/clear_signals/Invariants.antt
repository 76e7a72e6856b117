use Rattle.dbc_read.proofs.Common.{◌≡◌, take, HaveNothingAttached, signals_of}
use Rattle.dbc_read.proofs.late.clear_signals.Given as goal

abbrev pub invariant-loop-at : goal.invariant-loop-at
invariant-loop-at l = record {
  stays : signals_of l.signals ≡ signals_of l.initial.signals;
  nothing : HaveNothingAttached (take l.at l.signals);
}
