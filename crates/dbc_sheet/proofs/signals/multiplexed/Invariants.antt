use Rattle.dbc_sheet.proofs.Common.{◌≡◌, take}
use Rattle.dbc_sheet.specs.Signals.{HaveOneMultiplexor, has_multiplexor}
use Rattle.dbc_sheet.proofs.signals.multiplexed.Given as goal

abbrev pub invariant-loop-signal : goal.invariant-loop-signal
invariant-loop-signal l =
    record {
      one : HaveOneMultiplexor (take l.signal-index l.signals);
      known : l.multiplexed ≡ has_multiplexor (take l.signal-index l.signals);
    }
