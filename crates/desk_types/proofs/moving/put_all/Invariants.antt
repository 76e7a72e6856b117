use Rattle.std.proofs.Common.{length, ◌-◌, ◌≡◌, ◌≤◌, take}
use Rattle.std.specs.Io.KnownBytes.{Appends}
use Rattle.desk_types.proofs.moving.put_all.Given as goal

abbrev pub invariant-loop-at : goal.invariant-loop-at
invariant-loop-at g l = record {
  within : l.at ≤ length l.text;
  reported : Appends (g.W.Sink.reported l.initial.sink) (g.W.Sink.reported l.sink) (take l.at l.text);
  count : g.W.Sink.failure_count l.sink ≡ g.W.Sink.failure_count l.initial.sink;
}

abbrev pub decreases-loop-at : goal.decreases-loop-at
decreases-loop-at g l = length l.text - l.at
