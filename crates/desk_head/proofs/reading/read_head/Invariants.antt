use Rattle.std.proofs.Common.{◌≡◌, ◌-◌, ◌≤◌, vec_len}
use Rattle.std.specs.Io.KnownBytes.{Consumes}
use Rattle.desk_head.specs.Limits.{head_limit}
use Rattle.desk_head.proofs.reading.read_head.Given as goal

abbrev pub invariant-loop-spans : goal.invariant-loop-spans
invariant-loop-spans g l = record {
  moves : Consumes (g.R.Source.left l.initial.source) (g.R.Source.left l.source) l.got.items;
  count : g.R.Source.failure_count l.source ≡ g.R.Source.failure_count l.initial.source;
  small : vec_len l.got ≤ head_limit;
}

abbrev pub decreases-loop-spans : goal.decreases-loop-spans
decreases-loop-spans g l = head_limit - vec_len l.got
