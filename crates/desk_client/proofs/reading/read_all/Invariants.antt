use Rattle.std.proofs.Common.{◌≡◌, ◌+◌, ◌-◌, ◌≤◌, vec_len}
use Rattle.std.specs.Io.KnownBytes.{Consumes}
use Rattle.desk_client.specs.Limits.{response_limit}
use Rattle.desk_client.proofs.reading.read_all.Given as goal

abbrev pub invariant-loop-got : goal.invariant-loop-got
invariant-loop-got g l = record {
  moves : Consumes (g.R.Source.left l.initial.source) (g.R.Source.left l.source) l.got.items;
  count : g.R.Source.failure_count l.source ≡ g.R.Source.failure_count l.initial.source;
  small : vec_len l.got ≤ response_limit + 1;
}

abbrev pub decreases-loop-got : goal.decreases-loop-got
decreases-loop-got g l = response_limit + 1 - vec_len l.got
