use Rattle.desk_call.proofs.Common.{◌≡◌, ◌-◌, ◌≤◌, vec_len, Moves}
use Rattle.desk_call.proofs.reading.read_until.Given as goal

abbrev pub invariant-loop-got : goal.invariant-loop-got
invariant-loop-got g l = record {
  moves : Moves (g.R.Source.left l.initial.source) (g.R.Source.left l.source) l.initial.got.items l.got.items;
  count : g.R.Source.failure_count l.source ≡ g.R.Source.failure_count l.initial.source;
  most : vec_len l.got - vec_len l.initial.got ≤ l.until - vec_len l.initial.got;
}

abbrev pub decreases-loop-got : goal.decreases-loop-got
decreases-loop-got g l = l.until - vec_len l.got
