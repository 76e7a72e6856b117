use Rattle.std.proofs.Common.{◌≡◌, ◌-◌, reverse, length, drop}
use Rattle.columns.specs.Run.{runs_of}
use Rattle.columns.proofs.run.runs_of.Given as goal

-- those of the last numbers, from the last to the first
abbrev pub invariant-loop-index : goal.invariant-loop-index
invariant-loop-index l = reverse l.runs.items ≡ runs_of l.step (drop (length l.numbers - l.index) l.numbers)
