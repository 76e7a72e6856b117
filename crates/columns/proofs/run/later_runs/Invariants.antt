use Rattle.std.proofs.Common.{◌≡◌, ◌++◌, take}
use Rattle.std.specs.Prelude.{codes}
use Rattle.std.specs.List.{flat_map}
use Rattle.columns.specs.Run.{run_text}
use Rattle.columns.proofs.run.later_runs.Given as goal

abbrev pub invariant-loop-run : goal.invariant-loop-run
invariant-loop-run l = l.text.items ≡ flat_map (λ r. codes "," ++ run_text r) (take l.run-index l.runs)
