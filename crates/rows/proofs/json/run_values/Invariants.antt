use Rattle.rows.proofs.Common.{◌≡◌, map, take, view}
use Rattle.rows.specs.Json.{run_data}
use Rattle.rows.proofs.json.run_values.Given as goal

abbrev pub invariant-loop-run : goal.invariant-loop-run
invariant-loop-run l = map view l.values.items ≡ map run_data (take l.run-index l.runs)
