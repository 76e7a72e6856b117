use Rattle.page_numbers.proofs.Common.{◌≡◌, filter, take, flat_map}
use Rattle.page_numbers.specs.Tally.{is_of, runs_at}
use Rattle.page_numbers.proofs.tally.free_runs.Given as goal

abbrev pub invariant-loop-granted : goal.invariant-loop-granted
invariant-loop-granted l = l.runs.items
    ≡ flat_map (runs_at l.taken l.form) (filter (is_of l.team l.form) (take l.granted-index l.blocks))
