use Rattle.std.proofs.Common.{◌≡◌, ◌++◌, drop}
use Rattle.office_script.specs.Echoes.{longest_echoes}
use Rattle.office_script.proofs.echoes.add_longest_echoes.Given as goal

abbrev pub invariant-loop-arrival : goal.invariant-loop-arrival
invariant-loop-arrival l = l.text.items ++ longest_echoes (drop l.arrival-index l.arrivals)
    ≡ l.fn.text.items ++ longest_echoes l.arrivals
