use Rattle.std.proofs.Common.{◌≡◌, ◌++◌, length}
use Rattle.office_script.specs.Echoes.{echoes}
use Rattle.office_script.proofs.echoes.add_echoes.Given as goal

abbrev pub invariant-loop-arrivals : goal.invariant-loop-arrivals
invariant-loop-arrivals l = l.text.items ++ echoes l.arrivals l.answers
    ≡ l.fn.text.items ++ echoes l.fn.arrivals l.fn.answers

abbrev pub decreases-loop-arrivals : goal.decreases-loop-arrivals
decreases-loop-arrivals l = length l.arrivals
