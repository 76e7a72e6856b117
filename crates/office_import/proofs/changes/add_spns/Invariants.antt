use Rattle.office_import.proofs.Common.{◌≡◌, ◌++◌, map, take, EnterSpn}
use Rattle.std.proofs.Common.{filter, not, eqb}
use Rattle.office_import.proofs.changes.add_spns.Given as goal

abbrev pub invariant-loop-signal : goal.invariant-loop-signal
invariant-loop-signal l =
    l.changes ≡ l.fn.changes
    ++ map EnterSpn (filter (λ n. not (eqb n 0)) (map (λ s. s.spn) (take l.signal-index l.signals)))
