use Rattle.page_numbers.proofs.Common.{◌≡◌, ◌++◌, not, map, take, ◌==◌}
use Rattle.std.specs.List.{filter}
use Rattle.page_numbers.proofs.spns.add_spns.Given as goal

abbrev pub invariant-loop-signal : goal.invariant-loop-signal
invariant-loop-signal l = l.numbers.items
    ≡ l.initial.numbers.items ++ filter (λ n. not (n == 0)) (map (λ s. s.spn) (take l.signal-index l.signal-items))
