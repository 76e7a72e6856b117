use Rattle.page_numbers.proofs.Common.{◌≡◌, ◌++◌, map, take, flat_map}
use Rattle.page_numbers.specs.Spns.{rows_at, said_of}
use Rattle.page_numbers.proofs.spns.add_numbers.Given as goal

abbrev pub invariant-loop-number : goal.invariant-loop-number
invariant-loop-number l = map said_of l.rows.items
    ≡ map said_of l.initial.rows.items ++ flat_map (rows_at l.view) (take l.number-index l.numbers)
