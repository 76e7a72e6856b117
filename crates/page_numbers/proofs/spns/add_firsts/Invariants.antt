use Rattle.page_numbers.proofs.Common.{◌≡◌, ◌++◌, map, take, flat_map}
use Rattle.page_numbers.specs.Spns.{first_in, said_of}
use Rattle.page_numbers.proofs.spns.add_firsts.Given as goal

abbrev pub invariant-loop-number : goal.invariant-loop-number
invariant-loop-number l = map said_of l.rows.items
    ≡ map said_of l.initial.rows.items ++ flat_map (first_in l.index) (take l.number-index l.numbers)
