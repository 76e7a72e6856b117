use Rattle.page_numbers.proofs.Common.{◌≡◌, ◌++◌, map, take}
use Rattle.page_numbers.specs.Spns.{gone, said_of}
use Rattle.page_numbers.proofs.spns.add_gone.Given as goal

abbrev pub invariant-loop-place : goal.invariant-loop-place
invariant-loop-place l = map said_of l.rows.items
    ≡ map said_of l.initial.rows.items ++ map (gone l.number l.release) (take l.place-index l.places)
