use Rattle.page_numbers.proofs.Common.{◌≡◌, ◌++◌, map, take}
use Rattle.page_numbers.specs.Spns.{live, said_of}
use Rattle.page_numbers.proofs.spns.add_live.Given as goal

abbrev pub invariant-loop-place : goal.invariant-loop-place
invariant-loop-place l = map said_of l.rows.items
    ≡ map said_of l.initial.rows.items ++ map (live l.number) (take l.place-index l.places)
