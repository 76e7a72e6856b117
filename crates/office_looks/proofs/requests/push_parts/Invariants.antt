use Rattle.office_looks.proofs.Common.{◌≡◌, ◌++◌, take}
use Rattle.office_looks.specs.Requests.{part_rows}
use Rattle.office_looks.proofs.requests.push_parts.Given as goal

abbrev pub invariant-loop-index : goal.invariant-loop-index
invariant-loop-index l = l.rows ≡ l.initial.rows ++ part_rows l.key (take l.index l.parts)
