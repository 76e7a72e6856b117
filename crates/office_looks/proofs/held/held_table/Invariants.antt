use Rattle.office_looks.proofs.Common.{◌≡◌, map, take}
use Rattle.office_looks.specs.Held.{held_row}
use Rattle.office_looks.proofs.held.held_table.Given as goal

abbrev pub invariant-loop-ident : goal.invariant-loop-ident
invariant-loop-ident l = l.rows ≡ map (held_row l.view) (take l.ident-index l.ident-items)
