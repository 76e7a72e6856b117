use Rattle.rows.proofs.Common.{◌≡◌, ◌++◌, map, take, flat_map}
use Rattle.rows.specs.Fact.{fact_of}
use Rattle.rows.specs.Lines.{line_text}
use Rattle.rows.proofs.lines.push_kind.Given as goal

abbrev pub invariant-loop-row : goal.invariant-loop-row
invariant-loop-row l = l.text.items
    ≡ l.initial.text.items
    ++ flat_map (λ row. l.kind.name ++ line_text l.kind.columns (map fact_of row))
    (take l.row-index l.row-items)
