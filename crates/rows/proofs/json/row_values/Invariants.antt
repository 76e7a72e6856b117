use Rattle.rows.proofs.Common.{◌≡◌, map, take, view}
use Rattle.rows.specs.Fact.{fact_of}
use Rattle.rows.specs.Json.{row_data}
use Rattle.rows.proofs.json.row_values.Given as goal

abbrev pub invariant-loop-row : goal.invariant-loop-row
invariant-loop-row l = map view l.values.items
    ≡ map (λ row. row_data l.columns (map fact_of row)) (take l.row-index l.rows)
