use Rattle.rows.proofs.Common.{◌≡◌, map, take, view}
use Rattle.rows.specs.Fact.{name_of}
use Rattle.rows.specs.Json.{text_data}
use Rattle.rows.specs.declared.cell.Column.{Column}
use Rattle.rows.proofs.json.column_values.Given as goal

abbrev pub invariant-loop-column : goal.invariant-loop-column
invariant-loop-column l = map view l.values.items
    ≡ map (λ (c : Column). text_data (name_of c.0)) (take l.column-index l.columns)
