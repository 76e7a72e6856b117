use Rattle.rows.proofs.Common.{◌≡◌, map, take, view}
use Rattle.rows.specs.Json.{text_data}
use Rattle.rows.proofs.json.text_values.Given as goal

abbrev pub invariant-loop-text : goal.invariant-loop-text
invariant-loop-text l = map view l.values.items ≡ map (λ text. text_data text.now) (take l.text-index l.texts)
