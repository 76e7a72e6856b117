use Rattle.std.proofs.Common.{rules}
use Rattle.rows.specs.Json.{table_json}
use Rattle.rows.proofs.json.table_json.Goals as goal

pub returns-clause-text : goal.returns-clause-text
unfolding table_json
returns-clause-text c = search rules
