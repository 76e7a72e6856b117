use Rattle.rows.proofs.Common.{◌∙◌, Some, ap, has_float}
use Rattle.std.proofs.lemmas.Result.{IfOk-weaker}
use Rattle.serde_json.specs.Written.{compact_text}
use Rattle.rows.proofs.Depth.{table_low}
use Rattle.rows.proofs.json.compact_json.Goals as goal

pub returns-clause-text : goal.returns-clause-text
returns-clause-text c =
    let low = table_low c.args.table.now in
    IfOk-weaker c.to_string.result _ _
    (λ text has. has (ap has_float c.in_ok-value.ensures ∙ low.whole) ∙ ap compact_text c.in_ok-value.ensures)
    c.to_string.ensures.text

pub returns-clause-reads_back : goal.returns-clause-reads_back
returns-clause-reads_back c =
    let low = table_low c.args.table.now in
    IfOk-weaker c.to_string.result _ _
    (λ text reads. reads (rw c.in_ok-value.ensures low.levels) ∙ ap Some c.in_ok-value.ensures)
    c.to_string.ensures.reads_back
