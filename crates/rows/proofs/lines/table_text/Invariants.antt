use Rattle.rows.proofs.Common.{◌≡◌, ◌++◌, take, flat_map}
use Rattle.rows.specs.Lines.{kind_text, upright_text}
use Rattle.rows.proofs.lines.table_text.Given as goal

abbrev pub invariant-loop-kind : goal.invariant-loop-kind
invariant-loop-kind l = l.text.items
    ≡ upright_text l.table.head_columns l.table.head ++ flat_map kind_text (take l.kind-index l.kind-items)
