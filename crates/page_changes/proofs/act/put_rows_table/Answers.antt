use Rattle.page_changes.proofs.Common.{refl, append_assoc, codes, flat_map}
use Rattle.page_parts.specs.Frames.{with_table}
use Rattle.page_changes.specs.Act.{act_heads, is_one_node, node_row, rows_table}
use Rattle.page_changes.specs.Parts.{parts_by}
use Rattle.page_changes.proofs.Steps.{add, by, end, finish, start}
use Rattle.page_changes.proofs.act.put_rows_table.Goals as goal

pub returns : goal.returns
returns c =
    finish (end (end (add (by (start c.args.page.now)
    (with_table (codes "list") act_heads) (λ w. refl) c.open_table.ensures)
    (flat_map node_row (parts_by is_one_node c.args.losses.now)) c.in_ok-put_rows.ensures)
    c.close.ensures) c.close-2.ensures)
    (rows_table c.args.losses.now) (simp append_assoc) refl refl
