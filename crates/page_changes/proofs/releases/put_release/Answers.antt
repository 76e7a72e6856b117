use Rattle.page_changes.proofs.Common.{ℕ, List, [], length, refl, append_assoc, subst, option_copied, Message}
use Rattle.page_changes.proofs.Common.{element_html, Becomes, adding}
use Rattle.dbc_sheet.specs.declared.counts.Counts.{Counts}
use Rattle.markup.specs.declared.tag.Tag.TheVariants as tag
use Rattle.office_views.specs.Table.{signal_count}
use Rattle.page_changes.specs.Releases.{breaking_cell, breaking_since, count_cells, counts_since, head_cell}
use Rattle.page_changes.specs.Releases.{release_row, signed_cell}
use Rattle.page_changes.proofs.Steps.{add, begin, end, finish, start}
use Rattle.page_changes.proofs.releases.put_release.Goals as goal

pub returns : goal.returns
returns c =
    let before = option_copied c.args.before in
    let sheet = c.args.sheet.now in
    finish (end (add (add (add (add (add (add (begin (start c.args.page.now) tag.Row [] c.open.ensures)
    (head_cell c.args.number) c.put_head_cell.ensures)
    (signed_cell [] (length sheet.messages))
    (subst (λ (ms : List Message). Becomes c.put_cell.new.page
    (adding (signed_cell [] (length ms)) c.put_head_cell.new.page)) c.messages.ensures.messages c.put_cell.ensures))
    (signed_cell [] (signal_count sheet.messages))
    (subst (λ (n : ℕ). Becomes c.put_cell-2.new.page (adding (signed_cell [] n) c.put_cell.new.page))
    c.signal_count.ensures c.put_cell-2.ensures))
    (count_cells (counts_since before sheet))
    (subst (λ (counts : Counts). Becomes c.put_counts.new.page (adding (count_cells counts) c.put_cell-2.new.page))
    c.counts_since.ensures c.put_counts.ensures))
    (breaking_cell (breaking_since before sheet))
    (subst (λ (n : ℕ). Becomes c.put_breaking_cell.new.page (adding (breaking_cell n) c.put_counts.new.page))
    c.in_ok-breaking.ensures c.put_breaking_cell.ensures))
    (element_html tag.Cell [] []) c.element.ensures) c.close.ensures)
    (release_row c.args.number before sheet) (simp append_assoc) refl refl
