use Rattle.page_changes.proofs.Common.{[], refl, append_assoc, codes}
use Rattle.markup.specs.declared.tag.Tag.TheVariants as tag
use Rattle.page_parts.specs.Words.{counted}
use Rattle.page_changes.specs.LastRelease.{other_note}
use Rattle.page_changes.proofs.Steps.{add, begin, end, finish, start}
use Rattle.page_changes.proofs.since.put_other_note.Goals as goal

pub returns : goal.returns
returns c =
    finish (end (end (add (add (begin (begin (start c.args.page.now) tag.Paragraph [] c.open.ensures)
    tag.Span (codes " class=\"q\"") c.open-2.ensures) (counted c.args.count (codes "difference")) c.put_count.ensures)
    (codes " of nodes, tables and the sheet") c.text.ensures) c.close.ensures) c.close-2.ensures)
    (other_note c.args.count) (simp append_assoc) refl refl
