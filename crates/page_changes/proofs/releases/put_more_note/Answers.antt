use Rattle.page_changes.proofs.Common.{[], refl, append_assoc, codes}
use Rattle.std.specs.Prelude.{decimal}
use Rattle.markup.specs.declared.tag.Tag.TheVariants as tag
use Rattle.page_changes.specs.Releases.{more_note}
use Rattle.page_changes.proofs.Steps.{add, begin, end, finish, start}
use Rattle.page_changes.proofs.releases.put_more_note.Goals as goal

pub returns : goal.returns
returns c =
    finish (end (end (add (add (begin (begin (start c.args.page.now) tag.Paragraph [] c.open.ensures)
    tag.Span (codes " class=\"q\"") c.open-2.ensures) (codes "the last 20 of ") c.text.ensures)
    (decimal c.args.count) c.number.ensures) c.close.ensures) c.close-2.ensures)
    (more_note c.args.count) (simp append_assoc) refl refl
