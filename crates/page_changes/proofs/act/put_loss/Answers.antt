use Rattle.page_changes.proofs.Common.{[], refl, append_assoc, map, codes, element_html, option_copied}
use Rattle.markup.specs.Html.{escaped}
use Rattle.markup.specs.declared.tag.Tag.TheVariants as tag
use Rattle.page_changes.specs.Act.{after_point, lost_item}
use Rattle.page_changes.specs.Names.{text_of}
use Rattle.page_changes.specs.Tables.{joined}
use Rattle.page_changes.proofs.Steps.{add, begin, end, finish, start}
use Rattle.page_changes.proofs.act.put_loss.Goals as goal

pub returns : goal.returns
returns c =
    finish (end (end (add (begin (add (add (add (add (add (begin (start c.args.page.now) tag.Item [] c.open.ensures)
    (element_html tag.Bold (codes " class=\"bad\"") (codes "!")) c.element.ensures) (codes " ") c.text.ensures)
    (escaped c.name_in.result.now) c.text-2.ensures)
    (after_point (option_copied c.signal_of.result)) c.put_after_point.ensures) (codes " ") c.text-3.ensures)
    tag.Span (codes " class=\"q\"") c.open-2.ensures) (joined (map text_of c.deref.result.now)) c.put_joined.ensures)
    c.close.ensures) c.close-2.ensures)
    (lost_item c.args.loss.now)
    (simp (
      c.name_in.ensures,
      c.signal_of.ensures,
      c.thing-thing.ensures,
      c.deref.ensures.value,
      c.in_ok-words.ensures,
      append_assoc,
    )) refl refl
