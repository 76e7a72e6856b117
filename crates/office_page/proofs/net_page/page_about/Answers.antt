use Rattle.std.proofs.Common.{ap, count_by, subst, sym, ◌∙◌}
use Rattle.std.proofs.lemmas.Result.{IfOk-weaker}
use Rattle.page_changes.specs.Changes.{AreRising, is_elsewhere, messages_in}
use Rattle.page_numbers.specs.Spns.{net_rows}
use Rattle.office_page.proofs.net_page.page_about.Goals as goal

pub returns : goal.returns
returns c =
    let found = c.deref.ensures.value ∙ c.in_ok-differences.ensures.found in
    IfOk-weaker c.page_with.result _ _ (λ page shown. record {
      changes = c.in_ok-changes.changes;
      are_changes = record {
        messages = c.in_ok-changes.ensures.messages ∙ ap messages_in found;
        others = c.in_ok-changes.ensures.others ∙ ap (count_by is_elsewhere) found;
      };
      marks = c.in_ok-marks.marks;
      are_marks = record {
        marks = c.in_ok-marks.ensures.marks
            (c.in_ok-changes.ensures.by_number
            (subst AreRising (sym c.deref.ensures.value) c.in_ok-differences.ensures.rising));
        releases = c.in_ok-marks.ensures.releases;
      };
      rows = c.in_ok-spns.spns.rows.items;
      are_rows = c.in_ok-spns.ensures ∙ ap net_rows c.in_ok-indexed.ensures;
      checked = c.in_ok-checked.checked;
      is_checked = c.in_ok-checked.ensures;
      shown = shown;
    }) c.page_with.ensures
