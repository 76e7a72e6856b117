use Rattle.page_changes.proofs.Common.{Some, refl, codes}
use Rattle.markup.specs.Html.{valued}
use Rattle.markup.specs.declared.tag.Tag.TheVariants as tag
use Rattle.page_parts.specs.Frames.{heading_html}
use Rattle.page_changes.specs.LastRelease.{other_differences, since_heading, since_note, since_part}
use Rattle.page_changes.proofs.Steps.{enclosed_begun}
use Rattle.page_changes.proofs.since.put_part.Goals as goal

pub returns : goal.returns
returns c =
    let release = c.args.release in
    let others = c.args.changes.now.others in
    let act = c.in_ok-put_act.ensures in
    let lists = c.in_ok-put_lists.ensures in
    record {
      html = since_part release act.html lists.html others;
      is = record { act = act.html; is_act = act.is; lists = lists.html; are_lists = lists.is; is = refl };
      becomes = enclosed_begun c.args.page.now c.open_since.new.page c.put_act.new.page c.put_lists.new.page
          c.put_others.new.page c.close.new.self tag.Section (valued (codes " id=\"") (codes "since"))
          (heading_html (since_heading release) (Some (since_note release))) act.html lists.html
          (other_differences others) c.in_ok-open_since.ensures act.becomes lists.becomes c.put_others.ensures
          c.close.ensures;
    }
