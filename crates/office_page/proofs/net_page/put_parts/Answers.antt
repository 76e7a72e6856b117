use Rattle.std.proofs.Common.{List, subst}
use Rattle.std.proofs.lemmas.Result.{on_ok_weaker}
use Rattle.dbc_sheet.specs.declared.sheet.Sheet.{Sheet}
use Rattle.dbc_sheet.specs.declared.value_table.ValueTable.{ValueTable}
use Rattle.markup.specs.Writing.{Becomes, adding}
use Rattle.page_changes.specs.Releases.{releases_html}
use Rattle.page_messages.specs.Tables.{with_tables}
use Rattle.office_page.proofs.net_page.put_parts.Goals as goal

pub returns : goal.returns
returns c =
    on_ok_weaker c.put_each.result (λ each. record {
      after_since = c.put_last.new.page;
      since = c.in_ok-put_last.ensures;
      after_left = c.put_left.new.page;
      left = c.in_ok-put_left.ensures;
      after_map = c.put_map.new.page;
      the_map = c.in_ok-put_map.ensures;
      after_messages = c.put_messages.new.page;
      messages = c.in_ok-put_messages.ensures;
      after_nodes = c.put_nodes.new.page;
      nodes = c.in_ok-put_nodes.ensures;
      after_releases = c.put_releases.new.page;
      releases = subst (λ (all : List Sheet). Becomes c.put_releases.new.page (adding (releases_html all) c.put_nodes.new.page)) c.as_slice.ensures.sheets c.in_ok-put_releases.ensures;
      after_spns = c.put_spns.new.page;
      spns = c.put_spns.ensures;
      after_held = c.put_held.new.page;
      held = c.in_ok-put_held.ensures;
      after_tables = c.put_tables.new.page;
      tables = subst (λ (all : List ValueTable). Becomes c.put_tables.new.page (with_tables all c.put_held.new.page)) c.tables.ensures.tables c.put_tables.ensures;
      after_remarks = c.put_remarks.new.page;
      remarks = c.put_remarks.ensures;
      each = each;
    }) c.put_each.ensures
