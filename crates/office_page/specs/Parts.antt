-- The parts of a page, one after the other: lists of the facts.
use Rattle.std.specs.Prelude.{◌≡◌, ℕ, ◌-◌, List, [], length, Option, Some, None, slice_get}
use Rattle.dbc_compare.specs.Differences.{differences}
use Rattle.dbc_compare.specs.declared.difference.Difference.{Difference}
use Rattle.dbc_sheet.specs.declared.sheet.Sheet.{Sheet}
use Rattle.markup.specs.Writing.{Becomes, Writing, adding}
use Rattle.office_seen.specs.declared.view.View.{View}
use Rattle.page_changes.specs.LastRelease.{IsSince}
use Rattle.page_changes.specs.Releases.{releases_html}
use Rattle.page_changes.specs.Tables.{Puts}
use Rattle.page_changes.specs.declared.changes.Changes.{Changes}
use Rattle.page_messages.specs.Each.{IsEach}
use Rattle.page_messages.specs.Layouts.{Adds}
use Rattle.page_messages.specs.Messages.{with_messages}
use Rattle.page_messages.specs.Nodes.{with_nodes}
use Rattle.page_messages.specs.Remarks.{with_remarks}
use Rattle.page_messages.specs.Tables.{with_tables}
use Rattle.page_numbers.specs.Elements.{IsMoreBy}
use Rattle.page_numbers.specs.Held.{held_html}
use Rattle.page_numbers.specs.Left.{left_html}
use Rattle.page_numbers.specs.Map.{IsMap}
use Rattle.page_numbers.specs.Spns.{spns_html}
use Rattle.page_numbers.specs.declared.spns.SpnRow.{SpnRow}
use Rattle.page_parts.specs.Subjects.{messages_of}
use Rattle.page_parts.specs.declared.checked.Checked.{Checked}
use Rattle.page_parts.specs.declared.marks.Marks.{Marks}
use Rattle.page_parts.specs.declared.subject.Subject.{Subject}

-- ---- what has changed since the last release

-- the last release, if there is one
abbrev pub last_of : View → Option Sheet
last_of view = slice_get view.releases (length view.releases - 1)

abbrev pub differences_since : Option Sheet → Sheet → List Difference
differences_since None sheet = []
differences_since (Some last) sheet = differences last sheet

-- what differs between the last release and the live sheet
abbrev pub live_differences : View → List Difference
live_differences view = differences_since (last_of view) view.sheet

abbrev pub IsSinceLast : ℕ → Option Sheet → Changes → List ℕ → Type 0
IsSinceLast count None changes html = html ≡ []
IsSinceLast count (Some last) changes html = IsSince count last changes html

-- the part of what has changed since the last release, if there is one
abbrev pub IsSinceOf : View → Changes → List ℕ → Type 0
IsSinceOf view changes html = IsSinceLast (length view.releases) (last_of view) changes html

-- ---- of a live network

-- what was written before the parts, and what was written after each
pub record HasNetParts (view : View) (subject : Subject) (changes : Changes) (marks : Marks) (rows : List SpnRow)
    (checked : Checked) (new old : Writing) : Type 0 where
  pub after_since : Writing
  pub since : Puts (IsSinceOf view changes) after_since old
  pub after_left : Writing
  pub left : Becomes after_left (adding (left_html view subject) after_since)
  pub after_map : Writing
  pub the_map : IsMoreBy (IsMap subject) after_map after_left
  pub after_messages : Writing
  pub messages : Becomes after_messages (with_messages subject marks after_map)
  pub after_nodes : Writing
  pub nodes : Becomes after_nodes (with_nodes (messages_of subject) subject.sheet.now.nodes after_messages)
  pub after_releases : Writing
  pub releases : Becomes after_releases (adding (releases_html view.releases) after_nodes)
  pub after_spns : Writing
  pub spns : Becomes after_spns (adding (spns_html rows) after_releases)
  pub after_held : Writing
  pub held : Becomes after_held (adding (held_html subject view.releases) after_spns)
  pub after_tables : Writing
  pub tables : Becomes after_tables (with_tables subject.sheet.now.tables after_held)
  pub after_remarks : Writing
  pub remarks : Becomes after_remarks (with_remarks checked after_tables)
  pub each : Adds (IsEach subject marks) new after_remarks

-- ---- of a sheet alone

pub record HasSheetParts (subject : Subject) (marks : Marks) (rows : List SpnRow) (checked : Checked)
    (new old : Writing) : Type 0 where
  pub after_map : Writing
  pub the_map : IsMoreBy (IsMap subject) after_map old
  pub after_messages : Writing
  pub messages : Becomes after_messages (with_messages subject marks after_map)
  pub after_nodes : Writing
  pub nodes : Becomes after_nodes (with_nodes (messages_of subject) subject.sheet.now.nodes after_messages)
  pub after_spns : Writing
  pub spns : Becomes after_spns (adding (spns_html rows) after_nodes)
  pub after_tables : Writing
  pub tables : Becomes after_tables (with_tables subject.sheet.now.tables after_spns)
  pub after_remarks : Writing
  pub remarks : Becomes after_remarks (with_remarks checked after_tables)
  pub each : Adds (IsEach subject marks) new after_remarks
