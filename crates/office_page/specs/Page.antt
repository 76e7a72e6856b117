-- What is on a page: it is well-formed, and its parts are lists of the facts, in their order.
use Rattle.std.specs.Prelude.{◌≡◌, ℕ, ◌-◌, ◌==◌, Bool, true, false, List, [], ◌++◌, map, Option, Some, None, count_by, slice_get}
use Rattle.std.specs.Prelude.{if◌then◌else◌}
use Rattle.std.specs.List.{list_any}
use Rattle.dbc_compare.specs.declared.difference.Difference.{Difference}
use Rattle.dbc_grammar.specs.Canon.{canonical_text}
use Rattle.dbc_read.specs.declared.passed.Passed.{Passed}
use Rattle.dbc_read.specs.declared.reading.Reading.{Reading}
use Rattle.dbc_sheet.specs.declared.sheet.Sheet.{Sheet}
use Rattle.dbc_write.specs.Sections.{has_spn}
use Rattle.markup.specs.Reader.{IsWellFormed}
use Rattle.markup.specs.Writing.{Writing, whole}
use Rattle.office_seen.specs.declared.view.View.{View}
use Rattle.office_types.specs.declared.command.NetKind.{NetKind}
use Rattle.office_types.specs.declared.command.NetKind.TheVariants.{Can, J1939}
use Rattle.page_changes.specs.Changes.{changes_in, is_elsewhere, messages_in}
use Rattle.page_changes.specs.Marks.{AreMarks, has_messages}
use Rattle.page_changes.specs.declared.changes.Changes.{Changes}
use Rattle.page_numbers.specs.Spns.{AreSheetRows, net_rows, said_of}
use Rattle.page_numbers.specs.declared.spns.SpnRow.{SpnRow}
use Rattle.page_parts.specs.Letters.{AreAscending, AreNamesOf}
use Rattle.page_parts.specs.Subjects.{names_of, owners_of}
use Rattle.page_parts.specs.declared.checked.Checked.{Checked}
use Rattle.page_parts.specs.declared.marks.Marks.{Marks}
use Rattle.page_parts.specs.declared.subject.Subject.{Subject}
use Rattle.office_page.specs.Checking.{IsCheckOf}
use Rattle.office_page.specs.Names.{sender_of, team_of}
use Rattle.office_page.specs.Parts.{HasNetParts, HasSheetParts, live_differences}

-- ---- the facts of a live network

abbrev pub is_j1939 : NetKind → Bool
is_j1939 Can = false
is_j1939 J1939 = true

-- the network, whose its messages are, and which teams have letters
pub record IsSubjectOf (view : View) (subject : Subject) : Type 0 where
  pub name : subject.name.now ≡ view.name
  pub sheet : subject.sheet.now ≡ view.sheet
  pub owners : owners_of subject ≡ view.owners
  pub letters : AreNamesOf (view.owners ++ map team_of view.blocks) (names_of subject)
  pub ascending : AreAscending (names_of subject)
  pub blocks : subject.blocks.now ≡ view.blocks
  pub held : subject.held.now ≡ view.held
  pub groups : subject.is_j1939 ≡ is_j1939 view.kind
  pub live : subject.is_alone ≡ false

-- these differences by message
pub record AreChangesOf (found : List Difference) (changes : Changes) : Type 0 where
  pub messages : changes_in changes ≡ messages_in found
  pub others : changes.others ≡ count_by is_elsewhere found

-- a mark for each message: the releases that have it, what has become of it, and which signals have changed
pub record AreMarksOf (view : View) (changes : Changes) (told : Marks) : Type 0 where
  pub marks : AreMarks view.releases (changes_in changes) view.sheet.messages told.marks.items
  pub releases : told.has_releases ≡ list_any has_messages view.releases

-- ---- a page of a live network

-- written before the parts, and with them; the page is all of it, with all that is open ended
pub record ShowsNet (view : View) (subject : Subject) (changes : Changes) (marks : Marks) (rows : List SpnRow)
    (checked : Checked) (page : List ℕ) : Type 0 where
  pub head : Writing
  pub body : Writing
  pub parts : HasNetParts view subject changes marks rows checked body head
  pub kept : body.is_lost ≡ false
  pub is : page ≡ whole body
  pub well_formed : IsWellFormed page

-- what the parts of the page show
pub record ShowsSubject (view : View) (subject : Subject) (page : List ℕ) : Type 0 where
  pub changes : Changes
  pub are_changes : AreChangesOf (live_differences view) changes
  pub marks : Marks
  pub are_marks : AreMarksOf view changes marks
  pub rows : List SpnRow
  pub are_rows : map said_of rows ≡ net_rows view
  pub checked : Checked
  pub is_checked : IsCheckOf (canonical_text view.sheet) view.sheet [] checked
  pub shown : ShowsNet view subject changes marks rows checked page

-- the bytes are a page of the live network
pub record IsNetPage (view : View) (page : List ℕ) : Type 0 where
  pub subject : Subject
  pub is_subject : IsSubjectOf view subject
  pub shown : ShowsSubject view subject page

-- ---- a page of a sheet alone: of a release, or of a file

-- the sheet, which node sends each message, and which nodes have letters
pub record IsSubjectAlone (called : List ℕ) (described : Sheet) (subject : Subject) : Type 0 where
  pub name : subject.name.now ≡ called
  pub sheet : subject.sheet.now ≡ described
  pub owners : owners_of subject ≡ map sender_of described.messages
  pub letters : AreNamesOf (map sender_of described.messages) (names_of subject)
  pub ascending : AreAscending (names_of subject)
  pub blocks : subject.blocks.now ≡ []
  pub held : subject.held.now ≡ []
  pub groups : subject.is_j1939 ≡ has_spn described
  pub alone : subject.is_alone ≡ true

pub record ShowsAlone (subject : Subject) (checked : Checked) (page : List ℕ) : Type 0 where
  pub head : Writing
  pub body : Writing
  pub marks : Marks
  pub unmarked : marks.marks.items ≡ []
  pub unreleased : marks.has_releases ≡ false
  pub rows : List SpnRow
  pub are_rows : AreSheetRows subject.sheet.now (map said_of rows)
  pub parts : HasSheetParts subject marks rows checked body head
  pub kept : body.is_lost ≡ false
  pub is : page ≡ whole body
  pub well_formed : IsWellFormed page

-- a page of the sheet of this name, of which a check finds this
pub record ShowsSheet (name : List ℕ) (sheet : Sheet) (checked : Checked) (page : List ℕ) : Type 0 where
  pub subject : Subject
  pub is_subject : IsSubjectAlone name sheet subject
  pub shown : ShowsAlone subject checked page

-- of the sheet of this name that the text reads as, with these statements skipped
pub record IsSheetPage (name text : List ℕ) (sheet : Sheet) (passed : List Passed) (page : List ℕ) : Type 0 where
  pub checked : Checked
  pub is_checked : IsCheckOf text sheet passed checked
  pub shown : ShowsSheet name sheet checked page

-- the release of this number, from 1
abbrev pub release_at : List Sheet → ℕ → Option Sheet
release_at releases number = if number == 0 then None else slice_get releases (number - 1)

-- a page of the release of this name; nothing if there is no such release
abbrev pub IsPageIf : List ℕ → Option Sheet → Option (List ℕ) → Type 0
IsPageIf name None None = Unit {0}
IsPageIf name None (Some page) = ⊥
IsPageIf name (Some sheet) None = ⊥
IsPageIf name (Some sheet) (Some page) = IsSheetPage name (canonical_text sheet) sheet [] page

-- the bytes are a page of the release of this number, from 1; there are none exactly where there is no such release
pub record IsReleasePage (view : View) (number : ℕ) (page : Option (List ℕ)) : Type 0 where
  pub is : IsPageIf view.name (release_at view.releases number) page

-- the bytes are a page of the file of this name, with this text, that reads so
pub record IsFilePage (name text : List ℕ) (reading : Reading) (page : List ℕ) : Type 0 where
  pub is : IsSheetPage name text reading.sheet reading.passed page
