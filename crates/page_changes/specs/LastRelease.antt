-- The part of what has changed since the last release.
use Rattle.std.specs.Prelude.{◌≡◌, ℕ, ◌==◌, true, false, List, [], ◌++◌, Some, codes, decimal, if◌then◌else◌}
use Rattle.dbc_sheet.specs.declared.sheet.Sheet.{Sheet}
use Rattle.markup.specs.Html.{end_tag, start_tag, valued}
use Rattle.markup.specs.declared.tag.Tag.TheVariants as tag
use Rattle.page_parts.specs.Frames.{heading_html}
use Rattle.page_parts.specs.Words.{counted}
use Rattle.page_changes.specs.Act.{IsActTable}
use Rattle.page_changes.specs.Changes.{changes_in, is_nothing}
use Rattle.page_changes.specs.Since.{IsChangeList}
use Rattle.page_changes.specs.declared.changes.Changes.{Changes}

abbrev pub since_heading : ℕ → List ℕ
since_heading release = codes "Since release " ++ decimal release

abbrev pub since_note : ℕ → List ℕ
since_note release =
    codes "who must act: nodes that receive what breaks, as release " ++ (decimal release ++ codes " has it")

-- how many differences are in no message, if some are
abbrev pub other_note : ℕ → List ℕ
other_note count =
    start_tag tag.Paragraph [] ++ (start_tag tag.Span (codes " class=\"q\"") ++ (counted count (codes "difference")
    ++ (codes " of nodes, tables and the sheet" ++ (end_tag tag.Span ++ end_tag tag.Paragraph))))

abbrev pub other_differences : ℕ → List ℕ
other_differences count = if count == 0 then [] else other_note count

-- the table of who must act, and the lists of what differs
abbrev pub since_part : ℕ → List ℕ → List ℕ → ℕ → List ℕ
since_part release act lists others =
    start_tag tag.Section (valued (codes " id=\"") (codes "since"))
    ++ (heading_html (since_heading release) (Some (since_note release))
    ++ (act ++ (lists ++ (other_differences others ++ end_tag tag.Section))))

pub record IsSincePart (release : ℕ) (before : Sheet) (changes : Changes) (html : List ℕ) : Type 0 where
  pub act : List ℕ
  pub is_act : IsActTable before (changes_in changes) act
  pub lists : List ℕ
  pub are_lists : IsChangeList (changes_in changes) lists
  pub is : html ≡ since_part release act lists changes.others

-- it is left out if nothing differs
pub record IsSince (release : ℕ) (before : Sheet) (changes : Changes) (html : List ℕ) : Type 0 where
  pub none : is_nothing changes ≡ true → html ≡ []
  pub part : is_nothing changes ≡ false → IsSincePart release before changes html
