-- The outcome of a page: of the sheet of a DBC text, or of what an office has.
use Rattle.std.specs.Prelude.{◌≡◌, ◌⊎◌, ◌==◌, ◌-◌, ℕ, Bool, not, List, codes, drop, length, map, if◌then◌else◌}
use Rattle.std.specs.List.{suffix_len}
use Rattle.std.specs.Str.{bytes_eq}
use Rattle.desk_send.specs.Desks.{Desks}
use Rattle.canoffice_jobs.specs.Words.{page_look}
use Rattle.dbc_grammar.specs.Reads.{ReadsAs}
use Rattle.dbc_read.specs.Passed.{start_and_keyword}
use Rattle.dbc_read.specs.declared.reading.Reading.{Reading}
use Rattle.office_page.specs.Page.{IsFilePage}
use Rattle.canoffice_cli.specs.Databases.{Databases}
use Rattle.canoffice_cli.specs.Jobs.Formatted.{IsUnread}
use Rattle.canoffice_cli.specs.Jobs.Looked.{IsLookOutcome}
use Rattle.canoffice_cli.specs.Outcome.{Outcome, success}
use Rattle.canoffice_jobs.specs.declared.place.OfficePlace.{OfficePlace}

-- ---- the name that a page has

abbrev pub in_part : ℕ → Bool
in_part b = not (b == 47)

-- what comes after the last slash of a path
abbrev pub last_part : List ℕ → List ℕ
last_part path = drop (length path - suffix_len in_part path) path

-- no path is on a page, so that it is the same on each machine
abbrev pub page_name : List ℕ → List ℕ
page_name path = if bytes_eq path (codes "-") then codes "standard input" else last_part path

-- ---- what is printed

-- the text reads as a sheet, and a page of what it reads as is printed
pub record IsPaged (path bytes : List ℕ) (o : Outcome) : Type 0 where
  pub reading : Reading
  pub reads : ReadsAs bytes reading.sheet (map start_and_keyword reading.passed)
  pub page : List ℕ
  pub is : IsFilePage (page_name path) bytes reading page
  pub printed : o ≡ success page

-- the same, or it reads as none
abbrev pub IsFilePageOutcome : List ℕ → List ℕ → Outcome → Type 0
IsFilePageOutcome path bytes o = IsPaged path bytes o ⊎ IsUnread bytes o

-- a page of the release of a network, or of the live network for 0, as the office at the place has it
abbrev pub IsPageOutcome : Desks → Desks → Databases → Databases → OfficePlace → List ℕ → ℕ → Outcome → Type 0
IsPageOutcome earlier later before after place net number o =
    IsLookOutcome earlier later before after place (page_look net number) o
