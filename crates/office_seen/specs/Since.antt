-- What releases say of a message.
use Rattle.std.specs.Prelude.{ℕ, ◌+◌, ◌-◌, Bool, List, [], ◌∷◌, length, slice_get}
use Rattle.std.specs.Prelude.{codes, unwrap_or, Option, Some, None, if◌then◌else◌}
use Rattle.columns.specs.Run.{runs_of, runs_text}
use Rattle.columns.specs.declared.run.Run.{Run}
use Rattle.dbc_sheet.specs.Messages.{has_number}
use Rattle.dbc_sheet.specs.Same.{same_message}
use Rattle.dbc_sheet.specs.Sheet.{empty_sheet}
use Rattle.dbc_sheet.specs.declared.message.Message.{Message}
use Rattle.dbc_sheet.specs.declared.sheet.Sheet.{Sheet}
use Rattle.dbc_sheet.specs.Pairs.{partner}

-- the last release; before the first one, the empty sheet
abbrev pub last_release : List Sheet → Sheet
last_release releases = unwrap_or (slice_get releases (length releases - 1)) empty_sheet

-- the numbers of the sheets that pass the test, where the first one has this number
abbrev pub numbered_where : (Sheet → Bool) → ℕ → List Sheet → List ℕ
numbered_where test n [] = []
numbered_where test n (s ∷ sheets) =
    if test s then n ∷ numbered_where test (n + 1) sheets else numbered_where test (n + 1) sheets

-- what has become of a message since it was its partner
abbrev pub since_word : Option Message → Message → List ℕ
since_word None m = codes "new"
since_word (Some p) m = if same_message p m then codes "-" else codes "changed"

-- what has become of a message of the sheet since the sheet before
abbrev pub since : Sheet → Sheet → Message → List ℕ
since before sheet m = since_word (partner before.messages sheet.messages m) m

-- the numbers of the releases, from 1, that pass the test
abbrev pub releases_where : (Sheet → Bool) → List Sheet → List ℕ
releases_where test releases = numbered_where test 1 releases

-- those that have a message of the number, as runs
abbrev pub releases_runs : List Sheet → ℕ → List Run
releases_runs releases n = runs_of 1 (releases_where (λ s. has_number s.messages n) releases)

abbrev pub releases_text : List Sheet → ℕ → List ℕ
releases_text releases n = runs_text (releases_runs releases n)
