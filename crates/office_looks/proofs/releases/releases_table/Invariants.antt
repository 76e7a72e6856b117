use Rattle.office_looks.proofs.Common.{◌≡◌, ◌++◌, ◌+◌, drop, take, empty_sheet, last_release}
use Rattle.office_looks.specs.Releases.{rows_after}
use Rattle.office_looks.proofs.releases.releases_table.Given as goal

-- those so far, and those of the releases that are left
abbrev pub invariant-loop-index : goal.invariant-loop-index
invariant-loop-index l = rows_after 1 empty_sheet l.sheets
    ≡ l.rows ++ rows_after (l.index + 1) (last_release (take l.index l.sheets)) (drop l.index l.sheets)
