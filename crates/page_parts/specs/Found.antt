-- What a check of a sheet found.
use Rattle.std.specs.Prelude.{ℕ, ◌==◌, ◌&&◌, Bool, List, map, vec_len}
use Rattle.page_parts.specs.declared.checked.Checked.{Checked}

-- nothing
abbrev pub found_nothing : Checked → Bool
found_nothing checked =
    (vec_len checked.clashes == 0 && vec_len checked.remarks == 0) && vec_len checked.passed == 0

-- the clashes, the remarks, and the remarks that are passed over, each a text
abbrev pub clashes_of : Checked → List (List ℕ)
clashes_of checked = map (λ clash. clash.items) checked.clashes.items

abbrev pub remarks_of : Checked → List (List ℕ)
remarks_of checked = map (λ remark. remark.items) checked.remarks.items

abbrev pub passed_of : Checked → List (List ℕ)
passed_of checked = map (λ name. name.items) checked.passed.items
