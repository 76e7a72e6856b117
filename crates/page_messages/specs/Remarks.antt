-- What a check of the sheet found, as HTML.
use Rattle.std.specs.Prelude.{ℕ, ◌==◌, ◌-◌, ◌&&◌, List, [], ◌∷◌, ◌++◌, Option, Some, None, codes, decimal}
use Rattle.std.specs.Prelude.{map, take, vec_len, if◌then◌else◌}
use Rattle.std.specs.List.{flat_map}
use Rattle.base.specs.Split.{split_once}
use Rattle.markup.specs.Html.{element_html, end_tag, escaped, start_tag}
use Rattle.markup.specs.Writing.{Writing, adding, beginning, ending}
use Rattle.markup.specs.declared.tag.Tag.TheVariants as tag
use Rattle.page_parts.specs.Found.{clashes_of, found_nothing, passed_of}
use Rattle.page_parts.specs.Frames.{with_part}
use Rattle.page_parts.specs.Words.{bad, counted, to_part}
use Rattle.page_parts.specs.declared.checked.Checked.{Checked}
use Rattle.page_messages.specs.declared.remarks.TheConstants.{SHOWN_REMARKS}

-- the line of a clash
abbrev pub clash_line : List ℕ → List ℕ
clash_line clash =
    start_tag tag.Item [] ++ (element_html tag.Bold (codes " class=\"bad\"") (codes "! clash")
    ++ (codes " " ++ (escaped clash ++ end_tag tag.Item)))

-- the first word of a remark in bold, and the rest of it
abbrev pub remark_html : List ℕ → Option (List ℕ × List ℕ) → List ℕ
remark_html remark None = element_html tag.Bold [] remark
remark_html remark (Some parts) = element_html tag.Bold [] parts.0 ++ (codes " " ++ escaped parts.1)

-- the line of a remark
abbrev pub remark_line : List ℕ → List ℕ
remark_line remark =
    start_tag tag.Item [] ++ (remark_html remark (split_once 32 remark) ++ end_tag tag.Item)

-- a paragraph in grey
abbrev pub quiet_paragraph : List ℕ → List ℕ
quiet_paragraph words =
    start_tag tag.Paragraph [] ++ (start_tag tag.Span (codes " class=\"q\"")
    ++ (words ++ (end_tag tag.Span ++ end_tag tag.Paragraph)))

-- how many of the remarks aren't listed, if there are some
abbrev pub others_html : ℕ → List ℕ
others_html count = let others = count - SHOWN_REMARKS in
    if others == 0 then [] else quiet_paragraph (decimal others ++ codes " more")

-- a comma and the name for each
abbrev pub later_names : List (List ℕ) → List ℕ
later_names names = flat_map (λ name. codes ", " ++ escaped name) names

-- which remarks the file itself passes: this one, and these
abbrev pub passed_names : List ℕ → List (List ℕ) → List ℕ
passed_names name names = quiet_paragraph (codes "passed: " ++ (escaped name ++ later_names names))

-- the same, if there are some
abbrev pub passed_html : List (List ℕ) → List ℕ
passed_html [] = []
passed_html (name ∷ names) = passed_names name names

-- the first remarks, of which each has a line
abbrev pub shown_remarks : Checked → List (List ℕ)
shown_remarks checked = map (λ remark. remark.items) (take SHOWN_REMARKS checked.remarks.items)

-- a line for each clash, and for each of the first remarks
abbrev pub lines_html : Checked → List ℕ
lines_html checked =
    flat_map clash_line (clashes_of checked) ++ flat_map remark_line (shown_remarks checked)

abbrev pub with_remarks_in : Checked → Writing → Writing
with_remarks_in checked page =
    ending (adding (others_html (vec_len checked.remarks) ++ passed_html (passed_of checked))
    (ending (adding (lines_html checked) (beginning tag.List []
    (with_part (codes "remarks") (codes "Remarks") (Some (codes "of check --lint")) page)))))

-- nothing where nothing was found
abbrev pub with_remarks : Checked → Writing → Writing
with_remarks checked page = if found_nothing checked then page else with_remarks_in checked page

-- ---- in one line

-- how many messages are unclear, if some are
abbrev pub unclear_html : ℕ → List ℕ
unclear_html count = if count == 0 then []
    else bad count (if count == 1 then codes "message unclear" else codes "messages unclear")

-- how many remarks there are, with a link to them
abbrev pub remarks_link : ℕ → List ℕ
remarks_link count = if count == 0 then codes "no remark" else
    (start_tag tag.Link (to_part (codes "remarks")) ++ (counted count (codes "remark") ++ end_tag tag.Link))

-- of so many clashes and remarks
abbrev pub line_of : ℕ → ℕ → List ℕ
line_of clashes remarks = if clashes == 0 && remarks == 0 then codes "no clash, no remark"
    else unclear_html clashes ++ (codes " " ++ remarks_link remarks)

abbrev pub remarks_line : Checked → List ℕ
remarks_line checked = line_of (vec_len checked.clashes) (vec_len checked.remarks)
