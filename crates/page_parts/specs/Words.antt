-- Words of a page, as HTML.
use Rattle.std.specs.Prelude.{ℕ, ◌==◌, List, [], ◌∷◌, ◌++◌, codes, decimal, if◌then◌else◌}
use Rattle.columns.specs.declared.run.Run.{Run}
use Rattle.markup.specs.Html.{element_html, end_tag, escaped, start_tag, valued}
use Rattle.markup.specs.declared.tag.Tag.TheVariants as tag

-- in grey
unfoldable pub quiet : List ℕ → List ℕ
quiet words = element_html tag.Span (codes " class=\"q\"") words

-- apart from the direction of what is around it
unfoldable pub isolated : List ℕ → List ℕ
isolated words = element_html tag.Isolated [] words

-- `1 node`, `2 nodes`
unfoldable pub counted : ℕ → List ℕ → List ℕ
counted count one = decimal count ++ (codes " " ++ (escaped one ++ (if count == 1 then [] else codes "s")))

-- `5`, or `1-3`
unfoldable pub run_html : Run → List ℕ
run_html r = decimal r.first ++ (if r.first == r.last then [] else codes "-" ++ decimal r.last)

-- a dot between two facts
abbrev pub dot : List ℕ
dot = escaped (32 ∷ 194 ∷ 183 ∷ 32 ∷ [])

-- a cell with this in it, and one with a number
abbrev pub cell : List ℕ → List ℕ
cell words = start_tag tag.Cell [] ++ (words ++ end_tag tag.Cell)

abbrev pub number_cell : ℕ → List ℕ
number_cell n = cell (decimal n)

-- the attribute of a link to the part of this name, and the link
abbrev pub to_part : List ℕ → List ℕ
to_part name = valued (codes " href=\"#") (escaped name)

abbrev pub part_link : List ℕ → List ℕ → List ℕ
part_link name words = element_html tag.Link (to_part name) words

-- how many changes break a receiver: `! 3 breaking`
unfoldable pub bad : ℕ → List ℕ → List ℕ
bad count words =
    start_tag tag.Bold (codes " class=\"bad\"")
    ++ (codes "! " ++ (decimal count ++ (codes " " ++ (escaped words ++ end_tag tag.Bold))))
