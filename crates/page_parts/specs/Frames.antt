-- What parts of a page begin with, as HTML.
use Rattle.std.specs.Prelude.{ℕ, Bool, List, [], ◌++◌, Option, Some, None, codes, if◌then◌else◌}
use Rattle.std.specs.List.{flat_map}
use Rattle.markup.specs.Html.{element_html, end_tag, escaped, start_tag, valued, words}
use Rattle.markup.specs.Writing.{Writing, adding, beginning}
use Rattle.markup.specs.declared.attribute.Piece.{Piece}
use Rattle.markup.specs.declared.tag.Tag.TheVariants as tag

-- what stands beside a heading, if there are words for it
abbrev pub beside : Option (List ℕ) → List ℕ
beside None = []
beside (Some text) = codes " " ++ element_html tag.Small [] text

abbrev pub heading_html : List ℕ → Option (List ℕ) → List ℕ
heading_html heading small = start_tag tag.H2 [] ++ (escaped heading ++ (beside small ++ end_tag tag.H2))

-- a part of this name, with its heading
abbrev pub with_part : List ℕ → List ℕ → Option (List ℕ) → Writing → Writing
with_part name heading small page =
    adding (heading_html heading small) (beginning tag.Section (valued (codes " id=\"") (escaped name)) page)

-- the attributes of a region that scrolls by itself, with this label, and one that begins
abbrev pub wide : List ℕ → List ℕ
wide label = codes " class=\"wide\" role=\"region\" tabindex=\"0\"" ++ valued (codes " aria-label=\"") label

abbrev pub with_wide : List ℕ → Writing → Writing
with_wide label page = beginning tag.Division (wide label) page

-- the same with a label of these pieces
abbrev pub with_label : List Piece → Writing → Writing
with_label label page = with_wide (words label) page

-- a fold up to its summary
abbrev pub with_fold : Bool → Writing → Writing
with_fold is_open page =
    beginning tag.Summary [] (beginning tag.Details (if is_open then codes " open=\"\"" else []) page)

-- the heads of a table
abbrev pub heads_html : List (List ℕ) → List ℕ
heads_html heads = flat_map (element_html tag.HeadCell []) heads

-- a table of this class up to its rows
abbrev pub with_table : List ℕ → List (List ℕ) → Writing → Writing
with_table class heads page =
    beginning tag.TableBody []
    (adding (start_tag tag.TableHead [] ++ (start_tag tag.Row [] ++ (heads_html heads
    ++ (end_tag tag.Row ++ end_tag tag.TableHead))))
    (beginning tag.Table (valued (codes " class=\"") (escaped class)) page))
