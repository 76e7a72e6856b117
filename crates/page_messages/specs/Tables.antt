-- Value tables, and texts for values, as HTML.
use Rattle.std.specs.Prelude.{ℕ, ◌==◌, nat_le, List, [], ◌∷◌, ◌++◌, None, codes, length, if◌then◌else◌}
use Rattle.std.specs.List.{flat_map}
use Rattle.dbc_sheet.specs.declared.value_table.ValueTable.{ValueTable}
use Rattle.dbc_sheet.specs.declared.value_texts.ValueText.{ValueText}
use Rattle.markup.specs.Html.{element_html, end_tag, escaped, start_tag}
use Rattle.markup.specs.Writing.{Writing, adding, ending}
use Rattle.markup.specs.declared.tag.Tag.TheVariants as tag
use Rattle.page_parts.specs.Decimals.{decimal_words}
use Rattle.page_parts.specs.Frames.{with_part, with_table}
use Rattle.page_parts.specs.Words.{cell, counted, isolated}
use Rattle.page_messages.specs.declared.tables.TheConstants.{SHOWN_TEXTS}

-- a value with its text
abbrev pub value_html : ValueText → List ℕ
value_html v = decimal_words v.value ++ (escaped (194 ∷ 160 ∷ []) ++ isolated v.text)

-- a comma and the value for each
abbrev pub later_values : List ValueText → List ℕ
later_values values = flat_map (λ v. codes ", " ++ value_html v) values

-- values with commas between
abbrev pub values_html : List ValueText → List ℕ
values_html [] = []
values_html (v ∷ values) = value_html v ++ later_values values

abbrev pub folded_values : List ValueText → List ℕ
folded_values values =
    start_tag tag.Details [] ++ (start_tag tag.Summary [] ++ (counted (length values) (codes "text")
    ++ (end_tag tag.Summary ++ (values_html values ++ end_tag tag.Details))))

-- folded if they are more than so many
abbrev pub texts_html : ℕ → List ValueText → List ℕ
texts_html most values = if nat_le (length values) most then values_html values else folded_values values

abbrev pub table_row : ValueTable → List ℕ
table_row t =
    start_tag tag.Row [] ++ (element_html tag.HeadCell [] t.name
    ++ (cell (texts_html SHOWN_TEXTS t.entries) ++ end_tag tag.Row))

-- a row for each table, in their order
abbrev pub with_table_rows : List ValueTable → Writing → Writing
with_table_rows tables page =
    ending (ending (ending (adding (flat_map table_row tables)
    (with_table (codes "list") (codes "Table" ∷ codes "Texts" ∷ [])
    (with_part (codes "tables") (codes "Value tables") None page)))))

-- nothing where there is no table
abbrev pub with_tables : List ValueTable → Writing → Writing
with_tables tables page = if length tables == 0 then page else with_table_rows tables page
