-- Lists as lines.
use Rattle.std.specs.Prelude.{ℕ, ◌==◌, nat_lt, Bool, List, [], ◌∷◌, ◌++◌, length, map, take, codes, decimal, Option}
use Rattle.std.specs.Prelude.{Some, None, if◌then◌else◌}
use Rattle.std.specs.List.{flat_map}
use Rattle.std.specs.Option.{option_map_or}
use Rattle.base.specs.Split.{split_once}
use Rattle.bitlayout.specs.Mux.{indicator_of}
use Rattle.bitlayout.specs.Order.{order_number}
use Rattle.bitlayout.specs.declared.layout.Layout.{Layout}
use Rattle.bitlayout.specs.declared.place.Mux.{Mux}
use Rattle.bitlayout.specs.declared.place.Mux.TheVariants.{Always}
use Rattle.can_id.specs.declared.ident.Ident.{Ident}
use Rattle.columns.specs.IdentColumns.{form_word, hexadecimal, ident_columns, no_ident_columns}
use Rattle.columns.specs.Padding.{set_left, set_right}
use Rattle.columns.specs.Run.{runs_text}
use Rattle.columns.specs.Word.{rest, word, words}
use Rattle.columns.specs.declared.run.Run.{Run}
use Rattle.rows.specs.Fact.{Fact, name_of, of_change, of_decimal, of_digits, of_free, of_front, of_ident, of_layout}
use Rattle.rows.specs.Fact.{of_mark, of_maybe, of_mux, of_name, of_number, of_path, of_position, of_range, of_rest}
use Rattle.rows.specs.Fact.{of_runs, of_scale, of_share, of_word, of_words}
use Rattle.decimal.specs.Number.{Number}
use Rattle.decimal.specs.Printing.{text_of}
use Rattle.rows.specs.Table.{Listing, Kind}
use Rattle.rows.specs.declared.cell.Column.{Column}
use Rattle.rows.specs.declared.cell.Alignment.{Alignment}
use Rattle.rows.specs.declared.cell.Alignment.TheVariants as place

-- ---- a value in words

abbrev pub ident_text : Option Ident → List ℕ
ident_text ident = option_map_or ident_columns ident no_ident_columns

-- the first four runs, and `,..` where there are more
abbrev pub first_runs : List Run → List ℕ
first_runs runs = runs_text (take 4 runs) ++ (if nat_lt 4 (length runs) then codes ",.." else [])

-- two points after what goes on
abbrev pub points : Bool → List ℕ
points goes_on = if goes_on then codes " .." else []

abbrev pub mark_text : Bool → List ℕ
mark_text is = if is then codes "!" else codes "."

-- a name, and after a point that of its part
abbrev pub path_text : List ℕ → Option (List ℕ) → List ℕ
path_text name None = name
path_text name (Some part) = name ++ (codes "." ++ part)

-- a word, and what was there and what is
abbrev pub change_text : List ℕ → Option (List ℕ × List ℕ) → List ℕ
change_text word None = word
change_text word (Some values) = word ++ (codes " " ++ (values.0 ++ (codes " -> " ++ values.1)))

abbrev pub share_text : ℕ → ℕ → List ℕ
share_text n all = decimal n ++ (codes " of " ++ decimal all)

abbrev pub position_text : ℕ → ℕ → List ℕ
position_text line column = decimal line ++ (codes ":" ++ decimal column)

-- how many bits the identifier has, and its digits
abbrev pub digits_text : Ident → List ℕ
digits_text ident = form_word ident ++ (codes " " ++ hexadecimal ident)

-- `start|size@order+`, as in a DBC file
abbrev pub layout_text : Layout → Bool → List ℕ
layout_text layout signed =
    decimal layout.start
    ++ (codes "|" ++ (decimal layout.size
    ++ (codes "@" ++ (decimal (order_number layout.order) ++ (if signed then codes "-" else codes "+")))))

-- as in a DBC file
abbrev pub mux_text : Mux → List ℕ
mux_text Always = codes "-"
mux_text mux = indicator_of mux

-- `(factor,offset)` and `[minimum|maximum]`, as in a DBC file
abbrev pub scale_text : Number → Number → List ℕ
scale_text factor offset = codes "(" ++ (text_of factor ++ (codes "," ++ (text_of offset ++ codes ")")))

abbrev pub range_text : Number → Number → List ℕ
range_text minimum maximum = codes "[" ++ (text_of minimum ++ (codes "|" ++ (text_of maximum ++ codes "]")))

abbrev pub fact_text : Fact → List ℕ
fact_text (of_ident ident) = ident_text ident
fact_text (of_number n) = decimal n
fact_text (of_name name) = name
fact_text (of_word text) = word text
fact_text (of_rest text) = rest text
fact_text (of_front text goes_on) = rest text ++ points goes_on
fact_text (of_runs runs) = runs_text runs
fact_text (of_free runs) = first_runs runs
fact_text (of_mark is) = mark_text is
fact_text (of_path name part) = path_text name part
fact_text (of_change word values) = change_text word values
fact_text (of_maybe n) = option_map_or decimal n (codes "-")
fact_text (of_share n all) = share_text n all
fact_text (of_position line column) = position_text line column
fact_text (of_words texts) = words texts
fact_text (of_digits ident) = digits_text ident
fact_text (of_layout layout signed) = layout_text layout signed
fact_text (of_mux mux) = mux_text mux
fact_text (of_decimal d) = text_of d
fact_text (of_scale factor offset) = scale_text factor offset
fact_text (of_range minimum maximum) = range_text minimum maximum

-- ---- in a line

-- a space for each `_`
abbrev pub spaced : ℕ → ℕ
spaced b = if b == 95 then 32 else b

-- a name in words
abbrev pub name_words : List ℕ → List ℕ
name_words name = map spaced (name_of name)

-- without its first word
abbrev pub later_words : List ℕ → List ℕ
later_words name = option_map_or (λ (parts : List ℕ × List ℕ). parts.1) (split_once 95 (name_of name)) []

-- words, and a number after them
abbrev pub counted : List ℕ → ℕ → List ℕ → List ℕ
counted name width words = name ++ (codes " " ++ set_right width words)

abbrev pub set_in : Alignment → List ℕ → List ℕ → List ℕ
set_in place.Plain name words = words
set_in (place.Left width) name words = set_left width words
set_in (place.Right width) name words = set_right width words
set_in (place.Counted width) name words = counted (name_words name) width words
set_in (place.Again width) name words = counted (later_words name) width words
set_in place.From name words = codes "<- " ++ words

abbrev pub set_text : Column → Fact → List ℕ
set_text column fact = set_in column.1 column.0 (fact_text fact)

-- a space before another one, and after the last one the end of the line
abbrev pub after : {X : Type 0} → List X → List ℕ
after [] = codes "\n"
after (x ∷ xs) = codes " "

abbrev pub line_text : List Column → List Fact → List ℕ
line_text [] facts = []
line_text (c ∷ columns) [] = []
line_text (c ∷ columns) (f ∷ facts) = set_text c f ++ (after columns ++ line_text columns facts)

-- ---- a list

-- a line for each value of a row that stands upright, after the name of its column and the spaces there
abbrev pub upright_text : List Column → List Fact → List ℕ
upright_text [] facts = []
upright_text (c ∷ columns) [] = []
upright_text (c ∷ columns) (f ∷ facts) = (c.0 ++ (fact_text f ++ codes "\n")) ++ upright_text columns facts

abbrev pub kind_text : Kind → List ℕ
kind_text p = flat_map (λ row. p.name ++ line_text p.columns row) p.rows

-- the lines of the first row, a line for each row, and that of the totals
abbrev pub table_text : Listing → List ℕ
table_text t =
    upright_text t.head_columns t.head ++ (flat_map kind_text t.kinds ++ line_text t.total_columns t.totals)
