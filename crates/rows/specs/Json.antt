-- Lists as JSON.
use Rattle.std.specs.Prelude.{ℕ, ◌^◌, nat_lt, Bool, List, [], ◌∷◌, ◌++◌, map, codes, decimal, Option, if◌then◌else◌}
use Rattle.std.specs.Option.{option_map, option_map_or}
use Rattle.std.specs.Str.{bytes_eq}
use Rattle.std.specs.Str.Lossy.{utf8_lossy}
use Rattle.bitlayout.specs.declared.layout.Layout.{Layout}
use Rattle.bitlayout.specs.Order.{order_word}
use Rattle.can_id.specs.Ident.{dbc_number, ident_number}
use Rattle.can_id.specs.J1939.{ident_fields, pgn_of}
use Rattle.can_id.specs.declared.ident.Ident.{Ident}
use Rattle.columns.specs.IdentColumns.{form_word}
use Rattle.columns.specs.declared.run.Run.{Run}
use Rattle.decimal.specs.Number.{Number}
use Rattle.decimal.specs.Printing.{text_of}
use Rattle.rows.specs.Fact.{Fact, name_of, of_change, of_decimal, of_digits, of_free, of_front, of_ident, of_layout}
use Rattle.rows.specs.Fact.{of_mark, of_maybe, of_mux, of_name, of_number, of_path, of_position, of_range, of_rest}
use Rattle.rows.specs.Fact.{of_runs, of_scale, of_share, of_word, of_words}
use Rattle.rows.specs.Lines.{mux_text, path_text, points, table_text}
use Rattle.rows.specs.Table.{Listing, Kind}
use Rattle.rows.specs.declared.cell.Column.{Column}
use Rattle.serde_json.specs.Data.{Data, Members, array, boolean, no_members, null, number, object, put, string, unsigned}
use Rattle.serde_json.specs.View.{items_of}
use Rattle.serde_json.specs.Written.{compact_text}

-- ---- a value

-- a number; from 2 ^ 64 on its digits
abbrev pub number_data : ℕ → Data
number_data n = if nat_lt n (2 ^ 64) then number (unsigned n) else string (decimal n)

-- bytes that aren't UTF-8 as U+FFFD
abbrev pub text_data : List ℕ → Data
text_data text = string (utf8_lossy text)

-- of what people wrote; nothing is null
abbrev pub written_data : List ℕ → Data
written_data [] = null
written_data (b ∷ text) = text_data (b ∷ text)

abbrev pub name_data : List ℕ → Data
name_data name = if bytes_eq name (codes "-") then null else text_data name

abbrev pub group_data : Ident → Data
group_data ident = option_map_or (λ fields. number (unsigned (pgn_of fields))) (ident_fields ident) null

-- what a DBC file writes for it, how many bits it has, its number, and its parameter group
abbrev pub ident_data : Ident → Data
ident_data ident =
    object (put (codes "pgn") (group_data ident) (put (codes "number") (number (unsigned (ident_number ident)))
    (put (codes "form") (text_data (form_word ident))
    (put (codes "dbc") (number (unsigned (dbc_number ident))) no_members))))

-- the first and the last number
abbrev pub run_data : Run → Data
run_data run = array (items_of (number (unsigned run.first) ∷ number (unsigned run.last) ∷ []))

abbrev pub runs_data : List Run → Data
runs_data runs = array (items_of (map run_data runs))

-- what was there or what is, if the change is of a value; `-` is none
abbrev pub side_data : Option (List ℕ) → Data
side_data value = option_map_or name_data value null

-- the word, what was there and what is
abbrev pub change_data : List ℕ → Option (List ℕ × List ℕ) → Data
change_data word values =
    object (put (codes "new") (side_data (option_map (λ v. v.1) values))
    (put (codes "old") (side_data (option_map (λ v. v.0) values))
    (put (codes "word") (text_data word) no_members)))

abbrev pub share_data : ℕ → ℕ → Data
share_data n all =
    object (put (codes "of") (number (unsigned all)) (put (codes "count") (number (unsigned n)) no_members))

abbrev pub position_data : ℕ → ℕ → Data
position_data line column =
    object (put (codes "line") (number (unsigned line)) (put (codes "column") (number (unsigned column)) no_members))

abbrev pub words_data : List (List ℕ) → Data
words_data texts = array (items_of (map text_data texts))

abbrev pub layout_data : Layout → Bool → Data
layout_data layout signed =
    object (put (codes "start") (number (unsigned layout.start)) (put (codes "size") (number (unsigned layout.size))
    (put (codes "signed") (boolean signed) (put (codes "order") (text_data (order_word layout.order)) no_members))))

-- its digits, so that it stays exact
abbrev pub decimal_data : Number → Data
decimal_data d = string (text_of d)

-- two decimals with names
abbrev pub pair_data : List ℕ → Number → List ℕ → Number → Data
pair_data first a second b = object (put second (decimal_data b) (put first (decimal_data a) no_members))

abbrev pub fact_data : Fact → Data
fact_data (of_ident ident) = option_map_or ident_data ident null
fact_data (of_number n) = number_data n
fact_data (of_name name) = name_data name
fact_data (of_word text) = written_data text
fact_data (of_rest text) = written_data text
fact_data (of_front text goes_on) = text_data (text ++ points goes_on)
fact_data (of_runs runs) = runs_data runs
fact_data (of_free runs) = runs_data runs
fact_data (of_mark is) = boolean is
fact_data (of_path name part) = name_data (path_text name part)
fact_data (of_change word values) = change_data word values
fact_data (of_maybe n) = option_map_or number_data n null
fact_data (of_share n all) = share_data n all
fact_data (of_position line column) = position_data line column
fact_data (of_words texts) = words_data texts
fact_data (of_digits ident) = ident_data ident
fact_data (of_layout layout signed) = layout_data layout signed
fact_data (of_mux mux) = name_data (mux_text mux)
fact_data (of_decimal d) = decimal_data d
fact_data (of_scale factor offset) = pair_data (codes "factor") factor (codes "offset") offset
fact_data (of_range minimum maximum) = pair_data (codes "minimum") minimum (codes "maximum") maximum

-- ---- a list

abbrev pub key_of : List ℕ → List ℕ
key_of name = utf8_lossy (name_of name)

-- the members, with one for each value of the row too
abbrev pub with_row : List Column → List Fact → Members → Members
with_row [] facts members = members
with_row (c ∷ columns) [] members = members
with_row (c ∷ columns) (f ∷ facts) members = put (key_of c.0) (fact_data f) (with_row columns facts members)

abbrev pub row_data : List Column → List Fact → Data
row_data columns row = object (with_row columns row no_members)

abbrev pub columns_data : List Column → Data
columns_data columns = array (items_of (map (λ (c : Column). text_data (name_of c.0)) columns))

-- the names of the columns, and the rows
abbrev pub with_rows : Kind → Members → Members
with_rows p members =
    put (codes "rows") (array (items_of (map (row_data p.columns) p.rows)))
    (put (codes "columns") (columns_data p.columns) members)

-- those of a kind that has a name are under it
abbrev pub with_kind : List ℕ → Kind → Members → Members
with_kind [] p members = with_rows p members
with_kind (b ∷ name) p members = put (key_of (b ∷ name)) (object (with_rows p no_members)) members

abbrev pub kinds_members : List Kind → Members
kinds_members [] = no_members
kinds_members (p ∷ kinds) = with_kind p.name p (kinds_members kinds)

-- no columns are no totals
abbrev pub with_totals : List Column → List Fact → Members → Members
with_totals [] totals members = members
with_totals (c ∷ columns) totals members = put (codes "totals") (row_data (c ∷ columns) totals) members

-- the members of the row that stands upright; of its rows the names of the columns and an object for each, of its kinds
-- an object under the name of each; and its totals
abbrev pub table_data : Listing → Data
table_data t =
    object (with_row t.head_columns t.head (with_totals t.total_columns t.totals (kinds_members t.kinds)))

-- the same as text, in one line
unfoldable pub table_json : Listing → List ℕ
table_json t = compact_text (table_data t) ++ codes "\n"

-- as JSON or as lines
abbrev pub list_text : Bool → Listing → List ℕ
list_text json t = if json then table_json t else table_text t
