-- The JSON of a list nests a few levels, and has no number with a fraction. So it reads back, and its text is computed.
use Rattle.rows.proofs.Common.{◌≡◌, ◌≤◌, ◌∙◌, ℕ, true, false, List, [], ◌∷◌, Some, None, ◌++◌, map, refl, ap, Run}
use Rattle.rows.proofs.Common.{Number, array, put, items_of, has_float}
use Rattle.std.proofs.Common.{◌||◌, suc, Bool, cond, Option, nat_lt, arith}
use Rattle.std.specs.Prelude.{max, decimal, codes, ◌^◌}
use Rattle.std.specs.Option.{option_map}
use Rattle.std.specs.Ordering.{match_ordering, nat_cmp}
use Rattle.std.specs.Cmp.Lexicographic.{slice_cmp}
use Rattle.std.specs.Str.{bytes_eq}
use Rattle.std.specs.declared.cmp.Ordering.{Ordering}
use Rattle.std.specs.declared.cmp.Ordering.TheVariants.{Less, Equal, Greater}
use Rattle.bitlayout.specs.declared.layout.Layout.{Layout}
use Rattle.can_id.specs.Ident.{dbc_number, ident_number}
use Rattle.can_id.specs.declared.ident.Ident.{Ident}
use Rattle.can_id.specs.declared.ident.Ident.TheVariants as id
use Rattle.columns.specs.IdentColumns.{form_word}
use Rattle.rows.specs.Fact.{Fact, of_change, of_decimal, of_digits, of_free, of_front, of_ident, of_layout, of_mark}
use Rattle.rows.specs.Fact.{of_maybe, of_mux, of_name, of_number, of_path, of_position, of_range, of_rest, of_runs}
use Rattle.rows.specs.Fact.{of_scale, of_share, of_word, of_words}
use Rattle.rows.specs.Json.{change_data, columns_data, fact_data, group_data, ident_data, key_of, layout_data}
use Rattle.rows.specs.Json.{name_data, number_data, pair_data, kinds_members, position_data, row_data, run_data}
use Rattle.rows.specs.Json.{share_data, side_data, table_data, text_data, with_kind, with_row, with_rows, with_totals}
use Rattle.rows.specs.Json.{written_data}
use Rattle.rows.specs.Lines.{mux_text, path_text, points}
use Rattle.rows.specs.Table.{Listing, Kind}
use Rattle.rows.specs.declared.cell.Column.{Column}
use Rattle.serde_json.specs.Data.{Data, Members, depth, items_depth, member, members_depth, no_members, null, number}
use Rattle.serde_json.specs.Data.{object, string, unsigned}
use Rattle.serde_json.specs.Written.{items_have_float, members_have_float}

-- nests so many levels at most, and has no number with a fraction
pub record IsLow (n : ℕ) (d : Data) : Type 0 where
  pub levels : depth d ≤ n
  pub whole : has_float d ≡ false

-- ---- members

abbrev AreLow : ℕ → Members → Type 0
AreLow n no_members = Unit {0}
AreLow n (member k d ms) = IsLow n d × AreLow n ms

-- a member more, wherever it comes in their order
put_low : (n : ℕ) (k : List ℕ) (d : Data) (ms : Members) → IsLow n d → AreLow n ms → AreLow n (put k d ms)
put_low n k d no_members low others = (low, tt)
put_low n k d (member l e ms) low others =
    by_order (slice_cmp nat_cmp k l) (put_low n k d ms low others.1)
  where
    by_order : (o : Ordering) → AreLow n (put k d ms)
        → AreLow n (match_ordering o (member k d (member l e ms)) (member l d ms) (member l e (put k d ms)))
    by_order Less later = (low, others)
    by_order Equal later = (low, others.1)
    by_order Greater later = (others.0, later)

both_low : (n a b : ℕ) → a ≤ n → b ≤ n → max a b ≤ n
both_low n a b first second = omega arith

members_low : (n : ℕ) (ms : Members) → AreLow n ms → (members_depth ms ≤ n) × (members_have_float ms ≡ false)
members_low n no_members low = (omega arith, refl)
members_low n (member k d ms) low =
    let later = members_low n ms low.1 in (
      both_low n (depth d) (members_depth ms) low.0.levels later.0,
      ap (λ b. b || members_have_float ms) low.0.whole ∙ later.1,
    )

deeper : (n m : ℕ) → m ≤ n → suc m ≤ suc n
deeper n m low = omega arith

object_low : (n : ℕ) (ms : Members) → AreLow n ms → IsLow (suc n) (object ms)
object_low n ms low =
    let all = members_low n ms low in
    record { levels = deeper n (members_depth ms) all.0; whole = all.1 }

-- ---- items

items_low : {X : Type 0} (n : ℕ) (f : X → Data) (xs : List X) → ((x : X) → IsLow n (f x))
    → (items_depth (items_of (map f xs)) ≤ n) × (items_have_float (items_of (map f xs)) ≡ false)
items_low n f [] low = (omega arith, refl)
items_low n f (x ∷ xs) low =
    let later = items_low n f xs low in (
      both_low n (depth (f x)) (items_depth (items_of (map f xs))) (low x).levels later.0,
      ap (λ b. b || items_have_float (items_of (map f xs))) (low x).whole ∙ later.1,
    )

array_low : {X : Type 0} (n : ℕ) (f : X → Data) (xs : List X) → ((x : X) → IsLow n (f x))
    → IsLow (suc n) (array (items_of (map f xs)))
array_low n f xs low =
    let all = items_low n f xs low in
    record { levels = deeper n (items_depth (items_of (map f xs))) all.0; whole = all.1 }

-- ---- a value

more_low : (m n k : ℕ) → m ≤ n → n ≤ k → m ≤ k
more_low m n k low high = omega arith

raised : (n k : ℕ) (d : Data) → n ≤ k → IsLow n d → IsLow k d
raised n k d order low = record { levels = more_low (depth d) n k low.levels order; whole = low.whole }

none_low : (n : ℕ) → IsLow n null
none_low n = record { levels = omega arith; whole = refl }

text_low : (n : ℕ) (text : List ℕ) → IsLow n (text_data text)
text_low n text = record { levels = omega arith; whole = refl }

whole_low : (n m : ℕ) → IsLow n (number (unsigned m))
whole_low n m = record { levels = omega arith; whole = refl }

number_low : (n m : ℕ) → IsLow n (number_data m)
number_low n m = by_size (nat_lt m (2 ^ 64))
  where
    by_size : (b : Bool) → IsLow n (cond b (number (unsigned m)) (string (decimal m)))
    by_size true = whole_low n m
    by_size false = record { levels = omega arith; whole = refl }

name_low : (n : ℕ) (b : Bool) (name : List ℕ) → IsLow n (cond b null (text_data name))
name_low n true name = none_low n
name_low n false name = text_low n name

written_low : (n : ℕ) (text : List ℕ) → IsLow n (written_data text)
written_low n [] = none_low n
written_low n (b ∷ text) = text_low n (b ∷ text)

group_low : (n : ℕ) (i : Ident) → IsLow n (group_data i)
group_low n (id.Std m) = none_low n
group_low n (id.Ext m) = whole_low n _

ident_low : (i : Ident) → IsLow 1 (ident_data i)
ident_low i =
    let dbc = number (unsigned (dbc_number i)) in
    let first = put (codes "dbc") dbc no_members in
    let form = text_data (form_word i) in
    let second = put (codes "form") form first in
    let whole = number (unsigned (ident_number i)) in
    let third = put (codes "number") whole second in
    object_low 0 (put (codes "pgn") (group_data i) third)
    (put_low 0 (codes "pgn") (group_data i) third (group_low 0 i)
    (put_low 0 (codes "number") whole second (whole_low 0 (ident_number i))
    (put_low 0 (codes "form") form first (text_low 0 (form_word i))
    (put_low 0 (codes "dbc") dbc no_members (whole_low 0 (dbc_number i)) tt))))

run_low : (run : Run) → IsLow 1 (run_data run)
run_low run = record { levels = omega arith; whole = refl }

runs_low : (runs : List Run) → IsLow 2 (array (items_of (map run_data runs)))
runs_low runs = array_low 1 run_data runs run_low

named_low : (n : ℕ) (name : List ℕ) → IsLow n (name_data name)
named_low n name = name_low n (bytes_eq name (codes "-")) name

side_low : (n : ℕ) (value : Option (List ℕ)) → IsLow n (side_data value)
side_low n None = none_low n
side_low n (Some value) = named_low n value

change_low : (word : List ℕ) (values : Option (List ℕ × List ℕ)) → IsLow 1 (change_data word values)
change_low word values =
    let old = side_data (option_map (λ (v : List ℕ × List ℕ). v.0) values) in
    let new = side_data (option_map (λ (v : List ℕ × List ℕ). v.1) values) in
    let first = put (codes "word") (text_data word) no_members in
    let second = put (codes "old") old first in
    object_low 0 (put (codes "new") new second)
    (put_low 0 (codes "new") new second (side_low 0 (option_map (λ (v : List ℕ × List ℕ). v.1) values))
    (put_low 0 (codes "old") old first (side_low 0 (option_map (λ (v : List ℕ × List ℕ). v.0) values))
    (put_low 0 (codes "word") (text_data word) no_members (text_low 0 word) tt)))

share_low : (n all : ℕ) → IsLow 1 (share_data n all)
share_low n all = record { levels = omega arith; whole = refl }

position_low : (line column : ℕ) → IsLow 1 (position_data line column)
position_low line column = record { levels = omega arith; whole = refl }

words_low : (texts : List (List ℕ)) → IsLow 1 (array (items_of (map text_data texts)))
words_low texts = array_low 0 text_data texts (text_low 0)

layout_low : (l : Layout) (signed : Bool) → IsLow 1 (layout_data l signed)
layout_low l signed = record { levels = omega arith; whole = refl }

scale_low : (a b : Number) → IsLow 1 (pair_data (codes "factor") a (codes "offset") b)
scale_low a b = record { levels = omega arith; whole = refl }

range_low : (a b : Number) → IsLow 1 (pair_data (codes "minimum") a (codes "maximum") b)
range_low a b = record { levels = omega arith; whole = refl }

fact_low : (f : Fact) → IsLow 2 (fact_data f)
fact_low (of_ident None) = none_low 2
fact_low (of_ident (Some i)) = raised 1 2 (ident_data i) (omega arith) (ident_low i)
fact_low (of_number n) = number_low 2 n
fact_low (of_name name) = named_low 2 name
fact_low (of_word text) = written_low 2 text
fact_low (of_rest text) = written_low 2 text
fact_low (of_front text goes_on) = text_low 2 (text ++ points goes_on)
fact_low (of_runs runs) = runs_low runs
fact_low (of_free runs) = runs_low runs
fact_low (of_mark is) = record { levels = omega arith; whole = refl }
fact_low (of_path name part) = named_low 2 (path_text name part)
fact_low (of_change word values) = raised 1 2 (change_data word values) (omega arith) (change_low word values)
fact_low (of_maybe None) = none_low 2
fact_low (of_maybe (Some n)) = number_low 2 n
fact_low (of_share n all) = raised 1 2 (share_data n all) (omega arith) (share_low n all)
fact_low (of_position line column) = raised 1 2 _ (omega arith) (position_low line column)
fact_low (of_words texts) = raised 1 2 _ (omega arith) (words_low texts)
fact_low (of_digits i) = raised 1 2 (ident_data i) (omega arith) (ident_low i)
fact_low (of_layout l signed) = raised 1 2 (layout_data l signed) (omega arith) (layout_low l signed)
fact_low (of_mux mux) = name_low 2 (bytes_eq (mux_text mux) (codes "-")) (mux_text mux)
fact_low (of_decimal d) = record { levels = omega arith; whole = refl }
fact_low (of_scale a b) = raised 1 2 _ (omega arith) (scale_low a b)
fact_low (of_range a b) = raised 1 2 _ (omega arith) (range_low a b)

-- ---- a list

with_row_low : (n : ℕ) (columns : List Column) (facts : List Fact) (ms : Members) → 2 ≤ n → AreLow n ms
    → AreLow n (with_row columns facts ms)
with_row_low n [] facts ms enough low = low
with_row_low n (c ∷ columns) [] ms enough low = low
with_row_low n (c ∷ columns) (f ∷ facts) ms enough low =
    put_low n (key_of c.0) (fact_data f) (with_row columns facts ms) (raised 2 n (fact_data f) enough (fact_low f))
    (with_row_low n columns facts ms enough low)

row_low : (columns : List Column) (facts : List Fact) → IsLow 3 (row_data columns facts)
row_low columns facts =
    object_low 2 (with_row columns facts no_members) (with_row_low 2 columns facts no_members (omega arith) tt)

columns_low : (columns : List Column) → IsLow 1 (columns_data columns)
columns_low columns = array_low 0 _ columns (λ c. text_low 0 _)

rows_low : (columns : List Column) (rows : List (List Fact))
    → IsLow 4 (array (items_of (map (row_data columns) rows)))
rows_low columns rows = array_low 3 (row_data columns) rows (row_low columns)

with_rows_low : (n : ℕ) (p : Kind) (ms : Members) → 4 ≤ n → AreLow n ms → AreLow n (with_rows p ms)
with_rows_low n p ms enough low =
    put_low n _ _ _ (raised 4 n _ enough (rows_low p.columns p.rows))
    (put_low n _ _ ms (raised 1 n _ (more_low 1 4 n (omega arith) enough) (columns_low p.columns)) low)

kind_low : (name : List ℕ) (p : Kind) (ms : Members) → AreLow 5 ms → AreLow 5 (with_kind name p ms)
kind_low [] p ms low = with_rows_low 5 p ms (omega arith) low
kind_low (b ∷ name) p ms low =
    put_low 5 _ _ ms (object_low 4 _ (with_rows_low 4 p no_members (omega arith) tt)) low

kinds_low : (kinds : List Kind) → AreLow 5 (kinds_members kinds)
kinds_low [] = tt
kinds_low (p ∷ kinds) = kind_low p.name p (kinds_members kinds) (kinds_low kinds)

totals_low : (columns : List Column) (totals : List Fact) (ms : Members) → AreLow 5 ms
    → AreLow 5 (with_totals columns totals ms)
totals_low [] totals ms low = low
totals_low (c ∷ columns) totals ms low =
    put_low 5 _ _ ms (raised 3 5 _ (omega arith) (row_low (c ∷ columns) totals)) low

pub table_low : (t : Listing) → IsLow 127 (table_data t)
table_low t =
    raised 6 127 (table_data t) (omega arith)
    (object_low 5 _
    (with_row_low 5 t.head_columns t.head _ (omega arith)
    (totals_low t.total_columns t.totals _ (kinds_low t.kinds))))
