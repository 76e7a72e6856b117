-- A list computed, in both forms.
use Rattle.rows.proofs.Common.{List, None, Some, [], codes, false, refl, true, ℕ, ◌++◌, ◌∷◌, ◌≡◌, Run, Number}
use Rattle.std.specs.Prelude.{pos, negsuc}
use Rattle.std.specs.Fmt.{digits}
use Rattle.std.specs.Str.{chars, is_utf8}
use Rattle.std.specs.Str.Lossy.{utf8_error_len, utf8_lossy, utf8_valid_len}
use Rattle.bitlayout.specs.declared.layout.Order.TheVariants.{Intel, Motorola}
use Rattle.bitlayout.specs.declared.place.Mux.TheVariants.{Always, Multiplexor, Under}
use Rattle.can_id.specs.declared.ident.Ident.TheVariants.{Std, Ext}
use Rattle.decimal.specs.Printing.{unsigned_text}
use Rattle.rows.specs.Fact.{of_change, of_decimal, of_digits, of_free, of_front, of_ident, of_layout, of_mark, of_maybe}
use Rattle.rows.specs.Fact.{of_mux, of_name, of_number, of_path, of_position, of_range, of_rest, of_runs, of_scale}
use Rattle.rows.specs.Fact.{of_share, of_word, of_words}
use Rattle.rows.specs.Json.{table_json}
use Rattle.rows.specs.Lines.{fact_text, table_text}
use Rattle.rows.specs.Table.{Listing, headed, plain, totalled}
use Rattle.rows.specs.declared.cell.Column.{Column}
use Rattle.rows.specs.declared.cell.Alignment.{Alignment}
use Rattle.rows.specs.declared.cell.Alignment.TheVariants as place
use Rattle.serde_json.proofs.OnLiterals.{serde_json_on_literals}

abbrev column : List ℕ → Alignment → Column
column name p = record { 0 = name; 1 = p }

abbrev columns : List Column
columns = column (codes "identifier  ") place.Plain ∷ column (codes "team        ") (place.Left 6)
    ∷ column (codes "free        ") (place.Counted 3) ∷ column (codes "releases    ") (place.Right 5)
    ∷ column (codes "numbers     ") place.Plain ∷ column (codes "comment     ") place.Plain ∷ []

abbrev run : ℕ → ℕ → Run
run first last = record { first = first; last = last }

-- five runs, of which a line has four
abbrev five : List Run
five = run 1 3 ∷ run 5 5 ∷ run 7 7 ∷ run 9 9 ∷ run 11 12 ∷ []

abbrev lists : Listing
lists = totalled
    (
    record {
      name = codes "live  ";
      columns = columns;
      rows = (of_ident (Some (Std 256)) ∷ of_word [] ∷ of_number 12 ∷ of_runs (run 1 2 ∷ []) ∷ of_free five
          ∷ of_rest (codes "a 50% lamp") ∷ []) ∷ [];
    }
    ∷ record {
      name = codes "spn   ";
      columns = column (codes "spn         ") (place.Right 4) ∷ column (codes "identifier  ") place.Plain
          ∷ column (codes "message     ") place.Plain ∷ [];
      rows = (of_number 84 ∷ of_ident None ∷ of_name (codes "-") ∷ []) ∷ [];
    }
    ∷ []
    )
    (column (codes "live        ") (place.Counted 0) ∷ column (codes "free_std    ") (place.Counted 0)
    ∷ column (codes "free_ext    ") (place.Again 0) ∷ [])
    (of_number 1 ∷ of_number 0 ∷ of_number 2 ∷ [])

as_lines : table_text lists
    ≡ codes "live         256 std 00000100      - -      free  12   1-2 1-3,5,7,9,.. a 50%25 lamp\n"
    ++ codes "spn     84          - -   -             - -\n"
    ++ codes "live 1 free std 0 ext 2\n"
unfolding digits
as_lines = refl

as_json : table_json lists
    ≡ codes "{\"live\":{\"columns\":[\"identifier\",\"team\",\"free\",\"releases\",\"numbers\",\"comment\"],\"rows\":["
    ++ (codes "{\"comment\":\"a 50% lamp\",\"free\":12,\"identifier\":"
    ++ (codes "{\"dbc\":256,\"form\":\"std\",\"number\":256,\"pgn\":null},"
    ++ (codes "\"numbers\":[[1,3],[5,5],[7,7],[9,9],[11,12]],\"releases\":[[1,2]],\"team\":null}]},"
    ++ (codes "\"spn\":{\"columns\":[\"spn\",\"identifier\",\"message\"],\"rows\":["
    ++ (codes "{\"identifier\":null,\"message\":null,\"spn\":84}]},"
    ++ codes "\"totals\":{\"free_ext\":2,\"free_std\":0,\"live\":1}}\n")))))
unfolding table_json digits utf8_lossy utf8_valid_len utf8_error_len is_utf8 chars serde_json_on_literals
as_json = refl

-- a list of one kind
as_one : table_json (plain (column (codes "node        ") place.Plain ∷ []) []
    (column (codes "nodes       ") (place.Counted 0) ∷ []) (of_number 0 ∷ []))
    ≡ codes "{\"columns\":[\"node\"],\"rows\":[],\"totals\":{\"nodes\":0}}\n"
unfolding table_json digits utf8_lossy utf8_valid_len utf8_error_len is_utf8 chars serde_json_on_literals
as_one = refl

-- what JSON's numbers of 64 bits can't hold, and a byte that isn't UTF-8
as_texts : table_json (plain (column (codes "comment     ") place.Plain ∷ []) ((of_rest (255 ∷ []) ∷ []) ∷ [])
    (column (codes "free        ") (place.Counted 0) ∷ []) (of_number 18446744073709551616 ∷ []))
    ≡ codes "{\"columns\":[\"comment\"],\"rows\":[{\"comment\":\""
    ++ (239 ∷ 191 ∷ 189 ∷ codes "\"}],\"totals\":{\"free\":\"18446744073709551616\"}}\n")
unfolding table_json digits utf8_lossy utf8_valid_len utf8_error_len is_utf8 chars serde_json_on_literals
as_texts = refl

-- ---- what has changed

abbrev changed : Listing
changed = plain
    (column (codes "breaks      ") place.Plain ∷ column (codes "name        ") place.Plain
    ∷ column (codes "change      ") place.Plain ∷ [])
    ((of_mark true ∷ of_path (codes "Lamp") (Some (codes "On"))
    ∷ of_change (codes "unit") (Some (codes "-", codes "km%20h")) ∷ [])
    ∷ (of_mark false ∷ of_path (codes "-") None ∷ of_change (codes "added") None ∷ []) ∷ [])
    (column (codes "breaking    ") (place.Counted 0) ∷ []) (of_number 1 ∷ [])

changed_as_lines : table_text changed
    ≡ codes "! Lamp.On unit - -> km%20h\n"
    ++ codes ". - added\n"
    ++ codes "breaking 1\n"
unfolding digits
changed_as_lines = refl

changed_as_json : table_json changed
    ≡ codes "{\"columns\":[\"breaks\",\"name\",\"change\"],\"rows\":["
    ++ (codes "{\"breaks\":true,\"change\":{\"new\":\"km%20h\",\"old\":null,\"word\":\"unit\"},\"name\":\"Lamp.On\"},"
    ++ (codes "{\"breaks\":false,\"change\":{\"new\":null,\"old\":null,\"word\":\"added\"},\"name\":null}],"
    ++ codes "\"totals\":{\"breaking\":1}}\n"))
unfolding table_json digits utf8_lossy utf8_valid_len utf8_error_len is_utf8 chars serde_json_on_literals
changed_as_json = refl

-- a row that stands upright, and rows of signals
abbrev whole : ℕ → Number
whole n = record { mantissa = pos n; exponent = pos 0 }

-- 0.5
abbrev half : Number
half = record { mantissa = pos 5; exponent = negsuc 0 }

abbrev upright : Listing
upright = headed
    (column (codes "identifier  ") place.Plain ∷ column (codes "pgn         ") place.Plain
    ∷ column (codes "priority    ") place.Plain ∷ column (codes "lacking     ") place.Plain
    ∷ column (codes "approved    ") place.Plain ∷ column (codes "submitted   ") place.Plain ∷ [])
    (of_digits (Ext 217056510) ∷ of_maybe (Some 61444) ∷ of_maybe None ∷ of_share 1 2
    ∷ of_words (codes "brakes" ∷ codes "a,b" ∷ []) ∷ of_words [] ∷ [])
    (record {
      name = codes "signal ";
      columns = column (codes "layout      ") (place.Right 8) ∷ column (codes "multiplexer ") (place.Left 4)
          ∷ column (codes "scale       ") place.Plain ∷ column (codes "range       ") place.Plain
          ∷ column (codes "value       ") place.Plain ∷ [];
      rows =
          (of_layout (record { start = 8; size = 8; order = Intel }) false ∷ of_mux Always
          ∷ of_scale half (record { mantissa = negsuc 124; exponent = pos 0 }) ∷ of_range (whole 0) (whole 125)
          ∷ of_decimal half ∷ [])
          ∷ (of_layout (record { start = 7; size = 32; order = Motorola }) true ∷ of_mux (Under 3)
          ∷ of_scale (whole 1) (whole 0) ∷ of_range (whole 0) (whole 0) ∷ of_decimal (whole 3) ∷ [])
          ∷ [];
    } ∷ [])

upright_as_lines : table_text upright
    ≡ codes "identifier  ext 0cf004fe\npgn         61444\npriority    -\nlacking     1 of 2\n"
    ++ (codes "approved    brakes,a%2cb\nsubmitted   -\n"
    ++ (codes "signal   8|8@1+ -    (0.5,-125) [0|125] 0.5\n"
    ++ codes "signal  7|32@0- m3   (1,0) [0|0] 3\n"))
unfolding digits unsigned_text
upright_as_lines = refl

upright_as_json : table_json upright
    ≡ codes "{\"approved\":[\"brakes\",\"a,b\"],\"identifier\":"
    ++ (codes "{\"dbc\":2364540158,\"form\":\"ext\",\"number\":217056510,\"pgn\":61444},"
    ++ (codes "\"lacking\":{\"count\":1,\"of\":2},\"pgn\":61444,\"priority\":null,"
    ++ (codes "\"signal\":{\"columns\":[\"layout\",\"multiplexer\",\"scale\",\"range\",\"value\"],\"rows\":["
    ++ (codes "{\"layout\":{\"order\":\"intel\",\"signed\":false,\"size\":8,\"start\":8},\"multiplexer\":null,"
    ++ (codes "\"range\":{\"maximum\":\"125\",\"minimum\":\"0\"},"
    ++ (codes "\"scale\":{\"factor\":\"0.5\",\"offset\":\"-125\"},\"value\":\"0.5\"},"
    ++ (codes "{\"layout\":{\"order\":\"motorola\",\"signed\":true,\"size\":32,\"start\":7},\"multiplexer\":\"m3\","
    ++ (codes "\"range\":{\"maximum\":\"0\",\"minimum\":\"0\"},"
    ++ codes "\"scale\":{\"factor\":\"1\",\"offset\":\"0\"},\"value\":\"3\"}]},\"submitted\":[]}\n"))))))))
unfolding table_json digits unsigned_text utf8_lossy utf8_valid_len utf8_error_len is_utf8 chars serde_json_on_literals
upright_as_json = refl

-- how texts begin, and a place in a file
abbrev begun : Listing
begun = plain (column (codes "place       ") place.Plain ∷ column (codes "request     ") place.From ∷ [])
    ((of_position 2 18 ∷ of_front (codes "bundle net=truck") true ∷ [])
    ∷ (of_position 3 1 ∷ of_front (codes "a%b") false ∷ []) ∷ [])
    [] []

begun_as_lines : table_text begun ≡ codes "2:18 <- bundle net=truck ..\n3:1 <- a%25b\n"
unfolding digits
begun_as_lines = refl

begun_as_json : table_json begun
    ≡ codes "{\"columns\":[\"place\",\"request\"],\"rows\":["
    ++ (codes "{\"place\":{\"column\":18,\"line\":2},\"request\":\"bundle net=truck ..\"},"
    ++ codes "{\"place\":{\"column\":1,\"line\":3},\"request\":\"a%b\"}]}\n")
unfolding table_json digits utf8_lossy utf8_valid_len utf8_error_len is_utf8 chars serde_json_on_literals
begun_as_json = refl

a_multiplexor : fact_text (of_mux Multiplexor) ≡ codes "M"
a_multiplexor = refl
