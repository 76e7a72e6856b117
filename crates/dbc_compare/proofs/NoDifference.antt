-- A list of differences says that there are none exactly where there are none.
use Rattle.dbc_compare.proofs.Common.{◌≡◌, ◌∷◌, [], Bool, true, false, List, map, refl, sym, ◌∙◌, Sheet}
use Rattle.std.proofs.Common.{true≢false}
use Rattle.std.specs.Prelude.{IsTrue, ◌↔◌}
use Rattle.std.specs.Str.{chars, is_utf8}
use Rattle.std.specs.Str.Lossy.{utf8_error_len, utf8_lossy, utf8_valid_len}
use Rattle.dbc_sheet.specs.Pairs.{counts_of}
use Rattle.dbc_sheet.specs.declared.counts.Counts.{Counts}
use Rattle.dbc_compare.specs.Differences.{differences}
use Rattle.dbc_compare.specs.Laws.{ListTellsApart, TellsApart}
use Rattle.dbc_compare.specs.List.{breaks, change_fact, difference_row, differences_table, has_no_difference, ident_at}
use Rattle.dbc_compare.specs.List.{kind_word, name_fact}
use Rattle.dbc_compare.specs.declared.difference.Difference.{Difference}
use Rattle.dbc_compare.specs.declared.list.TheConstants.{DIFFERENCES, DIFFERENCE_TOTALS}
use Rattle.rows.specs.Fact.{Fact, of_ident, of_mark, of_name}
use Rattle.rows.specs.Json.{list_text, table_json}
use Rattle.rows.specs.Lines.{table_text}
use Rattle.rows.specs.Table.{plain}
use Rattle.serde_json.proofs.OnLiterals.{serde_json_on_literals}

-- no line of a difference begins as the last line does
marked : (b : Bool) (row : List Fact) (rows : List (List Fact)) (totals : List Fact)
    → has_no_difference false (table_text (plain DIFFERENCES ((of_mark b ∷ row) ∷ rows) DIFFERENCE_TOTALS totals))
    ≡ false
marked true row rows totals = refl
marked false row rows totals = refl

some_differ : (json : Bool) (d : Difference) (found : List Difference) (counts : Counts)
    → has_no_difference json (list_text json (differences_table (d ∷ found) counts)) ≡ false
unfolding table_json utf8_lossy utf8_valid_len utf8_error_len is_utf8 chars serde_json_on_literals
some_differ true d found counts = refl
some_differ false d found counts =
    marked (breaks d)
    (of_name (kind_word d.place d.name) ∷ of_ident (ident_at d.place) ∷ name_fact d.place d.name
    ∷ change_fact d.change ∷ [])
    (map difference_row found) (differences_table (d ∷ found) counts).totals

none_differs : (json : Bool) (counts : Counts)
    → has_no_difference json (list_text json (differences_table [] counts)) ≡ true
unfolding table_json utf8_lossy utf8_valid_len utf8_error_len is_utf8 chars serde_json_on_literals
none_differs true counts = refl
none_differs false counts = refl

says : (json : Bool) (found : List Difference) (counts : Counts)
    → IsTrue (has_no_difference json (list_text json (differences_table found counts))) ↔ (found ≡ [])
says json [] counts = ((λ _. refl), (λ _. none_differs json counts))
says json (d ∷ found) counts = (
  (λ is. absurd (true≢false (sym is ∙ some_differ json d found counts))),
  (λ none. cc),
)

pub list_tells_apart : (old new : Sheet) → TellsApart old new → ListTellsApart old new
list_tells_apart old new apart json =
    let said = says json (differences old new) (counts_of old.messages new.messages) in
    ((λ is. apart.0 (said.0 is)), (λ same. said.1 (apart.1 same)))
