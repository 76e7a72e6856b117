-- Remarks as a list.
use Rattle.std.specs.Prelude.{◌≡◌, ℕ, List, [], ◌∷◌, length, min, if◌then◌else◌}
use Rattle.std.specs.List.{flat_map}
use Rattle.dbc_statements.specs.Division.{IsDivided}
use Rattle.dbc_grammar.specs.Statement.{Statement}
use Rattle.dbc_sheet.specs.declared.sheet.Sheet.{Sheet}
use Rattle.dbc_advice.specs.Position.{position_at}
use Rattle.dbc_advice.specs.declared.position.Position.{Position}
use Rattle.dbc_lint.specs.Kind.{is_chosen, kind_name}
use Rattle.dbc_lint.specs.OfFile.{of_statements}
use Rattle.dbc_lint.specs.declared.remark.Remark.{Remark}
use Rattle.rows.specs.Fact.{Fact, of_name, of_position}

-- where it is, its kind, and what it is about
abbrev pub remark_row : Position → Remark → List Fact
remark_row p r = of_position p.line p.column ∷ of_name (kind_name r.kind) ∷ of_name r.words ∷ []

abbrev pub row_of : List ℕ → Remark → List Fact
row_of text r = remark_row (position_at text (min r.at (length text))) r

-- its row, if the names choose its kind
abbrev pub chosen_row : List ℕ → List ℕ → Remark → List (List Fact)
chosen_row text names r = if is_chosen names r.kind then row_of text r ∷ [] else []

-- the rows of the remarks whose kinds the names choose, in order
abbrev pub remark_rows : List ℕ → List ℕ → List Remark → List (List Fact)
remark_rows text names remarks = flat_map (chosen_row text names) remarks

-- the remarks on the sheet that the text reads as
pub record AreRemarks (text : List ℕ) (sheet : Sheet) (remarks : List Remark) : Type 0 where
  pub statements : List Statement
  pub divided : IsDivided text statements
  pub are : remarks ≡ of_statements text sheet statements
