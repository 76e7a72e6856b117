-- Lists.
use Rattle.std.specs.Prelude.{ℕ, List, [], ◌∷◌}
use Rattle.rows.specs.Fact.{Fact}
use Rattle.rows.specs.declared.cell.Column.{Column}

-- rows of one kind; no name where a list has no other, and else with the spaces that a line has after it
pub record Kind : Type 0 where
  pub name : List ℕ
  pub columns : List Column
  pub rows : List (List Fact)

-- a first row that stands upright, the kinds of rows, and a last row with the totals; the first and the last one under
-- columns of their own, which are none where there is no such row
pub record Listing : Type 0 where
  pub head_columns : List Column
  pub head : List Fact
  pub kinds : List Kind
  pub total_columns : List Column
  pub totals : List Fact

-- kinds of rows, and totals
abbrev pub totalled : List Kind → List Column → List Fact → Listing
totalled kinds total_columns totals = record {
  head_columns = [];
  head = [];
  kinds = kinds;
  total_columns = total_columns;
  totals = totals;
}

-- rows of one kind
abbrev pub plain : List Column → List (List Fact) → List Column → List Fact → Listing
plain columns rows total_columns totals =
    totalled (record { name = []; columns = columns; rows = rows } ∷ []) total_columns totals

-- a row that stands upright, and kinds of rows
abbrev pub headed : List Column → List Fact → List Kind → Listing
headed head_columns head kinds = record {
  head_columns = head_columns;
  head = head;
  kinds = kinds;
  total_columns = [];
  totals = [];
}
