-- What a SELECT shows of a table.
use Rattle.std.specs.Prelude.{◌≡◌, ℕ, List, Bool, filter, map, pos, take, IsPermutation, IsSorted}
use Rattle.std.specs.Ordering.{flip_args, is_eq, on}
use Rattle.std.specs.declared.cmp.Ordering.{Ordering}
use Rattle.sqlite.specs.declared.types.Value.TheVariants.{Int, Text}
use Rattle.sqlite.specs.Order.{Row, column, value_cmp}

-- the wanted rows of the table, sorted by an order, as they are shown
pub record IsSelected (wanted : Row → Bool) (shown : Row → Row) (by : Row → Row → Ordering)
    (table rows : List Row) : Type 0 where
  pub found : List Row
  pub same : IsPermutation (filter wanted table) found
  pub sorted : IsSorted by found
  pub is : rows ≡ map shown found

-- the first of them, or no row where none is wanted
pub record IsFirstSelected (wanted : Row → Bool) (shown : Row → Row) (by : Row → Row → Ordering)
    (table rows : List Row) : Type 0 where
  pub all : List Row
  pub selected : IsSelected wanted shown by table all
  pub first : rows ≡ take 1 all

-- rows by the value of a column
abbrev pub by_column : ℕ → Row → Row → Ordering
by_column at = on (λ row. column row at) value_cmp

-- the greatest value first
abbrev pub by_column_descending : ℕ → Row → Row → Ordering
by_column_descending at = flip_args (by_column at)

-- the column has this text
abbrev pub has_text : ℕ → List ℕ → Row → Bool
has_text at text row = is_eq (value_cmp (column row at) (Text text))

-- the column has this number
abbrev pub has_number : ℕ → ℕ → Row → Bool
has_number at number row = is_eq (value_cmp (column row at) (Int (pos number)))
