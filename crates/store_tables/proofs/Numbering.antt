-- A table whose rowids ascend: the row with the next one goes to its end.
use Rattle.store_tables.proofs.Common.{◌≡◌, ℤ, pos, List, [], ◌∷◌, ◌++◌, refl, sym, arith, IsTrue, AllByRecursion, Less}
use Rattle.store_tables.proofs.Common.{Value, Int, Row, value_cmp, rowid, put_row, id_in, next_rowid, IsShaped, is_int}
use Rattle.store_tables.proofs.Common.{value_cmp_total}
use Rattle.std.proofs.Common.{fold}
use Rattle.std.proofs.lemmas.Int.{ints}
use Rattle.std.specs.Prelude.{◌+ℤ◌}
use Rattle.std.specs.Ordering.{int_cmp}
use Rattle.std.specs.Cmp.{int_cmp_is}
use Rattle.sqlite_trees.specs.declared.store.Shape.TheVariants as shape
use Rattle.sqlite_value.proofs.OrderLemmas.{value_cmp-Int}

put_last : (new : Row) (rows : List Row) → AllByRecursion (λ r. value_cmp (rowid r) (rowid new) ≡ Less) rows
    → put_row new rows ≡ rows ++ new ∷ []
put_last new [] below = refl
put_last new (r ∷ rows) below = rw (below.0, put_last new rows below.1)

pub int_is : (v : Value) → IsTrue (is_int v) → v ≡ Int (id_in v)
int_is (Int n) h = refl
int_is it h = absurd (cc)

one_more : (n : ℤ) → int_cmp n (n +ℤ pos 1) ≡ Less
one_more n = sym (int_cmp_is n (n +ℤ pos 1) Less (omega (arith, ints)))

below_top : (first : Row) (rows : List Row) → IsTrue (is_int (rowid first)) → IsShaped shape.Table rows
    → AllByRecursion (λ r. value_cmp (rowid first) (rowid r) ≡ Less) rows
    → AllByRecursion (λ r. value_cmp (rowid r)
    (Int (fold (λ _ r. id_in (rowid r) +ℤ pos 1) (id_in (rowid first) +ℤ pos 1) rows)) ≡ Less) (first ∷ rows)
below_top first [] keyed shaped above = (
  rw (int_is (rowid first) keyed, value_cmp-Int (id_in (rowid first)) (id_in (rowid first) +ℤ pos 1))
      (one_more (id_in (rowid first))),
  tt,
)
below_top first (r ∷ rows) keyed shaped above =
    let more = below_top r rows shaped.1.0 (shaped.0.1, shaped.1.1) shaped.0.0 in
    (value_cmp_total.trans _ _ _ above.0 more.0, more)

pub below_next : (rows : List Row) → IsShaped shape.Table rows
    → AllByRecursion (λ r. value_cmp (rowid r) (Int (next_rowid rows)) ≡ Less) rows
below_next [] shaped = tt
below_next (r ∷ rows) shaped = below_top r rows shaped.1.0 (shaped.0.1, shaped.1.1) shaped.0.0

-- the row that gets the next number goes to the end
pub put_next : (rows : List Row) (row : Row) → IsShaped shape.Table rows
    → put_row (Int (next_rowid rows) ∷ row) rows ≡ rows ++ (Int (next_rowid rows) ∷ row) ∷ []
put_next rows row shaped = put_last _ rows (below_next rows shaped)
