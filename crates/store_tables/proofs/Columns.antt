-- Columns of a row without its rowid, and values that a column takes as they are.
use Rattle.store_tables.proofs.Common.{◌≡◌, ℕ, ℤ, suc, pos, List, [], ◌∷◌, cond, Bool, true, false, refl, sym, ap, ◌∙◌}
use Rattle.store_tables.proofs.Common.{is_eq, Value, Null, Int, Text, Row, column, value_cmp, is_true, Compare, Eq}
use Rattle.store_tables.proofs.Common.{Binary}
use Rattle.sqlite.specs.Ops.{unary, binary}
use Rattle.sqlite.specs.Cast.{cast}
use Rattle.sqlite.specs.Kind.TheVariants.{Integer}
use Rattle.store_tables.specs.Tables.{values, keyed_values}
use Rattle.store_tables.specs.Selected.{has_text, has_number}
use Rattle.store_tables.proofs.Selecting.{holds_text, holds_int}

-- the columns come after the rowid
pub column_is : (r : Row) (at : ℕ) → column (values r) at ≡ column r (suc at)
column_is [] at = refl
column_is (v ∷ r) at = refl

-- of a row whose rowid is its key, the others come after the column that is NULL
pub keyed_column_is : (r : Row) (at : ℕ) → column (keyed_values r) (suc at) ≡ column r (suc (suc at))
keyed_column_is [] at = refl
keyed_column_is (v ∷ []) at = refl
keyed_column_is (v ∷ w ∷ r) at = refl

either : (b : Bool) (x : Value) → cond b x x ≡ x
either true x = refl
either false x = refl

pub cast_null : cast Integer Null ≡ Null
unfolding unary
cast_null = either _ Null

pub cast_number : (n : ℕ) → cast Integer (Int (pos n)) ≡ Int (pos n)
unfolding unary
cast_number n = either _ (Int (pos n))

pub cast_int : (n : ℤ) → cast Integer (Int n) ≡ Int n
unfolding unary
cast_int n = either _ (Int n)

-- what WHERE requires of a column is what the definition requires
pub text_requested : (at : ℕ) (text : List ℕ) (r : Row)
    → has_text at text (values r) ≡ is_true (binary (Compare Eq Binary) (column r (suc at)) (Text text))
text_requested at text r = ap (λ v. is_eq (value_cmp v (Text text))) (column_is r at)
    ∙ sym (holds_text (column r (suc at)) text)

pub number_requested : (at n : ℕ) (r : Row)
    → has_number at n (values r) ≡ is_true (binary (Compare Eq Binary) (column r (suc at)) (Int (pos n)))
number_requested at n r = ap (λ v. is_eq (value_cmp v (Int (pos n)))) (column_is r at)
    ∙ sym (holds_int (column r (suc at)) (pos n))

pub key_requested : (n : ℕ) (r : Row)
    → has_number 0 n (keyed_values r) ≡ is_true (binary (Compare Eq Binary) (column r 0) (Int (pos n)))
key_requested n r = sym (holds_int (column r 0) (pos n))
