-- What WHERE requires of a row of the tree is what the definitions require of the row as it is shown.
use Rattle.store_statements.proofs.Common.{◌≡◌, ℕ, pos, List, [], ◌∷◌, refl, ap, sym, ◌∙◌, filter, Null, Int, Text, Row}
use Rattle.store_statements.proofs.Common.{column, value_cmp, Term, col, values, keyed_values, column_is}
use Rattle.std.specs.List.{list_all}
use Rattle.std.specs.Prelude.{◌&&◌, not}
use Rattle.std.specs.Ordering.{is_ge, is_gt, is_le, is_lt}
use Rattle.sqlite.specs.Ops.{binary, is_true}
use Rattle.sqlite_value.proofs.OrderLemmas.{value_cmp-Null}
use Rattle.sqlite.specs.declared.types.Value.{Value}
use Rattle.sqlite.specs.declared.types.Value.TheVariants.{Real, Blob}
use Rattle.sqlite.specs.Term.{op2, holds}
use Rattle.sqlite.specs.Collation.TheVariants.{Binary}
use Rattle.sqlite_sql.specs.declared.ops.BinaryOp.TheVariants.{Compare}
use Rattle.sqlite_sql.specs.declared.ops.CompareOp.TheVariants.{Eq, Ge, Gt, Le, Lt}
use Rattle.store_tables.proofs.Selecting.{and_true, truth_of}
use Rattle.store_tables.proofs.Columns.{text_requested, number_requested, key_requested}
use Rattle.store_statements.specs.Rows.{is_of_net, has_name_of, has_net_and_name, has_net_and_number}
use Rattle.store_statements.specs.Rows.{has_number_between, has_place_of, has_rowid_above, has_rowid_below, is_below}
use Rattle.store_statements.specs.Rows.{is_between, is_block, is_of_form, has_two_texts, is_any, is_number}

-- the column of the table is the parameter at this index
abbrev pub is_parameter : ℕ → ℕ → Term
is_parameter at index = op2 (Compare Eq Binary) (col 1 at) (col 0 index)

abbrev pub one_test : List Term
one_test = is_parameter 1 0 ∷ []

abbrev pub two_tests : List Term
two_tests = is_parameter 1 0 ∷ is_parameter 2 1 ∷ []

abbrev pub name_tests : List Term
name_tests = is_parameter 1 0 ∷ is_parameter 3 1 ∷ []

abbrev pub three_tests : List Term
three_tests = is_parameter 1 0 ∷ is_parameter 2 1 ∷ is_parameter 3 2 ∷ []

abbrev pub signal_tests : List Term
signal_tests = is_parameter 1 0 ∷ is_parameter 2 1 ∷ is_parameter 4 2 ∷ []

abbrev pub form_test : List Term
form_test = is_parameter 2 0 ∷ []

abbrev pub key_test : List Term
key_test = is_parameter 0 0 ∷ []

pub net_requested : (net : List ℕ) (r : Row) → is_of_net net (values r) ≡ list_all (holds ((Text net ∷ []) ∷ r ∷ []))
    one_test
net_requested net r = text_requested 0 net r ∙ sym (and_true _)

pub numbered_requested : (net : List ℕ) (number : ℕ) (r : Row)
    → has_net_and_number net number (values r) ≡ list_all (holds ((Text net ∷ Int (pos number) ∷ []) ∷ r ∷ []))
    two_tests
numbered_requested net number r =
    let first = text_requested 0 net r in
    let second = number_requested 1 number r ∙ sym (and_true _) in
    rw (first, second)

pub block_requested : (net : List ℕ) (form first : ℕ) (r : Row)
    → is_block net form first (values r)
    ≡ list_all (holds ((Text net ∷ Int (pos form) ∷ Int (pos first) ∷ []) ∷ r ∷ [])) three_tests
block_requested net form first r =
    let a = text_requested 0 net r in
    let b = number_requested 1 form r in
    let c = number_requested 2 first r ∙ sym (and_true _) in
    rw (a, b, c)

pub place_requested : (net : List ℕ) (number place : ℕ) (r : Row)
    → has_place_of net number place (values r)
    ≡ list_all (holds ((Text net ∷ Int (pos number) ∷ Int (pos place) ∷ []) ∷ r ∷ [])) three_tests
place_requested net number place r = block_requested net number place r

pub signal_requested : (net : List ℕ) (number : ℕ) (name : List ℕ) (r : Row)
    → has_name_of net number name (values r)
    ≡ list_all (holds ((Text net ∷ Int (pos number) ∷ Text name ∷ []) ∷ r ∷ [])) signal_tests
signal_requested net number name r =
    let a = text_requested 0 net r in
    let b = number_requested 1 number r in
    let c = text_requested 3 name r ∙ sym (and_true _) in
    rw (a, b, c)

pub form_requested : (form : ℕ) (r : Row)
    → is_of_form form (values r) ≡ list_all (holds ((Int (pos form) ∷ []) ∷ r ∷ [])) form_test
form_requested form r = number_requested 1 form r ∙ sym (and_true _)

pub texts_requested : (one other : List ℕ) (r : Row)
    → has_two_texts one other (values r) ≡ list_all (holds ((Text one ∷ Text other ∷ []) ∷ r ∷ [])) two_tests
texts_requested one other r =
    let first = text_requested 0 one r in
    let second = text_requested 1 other r ∙ sym (and_true _) in
    rw (first, second)

pub number_requested_alone : (number : ℕ) (r : Row)
    → is_number number (keyed_values r) ≡ list_all (holds ((Int (pos number) ∷ []) ∷ r ∷ [])) key_test
number_requested_alone number r = key_requested number r ∙ sym (and_true _)

pub named_requested : (net name : List ℕ) (r : Row)
    → has_net_and_name net name (values r) ≡ list_all (holds ((Text net ∷ Text name ∷ []) ∷ r ∷ [])) name_tests
named_requested net name r =
    let first = text_requested 0 net r in
    let second = text_requested 2 name r ∙ sym (and_true _) in
    rw (first, second)

abbrev pub range_tests : List Term
range_tests = is_parameter 1 0 ∷ op2 (Compare Ge Binary) (col 1 2) (col 0 1) ∷ op2 (Compare Le Binary) (col 1 2)
    (col 0 2) ∷ []

between_requested : (first last : ℕ) (v : Value)
    → is_between first last v
    ≡ (is_true (binary (Compare Ge Binary) v (Int (pos first)))
    && is_true (binary (Compare Le Binary) v (Int (pos last))))
unfolding binary
between_requested first last Null = rw (value_cmp-Null (Int (pos first))) refl
between_requested first last (Int n) =
    rw (truth_of (is_ge (value_cmp (Int n) (Int (pos first)))), truth_of (is_le (value_cmp (Int n) (Int (pos last)))))
    refl
between_requested first last (Real x) =
    rw (truth_of (is_ge (value_cmp (Real x) (Int (pos first)))), truth_of (is_le (value_cmp (Real x) (Int (pos last)))))
    refl
between_requested first last (Text s) =
    rw (truth_of (is_ge (value_cmp (Text s) (Int (pos first)))), truth_of (is_le (value_cmp (Text s) (Int (pos last)))))
    refl
between_requested first last (Blob b) =
    rw (truth_of (is_ge (value_cmp (Blob b) (Int (pos first)))), truth_of (is_le (value_cmp (Blob b) (Int (pos last)))))
    refl

pub range_requested : (net : List ℕ) (first last : ℕ) (r : Row)
    → has_number_between net first last (values r)
    ≡ list_all (holds ((Text net ∷ Int (pos first) ∷ Int (pos last) ∷ []) ∷ r ∷ [])) range_tests
range_requested net first last r =
    let a = text_requested 0 net r in
    let b = ap (is_between first last) (column_is r 1) ∙ between_requested first last (column r 2) in
    rw (a, b, and_true (is_true (binary (Compare Le Binary) (column r 2) (Int (pos last))))) refl

-- ---- rowids

abbrev pub above_test : List Term
above_test = op2 (Compare Gt Binary) (col 1 0) (col 0 0) ∷ []

abbrev pub below_test : List Term
below_test = op2 (Compare Lt Binary) (col 1 0) (col 0 0) ∷ []

gt_requested : (n : ℕ) (v : Value)
    → is_gt (value_cmp v (Int (pos n))) ≡ is_true (binary (Compare Gt Binary) v (Int (pos n)))
unfolding binary
gt_requested n Null = rw (value_cmp-Null (Int (pos n))) refl
gt_requested n (Int m) = sym (truth_of (is_gt (value_cmp (Int m) (Int (pos n)))))
gt_requested n (Real x) = sym (truth_of (is_gt (value_cmp (Real x) (Int (pos n)))))
gt_requested n (Text s) = sym (truth_of (is_gt (value_cmp (Text s) (Int (pos n)))))
gt_requested n (Blob b) = sym (truth_of (is_gt (value_cmp (Blob b) (Int (pos n)))))

pub above_requested : (n : ℕ) (r : Row)
    → has_rowid_above n r ≡ list_all (holds ((Int (pos n) ∷ []) ∷ r ∷ [])) above_test
above_requested n r = gt_requested n (column r 0) ∙ sym (and_true _)

lt_requested : (n : ℕ) (v : Value) → is_below n v ≡ is_true (binary (Compare Lt Binary) v (Int (pos n)))
unfolding binary
lt_requested n Null = refl
lt_requested n (Int m) = sym (truth_of (is_lt (value_cmp (Int m) (Int (pos n)))))
lt_requested n (Real x) = sym (truth_of (is_lt (value_cmp (Real x) (Int (pos n)))))
lt_requested n (Text s) = sym (truth_of (is_lt (value_cmp (Text s) (Int (pos n)))))
lt_requested n (Blob b) = sym (truth_of (is_lt (value_cmp (Blob b) (Int (pos n)))))

pub below_requested : (n : ℕ) (r : Row)
    → has_rowid_below n r ≡ list_all (holds ((Int (pos n) ∷ []) ∷ r ∷ [])) below_test
below_requested n r = lt_requested n (column r 0) ∙ sym (and_true _)

-- ---- every row

pub none_left : (rows : List Row) → filter (λ row. not (is_any row)) rows ≡ []
none_left [] = refl
none_left (r ∷ rows) = none_left rows

pub all_wanted : (rows : List Row) → filter is_any rows ≡ rows
all_wanted [] = refl
all_wanted (r ∷ rows) = ap (λ l. r ∷ l) (all_wanted rows)
