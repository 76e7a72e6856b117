-- The rows of the profile, where tables hold a history, say which profile it is: the sums of their numbers differ.
use Rattle.store_migrate.proofs.Common.{◌≡◌, ◌∙◌, ℕ, ◌+◌, ◌<◌, pos, List, [], ◌∷◌, inl, inr, map, refl, sym, ap, subst}
use Rattle.store_migrate.proofs.Common.{arith, is_lt, IsPermutation-refl, Int, Row, column, One, Two, Tables, Answered}
use Rattle.std.proofs.Common.{zero, suc}
use Rattle.std.specs.Prelude.{All as Each, IsPermutation, IsSorted, filter, sum_by}
use Rattle.std.proofs.lemmas.List.Elements.{All-from_recursion}
use Rattle.std.proofs.lemmas.List.Sorted.{IsPermutation-sym, IsPermutation-trans, sum_by-IsPermutation}
use Rattle.std.proofs.lemmas.List.Sums.{sum_by-cons}
use Rattle.std.proofs.lemmas.Map.Views.{All-map-IsPermutation}
use Rattle.sqlite.specs.declared.types.Value.{Value}
use Rattle.store_tables.specs.Selected.{IsSelected}
use Rattle.store_statements.specs.Rows.{is_any}
use Rattle.store_statements.specs.Shown.{profile_order, profile_shown}
use Rattle.store_rows.proofs.Keys.{int_test}
use Rattle.store_migrate.specs.Forms.{body_marks, row_marks}
use Rattle.store_migrate.specs.InForm.{HoldsAs}
use Rattle.store_migrate.specs.ProfileRows.{HasProfileRows, IsKnownProfileRow}
use Rattle.store_migrate.specs.declared.forms.SchemaForm.{SchemaForm}
use Rattle.store_migrate.specs.declared.forms.SchemaForm.TheVariants.{Bodies, Foreign}
use Rattle.store_migrate.specs.declared.profile_rows.ProfileRows.TheVariants as marks

-- the number in a row's second column
abbrev number_of : Value → ℕ
number_of (Int (pos n)) = n
number_of v = 0

abbrev second_number : Row → ℕ
second_number row = number_of (column row 1)

abbrev total : List Row → ℕ
total rows = sum_by second_number rows

shown_total : (rows : List Row) → total (map profile_shown rows) ≡ total rows
shown_total [] = refl
shown_total (r ∷ rows) = sum_by-cons second_number (profile_shown r) (map profile_shown rows)
    ∙ ap (λ n. second_number r + n) (shown_total rows) ∙ sym (sum_by-cons second_number r rows)

-- rows as they are read have the sum of the table's
selected_total : (t : Tables) (rows : List Row) → IsSelected is_any profile_shown profile_order t.profile rows
    → total rows ≡ total (filter is_any t.profile)
selected_total t rows sel = ap total sel.is ∙ shown_total sel.found
    ∙ sum_by-IsPermutation second_number (filter is_any t.profile) sel.found sel.same

-- those of the second profile have the sum 4
second_is_not : (t : Tables) (n : ℕ) → total (filter is_any t.profile) ≡ n → n < 4 → HasProfileRows t marks.Second → ⊥
second_is_not t n sum below has =
    let four : 4 ≡ n = sym (ap total has.2) ∙ selected_total t has.0 has.1 ∙ sum in
    omega (arith, four, below)

-- rows that say the second profile don't say the first
pub second_or_bodies : (t : Tables) → HasProfileRows t marks.Second → HasProfileRows t marks.Bodies → ⊥
second_or_bodies t has other = second_is_not t 1 (sym (selected_total t other.0 other.1) ∙ ap total other.2)
    (omega arith) has

pub second_or_first : (t : Tables) → HasProfileRows t marks.Second → HasProfileRows t marks.First → ⊥
second_or_first t has other = second_is_not t 3 (sym (selected_total t other.0 other.1) ∙ ap total other.2)
    (omega arith) has

-- rows that are all known don't say that the profile is newer
known_or_newer : (t : Tables) (rows : List Row) → IsSelected is_any profile_shown profile_order t.profile rows
    → Each IsKnownProfileRow rows → HasProfileRows t marks.Newer → ⊥
known_or_newer t rows sel known newer =
    let other = newer.1 in
    let table = filter is_any t.profile in
    let same = IsPermutation-trans sel.found table other.found (IsPermutation-sym table sel.found sel.same)
    other.same in
    newer.2 (subst (Each IsKnownProfileRow) (sym other.is)
    (All-map-IsPermutation profile_shown IsKnownProfileRow sel.found other.found same
    (subst (Each IsKnownProfileRow) sel.is known)))

pub bodies_or_newer : (t : Tables) → HasProfileRows t marks.Bodies → HasProfileRows t marks.Newer → ⊥
bodies_or_newer t has newer =
    let known = All-from_recursion IsKnownProfileRow body_marks (inl refl, tt {0}) in
    known_or_newer t has.0 has.1 (subst (Each IsKnownProfileRow) (sym has.2) known) newer

pub first_or_newer : (t : Tables) → HasProfileRows t marks.First → HasProfileRows t marks.Newer → ⊥
first_or_newer t has newer =
    let known = All-from_recursion IsKnownProfileRow (row_marks One) (inl refl, (inr (inr refl), tt {0})) in
    known_or_newer t has.0 has.1 (subst (Each IsKnownProfileRow) (sym has.2) known) newer

pub second_or_newer : (t : Tables) → HasProfileRows t marks.Second → HasProfileRows t marks.Newer → ⊥
second_or_newer t has newer =
    let known = All-from_recursion IsKnownProfileRow (row_marks Two) (inr (inl refl), (inr (inr refl), tt {0})) in
    known_or_newer t has.0 has.1 (subst (Each IsKnownProfileRow) (sym has.2) known) newer

-- tables with the rows of those that hold a history of the first profile don't say the second
pub not_second : (form : SchemaForm) (h : List Answered) (t u : Tables) → t.profile ≡ u.profile → HoldsAs One form h t
    → HasProfileRows u marks.Second → ⊥
not_second Bodies h t u same holds has =
    second_is_not u 1 (ap (λ l. total (filter is_any l)) (sym same ∙ holds.holds.profile)) (omega arith) has
not_second Foreign h t u same holds has = holds
not_second it h t u same holds has =
    second_is_not u 3 (ap (λ l. total (filter is_any l)) (sym same ∙ holds.holds.profile)) (omega arith) has

second_sorted : IsSorted profile_order (row_marks Two)
second_sorted zero d low high = ap is_lt (int_test 2 1)
second_sorted (suc k) d low high = absurd (omega (arith, high))

says_second : (t : Tables) → t.profile ≡ row_marks Two → HasProfileRows t marks.Second
says_second t same = (
  row_marks Two,
  record {
    found = row_marks Two;
    same = subst (λ l. IsPermutation (filter is_any l) (row_marks Two)) (sym same) (IsPermutation-refl (row_marks Two));
    sorted = second_sorted;
    is = refl;
  },
  refl,
)

-- those of the second profile say it
pub is_second : (form : SchemaForm) (h : List Answered) (t u : Tables) → t.profile ≡ u.profile → HoldsAs Two form h t
    → HasProfileRows u marks.Second
is_second Bodies h t u same holds = absurd holds
is_second Foreign h t u same holds = absurd holds
is_second it h t u same holds = says_second u (sym same ∙ holds.holds.profile)
