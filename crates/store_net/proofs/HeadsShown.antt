-- A name is live if the query on it shows a row, and the query that counts shows how many live messages there are.
use Rattle.store_net.proofs.Common.{◌≡◌, ◌≤◌, ◌∙◌, ℕ, suc, ◌<◌, pos, Bool, true, false, cond, not, List, [], ◌∷◌}
use Rattle.store_net.proofs.Common.{filter, length, Some, refl, sym, ap, arith, ◌==◌, ◌||◌, min, list_any, bytes_eq}
use Rattle.store_net.proofs.Common.{length_permutation, Int, Row, column, has_name, LiveMessage, live_name, IsSelected}
use Rattle.store_net.proofs.Common.{Tables, is_of_net, AreLiveRows, IsMsgRow, live_rows, ShowsLive, one_number}
use Rattle.std.proofs.Common.{◌^◌}
use Rattle.std.specs.Prelude.{slice_get}
use Rattle.std.proofs.lemmas.Bool.{ne_eqb}
use Rattle.sqlite_sql.specs.Aggregate.{count}
use Rattle.store_statements.specs.Rows.{has_net_and_name}
use Rattle.store_statements.specs.Shown.{msg_named_order, msg_named_shown}
use Rattle.store_rows.proofs.LiveRows.{named_are_shown}
use Rattle.store_net.proofs.EachMessage.{count_shown}

not_none : (n : ℕ) → not (suc n == 0) ≡ true
not_none n = let none : (suc n == 0) ≡ false = ne_eqb (suc n) 0 (λ e. omega (arith, e)) in ap not none

any_of_filter : {X : Type 0} (test : X → Bool) (xs : List X) → not (length (filter test xs) == 0) ≡ list_any test xs
any_of_filter test [] = refl
any_of_filter test (x ∷ xs) = by_test (test x) (any_of_filter test xs)
  where
    by_test : (b : Bool) → not (length (filter test xs) == 0) ≡ list_any test xs
        → not (length (cond b (x ∷ filter test xs) (filter test xs)) == 0) ≡ (b || list_any test xs)
    by_test true rest = not_none (length (filter test xs))
    by_test false rest = rest

pub filter_shorter : {X : Type 0} (test : X → Bool) (xs : List X) → length (filter test xs) ≤ length xs
filter_shorter test [] = omega arith
filter_shorter test (x ∷ xs) = by_test (test x) (filter_shorter test xs)
  where
    by_test : (b : Bool) → length (filter test xs) ≤ length xs
        → length (cond b (x ∷ filter test xs) (filter test xs)) ≤ suc (length xs)
    by_test true rest = omega (arith, rest)
    by_test false rest = omega (arith, rest)

module _ (name : List ℕ) (t : Tables) (live : List LiveMessage) (h : AreLiveRows name (live_rows name t) live) where
  -- the message of the name is there if a row is shown
  pub named_by_rows : (message : List ℕ) (rows : List Row)
      → IsSelected (has_net_and_name name message) msg_named_shown msg_named_order t.msg rows
      → not (length rows == 0) ≡ has_name live_name live message
  named_by_rows message rows sel =
      let named = filter (λ m. bytes_eq (live_name m) message) live in
      ap (λ n. not (n == 0)) (count_shown ShowsLive named rows (named_are_shown name t live message rows h sel))
      ∙ any_of_filter (λ m. bytes_eq (live_name m) message) live

  pub rows_counted : length (filter (is_of_net name) t.msg) ≡ length live
  rows_counted =
      sym (length_permutation (filter (is_of_net name) t.msg) h.messages.found h.messages.same)
      ∙ count_shown (IsMsgRow name) live h.messages.found h.messages.each

-- a count of 32 bits is exact
pub exact_count : (rows : List Row) (row : Row) (k n : ℕ) → rows ≡ (count k ∷ []) ∷ [] → Some row ≡ slice_get rows 0
    → column row 0 ≡ Int (pos n) → n < 2 ^ 32 → n ≡ k
exact_count rows row k n are first shown fits =
    let one : Some row ≡ Some (count k ∷ []) = first ∙ ap (λ l. slice_get l 0) are in
    let same : row ≡ count k ∷ [] = cc in
    let least : min k 9223372036854775807 ≡ n =
    one_number (column row 0) (min k 9223372036854775807) n (ap (λ x. column x 0) same) shown in
    omega (arith, least, fits)
