-- What a binary search finds in an order of names, and the orders of the signals of lines.
use Rattle.dbc_read.proofs.Common.{◌≡◌, ◌<◌, ◌∙◌, ◌||◌, ℕ, zero, suc, Bool, true, false, List, [], ◌∷◌, length, get_or}
use Rattle.dbc_read.proofs.Common.{map, Option, Some, Box, Global, refl, sym, ap, subst, inl, inr, arith, slice_get}
use Rattle.dbc_read.proofs.Common.{nat_list_cmp_total, texts_ties, All, HoldsAt, list_any, range_with_len}
use Rattle.dbc_read.proofs.Common.{IsNonDecreasingBy, IsPartitionPoint, is_eq, ordering_index, bytes_eq, Less, Equal}
use Rattle.dbc_read.proofs.Common.{Greater, cases_lt, All-permutation, IsPermutation-sym, searchable_from_sorted}
use Rattle.dbc_read.proofs.Common.{text_cmp, SignalLine, Signal, message_of, signals_of, MessageLine}
use Rattle.std.proofs.lemmas.List.FromFn.{get_or-range_with_len, length-range_with_len}
use Rattle.dbc_read.specs.Orders.{AreOrdersOf, IsAscending, IsOrderOf, signal_names}
use Rattle.dbc_read.specs.declared.orders.NameOrder.{NameOrder}

module _ {K : Type 0} (d : K) (test : K → Bool) where
  passes_at : (keys : List K) (i : ℕ) → i < length keys → test (get_or keys i d) ≡ true
      → slice_get (map test keys) i ≡ Some true
  passes_at [] i h e = absurd (omega arith)
  passes_at (k ∷ keys) zero h e = ap (λ b. Some b) e
  passes_at (k ∷ keys) (suc i) h e = passes_at keys i (omega arith) e

  none_passes : (keys : List K) → ((i : ℕ) → i < length keys → test (get_or keys i d) ≡ false)
      → list_any test keys ≡ false
  none_passes [] h = refl
  none_passes (k ∷ keys) h = ap (λ b. b || list_any test keys) (h 0 (omega arith))
      ∙ none_passes keys (λ i lt. h (suc i) (omega arith))

module _ (names : List (List ℕ)) (order : List ℕ) (is : IsAscending names order) (name : List ℕ) where
  abbrev same : List ℕ → Bool
  same n = bytes_eq n name

  within : All (λ i. i < length names) order
  within = All-permutation (λ i. i < length names) (range_with_len 0 (length names)) order is.indices (λ k d lt.
      let long = length-range_with_len 0 (length names) in
      let here = get_or-range_with_len 0 (length names) k d (omega arith) in
      omega arith)

  -- where a name was found
  pub found : (at i : ℕ) → at < length order → i ≡ get_or order at 0
      → HoldsAt (λ j. text_cmp (get_or names j []) name ≡ Equal) order at
      → slice_get (map (λ n. bytes_eq n name) names) i ≡ Some true
  found at i inside here equal =
      let below : i < length names = subst (λ j. j < length names) (sym here) (within at 0 inside) in
      let found_same : text_cmp (get_or names i []) name ≡ Equal =
      subst (λ j. text_cmp (get_or names j []) name ≡ Equal) (sym here) (equal 0) in
      passes_at [] same names i below (texts_ties (get_or names i []) name ∙ ap is_eq found_same)

  -- where a gap was found
  pub absent : (at : ℕ)
      → (IsNonDecreasingBy (λ j. ordering_index (text_cmp (get_or names j []) name)) order
      → IsPartitionPoint (λ j. text_cmp (get_or names j []) name ≡ Less)
      (λ j. text_cmp (get_or names j []) name ≡ Greater) order at)
      → list_any (λ n. bytes_eq n name) names ≡ false
  absent at splits =
      let parts = splits (searchable_from_sorted nat_list_cmp_total (λ j. get_or names j []) order name is.sorted) in
      let apart : All (λ j. same (get_or names j []) ≡ false) order = λ k d lt.
      let j = get_or order k d in
      elim (cases_lt k at) [
        | inl below ↦ texts_ties (get_or names j []) name ∙ ap is_eq (parts.0 k d (omega arith) below)
        | inr above ↦ texts_ties (get_or names j []) name ∙ ap is_eq (parts.1 k d above lt)
      ] in
      let all = range_with_len 0 (length names) in
      let each = All-permutation (λ j. same (get_or names j []) ≡ false) order all
      (IsPermutation-sym all order is.indices) apart in
      none_passes [] same names (λ i lt.
      let long = length-range_with_len 0 (length names) in
      let here = get_or-range_with_len 0 (length names) i 0 lt in
      let there : get_or all i 0 ≡ i = omega arith in
      subst (λ j. same (get_or names j []) ≡ false) there (each i 0 (omega arith)))

pub names_meant : (signals : List Signal) → map (λ (s : SignalLine). s.name) (signals_of signals) ≡ signal_names signals
names_meant [] = refl
names_meant (s ∷ signals) = ap (λ l. s.name ∷ l) (names_meant signals)

pub as_many : (lines : List MessageLine) (orders : List (Option (Box NameOrder Global)))
    → AreOrdersOf (map message_of lines) orders → length orders ≡ length lines
as_many [] [] are = refl
as_many [] (order ∷ orders) are = absurd are
as_many (line ∷ lines) [] are = absurd are
as_many (line ∷ lines) (order ∷ orders) are = let rest = as_many lines orders are.1 in omega arith

-- the order of the message at an index
pub order_there : (d : MessageLine) (e : Option (Box NameOrder Global)) (lines : List MessageLine)
    (orders : List (Option (Box NameOrder Global))) (i : ℕ) → AreOrdersOf (map message_of lines) orders → i < length lines
    → IsOrderOf (signal_names (get_or lines i d).signals.items) (get_or orders i e)
order_there d e [] orders i are h = absurd (omega arith)
order_there d e (line ∷ lines) [] i are h = absurd are
order_there d e (line ∷ lines) (order ∷ orders) zero are h =
    subst (λ names. IsOrderOf names order) (names_meant line.signals.items) are.0
order_there d e (line ∷ lines) (order ∷ orders) (suc i) are h = order_there d e lines orders i are.1 (omega arith)
