-- Receivers, value texts and signals that are written one after the other.
use Rattle.store_changes.proofs.Common.{◌≡◌, ◌∙◌, ℕ, ◌+◌, List, [], ◌∷◌, ◌++◌, length, ap, arith, Signal, ValueText}
use Rattle.store_changes.proofs.Common.{Tables, receiver_values, sigvalue_values, placed_from, receiver_rows}
use Rattle.store_changes.proofs.Common.{value_rows, with_signal, with_signals}

pub rows_push : (net : List ℕ) (number place seat : ℕ) (names : List (List ℕ)) (name : List ℕ)
    → receiver_rows net number place seat (names ++ name ∷ []) ≡ receiver_rows net number place seat names
    ++ receiver_values net number place (seat + length names) name ∷ []
rows_push net number place seat [] name = let e : seat ≡ seat + 0 = omega arith in
    ap (λ n. receiver_values net number place n name ∷ []) e
rows_push net number place seat (first ∷ names) name =
    let e : (seat + 1) + length names ≡ seat + length (first ∷ names) = omega arith in
    ap (λ l. receiver_values net number place seat first ∷ l)
    (rows_push net number place (seat + 1) names name
    ∙ ap (λ n. receiver_rows net number place (seat + 1) names ++ receiver_values net number place n name ∷ []) e)

pub values_push : (net : List ℕ) (number place seat : ℕ) (values : List ValueText) (v : ValueText)
    → value_rows net number place seat (values ++ v ∷ []) ≡ value_rows net number place seat values
    ++ sigvalue_values net number place (seat + length values) v ∷ []
values_push net number place seat [] v = let e : seat ≡ seat + 0 = omega arith in
    ap (λ n. sigvalue_values net number place n v ∷ []) e
values_push net number place seat (first ∷ values) v =
    let e : (seat + 1) + length values ≡ seat + length (first ∷ values) = omega arith in
    ap (λ l. sigvalue_values net number place seat first ∷ l)
    (values_push net number place (seat + 1) values v
    ∙ ap (λ n. value_rows net number place (seat + 1) values ++ sigvalue_values net number place n v ∷ []) e)

pub signals_push : (net : List ℕ) (number place : ℕ) (signals : List Signal) (s : Signal) (t : Tables)
    → with_signals net number (placed_from place (signals ++ s ∷ [])) t ≡ with_signal net number
    (place + length signals) s (with_signals net number (placed_from place signals) t)
signals_push net number place [] s t = let e : place ≡ place + 0 = omega arith in
    ap (λ n. with_signal net number n s t) e
signals_push net number place (first ∷ signals) s t =
    let e : (place + 1) + length signals ≡ place + length (first ∷ signals) = omega arith in
    signals_push net number (place + 1) signals s (with_signal net number place first t)
    ∙ ap (λ n. with_signal net number n s
    (with_signals net number (placed_from (place + 1) signals) (with_signal net number place first t))) e
