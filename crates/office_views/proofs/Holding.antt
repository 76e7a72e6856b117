-- How many signals of a list have a position, signal by signal.
use Rattle.std.proofs.Common.{◌≡◌, ℕ, ◌+◌, ◌<◌, ◌≤◌, ◌↔◌, ◌⊎◌, inl, inr, Bool, true, List, [], ◌∷◌, ◌++◌, length, take}
use Rattle.std.proofs.Common.{drop, cond, get_or, Option, Some, None, refl, ap, arith}
use Rattle.std.specs.Prelude.{position}
use Rattle.std.specs.List.{count_by}
use Rattle.std.proofs.lemmas.Bool.{cases_Bool, cases_lt, le-ltb, both_ways}
use Rattle.std.proofs.lemmas.List.Quantifiers.{position-Some}
use Rattle.std.proofs.lemmas.List.Sums.{count_by_more_no, count_by_more_yes, sum_by-append}
use Rattle.std.proofs.lemmas.List.{take-append-drop}
use Rattle.bitlayout.specs.declared.mask.Mask.{Mask}
use Rattle.bitlayout.specs.Bits.{IsBit}
use Rattle.bitlayout.specs.Mask.{mask_end, Has}
use Rattle.bitlayout.proofs.Walks.{is_bit_decides}
use Rattle.office_views.specs.declared.signal.ChartSignal.{ChartSignal}
use Rattle.office_views.specs.Text.{cell_of, holds}

counted_at : {X : Type 0} (p : X → Bool) (xs : List X) (k : ℕ) (d : X) → k < length xs → p (get_or xs k d) ≡ true
    → 0 < count_by p xs
counted_at p xs k d below is =
    let more = count_by_more_yes p xs k d below is in
    let parts : count_by p (take (k + 1) xs ++ drop (k + 1) xs) ≡ count_by p (take (k + 1) xs) + count_by p
    (drop (k + 1) xs) = sum_by-append (λ x. cond (p x) 1 0) (take (k + 1) xs) (drop (k + 1) xs) in
    let whole = ap (count_by p) (take-append-drop (k + 1) xs) in
    omega arith

no_index : {X : Type 0} (p : X → Bool) (xs : List X) (d : X) → (0 < count_by p xs → ⊥) → (o : Option ℕ)
    → position p xs ≡ o → o ≡ None
no_index p xs d none None e = refl
no_index p xs d none (Some k) e = let (below, passes, before) = position-Some p xs k d e in
    absurd (none (counted_at p xs k d below passes))

-- a list of which no element passes has no first one that does
pub none_counted : {X : Type 0} (p : X → Bool) (xs : List X) → (0 < count_by p xs → ⊥) → position p xs ≡ None
none_counted p [] none = refl
none_counted p (x ∷ xs) none = no_index p (x ∷ xs) x none (position p (x ∷ xs)) refl

-- one signal more
pub some_more : (old new : Mask) (signals : List ChartSignal) (i q : ℕ) (d : ChartSignal) → i < length signals
    → q < mask_end
    → Has new q ↔ (Has old q ⊎ ((q < mask_end) × IsBit (get_or signals i d).place.layout q))
    → Has old q ↔ (0 < count_by (holds q) (take i signals))
    → Has new q ↔ (0 < count_by (holds q) (take (i + 1) signals))
some_more old new signals i q d below within each before =
    let decides = is_bit_decides (get_or signals i d).place.layout q in
    elim (cases_Bool (holds q (get_or signals i d))) [
      | inl with_it ↦
          let more = count_by_more_yes (holds q) signals i d below with_it in
          (λ _. omega arith, λ _. each.1 (inr (within, decides.0 with_it)))
      | inr without ↦
          let same = count_by_more_no (holds q) signals i d below without in (
            λ has. elim (each.0 has) [
              | inl first ↦ let some = before.0 first in
                  omega arith
              | inr (_, bit) ↦ absurd (both_ways _ without (decides.1 bit))
            ],
            λ some. each.1 (inl (before.1 (omega arith))),
          )
    ]

pub several_more : (some old new : Mask) (signals : List ChartSignal) (i q : ℕ) (d : ChartSignal) → i < length signals
    → Has new q ↔ (Has old q ⊎ (Has some q × IsBit (get_or signals i d).place.layout q))
    → Has some q ↔ (0 < count_by (holds q) (take i signals)) → Has old q ↔ (1 < count_by (holds q) (take i signals))
    → Has new q ↔ (1 < count_by (holds q) (take (i + 1) signals))
several_more some old new signals i q d below each one before =
    let decides = is_bit_decides (get_or signals i d).place.layout q in
    elim (cases_Bool (holds q (get_or signals i d))) [
      | inl with_it ↦
          let more = count_by_more_yes (holds q) signals i d below with_it in (
            λ has. elim (each.0 has) [
              | inl first ↦ let several = before.0 first in omega arith
              | inr (first, _) ↦ let some = one.0 first in
                  omega arith
            ],
            λ several. each.1 (inr (one.1 (omega arith), decides.0 with_it)),
          )
      | inr without ↦
          let same = count_by_more_no (holds q) signals i d below without in (
            λ has. elim (each.0 has) [
              | inl first ↦ let several = before.0 first in
                  omega arith
              | inr (_, bit) ↦ absurd (both_ways _ without (decides.1 bit))
            ],
            λ several. each.1 (inl (before.1 (omega arith))),
          )
    ]

-- a position that no signal has
pub point_cell : (signals : List ChartSignal) (q : ℕ) → (0 < count_by (holds q) signals → ⊥) → 46 ≡ cell_of signals q
point_cell signals q none =
    let few : count_by (holds q) signals ≤ 1 =
    elim (cases_lt 0 (count_by (holds q) signals))
    [ inl some ↦ absurd (none some) | inr zero_many ↦ omega arith ] in
    rw (le-ltb 1 (count_by (holds q) signals) few, none_counted (holds q) signals none) refl
