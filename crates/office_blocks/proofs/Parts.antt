-- The numbers of an ascending list that are in a range.
use Rattle.office_blocks.proofs.Common.{◌≡◌, ℕ, suc, ◌+◌, ◌-◌, ◌<◌, ◌≤◌, inl, inr, Bool, true, false, List, [], ◌∷◌}
use Rattle.office_blocks.proofs.Common.{length, get_or, take, drop, refl, sym, ap, ◌∙◌, arith, ◌==◌, Ok, Err}
use Rattle.office_blocks.proofs.Common.{IsStrictlyIncreasing, cases_lt, is_taken, searched, weakly}
use Rattle.std.proofs.Common.{length-drop, eqb-true}
use Rattle.std.specs.Prelude.{Result}
use Rattle.std.specs.List.Sorted.{IsBinarySearchResult}
use Rattle.std.proofs.lemmas.List.{get_or-drop, get_or-take, get_or_default, length-take}
use Rattle.std.proofs.lemmas.List.Folds.{Any-from_list_any}
use Rattle.std.proofs.lemmas.List.Kept.{AllPairs-from_increasing}
use Rattle.office_types.specs.Free.{SplitsAt}
use Rattle.std.specs.Ordering.{nat_cmp}
use Rattle.std.specs.Result.{is_ok}
use Rattle.office_types.proofs.Split.{is_taken-nowhere, is_taken-there}
use Rattle.office_blocks.specs.Numbers.{ArePart, AreWithin}

-- each number is below each later one
abbrev Climbs : List ℕ → Type 0
Climbs xs = (i k : ℕ) → i < k → k < length xs → get_or xs i 0 < get_or xs k 0

within_from_climbs : (xs : List ℕ) (from to : ℕ) → Climbs xs → from ≤ to
    → ((k : ℕ) → k < length xs → (from ≤ get_or xs k 0) × (get_or xs k 0 < to)) → AreWithin from to xs
within_from_climbs [] from to climbs order limits = order
within_from_climbs (x ∷ xs) from to climbs order limits =
    let here = limits 0 (omega arith) in (
      here.0,
      within_from_climbs xs (x + 1) to (λ i k l w. climbs (suc i) (suc k) (omega arith) (omega arith)) (omega arith)
          (λ k w.
          let above : x < get_or xs k 0 = climbs 0 (suc k) (omega arith) (omega arith) in
          let below = (limits (suc k) (omega arith)).1 in
          (omega arith, below)),
    )

pub splits_order : (xs : List ℕ) (start end first last : ℕ) → SplitsAt xs start first → SplitsAt xs end last
    → first ≤ last → start ≤ end
splits_order xs start end first last low high order = elim (cases_lt end start) [
  | inl l ↦
      let a : get_or xs end 0 < first = low.lower end l in
      let w = low.within in
      let b : last ≤ get_or xs end 0 = high.upper end (omega arith) (omega arith) in
      absurd (omega arith)
  | inr l ↦ l
]

taken_at : (n : ℕ) (xs : List ℕ) → is_taken n xs ≡ true → (k : ℕ) × (k < length xs) × (get_or xs k 0 ≡ n)
taken_at n xs h =
    let w = Any-from_list_any (λ m. m == n) xs h in
    (w.0, w.2, get_or_default xs w.0 0 w.1 w.2 ∙ w.3 ∙ eqb-true w.1 n w.4)

both_ways : (a b : Bool) → (a ≡ true → b ≡ true) → (b ≡ true → a ≡ true) → a ≡ b
both_ways true true f g = refl
both_ways true false f g = sym (f refl)
both_ways false true f g = g refl
both_ways false false f g = refl

module _ (xs : List ℕ) (start end first last : ℕ) (rising : IsStrictlyIncreasing xs) (order : first ≤ last)
    (low : SplitsAt xs start first) (high : SplitsAt xs end (last + 1)) where
  abbrev part : List ℕ
  part = take (end - start) (drop start xs)

  ordered : start ≤ end
  ordered = splits_order xs start end first (last + 1) low high (omega arith)

  long : length part ≡ end - start
  long =
      let a = ordered in
      let b = high.within in
      let d = length-drop start xs in
      omega (arith, length-take (end - start) (drop start xs))

  at : (k : ℕ) → k < end - start → get_or part k 0 ≡ get_or xs (start + k) 0
  at k w = get_or-take (end - start) (drop start xs) k 0 w ∙ get_or-drop start xs k 0

  climbs : Climbs part
  climbs i k l w =
      let e = long in
      let b = high.within in
      let a = at i (omega arith) in
      let c = at k (omega arith) in
      let below : get_or xs (start + i) 0 < get_or xs (start + k) 0 =
      AllPairs-from_increasing xs rising (start + i) (start + k) 0 (omega arith) (omega arith) in
      omega arith

  limits : (k : ℕ) → k < length part → (first ≤ get_or part k 0) × (get_or part k 0 < last + 1)
  limits k w =
      let e = long in
      let b = high.within in
      let a = at k (omega arith) in
      let above : first ≤ get_or xs (start + k) 0 = low.upper (start + k) (omega arith) (omega arith) in
      let below : get_or xs (start + k) 0 < last + 1 = high.lower (start + k) (omega arith) in
      (omega arith, omega arith)

  into : (n : ℕ) → is_taken n part ≡ true → is_taken n xs ≡ true
  into n h =
      let w = taken_at n part h in
      let e = long in
      let b = high.within in
      let less : w.0 < length part = w.1 in
      is_taken-there xs (start + w.0) n (omega arith) (sym (at w.0 (omega arith)) ∙ w.2)

  back : (n : ℕ) → first ≤ n → n ≤ last → is_taken n xs ≡ true → is_taken n part ≡ true
  back n a b h =
      let w = taken_at n xs h in
      let k = w.0 in
      let less : k < length xs = w.1 in
      let here : get_or xs k 0 ≡ n = w.2 in
      let e = long in
      let from : start ≤ k = elim (cases_lt k start) [
        | inl l ↦ let lower : get_or xs k 0 < first = low.lower k l in absurd (omega arith)
        | inr l ↦ l
      ] in
      let until : k < end = elim (cases_lt k end) [
        | inl l ↦ l
        | inr l ↦ let upper : last + 1 ≤ get_or xs k 0 = high.upper k l less in absurd (omega arith)
      ] in
      let there : start + (k - start) ≡ k = omega arith in
      is_taken-there part (k - start) n (omega arith)
      (at (k - start) (omega arith) ∙ ap (λ i. get_or xs i 0) there ∙ here)

  pub part_is : ArePart xs first last part
  part_is = record {
    within = within_from_climbs part first (last + 1) climbs (omega arith) limits;
    same = λ n a b. both_ways _ _ (into n) (back n a b);
  }

-- whether a binary search finds the number
pub found_is : (xs : List ℕ) (n : ℕ) (r : Result ℕ ℕ) → IsStrictlyIncreasing xs
    → IsBinarySearchResult (λ y. nat_cmp y n) xs r → is_ok r ≡ is_taken n xs
found_is xs n (Ok i) rising h =
    let w = searched xs n (Ok i) h (weakly xs rising) in sym (is_taken-there xs i n w.0 w.1)
found_is xs n (Err i) rising h =
    let w = searched xs n (Err i) h (weakly xs rising) in
    sym (is_taken-nowhere xs i n rising
    (record { within = w.0; lower = w.1; upper = λ k a b. let l : n < get_or xs k 0 = w.2 k a b in omega arith })
    (λ below e. let l : n < get_or xs i 0 = w.2 i (omega arith) below in absurd (omega arith)))
