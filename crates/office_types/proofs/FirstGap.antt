-- Ascending numbers, and where their first gap is.
use Rattle.std.proofs.Common.{◌≡◌, ◌∙◌, ◌⊎◌, ◌+◌, ◌-◌, ◌<◌, ◌≤◌, ◌&&◌, ◌||◌, true, false, not, ℕ, zero, suc, List, []}
use Rattle.std.proofs.Common.{◌∷◌, Some, None, length, get_or, max, inl, inr, refl, sym, ap, arith}
use Rattle.std.specs.Prelude.{nat_le}
use Rattle.std.specs.List.Sorted.{IsStrictlyIncreasing}
use Rattle.std.proofs.lemmas.Bool.{cases_lt, false≢true, leb-true, le-leb, not-true}
use Rattle.std.proofs.lemmas.List.Kept.{AllPairs-from_increasing}
use Rattle.office_types.specs.Block.{in_block}
use Rattle.office_types.specs.Free.{IsLeastFree, SplitsAt, greatest_number, has_form, is_formed, is_free, is_taken}
use Rattle.office_types.specs.declared.block.Block.{Block}
use Rattle.office_types.specs.declared.free.NumberForm.{NumberForm}
use Rattle.office_types.proofs.Least.{both_true, from_limits, in_limits, or_false}
use Rattle.office_types.proofs.Split.{is_taken-nowhere, is_taken-there}

module _ (xs : List ℕ) (rising : IsStrictlyIncreasing xs) where
  -- each number is above the one before it, so it is at least as far above an earlier one as its index is
  pub climbs : (k i j : ℕ) → j ≡ i + k → j < length xs → get_or xs i 0 + k ≤ get_or xs j 0
  climbs zero i j e w = let s : i ≡ j = omega arith in let q = ap (λ v. get_or xs v 0) s in omega arith
  climbs (suc k) i j e w =
      let p : get_or xs i 0 + k ≤ get_or xs (i + k) 0 = climbs k i (i + k) refl (omega arith) in
      let q : get_or xs (i + k) 0 < get_or xs j 0 = AllPairs-from_increasing xs rising (i + k) j 0 (omega arith) w in
      omega arith

  module _ (first start : ℕ) (split : SplitsAt xs start first) where
    pub least_there : (j : ℕ) → start ≤ j → j < length xs → first + j ≤ get_or xs j 0 + start
    least_there j a w =
        let p = climbs (j - start) start j (omega arith) w in
        let q : first ≤ get_or xs start 0 = split.upper start (omega arith) (omega arith) in
        omega arith

    -- up to an index that has the least number that it may have, each index has
    pub all_least : (j k : ℕ) → start ≤ j → j ≤ k → k < length xs → get_or xs k 0 + start ≡ first + k
        → get_or xs j 0 + start ≡ first + j
    all_least j k a b w e =
        let p = climbs (k - j) j k (omega arith) w in
        let q = least_there j a (omega arith) in
        omega arith

    -- and from one on that has a greater one, each has a greater one
    pub all_greater : (j k : ℕ) → k ≤ j → j < length xs → first + k < get_or xs k 0 + start
        → first + j < get_or xs j 0 + start
    all_greater j k a w e = let p = climbs (j - k) k j (omega arith) w in omega arith

    -- the numbers from `first` on have their first gap before the number at an index
    pub record IsFirstGap (k : ℕ) : Type 0 where
      pub after : start ≤ k
      pub within : k ≤ length xs
      pub least : (j : ℕ) → start ≤ j → j < k → get_or xs j 0 + start ≡ first + j
      pub greater : (j : ℕ) → k ≤ j → j < length xs → first + j < get_or xs j 0 + start

    module _ (k : ℕ) (gap : IsFirstGap k) where
      abbrev number : ℕ
      number = first + (k - start)

      splits_there : SplitsAt xs k number
      splits_there = record {
        within = gap.within;
        lower = λ j l. elim (cases_lt j start) [
          | inl below ↦ let p : get_or xs j 0 < first = split.lower j below in omega arith
          | inr from ↦ let p = gap.least j from l in let q = gap.after in omega arith
        ];
        upper = λ j a w. let p = gap.greater j a w in let q = gap.after in omega arith;
      }

      pub gap_free : is_taken number xs ≡ false
      gap_free = is_taken-nowhere xs k number rising splits_there (λ w e. let p = gap.greater k (omega arith) w in
          let q = gap.after in omega arith)

      pub taken_before : (m : ℕ) → first ≤ m → m < number → is_taken m xs ≡ true
      taken_before m a l =
          let q = gap.after in
          let w = gap.within in
          let p = gap.least (start + (m - first)) (omega arith) (omega arith) in
          is_taken-there xs (start + (m - first)) m (omega arith) (omega arith)

-- Free numbers of a block, in a form that has all numbers from the least one to its greatest.

module _ (xs : List ℕ) (b : Block) (form : NumberForm) where
  pub free_parts : (n : ℕ) → is_free xs (b ∷ []) form n ≡ true → (b.first ≤ n) × (n ≤ b.last)
      × (n ≤ greatest_number form) × (is_taken n xs ≡ false) × (is_formed form n ≡ true)
  free_parts n h =
      let parts = both_true (in_block n b || false) (has_form form n && not (is_taken n xs)) h in
      let limits = in_limits b.first b.last n (sym (or_false (in_block n b)) ∙ parts.0) in
      let rest = both_true (has_form form n) (not (is_taken n xs)) parts.1 in
      let its = both_true (nat_le n (greatest_number form)) (is_formed form n) rest.0 in
      (limits.0, limits.1, leb-true n (greatest_number form) its.0, not-true (is_taken n xs) rest.1, its.1)

  pub free_from : (n : ℕ) → is_formed form n ≡ true → b.first ≤ n → n ≤ b.last → n ≤ greatest_number form
      → is_taken n xs ≡ false → is_free xs (b ∷ []) form n ≡ true
  free_from n formed above below small free =
      rw (from_limits b.first b.last n above below, le-leb n (greatest_number form) small, formed, free) refl

  -- `first` is the least number of the block that the form may have
  module _ (rising : IsStrictlyIncreasing xs) (least : ℕ) (formed : (m : ℕ) → least ≤ m → is_formed form m ≡ true)
      (above : (m : ℕ) → is_formed form m ≡ true → least ≤ m)
      (first : ℕ) (bound : first ≡ max b.first least) (start : ℕ) (split : SplitsAt xs start first) (k : ℕ)
      (gap : IsFirstGap xs rising first start split k) where
    from_first : (m : ℕ) → is_free xs (b ∷ []) form m ≡ true → first ≤ m
    from_first m h =
        let parts = free_parts m h in
        let low : least ≤ m = above m parts.4 in
        let from : b.first ≤ m = parts.0 in
        omega arith

    -- the number before the first gap is the least free one, where it is small enough
    pub gap_is_least : (n : ℕ) → n ≡ first + (k - start) → n ≤ b.last → n ≤ greatest_number form
        → IsLeastFree xs (b ∷ []) form (Some n)
    gap_is_least n is below small = (
      free_from n (formed n (omega arith)) (omega arith) below small
          (ap (λ v. is_taken v xs) is ∙ gap_free xs rising first start split k gap),
      λ m h.
          let parts = free_parts m h in
          elim (cases_lt m n) [
            | inl l ↦ absurd (false≢true
                (sym parts.3 ∙ taken_before xs rising first start split k gap m (from_first m h) (omega arith)))
            | inr l ↦ l
          ],
    )

    pub gap_is_past : b.last < first + (k - start) ⊎ greatest_number form < first + (k - start)
        → IsLeastFree xs (b ∷ []) form None
    gap_is_past past = λ m h.
        let parts = free_parts m h in
        let below : m ≤ b.last = parts.1 in
        let small : m ≤ greatest_number form = parts.2 in
        let low : m < first + (k - start) = elim past [ inl l ↦ omega arith | inr l ↦ omega arith ] in
        false≢true (sym parts.3 ∙ taken_before xs rising first start split k gap m (from_first m h) low)
