-- The number that digits write, read from the left.
use Rattle.std.proofs.Common.{◌≡◌, ◌+◌, ◌*◌, ◌^◌, ◌<◌, ◌≤◌, ◌↔◌, ℕ, suc, List, [], ◌∷◌, length, drop, get_or, arith}
use Rattle.std.proofs.Common.{drop-cons, sym}
use Rattle.std.specs.Char.{digit_value}
use Rattle.std.specs.Str.Parse.{AllDigits, IsNumeral, digits_value, digits_value_after}
use Rattle.std.proofs.lemmas.List.{drop_all}

-- further digits make no number smaller
after_grows : (n : ℕ) (ds : List ℕ) → n ≤ digits_value_after 10 n ds
after_grows n [] = omega arith
after_grows n (d ∷ ds) = omega (arith, after_grows (n * 10 + digit_value d) ds)

-- nor does the next one alone
next_grows : (n i : ℕ) (ds : List ℕ) → i < length ds
    → n * 10 + digit_value (get_or ds i 0) ≤ digits_value_after 10 n (drop i ds)
next_grows n i ds h = rw (drop-cons ds i 0 h) (after_grows (n * 10 + digit_value (get_or ds i 0)) (drop (suc i) ds))

-- digits whose number is past the limit at the next one
pub past_limit : (n i : ℕ) (ds : List ℕ) → i < length ds → digits_value 10 ds ≡ digits_value_after 10 n (drop i ds)
    → 2 ^ 32 ≤ n * 10 + digit_value (get_or ds i 0) → ¬ (IsNumeral 10 ds × (digits_value 10 ds < 2 ^ 32))
past_limit n i ds h value past (numeral, small) = omega (arith, next_grows n i ds h)

-- digits that were all read
pub all_read : (n i : ℕ) (ds : List ℕ) → length ds ≤ i → 0 < length ds → n < 2 ^ 32
    → (AllDigits 10 ds ↔ AllDigits 10 (drop i ds)) → digits_value 10 ds ≡ digits_value_after 10 n (drop i ds)
    → (IsNumeral 10 ds × (digits_value 10 ds < 2 ^ 32)) × (n ≡ digits_value 10 ds)
all_read n i ds h some small digits value =
    let none : drop i ds ≡ [] = drop_all i ds h in
    let same : digits_value 10 ds ≡ n = rw none at value in
    let back = rw none at digits in
    (((some, back.1 tt), omega arith), sym same)
