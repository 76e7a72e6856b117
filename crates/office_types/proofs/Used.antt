-- Used suspect parameter numbers with one more.
use Rattle.std.proofs.Common.{◌≡◌, ◌∙◌, ◌&&◌, Bool, true, ℕ, List, [], ◌∷◌, refl, ap}
use Rattle.std.specs.List.{All, AllByRecursion, list_all}
use Rattle.std.specs.Ordering.{nat_cmp}
use Rattle.std.proofs.lemmas.Bool.{and_parts}
use Rattle.std.proofs.lemmas.Cmp.{nat_cmp_total}
use Rattle.std.proofs.lemmas.List.Elements.{All-from_recursion, All-head, All-tail}
use Rattle.std.proofs.lemmas.Map.Keys.{IsStrictlyIncreasing-from_sorted, sorted_from_strictly_increasing}
use Rattle.base.specs.Keyed.{put}
use Rattle.base.proofs.PutKeeps.{All-put, IsStrictlySortedBy-put}
use Rattle.office_types.specs.Book.{AreUsed, is_spn_number}

all_true : (p : ℕ → Bool) (xs : List ℕ) → All (λ x. p x ≡ true) xs → list_all p xs ≡ true
all_true p [] h = refl
all_true p (x ∷ xs) h = ap (λ b. b && list_all p xs) (All-head (λ y. p y ≡ true) x xs h)
    ∙ all_true p xs (All-tail (λ y. p y ≡ true) x xs h)

pub each_true : (p : ℕ → Bool) (xs : List ℕ) → list_all p xs ≡ true → All (λ x. p x ≡ true) xs
each_true p xs h = All-from_recursion _ xs (each xs h)
  where
    each : (ys : List ℕ) → list_all p ys ≡ true → AllByRecursion (λ y. p y ≡ true) ys
    each [] k = tt
    each (y ∷ ys) k = let parts = and_parts (p y) (list_all p ys) k in (parts.0, each ys parts.1)

-- one more number leaves each once, ascending
pub AreUsed-put : (n : ℕ) (used : List ℕ) → is_spn_number n ≡ true → AreUsed used → AreUsed (put nat_cmp n used)
AreUsed-put n used h k = record {
  rising = IsStrictlyIncreasing-from_sorted (put nat_cmp n used)
      (IsStrictlySortedBy-put nat_cmp nat_cmp_total n used (sorted_from_strictly_increasing used k.rising));
  numbers_are = all_true is_spn_number (put nat_cmp n used)
      (All-put (λ m. is_spn_number m ≡ true) nat_cmp n used h (each_true is_spn_number used k.numbers_are));
}
