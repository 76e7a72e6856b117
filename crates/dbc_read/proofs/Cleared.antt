-- Items of a list that are changed in place, one after the other, so that each has a property.
use Rattle.dbc_read.proofs.Common.{◌<◌, ◌+◌, ◌++◌, ℕ, List, [], ◌∷◌, length, slice_set, sym, subst, AllByRecursion}
use Rattle.dbc_read.proofs.Common.{take_more_set}
use Rattle.std.specs.Prelude.{take}

with_one : {A : Type 0} (P : A → Type 0) (xs : List A) (y : A) → AllByRecursion P xs → P y
    → AllByRecursion P (xs ++ y ∷ [])
with_one P [] y h k = (k, tt)
with_one P (x ∷ xs) y h k = (h.0, with_one P xs y h.1 k)

module _ {A : Type 0} (P : A → Type 0) (xs : List A) (i : ℕ) where
  pub one_more : (y : A) → i < length xs → AllByRecursion P (take i xs) → P y
      → AllByRecursion P (take (i + 1) (slice_set xs i y))
  one_more y lt h k = subst (AllByRecursion P) (sym (take_more_set xs i y lt)) (with_one P (take i xs) y h k)
