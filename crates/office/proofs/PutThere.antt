-- An item that is put into a list in the order of a key, where one of its key is at an index: it replaces that one.
use Rattle.office.proofs.Common.{◌≡◌, ◌∙◌, ◌&&◌, ◌<◌, ℕ, true, zero, suc, List, [], ◌∷◌, length, drop, get_or, set}
use Rattle.office.proofs.Common.{refl, sym, ap, subst, arith, AllByRecursion, Less, Equal, put}
use Rattle.std.specs.List.Sorted.{IsStrictlySortedBy}
use Rattle.std.specs.Ordering.{is_lt}
use Rattle.std.specs.declared.cmp.Ordering.{Ordering}
use Rattle.base.specs.Keyed.{are_above}
use Rattle.base.proofs.PutCode.{put_at}

-- x is as y in this order
module _ {A : Type 0} (order : A → A → Ordering) (x y : A) (same : order x ≡ order y) where
  -- what is above y is above x
  pub above_all : (ys : List A) → AllByRecursion (λ z. order y z ≡ Less) ys → are_above order x ys ≡ true
  above_all [] h = refl
  above_all (z ∷ zs) h = ap (λ b. b && are_above order x zs)
      (ap (λ (f : A → Ordering). is_lt (f z)) same ∙ ap is_lt h.0) ∙ above_all zs h.1

  above_later : (xs : List A) (i : ℕ) → IsStrictlySortedBy order xs → i < length xs → y ≡ get_or xs i y
      → are_above order x (drop (suc i) xs) ≡ true
  unfolding IsStrictlySortedBy
  above_later [] i sorted h is = absurd (let w : i < 0 = h in omega (arith, w))
  above_later (z ∷ zs) zero sorted h is =
      above_all zs (subst (λ v. AllByRecursion (λ w. order v w ≡ Less) zs) (sym is) sorted.0)
  above_later (z ∷ zs) (suc i) sorted h is = above_later zs i sorted.1 (omega (arith, h)) is

  pub put_same : (xs : List A) (i : ℕ) → IsStrictlySortedBy order xs → i < length xs → y ≡ get_or xs i y
      → order y y ≡ Equal → put order x xs ≡ set xs i x
  put_same xs i sorted h is level = put_at order x xs i y h is (ap (λ (f : A → Ordering). f y) same ∙ level)
      (above_later xs i sorted h is)
