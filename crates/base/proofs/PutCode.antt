-- To put an item into a list in the order of a key, from the end on.
use Rattle.std.proofs.Common.{◌≡◌, ◌&&◌, ℕ, ◌+◌, ◌<◌, true, false, cond, zero, suc, List, [], ◌∷◌, length, drop, get_or}
use Rattle.std.proofs.Common.{set, refl, sym, ap, ◌∙◌, arith}
use Rattle.std.specs.List.{insert}
use Rattle.std.specs.Ordering.{is_lt}
use Rattle.std.proofs.lemmas.Bool.{false≢true}
use Rattle.std.proofs.lemmas.List.{drop_more}
use Rattle.std.proofs.lemmas.List.Folds.{list_all_at}
use Rattle.std.specs.declared.cmp.Ordering.{Ordering}
use Rattle.std.specs.declared.cmp.Ordering.TheVariants.{Less, Equal, Greater}
use Rattle.base.specs.Keyed.{are_above, put, put_by_order}

module _ {A : Type 0} (order : A → A → Ordering) (x : A) where
  put_here : (y : A) (ys : List A) (r : Ordering) → are_above order x ys ≡ true → order x y ≡ r
      → put order x (y ∷ ys) ≡ put_by_order r x y ys
  put_here y ys r above e = ap (λ b. cond b (put_by_order (order x y) x y ys) (y ∷ put order x ys)) above
      ∙ ap (λ v. put_by_order v x y ys) e

  put_later : (y : A) (ys : List A) → are_above order x ys ≡ false → put order x (y ∷ ys) ≡ y ∷ put order x ys
  put_later y ys late = ap (λ b. cond b (put_by_order (order x y) x y ys) (y ∷ put order x ys)) late

  -- it goes first where every item is above it
  pub put_first : (xs : List A) → are_above order x xs ≡ true → put order x xs ≡ x ∷ xs
  put_first [] above = refl
  put_first (y ∷ ys) above = by_order (order x y) refl above
    where
      by_order : (r : Ordering) → order x y ≡ r → (is_lt r && are_above order x ys) ≡ true
          → put order x (y ∷ ys) ≡ x ∷ y ∷ ys
      by_order Less e h = put_here y ys Less h e
      by_order Equal e h = absurd (false≢true h)
      by_order Greater e h = absurd (false≢true h)

  -- one item more is above it
  pub one_above : (xs : List A) (i : ℕ) (y : A) → i < length xs → y ≡ get_or xs i y → order x y ≡ Less
      → are_above order x (drop (i + 1) xs) ≡ true → are_above order x (drop i xs) ≡ true
  one_above xs i y h e less above =
      ap (are_above order x) (drop_more xs i y h) ∙ ap (λ z. is_lt (order x z) && are_above order x (drop (i + 1) xs))
      (sym e)
      ∙ ap (λ r. is_lt r && are_above order x (drop (i + 1) xs)) less ∙ above

  some_below : (xs : List A) (i : ℕ) (y : A) (r : Ordering) → i < length xs → y ≡ get_or xs i y → order x y ≡ r
      → is_lt r ≡ false → are_above order x xs ≡ false
  some_below xs i y r h e o n =
      list_all_at (λ z. is_lt (order x z)) xs i y h (ap (λ z. is_lt (order x z)) (sym e) ∙ ap is_lt o ∙ n)

  -- it replaces y
  pub put_at : (xs : List A) (i : ℕ) (y : A) → i < length xs → y ≡ get_or xs i y → order x y ≡ Equal
      → are_above order x (drop (suc i) xs) ≡ true → put order x xs ≡ set xs i x
  put_at [] i y h e o above = absurd (let w : i < 0 = h in omega (arith, w))
  put_at (z ∷ zs) zero y h e o above = put_here z zs Equal above (ap (order x) (sym e) ∙ o)
  put_at (z ∷ zs) (suc i) y h e o above =
      put_later z zs (some_below zs i y Equal (omega (arith, h)) e o refl)
      ∙ ap (λ v. z ∷ v) (put_at zs i y (omega (arith, h)) e o above)

  -- it goes after y
  pub put_after : (xs : List A) (i : ℕ) (y : A) → i < length xs → y ≡ get_or xs i y → order x y ≡ Greater
      → are_above order x (drop (suc i) xs) ≡ true → put order x xs ≡ insert xs (suc i) x
  put_after [] i y h e o above = absurd (let w : i < 0 = h in omega (arith, w))
  put_after (z ∷ zs) zero y h e o above = put_here z zs Greater above (ap (order x) (sym e) ∙ o)
  put_after (z ∷ zs) (suc i) y h e o above =
      put_later z zs (some_below zs i y Greater (omega (arith, h)) e o refl)
      ∙ ap (λ v. z ∷ v) (put_after zs i y (omega (arith, h)) e o above)
