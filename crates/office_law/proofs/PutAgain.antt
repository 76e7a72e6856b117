-- A thing that is put into a list twice.
use Rattle.office_law.proofs.Common.{◌≡◌, ◌∙◌, Bool, true, false, cond, List, [], ◌∷◌, ◌&&◌, refl, sym, ap, is_lt}
use Rattle.office_law.proofs.Common.{Ordering, Less, Equal, Greater, are_above, put, put_by_order, put_cases}

module _ {A : Type 0} (order : A → A → Ordering) (x y : A) (alike : (z : A) → order x z ≡ order y z)
    (equal : order x y ≡ Equal) where
  above_alike : (zs : List A) → are_above order y zs ≡ are_above order x zs
  above_alike [] = refl
  above_alike (z ∷ zs) = ap (λ o. is_lt o && are_above order y zs) (sym (alike z))
      ∙ ap (λ b. is_lt (order x z) && b) (above_alike zs)

  -- where it is put
  put_as : (b : Bool) (o : Ordering) (z : A) (zs : List A) → are_above order x zs ≡ b → order x z ≡ o
      → put order x (z ∷ zs) ≡ cond b (put_by_order o x z zs) (z ∷ put order x zs)
  put_as b o z zs above at =
      ap (λ c. cond c (put_by_order (order x z) x z zs) (z ∷ put order x zs)) above
      ∙ ap (λ p. cond b (put_by_order p x z zs) (z ∷ put order x zs)) at

  -- it isn't above the other one
  not_above : (zs : List A) → are_above order x (put order y zs) ≡ false
  not_above [] = ap (λ o. is_lt o && true) equal
  not_above (z ∷ zs) =
      put_cases order y (λ ws. are_above order x ws ≡ false) z zs
      (λ above e. ap (λ o. is_lt o && are_above order x (z ∷ zs)) equal)
      (λ above e. ap (λ o. is_lt o && are_above order x zs) equal)
      (λ above e. ap (λ b. is_lt (order x z) && b) (ap (λ o. is_lt o && are_above order x zs) equal)
      ∙ and_false (is_lt (order x z)))
      (λ late. ap (λ b. is_lt (order x z) && b) (not_above zs) ∙ and_false (is_lt (order x z)))
    where
      and_false : (b : Bool) → (b && false) ≡ false
      and_false true = refl
      and_false false = refl

  -- one of the same key takes its place
  pub put_again : (zs : List A) → put order x (put order y zs) ≡ put order x zs
  put_again [] = put_as true Equal y [] refl equal
  put_again (z ∷ zs) =
      put_cases order y (λ ws. put order x ws ≡ put order x (z ∷ zs)) z zs
      (λ above e.
      let all : are_above order x zs ≡ true = sym (above_alike zs) ∙ above in
      put_as true Equal y (z ∷ zs) (ap (λ o. is_lt o && are_above order x zs) (alike z ∙ e) ∙ all) equal
      ∙ sym (put_as true Less z zs all (alike z ∙ e)))
      (λ above e.
      let all : are_above order x zs ≡ true = sym (above_alike zs) ∙ above in
      put_as true Equal y zs all equal ∙ sym (put_as true Equal z zs all (alike z ∙ e)))
      (λ above e.
      let all : are_above order x zs ≡ true = sym (above_alike zs) ∙ above in
      later z (y ∷ zs) (ap (λ o. is_lt o && are_above order x zs) equal)
      ∙ ap (λ ws. z ∷ ws) (put_as true Equal y zs all equal) ∙ sym (put_as true Greater z zs all (alike z ∙ e)))
      (λ late.
      let none : are_above order x zs ≡ false = sym (above_alike zs) ∙ late in
      later z (put order y zs) (not_above zs) ∙ ap (λ ws. z ∷ ws) (put_again zs) ∙ sym (later z zs none))
    where
      later : (z : A) (zs : List A) → are_above order x zs ≡ false → put order x (z ∷ zs) ≡ z ∷ put order x zs
      later z zs none = ap (λ c. cond c (put_by_order (order x z) x z zs) (z ∷ put order x zs)) none
