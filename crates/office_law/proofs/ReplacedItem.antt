-- An item that is put into a list in the order of a number, where one of its number is there: it replaces that one.
use Rattle.std.specs.Cmp.{nat_cmp_is}
use Rattle.office_law.proofs.Common.{◌≡◌, ◌<◌, ◌==◌, ◌⊎◌, ◌∙◌, true, false, cond, ◌&&◌, ℕ, List, [], ◌∷◌, map, length}
use Rattle.office_law.proofs.Common.{Contains, inl, inr, refl, sym, ap, arith, is_lt, nat_cmp, on, Ordering, Less}
use Rattle.office_law.proofs.Common.{Equal, Greater, and_parts, false≢true, nat_tests, ranked, length-map, are_above}
use Rattle.office_law.proofs.Common.{put, put_cases}
use Rattle.std.specs.List.Sorted.{IsStrictlySortedBy}
use Rattle.office_law.proofs.Lists.{Contains-cases, Contains-none, Contains-first, Contains-later, after_first}

module _ {A : Type 0} (key : A → ℕ) (x : A) where
  -- the item, or what is put in its place
  abbrev pub in_place : A → A
  in_place y = cond (key y == key x) x y

  others_stay : (y : A) → key x < key y → in_place y ≡ y
  others_stay y lt = let no : key y == key x ≡ false = grind (arith, nat_tests) in ap (λ b. cond b x y) no

  all_stay : (ys : List A) → ((y : A) → Contains ys y → key x < key y) → map in_place ys ≡ ys
  all_stay [] above = refl
  all_stay (y ∷ ys) above =
      let first : in_place y ≡ y = others_stay y (above y (Contains-first y ys)) in
      let rest : map in_place ys ≡ ys = all_stay ys (λ z c. above z (Contains-later y z ys c)) in
      λ i. first i ∷ rest i

  above_at : (ys : List A) (m : A) → are_above (on key nat_cmp) x ys ≡ true → Contains ys m → key x < key m
  above_at [] m h c = absurd (Contains-none m c)
  above_at (y ∷ ys) m h c =
      let parts = and_parts _ (are_above (on key nat_cmp) x ys) h in
      elim (Contains-cases y m ys c) [
        | inl is ↦ (let below : key x < key y = by_order (nat_cmp (key x) (key y)) refl parts.0 in
            let k : key m ≡ key y = ap key is in omega (arith, below, k))
        | inr there ↦ above_at ys m parts.1 there
      ]
    where
      by_order : (r : Ordering) → nat_cmp (key x) (key y) ≡ r → is_lt r ≡ true → key x < key y
      by_order Less e k = ranked _ _ _ (sym e)
      by_order Equal e k = absurd (false≢true k)
      by_order Greater e k = absurd (false≢true k)

  are_all_above : (ys : List A) → ((m : A) → Contains ys m → key x < key m) → are_above (on key nat_cmp) x ys ≡ true
  are_all_above [] h = refl
  are_all_above (y ∷ ys) h =
      ap (λ r. is_lt r && are_above (on key nat_cmp) x ys)
      (sym (nat_cmp_is (key x) (key y) Less (h y (Contains-first y ys))))
      ∙ are_all_above ys (λ m c. h m (Contains-later y m ys c))

  -- what the rank of x says where one of its number is there
  by_rank : (r : Ordering) (y m : A) (ys : List A) → nat_cmp (key x) (key y) ≡ r
      → IsStrictlySortedBy (on key nat_cmp) (y ∷ ys) → (m ≡ y) ⊎ Contains ys m → key m ≡ key x
      → are_above (on key nat_cmp) x ys ≡ false → (Contains ys m → put (on key nat_cmp) x ys ≡ map in_place ys)
      → y ∷ put (on key nat_cmp) x ys ≡ map in_place (y ∷ ys)
  by_rank Less y m ys e sorted c same late later = absurd (
      let below : key x < key y = ranked _ _ _ (sym e) in
      false≢true (sym late ∙ are_all_above ys (λ a d. let above : key y < key a = after_first key y ys sorted a d in
      omega (arith, below, above))))
  by_rank Equal y m ys e sorted c same late later = absurd (
      let level : key x ≡ key y = ranked _ _ _ (sym e) in
      false≢true (sym late ∙ are_all_above ys (λ a d. let above : key y < key a = after_first key y ys sorted a d in
      omega (arith, level, above))))
  by_rank Greater y m ys e sorted c same late later =
      let below : key y < key x = ranked _ _ _ (sym e) in
      let no : key y == key x ≡ false = grind (arith, nat_tests) in
      let first : in_place y ≡ y = ap (λ b. cond b x y) no in
      let rest : put (on key nat_cmp) x ys ≡ map in_place ys = elim c [
        | inl is ↦ absurd (let k : key m ≡ key y = ap key is in omega (arith, below, k, same))
        | inr there ↦ later there
      ] in
      λ i. sym first i ∷ rest i

  replaced_first : (y : A) (ys : List A) → IsStrictlySortedBy (on key nat_cmp) (y ∷ ys)
      → nat_cmp (key x) (key y) ≡ Equal → x ∷ ys ≡ map in_place (y ∷ ys)
  replaced_first y ys sorted e =
      let level : key x ≡ key y = ranked _ _ _ (sym e) in
      let yes : key y == key x ≡ true = grind (arith, nat_tests) in
      let first : in_place y ≡ x = ap (λ b. cond b x y) yes in
      let rest : map in_place ys ≡ ys =
      all_stay ys (λ z d. let above : key y < key z = after_first key y ys sorted z d in
      omega (arith, level, above)) in
      λ i. sym first i ∷ sym rest i

  not_above : (y m : A) (ys : List A) → are_above (on key nat_cmp) x ys ≡ true → (key x ≡ key y → ⊥)
      → (m ≡ y) ⊎ Contains ys m → key m ≡ key x → ⊥
  not_above y m ys above other c same = elim c [
    | inl is ↦ other (sym same ∙ ap key is)
    | inr there ↦ (let lt : key x < key m = above_at ys m above there in omega (arith, lt, same))
  ]

  pub put-replaced : (m : A) (xs : List A) → IsStrictlySortedBy (on key nat_cmp) xs → Contains xs m → key m ≡ key x
      → put (on key nat_cmp) x xs ≡ map in_place xs
  unfolding IsStrictlySortedBy
  put-replaced m [] sorted c same = absurd (Contains-none m c)
  put-replaced m (y ∷ ys) sorted c same =
      let where_is = Contains-cases y m ys c in
      put_cases (on key nat_cmp) x (λ zs. zs ≡ map in_place (y ∷ ys)) y ys
      (λ above e. absurd (not_above y m ys above (λ level. let below : key x < key y = ranked _ _ Less (sym e) in
      omega (arith, below, level)) where_is same))
      (λ above e. replaced_first y ys sorted e)
      (λ above e. absurd (not_above y m ys above (λ level. let over : key y < key x = ranked _ _ Greater (sym e) in
      omega (arith, over, level)) where_is same))
      (λ late. by_rank (nat_cmp (key x) (key y)) y m ys refl sorted where_is same late
      (λ there. put-replaced m ys sorted.1 there same))

  pub length-put_replaced : (m : A) (xs : List A) → IsStrictlySortedBy (on key nat_cmp) xs → Contains xs m
      → key m ≡ key x → length (put (on key nat_cmp) x xs) ≡ length xs
  length-put_replaced m xs sorted c same = ap length (put-replaced m xs sorted c same) ∙ length-map xs in_place
