-- Lists in the order of a key: what is in them, what an item put into them leaves, and what a change of items leaves.
use Rattle.office_law.proofs.Common.{◌&&◌, ◌≡◌, ◌<◌, ◌≤◌, ◌⊎◌, ◌∙◌, Bool, true, false, cond, ℕ, zero, suc, List, []}
use Rattle.office_law.proofs.Common.{◌∷◌, Option, Some, map, length, get_or, Contains, inl, inr, refl, sym, ap, subst}
use Rattle.office_law.proofs.Common.{arith, None, IfSome, is_none, All, AllByRecursion, filter, find, list_any, nat_cmp}
use Rattle.office_law.proofs.Common.{on, is_lt, bytes_eq, Ordering, Less, Equal, Greater, false≢true, cond_both}
use Rattle.office_law.proofs.Common.{or_parts, ranked, All-from_recursion, recursion_from_All, All-contains, All-head}
use Rattle.office_law.proofs.Common.{All-tail, are_above, put, put_by_order, All-put, put_cases, AreNamedApart}
use Rattle.office_law.proofs.Common.{has_name}
use Rattle.std.specs.List.{IsDistinct}
use Rattle.std.specs.List.Sorted.{IsStrictlySortedBy}
use Rattle.dbc_words.proofs.Naming.{apart-insert}

module _ {A : Type 0} where
  pub Contains-first : (x : A) (xs : List A) → Contains (x ∷ xs) x
  Contains-first x xs = (0, omega arith, refl)

  pub Contains-later : (x y : A) (xs : List A) → Contains xs y → Contains (x ∷ xs) y
  Contains-later x y xs c = (suc c.0, omega (arith, c.1), c.2)

  first_or_later : (x y : A) (xs : List A) (k : ℕ) → k < suc (length xs) → get_or (x ∷ xs) k y ≡ y
      → (y ≡ x) ⊎ Contains xs y
  first_or_later x y xs zero within e = inl (sym e)
  first_or_later x y xs (suc k) within e = inr (k, omega arith, e)

  pub Contains-cases : (x y : A) (xs : List A) → Contains (x ∷ xs) y → (y ≡ x) ⊎ Contains xs y
  Contains-cases x y xs c = first_or_later x y xs c.0 (omega (arith, c.1)) c.2

  pub Contains-none : (y : A) → Contains {X = A} [] y → ⊥
  Contains-none y c = omega (arith, c.1)

  -- what holds of whatever is in it
  pub All-from_contains : (P : A → Type 0) (xs : List A) → ((x : A) → Contains xs x → P x) → All P xs
  All-from_contains P xs h = All-from_recursion P xs (each xs h)
    where
      each : (ys : List A) → ((y : A) → Contains ys y → P y) → AllByRecursion P ys
      each [] h = tt
      each (y ∷ ys) h = (h y (Contains-first y ys), each ys (λ z c. h z (Contains-later y z ys c)))

  module _ (order : A → A → Ordering) (x : A) where
    -- what is put in is there
    pub Contains-put : (xs : List A) → Contains (put order x xs) x
    Contains-put [] = Contains-first x []
    Contains-put (y ∷ ys) =
        put_cases order x (λ zs. Contains zs x) y ys (λ above e. Contains-first x (y ∷ ys))
        (λ above e. Contains-first x ys)
        (λ above e. Contains-later y x (x ∷ ys) (Contains-first x ys))
        (λ late. Contains-later y x (put order x ys) (Contains-put ys))

    -- and whatever was there still is, unless it has the same key
    pub Contains-put_other : (z : A) (xs : List A) → Contains xs z → Contains (put order x xs) z ⊎ (order x z ≡ Equal)
    Contains-put_other z [] c = absurd (Contains-none z c)
    Contains-put_other z (y ∷ ys) c =
        put_cases order x (λ zs. Contains zs z ⊎ (order x z ≡ Equal)) y ys
        (λ above e. inl (Contains-later x z (y ∷ ys) c))
        (λ above e. elim (Contains-cases y z ys c)
        [ inl same ↦ inr (ap (order x) same ∙ e) | inr there ↦ inl (Contains-later x z ys there) ])
        (λ above e. inl (elim (Contains-cases y z ys c) [
          | inl same ↦ subst (λ v. Contains (y ∷ x ∷ ys) v) (sym same) (Contains-first y (x ∷ ys))
          | inr there ↦ Contains-later y z (x ∷ ys) (Contains-later x z ys there)
        ]))
        (λ late. elim (Contains-cases y z ys c) [
          | inl same ↦ inl (subst (λ v. Contains (y ∷ put order x ys) v) (sym same) (Contains-first y (put order x ys)))
          | inr there ↦ elim (Contains-put_other z ys there)
              [ inl kept ↦ inl (Contains-later y z (put order x ys) kept) | inr equal ↦ inr equal ]
        ])

    -- nothing else is there
    pub Contains-from_put : (z : A) (xs : List A) → Contains (put order x xs) z → (z ≡ x) ⊎ Contains xs z
    Contains-from_put z xs c =
        All-contains (λ y. (y ≡ x) ⊎ Contains xs y) (put order x xs) z
        (All-put (λ y. (y ≡ x) ⊎ Contains xs y) order x xs (inl refl)
        (All-from_contains (λ y. (y ≡ x) ⊎ Contains xs y) xs (λ y d. inr d))) c

  -- Lists in the order of a number.
  module _ (key : A → ℕ) where
    pub after_first : (x : A) (xs : List A) → IsStrictlySortedBy (on key nat_cmp) (x ∷ xs) → (y : A) → Contains xs y
        → key x < key y
    unfolding IsStrictlySortedBy
    after_first x xs sorted y c =
        ranked _ _ _ (sym (All-contains (λ z. on key nat_cmp x z ≡ Less) xs y (All-from_recursion _ xs sorted.0) c))

    -- no two have one number
    pub one_of_key : (xs : List A) → IsStrictlySortedBy (on key nat_cmp) xs → (a b : A) → Contains xs a → Contains xs b
        → key a ≡ key b → a ≡ b
    unfolding IsStrictlySortedBy
    one_of_key [] sorted a b c d e = absurd (Contains-none a c)
    one_of_key (x ∷ xs) sorted a b c d e = elim (Contains-cases x a xs c) [
      | inl first ↦ elim (Contains-cases x b xs d) [
        | inl same ↦ first ∙ sym same
        | inr later ↦ absurd (let above : key x < key b = after_first x xs sorted b later in let k : key a ≡ key x =
            ap key first in omega (arith, above, k, e))
      ]
      | inr later ↦ elim (Contains-cases x b xs d) [
        | inl same ↦ absurd (let above : key x < key a = after_first x xs sorted a later in let k : key b ≡ key x =
            ap key same in omega (arith, above, k, e))
        | inr also ↦ one_of_key xs sorted.1 a b later also e
      ]
    ]

-- A list of things with names, where one of a new name is put in.
module _ {A : Type 0} (order : A → A → Ordering) (name : A → List ℕ) where
  pub apart-put : (x : A) (xs : List A) → AreNamedApart name xs → has_name name xs (name x) ≡ false
      → AreNamedApart name (put order x xs)
  unfolding IsDistinct
  apart-put x [] h new = (tt, tt)
  apart-put x (y ∷ ys) h new =
      let parts = or_parts _ (has_name name ys (name x)) new in
      let apart : A → Type 0 = λ z. bytes_eq (name y) (name z) ≡ false in
      let first : AreNamedApart name (x ∷ ys) = apart-insert name ys 0 x h.1 parts.1 in
      put_cases order x (AreNamedApart name) y ys
      (λ above e. apart-insert name (y ∷ ys) 0 x h new)
      (λ above e. first)
      (λ above e. ((parts.0, h.0), first))
      (λ late. (
        recursion_from_All apart (put order x ys) (All-put apart order x ys parts.0 (All-from_recursion apart ys h.0)),
        apart-put x ys h.1 parts.1,
      ))

-- Items that are changed without what keeps them apart.
module _ {A : Type 0} (e : A → A → Bool) (f : A → A) where
  pub record Looks (a : A) : Type 0 where
    pub left : (b : A) → e (f a) b ≡ e a b
    pub right : (b : A) → e b (f a) ≡ e b a

  each_changed : (a : A) (ys : List A) → Looks a → AllByRecursion Looks ys → AllByRecursion (λ b. e a b ≡ false) ys
      → AllByRecursion (λ b. e (f a) b ≡ false) (map f ys)
  each_changed a [] looks same h = tt
  each_changed a (y ∷ ys) looks same h = (looks.left (f y) ∙ same.0.right a ∙ h.0, each_changed a ys looks same.1 h.1)

  pub IsDistinct-map : (xs : List A) → AllByRecursion Looks xs → IsDistinct e xs → IsDistinct e (map f xs)
  unfolding IsDistinct
  IsDistinct-map [] same h = tt
  IsDistinct-map (x ∷ xs) same h = (each_changed x xs same.0 same.1 h.0, IsDistinct-map xs same.1 h.1)

-- Lists of parts of items.
module _ {A B : Type 0} (order : A → A → Ordering) (other : B → B → Ordering) (f : A → B)
    (agree : (a b : A) → order a b ≡ other (f a) (f b)) where
  map_placed : (b : Bool) (r : Ordering) (x y : A) (ys zs : List A) (ws : List B) → map f zs ≡ ws
      → map f (cond b (put_by_order r x y ys) (y ∷ zs)) ≡ cond b (put_by_order r (f x) (f y) (map f ys)) (f y ∷ ws)
  map_placed true Less x y ys zs ws h = refl
  map_placed true Equal x y ys zs ws h = refl
  map_placed true Greater x y ys zs ws h = refl
  map_placed false r x y ys zs ws h = ap (λ v. f y ∷ v) h

  same_above : (x : A) (ys : List A) → are_above order x ys ≡ are_above other (f x) (map f ys)
  same_above x [] = refl
  same_above x (y ∷ ys) =
      ap (λ r. is_lt r && are_above order x ys) (agree x y) ∙ ap (λ b. is_lt (other (f x) (f y)) && b) (same_above x ys)

  pub map-put : (x : A) (xs : List A) → map f (put order x xs) ≡ put other (f x) (map f xs)
  map-put x [] = refl
  map-put x (y ∷ ys) =
      map_placed (are_above order x ys) (order x y) x y ys (put order x ys) (put other (f x) (map f ys)) (map-put x ys)
      ∙ ap (λ r. cond (are_above order x ys) (put_by_order r (f x) (f y) (map f ys)) (f y ∷ put other (f x) (map f ys)))
      (agree x y)
      ∙ ap (λ b. cond b (put_by_order (other (f x) (f y)) (f x) (f y) (map f ys)) (f y ∷ put other (f x) (map f ys)))
      (same_above x ys)

module _ {A B : Type 0} (f : A → B) (p : A → Bool) (q : B → Bool) (agree : (a : A) → p a ≡ q (f a)) where
  filtered : (b c : Bool) (x : A) (xs : List A) (ys : List B) → b ≡ c → map f xs ≡ ys
      → map f (cond b (x ∷ xs) xs) ≡ cond c (f x ∷ ys) ys
  filtered true true x xs ys e h = ap (λ v. f x ∷ v) h
  filtered true false x xs ys e h = absurd (false≢true (sym e))
  filtered false true x xs ys e h = absurd (false≢true e)
  filtered false false x xs ys e h = h

  pub map-filter : (xs : List A) → map f (filter p xs) ≡ filter q (map f xs)
  map-filter [] = refl
  map-filter (x ∷ xs) = filtered (p x) (q (f x)) x (filter p xs) (filter q (map f xs)) (agree x) (map-filter xs)

pub length-filter_le : {A : Type 0} (p : A → Bool) (xs : List A) → length (filter p xs) ≤ length xs
length-filter_le p [] = omega arith
length-filter_le p (x ∷ xs) = let h = length-filter_le p xs in
    cond_both (p x) (x ∷ filter p xs) (filter p xs) (λ ys. length ys ≤ suc (length xs)) (λ _. omega arith)
    (λ _. omega arith)

-- where no item of a list passes a test
pub All-from_none : {A : Type 0} (p : A → Bool) (xs : List A) → list_any p xs ≡ false → All (λ x. p x ≡ false) xs
All-from_none p xs h = All-from_recursion _ xs (each xs h)
  where
    each : (ys : List _) → list_any p ys ≡ false → AllByRecursion (λ y. p y ≡ false) ys
    each [] h = tt
    each (y ∷ ys) h = let parts = or_parts (p y) (list_any p ys) h in (parts.0, each ys parts.1)

-- what is found is there
pub Contains-found : {A : Type 0} (p : A → Bool) (xs : List A) (x : A) → find p xs ≡ Some x → Contains xs x
Contains-found p xs x e =
    subst (λ (o : Option _). IfSome o (Contains xs)) e (if_found xs (All-from_contains (Contains xs) xs (λ y c. c)))
  where
    if_found : (ys : List _) → All (Contains xs) ys → IfSome (find p ys) (Contains xs)
    if_found [] h = tt
    if_found (y ∷ ys) h =
        cond_both (p y) (Some y) (find p ys) (λ (o : Option _). IfSome o (Contains xs))
        (λ _. All-head (Contains xs) y ys h) (λ _. if_found ys (All-tail (Contains xs) y ys h))

-- nothing is there
pub none_from_is : {A : Type 0} (o : Option A) → is_none o ≡ true → o ≡ None
none_from_is None h = refl
none_from_is (Some x) h = absurd (false≢true h)
