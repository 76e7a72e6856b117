-- What a list keeps where an item is put into it.
use Rattle.std.proofs.Common.{◌≡◌, ◌+◌, ◌≤◌, ◌&&◌, Bool, true, false, cond, List, [], ◌∷◌, length, refl, sym, ◌∙◌, ap}
use Rattle.std.proofs.Common.{arith}
use Rattle.std.specs.List.{All, AllByRecursion, AllPairs}
use Rattle.std.specs.List.Sorted.{IsStrictlySortedBy}
use Rattle.std.specs.Cmp.{IsTotalOrder}
use Rattle.std.specs.Ordering.{is_lt, ordering_reverse}
use Rattle.std.specs.declared.cmp.Ordering.{Ordering}
use Rattle.std.specs.declared.cmp.Ordering.TheVariants.{Less, Equal, Greater}
use Rattle.std.proofs.lemmas.Bool.{false≢true}
use Rattle.std.proofs.lemmas.List.Elements.{All-from_recursion, recursion_from_All, All-cons, All-tail}
use Rattle.std.proofs.lemmas.List.Kept.{AllPairs-cons}
use Rattle.base.specs.Keyed.{are_above, put, put_by_order}
use Prim.Native.Nat.{zero, suc}

module _ {A : Type 0} (order : A → A → Ordering) (x : A) where
  -- a list begins with y: what holds of it with x put in, by where x goes
  pub put_cases : (P : List A → Type 0) (y : A) (ys : List A)
      → (are_above order x ys ≡ true → order x y ≡ Less → P (x ∷ y ∷ ys))
      → (are_above order x ys ≡ true → order x y ≡ Equal → P (x ∷ ys))
      → (are_above order x ys ≡ true → order x y ≡ Greater → P (y ∷ x ∷ ys))
      → (are_above order x ys ≡ false → P (y ∷ put order x ys))
      → P (put order x (y ∷ ys))
  put_cases P y ys less equal greater later = by_test (are_above order x ys) refl
    where
      by_order : are_above order x ys ≡ true → (r : Ordering) → order x y ≡ r → P (put_by_order r x y ys)
      by_order above Less e = less above e
      by_order above Equal e = equal above e
      by_order above Greater e = greater above e

      by_test : (b : Bool) → are_above order x ys ≡ b
          → P (cond b (put_by_order (order x y) x y ys) (y ∷ put order x ys))
      by_test true above = by_order above (order x y) refl
      by_test false below = later below

  -- it is at most one item longer
  pub length-put : (xs : List A) → length (put order x xs) ≤ length xs + 1
  length-put [] = omega arith
  length-put (y ∷ ys) =
      put_cases (λ zs. length zs ≤ length (y ∷ ys) + 1) y ys (λ above e. omega arith) (λ above e. omega arith)
      (λ above e. omega arith)
      (λ below. let h = length-put ys in omega arith)

  each_put : (P : A → Type 0) (xs : List A) → P x → AllByRecursion P xs → AllByRecursion P (put order x xs)
  each_put P [] px h = (px, tt)
  each_put P (y ∷ ys) px h =
      put_cases (AllByRecursion P) y ys (λ above e. (px, h)) (λ above e. (px, h.1)) (λ above e. (h.0, (px, h.1)))
      (λ below. (h.0, each_put P ys px h.1))

-- what holds of it and of each item
pub All-put : {A : Type 0} (P : A → Type 0) (order : A → A → Ordering) (x : A) (xs : List A) → P x → All P xs
    → All P (put order x xs)
All-put P order x xs px h = All-from_recursion P (put order x xs) (each_put order x P xs px (recursion_from_All P xs h))

AllPairs-head : {A : Type 0} (R : A → A → Type 0) (x : A) (xs : List A) → AllPairs R (x ∷ xs) → All (R x) xs
AllPairs-head R x xs h = λ k d w. h zero (suc k) d (omega arith) (omega arith)

AllPairs-tail : {A : Type 0} (R : A → A → Type 0) (x : A) (xs : List A) → AllPairs R (x ∷ xs) → AllPairs R xs
AllPairs-tail R x xs h = λ i j d l w. h (suc i) (suc j) d (omega arith) (omega arith)

-- what holds between any two items, whichever comes first, and between it and each item
pub AllPairs-put : {A : Type 0} (R : A → A → Type 0) → ((a b : A) → R a b → R b a)
    → (order : A → A → Ordering) (x : A) (xs : List A)
    → All (R x) xs → AllPairs R xs → AllPairs R (put order x xs)
AllPairs-put R flip order x [] h p = AllPairs-cons R x [] h p
AllPairs-put {A} R flip order x (y ∷ ys) h p =
    let rest : All (R x) ys = All-tail (R x) y ys h in
    let below : AllPairs R ys = AllPairs-tail R y ys p in
    let after : All (R y) ys = AllPairs-head R y ys p in
    let back : R y x = flip x y (h zero y (omega arith)) in
    put_cases order x (AllPairs R) y ys (λ above e. AllPairs-cons R x (y ∷ ys) h p)
    (λ above e. AllPairs-cons R x ys rest below)
    (λ above e. AllPairs-cons R y (x ∷ ys) (All-cons (R y) x ys back after) (AllPairs-cons R x ys rest below))
    (λ late. AllPairs-cons R y (put order x ys) (All-put (R y) order x ys back after)
    (AllPairs-put R flip order x ys rest below))

each_weaker : {A : Type 0} (P Q : A → Type 0) → ((a : A) → P a → Q a) → (xs : List A) → AllByRecursion P xs
    → AllByRecursion Q xs
each_weaker P Q f [] h = tt
each_weaker P Q f (x ∷ xs) h = (f x h.0, each_weaker P Q f xs h.1)

each_above : {A : Type 0} (order : A → A → Ordering) (x : A) (xs : List A) → are_above order x xs ≡ true
    → AllByRecursion (λ a. order x a ≡ Less) xs
each_above order x [] h = tt
each_above order x (y ∷ ys) h = by_order (order x y) refl h (each_above order x ys)
  where
    by_order : (r : Ordering) → order x y ≡ r → (is_lt r && are_above order x ys) ≡ true
        → (are_above order x ys ≡ true → AllByRecursion (λ a. order x a ≡ Less) ys) → (order x y ≡ Less)
        × AllByRecursion (λ a. order x a ≡ Less) ys
    by_order Less e k later = (e, later k)
    by_order Equal e k later = absurd (false≢true k)
    by_order Greater e k later = absurd (false≢true k)

above_each : {A : Type 0} (order : A → A → Ordering) (x : A) (xs : List A) → AllByRecursion (λ a. order x a ≡ Less) xs
    → are_above order x xs ≡ true
above_each order x [] h = refl
above_each order x (y ∷ ys) h = ap (λ r. is_lt r && are_above order x ys) h.0 ∙ above_each order x ys h.1

module _ {A : Type 0} (order : A → A → Ordering) (laws : IsTotalOrder order) where
  -- where x belongs after a later item, it belongs after y
  before_later : (x y : A) (ys : List A) → AllByRecursion (λ a. order y a ≡ Less) ys → are_above order x ys ≡ false
      → order y x ≡ Less
  before_later x y ys h late = by_order (order x y) refl
    where
      by_order : (r : Ordering) → order x y ≡ r → order y x ≡ Less
      by_order Less e =
          absurd (false≢true (sym late
          ∙ above_each order x ys (each_weaker (λ a. order y a ≡ Less) (λ a. order x a ≡ Less)
          (λ a l. laws.trans x y a e l) ys h)))
      by_order Equal e =
          absurd (false≢true (sym late
          ∙ above_each order x ys (each_weaker (λ a. order y a ≡ Less) (λ a. order x a ≡ Less)
          (λ a l. laws.congr x y a e ∙ l) ys h)))
      by_order Greater e = laws.antisymm y x ∙ ap ordering_reverse e

  -- the order of the items
  pub IsStrictlySortedBy-put : (x : A) (xs : List A) → IsStrictlySortedBy order xs
      → IsStrictlySortedBy order (put order x xs)
  unfolding IsStrictlySortedBy
  IsStrictlySortedBy-put x [] h = (tt, tt)
  IsStrictlySortedBy-put x (y ∷ ys) h =
      put_cases order x (IsStrictlySortedBy order) y ys
      (λ above e. ((e, each_above order x ys above), h))
      (λ above e. (each_above order x ys above, h.1))
      (λ above e. ((laws.antisymm y x ∙ ap ordering_reverse e, h.0), (each_above order x ys above, h.1)))
      (λ late. (
        each_put order x (λ a. order y a ≡ Less) ys (before_later x y ys h.0 late) h.0,
        IsStrictlySortedBy-put x ys h.1,
      ))
