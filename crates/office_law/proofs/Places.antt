-- Places that stay clear: none at all, and some of those that are clear.
use Rattle.office_law.proofs.Common.{◌≡◌, Bool, true, false, ◌||◌, ◌&&◌, not, List, [], ◌∷◌, map, refl, sym, ap, ◌∙◌}
use Rattle.office_law.proofs.Common.{arith, All, filter, list_any, cond_both, or_parts, not-false, All-cons, All-head}
use Rattle.office_law.proofs.Common.{All-tail}
use Rattle.std.specs.List.{AllPairs}
use Rattle.std.proofs.lemmas.List.Kept.{AllPairs-cons}
use Prim.Native.Nat.{zero, suc}

AllPairs-head : {A : Type 0} (R : A → A → Type 0) (x : A) (xs : List A) → AllPairs R (x ∷ xs) → All (R x) xs
AllPairs-head R x xs h = λ k d w. h zero (suc k) d (omega arith) (omega arith)

AllPairs-tail : {A : Type 0} (R : A → A → Type 0) (x : A) (xs : List A) → AllPairs R (x ∷ xs) → AllPairs R xs
AllPairs-tail R x xs h = λ i j d l w. h (suc i) (suc j) d (omega arith) (omega arith)

module _ {A B : Type 0} (f : A → B) (p : A → Bool) where
  -- what holds of each place holds of each that is kept
  pub All-kept : (P : B → Type 0) (xs : List A) → All P (map f xs) → All P (map f (filter p xs))
  All-kept P [] h = h
  All-kept P (x ∷ xs) h =
      cond_both (p x) (x ∷ filter p xs) (filter p xs) (λ (ys : List A). All P (map f ys))
      (λ _. All-cons P (f x) (map f (filter p xs)) (All-head P (f x) (map f xs) h)
      (All-kept P xs (All-tail P (f x) (map f xs) h)))
      (λ _. All-kept P xs (All-tail P (f x) (map f xs) h))

  -- and of any two
  pub AllPairs-kept : (R : B → B → Type 0) (xs : List A) → AllPairs R (map f xs) → AllPairs R (map f (filter p xs))
  AllPairs-kept R [] h = h
  AllPairs-kept R (x ∷ xs) h =
      cond_both (p x) (x ∷ filter p xs) (filter p xs) (λ (ys : List A). AllPairs R (map f ys))
      (λ _. AllPairs-cons R (f x) (map f (filter p xs)) (All-kept (R (f x)) xs (AllPairs-head R (f x) (map f xs) h))
      (AllPairs-kept R xs (AllPairs-tail R (f x) (map f xs) h)))
      (λ _. AllPairs-kept R xs (AllPairs-tail R (f x) (map f xs) h))

pub list_any-map : {A B : Type 0} (p : B → Bool) (f : A → B) (xs : List A)
    → list_any p (map f xs) ≡ list_any (λ x. p (f x)) xs
list_any-map p f [] = refl
list_any-map p f (x ∷ xs) = ap (λ b. p (f x) || b) (list_any-map p f xs)

or_right : (a b : Bool) → b ≡ true → (a || b) ≡ true
or_right true b h = refl
or_right false b h = h

or_either : (a b c : Bool) → (b ≡ true → c ≡ true) → (a || b) ≡ true → (a || c) ≡ true
or_either true b c f h = refl
or_either false b c f h = f h

by_test : {A : Type 0} (q p : A → Bool) (x : A) (xs : List A) → (list_any q (filter p xs) ≡ true → list_any q xs ≡ true)
    → list_any q (filter p (x ∷ xs)) ≡ true → list_any q (x ∷ xs) ≡ true
by_test {A = A} q p x xs later =
    cond_both (p x) (x ∷ filter p xs) (filter p xs)
    (λ (ys : List A). list_any q ys ≡ true → (q x || list_any q xs) ≡ true)
    (λ _. or_either (q x) (list_any q (filter p xs)) (list_any q xs) later)
    (λ _ h. or_right (q x) (list_any q xs) (later h))

-- what is found among those that are kept is there
pub any_from_kept : {A : Type 0} (q p : A → Bool) (xs : List A) → list_any q (filter p xs) ≡ true → list_any q xs ≡ true
any_from_kept {A = A} q p [] h = h
any_from_kept {A = A} q p (x ∷ xs) h = by_test {A = A} q p x xs (any_from_kept q p xs) h

-- what is there and isn't dropped is found among those that are kept
pub any_kept : {A : Type 0} (q n : A → Bool) (xs : List A) → list_any q xs ≡ true
    → list_any (λ x. n x && q x) xs ≡ false → list_any q (filter (λ x. not (n x)) xs) ≡ true
any_kept {A = A} q n [] h none = h
any_kept {A = A} q n (x ∷ xs) h none =
    let parts = or_parts (n x && q x) (list_any (λ y. n y && q y) xs) none in
    let rest = filter (λ y. not (n y)) xs in
    cond_both (not (n x)) (x ∷ rest) rest (λ (ys : List A). list_any q ys ≡ true)
    (λ _. or_either (q x) (list_any q xs) (list_any q rest) (λ k. any_kept q n xs k parts.1) h)
    (λ e.
    let dropped : q x ≡ false = ap (λ b. b && q x) (sym (not-false (n x) e)) ∙ parts.0 in
    any_kept q n xs (ap (λ b. b || list_any q xs) (sym dropped) ∙ h) parts.1)
