-- What is in a list, and in lists that are made of others.
use Rattle.dbc_compare.proofs.Common.{◌≡◌, ◌<◌, ◌++◌, ◌⊎◌, ◌∙◌, Bool, true, false, ℕ, suc, List, [], ◌∷◌, get_or}
use Rattle.dbc_compare.proofs.Common.{take, drop, map, Some, None, inl, inr, refl, sym, ap, subst, arith}
use Rattle.dbc_compare.proofs.Common.{AllByRecursion, flat_map, both_ways, cond-true, some_same}
use Rattle.std.proofs.Common.{zero, length, Contains}
use Rattle.std.specs.List.{All, IsDistinct, filter, find, list_any}
use Rattle.std.proofs.lemmas.Bool.{cases_Bool, cond-false, or_left, or_parts, or_right}
use Rattle.std.proofs.lemmas.List.{take-append-drop}
use Rattle.std.proofs.lemmas.List.Elements.{recursion_from_All}
use Rattle.dbc_words.proofs.NamedThings.{some_none}

pub In : {A : Type 0} → A → List A → Type 0
In x [] = ⊥
In x (y ∷ ys) = (x ≡ y) ⊎ In x ys

-- nothing else is empty
pub empty_if_none : {A : Type 0} (xs : List A) → ((x : A) → In x xs → ⊥) → xs ≡ []
unfolding In
empty_if_none [] none = refl
empty_if_none (x ∷ xs) none = absurd (none x (inl refl))

pub none_if_empty : {A : Type 0} (xs : List A) → xs ≡ [] → (x : A) → In x xs → ⊥
unfolding In
none_if_empty [] e x h = h
none_if_empty (y ∷ ys) e x h = cc e

pub in_alone : {A : Type 0} (x y : A) → In x (y ∷ []) → x ≡ y
unfolding In
in_alone x y h = elim h [ inl e ↦ e | inr t ↦ absurd t ]

pub in_first : {A : Type 0} (x y : A) (xs : List A) → x ≡ y → In x (y ∷ xs)
unfolding In
in_first x y xs e = inl e

pub in_later : {A : Type 0} (x y : A) (xs : List A) → In x xs → In x (y ∷ xs)
unfolding In
in_later x y xs h = inr h

pub in_cons : {A : Type 0} (x y : A) (xs : List A) → In x (y ∷ xs) → (x ≡ y) ⊎ In x xs
unfolding In
in_cons x y xs h = h

-- ---- of a clause and of a list by recursion

at_index : {A : Type 0} (xs : List A) (x : A) (k : ℕ) → k < length xs → get_or xs k x ≡ x → In x xs
unfolding In
at_index [] x k within e = absurd (omega arith)
at_index (y ∷ ys) x zero within e = inl (sym e)
at_index (y ∷ ys) x (suc k) within e = inr (at_index ys x k (omega arith) e)

pub in_from : {A : Type 0} (xs : List A) (x : A) → Contains xs x → In x xs
in_from xs x h = at_index xs x h.0 h.1 h.2

pub in_to : {A : Type 0} (xs : List A) (x : A) → In x xs → Contains xs x
unfolding In
in_to [] x h = absurd h
in_to (y ∷ ys) x h = elim h [
  | inl e ↦ (0, omega arith, sym e)
  | inr t ↦ let c = in_to ys x t in (suc c.0, omega (arith, c.1), c.2)
]

pub each_in : {A : Type 0} (P : A → Type 0) (xs : List A) (x : A) → AllByRecursion P xs → In x xs → P x
unfolding In
each_in P [] x all h = absurd h
each_in P (y ∷ ys) x all h = elim h [ inl e ↦ subst P (sym e) all.0 | inr t ↦ each_in P ys x all.1 t ]

pub all_in : {A : Type 0} (P : A → Type 0) (xs : List A) (x : A) → All P xs → In x xs → P x
all_in P xs x all h = each_in P xs x (recursion_from_All P xs all) h

-- ---- joined lists

pub in_left : {A : Type 0} (xs ys : List A) (x : A) → In x xs → In x (xs ++ ys)
unfolding In
in_left [] ys x h = absurd h
in_left (z ∷ xs) ys x h = elim h [ inl e ↦ inl e | inr t ↦ inr (in_left xs ys x t) ]

pub in_right : {A : Type 0} (xs ys : List A) (x : A) → In x ys → In x (xs ++ ys)
unfolding In
in_right [] ys x h = h
in_right (z ∷ xs) ys x h = inr (in_right xs ys x h)

pub in_either : {A : Type 0} (xs ys : List A) (x : A) → In x (xs ++ ys) → In x xs ⊎ In x ys
unfolding In
in_either [] ys x h = inr h
in_either (z ∷ xs) ys x h = elim h [
  | inl e ↦ inl (inl e)
  | inr t ↦ elim (in_either xs ys x t) [ inl l ↦ inl (inr l) | inr r ↦ inr r ]
]

pub in_parts : {A : Type 0} (n : ℕ) (xs : List A) (x : A) → In x xs → In x (take n xs) ⊎ In x (drop n xs)
in_parts n xs x h =
    in_either (take n xs) (drop n xs) x (subst (λ ys. In x ys) (sym (take-append-drop n xs)) h)

pub in_take : {A : Type 0} (n : ℕ) (xs : List A) (x : A) → In x (take n xs) → In x xs
in_take n xs x h = subst (λ ys. In x ys) (take-append-drop n xs) (in_left (take n xs) (drop n xs) x h)

pub in_drop : {A : Type 0} (n : ℕ) (xs : List A) (x : A) → In x (drop n xs) → In x xs
in_drop n xs x h = subst (λ ys. In x ys) (take-append-drop n xs) (in_right (take n xs) (drop n xs) x h)

pub in_flat : {A B : Type 0} (f : A → List B) (xs : List A) (x : A) (y : B) → In x xs → In y (f x)
    → In y (flat_map f xs)
unfolding In
in_flat f [] x y h k = absurd h
in_flat f (z ∷ xs) x y h k = elim h [
  | inl e ↦ in_left (f z) (flat_map f xs) y (subst (λ v. In y (f v)) e k)
  | inr t ↦ in_right (f z) (flat_map f xs) y (in_flat f xs x y t k)
]

pub from_flat : {A B : Type 0} (f : A → List B) (xs : List A) (y : B) → In y (flat_map f xs)
    → (x : A) × In x xs × In y (f x)
unfolding In
from_flat f [] y h = absurd h
from_flat f (z ∷ xs) y h = elim (in_either (f z) (flat_map f xs) y h) [
  | inl l ↦ (z, inl refl, l)
  | inr r ↦ let it = from_flat f xs y r in (it.0, inr it.1, it.2)
]

pub in_map : {A B : Type 0} (f : A → B) (xs : List A) (x : A) → In x xs → In (f x) (map f xs)
unfolding In
in_map f [] x h = absurd h
in_map f (z ∷ xs) x h = elim h [ inl e ↦ inl (ap f e) | inr t ↦ inr (in_map f xs x t) ]

pub from_map : {A B : Type 0} (f : A → B) (xs : List A) (y : B) → In y (map f xs) → (x : A) × In x xs × (y ≡ f x)
unfolding In
from_map f [] y h = absurd h
from_map f (z ∷ xs) y h = elim h [
  | inl e ↦ (z, inl refl, e)
  | inr t ↦ let it = from_map f xs y t in (it.0, inr it.1, it.2)
]

-- ---- what a search finds

-- what is found is in the list and passes
pub found_in : {A : Type 0} (p : A → Bool) (xs : List A) (x : A) → find p xs ≡ Some x → In x xs × (p x ≡ true)
found_in p [] x e = absurd (some_none x (sym e))
found_in p (y ∷ ys) x e = by_test (cases_Bool (p y)) (found_in p ys x)
  where
    by_test : (p y ≡ true) ⊎ (p y ≡ false) → (find p ys ≡ Some x → In x ys × (p x ≡ true))
        → In x (y ∷ ys) × (p x ≡ true)
    by_test (inl t) later =
        let it : x ≡ y = sym (some_same y x (sym (cond-true (p y) (Some y) (find p ys) t) ∙ e)) in
        (in_first x y ys it, ap p it ∙ t)
    by_test (inr f) later =
        let it = later (sym (cond-false (p y) (Some y) (find p ys) f) ∙ e) in (in_later x y ys it.0, it.1)

-- what alone passes is found
pub find_only : {A : Type 0} (p : A → Bool) (xs : List A) (x : A) → In x xs → p x ≡ true
    → ((y : A) → In y xs → p y ≡ true → y ≡ x) → find p xs ≡ Some x
find_only p [] x h passes only = absurd (none_if_empty [] refl x h)
find_only p (y ∷ ys) x h passes only =
    by_test (cases_Bool (p y)) (in_cons x y ys h)
    (λ t. find_only p ys x t passes (λ z k. only z (in_later z y ys k)))
  where
    by_test : (p y ≡ true) ⊎ (p y ≡ false) → (x ≡ y) ⊎ In x ys → (In x ys → find p ys ≡ Some x)
        → find p (y ∷ ys) ≡ Some x
    by_test (inl t) k later = cond-true (p y) (Some y) (find p ys) t ∙ ap Some (only y (in_first y y ys refl) t)
    by_test (inr f) (inl e) later = absurd (both_ways (p y) f (ap p (sym e) ∙ passes))
    by_test (inr f) (inr t) later = cond-false (p y) (Some y) (find p ys) f ∙ later t

-- nothing is found where nothing passes
pub find_none : {A : Type 0} (p : A → Bool) (xs : List A) → list_any p xs ≡ false → find p xs ≡ None
find_none p [] e = refl
find_none p (y ∷ ys) e =
    let parts = or_parts (p y) (list_any p ys) e in
    cond-false (p y) (Some y) (find p ys) parts.0 ∙ find_none p ys parts.1

-- one passes
pub any_in : {A : Type 0} (p : A → Bool) (xs : List A) (x : A) → In x xs → p x ≡ true → list_any p xs ≡ true
any_in p [] x h passes = absurd (none_if_empty [] refl x h)
any_in p (y ∷ ys) x h passes = by_place (in_cons x y ys h) (λ t. any_in p ys x t passes)
  where
    by_place : (x ≡ y) ⊎ In x ys → (In x ys → list_any p ys ≡ true) → list_any p (y ∷ ys) ≡ true
    by_place (inl e) later = or_left (p y) (list_any p ys) (ap p (sym e) ∙ passes)
    by_place (inr t) later = or_right (p y) (list_any p ys) (later t)

-- a filter that all pass keeps the list
pub all_kept : {A : Type 0} (p : A → Bool) (xs : List A) → ((x : A) → In x xs → p x ≡ true) → filter p xs ≡ xs
all_kept p [] h = refl
all_kept p (x ∷ xs) h =
    cond-true (p x) (x ∷ filter p xs) (filter p xs) (h x (in_first x x xs refl))
    ∙ ap (λ ys. x ∷ ys) (all_kept p xs (λ y k. h y (in_later y x xs k)))

-- ---- things that are apart

-- two of them that the test says are the same are one
pub one_alone : {A : Type 0} (R : A → A → Bool) → ((x y : A) → R x y ≡ R y x) → (xs : List A) → IsDistinct R xs
    → (x y : A) → In x xs → In y xs → R x y ≡ true → x ≡ y
unfolding IsDistinct
one_alone R flip [] apart x y h k same = absurd (none_if_empty [] refl x h)
one_alone R flip (z ∷ zs) apart x y h k same =
    by_places (in_cons x z zs h) (in_cons y z zs k) (λ t u. one_alone R flip zs apart.1 x y t u same)
  where
    by_places : (x ≡ z) ⊎ In x zs → (y ≡ z) ⊎ In y zs → (In x zs → In y zs → x ≡ y) → x ≡ y
    by_places (inl e) (inl f) later = e ∙ sym f
    by_places (inl e) (inr t) later =
        absurd (both_ways (R z y) (each_in (λ w. R z w ≡ false) zs y apart.0 t) (ap (λ w. R w y) (sym e) ∙ same))
    by_places (inr t) (inl f) later =
        absurd (both_ways (R z x) (each_in (λ w. R z w ≡ false) zs x apart.0 t)
        (flip z x ∙ ap (λ w. R x w) (sym f) ∙ same))
    by_places (inr t) (inr u) later = later t u
