-- The thing of a name among things whose names are apart: it is found, taken out, or changed.
use Rattle.dbc_words.proofs.Common.{◌≡◌, ◌<◌, ◌∙◌, ◌||◌, Bool, true, false, cond, not, ℕ, zero, suc, List, [], ◌∷◌, ◌+◌}
use Rattle.dbc_words.proofs.Common.{length, get_or, set, Option, Some, None, refl, sym, ap, subst, arith}
use Rattle.dbc_words.proofs.Common.{AllByRecursion, find, list_any, position, remove, bytes_eq, or_parts}
use Rattle.dbc_words.proofs.Common.{bytes_eq-Decides}
use Rattle.std.specs.List.{IsDistinct, position_from}
use Rattle.std.proofs.lemmas.Iterator.Adapters.{position_from-zero}
use Rattle.std.proofs.lemmas.List.Folds.{list_any_at}
use Rattle.dbc_words.specs.Named.{AreNamedApart, at_named, has_name, thing_named, without_named}
use Rattle.dbc_words.proofs.Naming.{each_at, no_other}

pub some_none : {A : Type 0} (x : A) → ◌≡◌ {A = Option A} (Some x) None → ⊥
some_none x e = cc

pub some_same : {A : Type 0} (x y : A) → ◌≡◌ {A = Option A} (Some x) (Some y) → x ≡ y
some_same x y e = cc

-- no index is found where none passes
none_from : {A : Type 0} (p : A → Bool) (xs : List A) (i : ℕ) → position_from p i xs ≡ None → list_any p xs ≡ false
none_from p [] i h = refl
none_from p (x ∷ xs) i h = by_test (p x) h (none_from p xs (i + 1))
  where
    by_test : (b : Bool) → cond b (Some i) (position_from p (i + 1) xs) ≡ None
        → (position_from p (i + 1) xs ≡ None → list_any p xs ≡ false) → (b || list_any p xs) ≡ false
    by_test true e later = absurd (some_none i e)
    by_test false e later = later e

pub none_at : {A : Type 0} (p : A → Bool) (xs : List A) → position p xs ≡ None → list_any p xs ≡ false
none_at p xs h = none_from p xs 0 (sym (position_from-zero p xs) ∙ h)

-- nothing is found where none passes
pub none_found : {A : Type 0} (p : A → Bool) (xs : List A) → find p xs ≡ None → list_any p xs ≡ false
none_found p [] h = refl
none_found p (x ∷ xs) h = by_test (p x) h (none_found p xs)
  where
    by_test : (b : Bool) → cond b (Some x) (find p xs) ≡ None → (find p xs ≡ None → list_any p xs ≡ false)
        → (b || list_any p xs) ≡ false
    by_test true e later = absurd (some_none x e)
    by_test false e later = later e

-- what holds of each holds of the one that is found
pub found_is : {A : Type 0} (P : A → Type 0) (p : A → Bool) (xs : List A) (x : A) → find p xs ≡ Some x
    → AllByRecursion P xs → P x
found_is P p [] x e h = absurd (some_none x (sym e))
found_is P p (y ∷ ys) x e h = by_test (p y) e (λ f. found_is P p ys x f h.1)
  where
    by_test : (b : Bool) → cond b (Some y) (find p ys) ≡ Some x → (find p ys ≡ Some x → P x) → P x
    by_test true same later = subst P (some_same y x same) h.0
    by_test false same later = later same

module _ {A : Type 0} (name : A → List ℕ) (n : List ℕ) where
  -- none has the name

  pub find_none : (xs : List A) → has_name name xs n ≡ false → thing_named name xs n ≡ None
  find_none [] h = refl
  find_none (x ∷ xs) h =
      let parts = or_parts (bytes_eq (name x) n) (has_name name xs n) h in
      ap (λ b. cond b (Some x) (thing_named name xs n)) parts.0 ∙ find_none xs parts.1

  pub all_without : (xs : List A) → has_name name xs n ≡ false → without_named name xs n ≡ xs
  all_without [] h = refl
  all_without (x ∷ xs) h =
      let parts = or_parts (bytes_eq (name x) n) (has_name name xs n) h in
      ap (λ b. cond (not b) (x ∷ without_named name xs n) (without_named name xs n)) parts.0
      ∙ ap (λ ys. x ∷ ys) (all_without xs parts.1)

  pub none_changed : (f : A → A) (xs : List A) → has_name name xs n ≡ false → at_named name f n xs ≡ xs
  none_changed f [] h = refl
  none_changed f (x ∷ xs) h =
      let parts = or_parts (bytes_eq (name x) n) (has_name name xs n) h in
      ap (λ b. cond b (f x) x ∷ at_named name f n xs) parts.0 ∙ ap (λ ys. x ∷ ys) (none_changed f xs parts.1)

  -- the one at an index has it

  pub others_have_not : (x : A) (xs : List A) → bytes_eq (name x) n ≡ true
      → AllByRecursion (λ y. bytes_eq (name x) (name y) ≡ false) xs → has_name name xs n ≡ false
  others_have_not x xs e h = no_other name x xs n ((bytes_eq-Decides (name x) n).0 e) h

  not_first : (x : A) (xs : List A) (i : ℕ) (d : A) → AllByRecursion (λ y. bytes_eq (name x) (name y) ≡ false) xs
      → i < length xs
      → bytes_eq (name (get_or xs i d)) n ≡ true → bytes_eq (name x) n ≡ false
  not_first x xs i d h lt e =
      ap (bytes_eq (name x)) (sym ((bytes_eq-Decides (name (get_or xs i d)) n).0 e))
      ∙ each_at (λ y. bytes_eq (name x) (name y) ≡ false) xs i d lt h

  pub there_at : (xs : List A) (i : ℕ) (d : A) → i < length xs → bytes_eq (name (get_or xs i d)) n ≡ true
      → has_name name xs n ≡ true
  there_at xs i d lt e = list_any_at (λ a. bytes_eq (name a) n) xs i d lt e

  pub found_at : (xs : List A) (i : ℕ) (d : A) → AreNamedApart name xs → i < length xs
      → bytes_eq (name (get_or xs i d)) n ≡ true
      → thing_named name xs n ≡ Some (get_or xs i d)
  unfolding IsDistinct
  found_at [] i d h lt e = absurd (let w : i < 0 = lt in omega (arith, w))
  found_at (x ∷ xs) zero d h lt e = ap (λ b. cond b (Some x) (thing_named name xs n)) e
  found_at (x ∷ xs) (suc i) d h lt e =
      ap (λ b. cond b (Some x) (thing_named name xs n)) (not_first x xs i d h.0 (omega (arith, lt)) e)
      ∙ found_at xs i d h.1 (omega (arith, lt)) e

  pub removed_at : (xs : List A) (i : ℕ) (d : A) → AreNamedApart name xs → i < length xs
      → bytes_eq (name (get_or xs i d)) n ≡ true
      → remove xs i ≡ without_named name xs n
  unfolding IsDistinct
  removed_at [] i d h lt e = absurd (let w : i < 0 = lt in omega (arith, w))
  removed_at (x ∷ xs) zero d h lt e =
      sym (ap (λ b. cond (not b) (x ∷ without_named name xs n) (without_named name xs n)) e
      ∙ all_without xs (others_have_not x xs e h.0))
  removed_at (x ∷ xs) (suc i) d h lt e =
      ap (λ ys. x ∷ ys) (removed_at xs i d h.1 (omega (arith, lt)) e)
      ∙ sym (ap (λ b. cond (not b) (x ∷ without_named name xs n) (without_named name xs n))
      (not_first x xs i d h.0 (omega (arith, lt)) e))

  pub changed_at : (f : A → A) (xs : List A) (i : ℕ) (d y : A) → AreNamedApart name xs → i < length xs
      → bytes_eq (name (get_or xs i d)) n ≡ true
      → y ≡ f (get_or xs i d) → set xs i y ≡ at_named name f n xs
  unfolding IsDistinct
  changed_at f [] i d y h lt e same = absurd (let w : i < 0 = lt in omega (arith, w))
  changed_at f (x ∷ xs) zero d y h lt e same =
      ap (λ z. z ∷ xs) same
      ∙ sym (ap (λ b. cond b (f x) x ∷ at_named name f n xs) e
      ∙ ap (λ ys. f x ∷ ys) (none_changed f xs (others_have_not x xs e h.0)))
  changed_at f (x ∷ xs) (suc i) d y h lt e same =
      ap (λ ys. x ∷ ys) (changed_at f xs i d y h.1 (omega (arith, lt)) e same)
      ∙ sym (ap (λ b. cond b (f x) x ∷ at_named name f n xs) (not_first x xs i d h.0 (omega (arith, lt)) e))
