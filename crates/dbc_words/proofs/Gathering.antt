-- Things that are apart, looked at one by one.
use Rattle.dbc_words.proofs.Common.{◌≡◌, ◌<◌, ◌+◌, ◌∙◌, ◌||◌, Bool, true, false, ℕ, zero, suc, List, [], ◌∷◌, ◌++◌}
use Rattle.dbc_words.proofs.Common.{length, take, get_or, refl, sym, ap, subst, AllByRecursion, list_any, false≢true}
use Rattle.std.specs.List.{IsDistinct}
use Rattle.std.proofs.lemmas.List.{take_more}
use Rattle.dbc_words.proofs.Rosters.{apart_and_last}

each_taken : {A : Type 0} (P : A → Type 0) (k : ℕ) (xs : List A) → AllByRecursion P xs → AllByRecursion P (take k xs)
each_taken P zero xs h = tt
each_taken P (suc k) [] h = tt
each_taken P (suc k) (x ∷ xs) h = (h.0, each_taken P k xs h.1)

each_last : {A : Type 0} (P : A → Type 0) (xs : List A) (x : A) → AllByRecursion P (xs ++ x ∷ []) → P x
each_last P [] x h = h.0
each_last P (y ∷ xs) x h = each_last P xs x h.1

module _ {A : Type 0} (e : A → A → Bool) where
  distinct_taken : (k : ℕ) (xs : List A) → IsDistinct e xs → IsDistinct e (take k xs)
  unfolding IsDistinct
  distinct_taken zero xs h = tt
  distinct_taken (suc k) [] h = tt
  distinct_taken (suc k) (x ∷ xs) h = (each_taken (λ y. e x y ≡ false) k xs h.0, distinct_taken k xs h.1)

  last_apart : (xs : List A) (x : A) → IsDistinct e (xs ++ x ∷ []) → list_any (λ a. e a x) xs ≡ false
  unfolding IsDistinct
  last_apart [] x h = refl
  last_apart (y ∷ xs) x h = ap (λ b. b || list_any (λ a. e a x) xs) (each_last (λ z. e y z ≡ false) xs x h.0)
      ∙ last_apart xs x h.1

  pub next_taken : (xs : List A) (i : ℕ) (x : A) → i < length xs → x ≡ get_or xs i x
      → take (i + 1) xs ≡ take i xs ++ x ∷ []
  next_taken xs i x lt is = take_more xs i x lt ∙ ap (λ y. take i xs ++ y ∷ []) (sym is)

  -- the next one is apart from those before
  pub apart_more : (xs : List A) (i : ℕ) (x : A) → i < length xs → x ≡ get_or xs i x → IsDistinct e (take i xs)
      → list_any (λ a. e a x) (take i xs) ≡ false
      → IsDistinct e (take (i + 1) xs)
  apart_more xs i x lt is h none =
      subst (IsDistinct e) (sym (next_taken xs i x lt is)) (apart_and_last e (take i xs) x h none)

  -- or not, and then not all are
  pub not_apart : (xs : List A) (i : ℕ) (x : A) → i < length xs → x ≡ get_or xs i x
      → list_any (λ a. e a x) (take i xs) ≡ true → ¬ (IsDistinct e xs)
  not_apart xs i x lt is some h =
      false≢true (sym (last_apart (take i xs) x
      (subst (IsDistinct e) (next_taken xs i x lt is) (distinct_taken (i + 1) xs h))) ∙ some)

  pub apart_at_start : (xs : List A) → IsDistinct e (take 0 xs)
  unfolding IsDistinct
  apart_at_start xs = tt
