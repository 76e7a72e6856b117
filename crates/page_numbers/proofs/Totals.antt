-- Sums and lists over the items that pass a test, item by item.
use Rattle.page_numbers.proofs.Common.{◌≡◌, ◌+◌, ◌<◌, ◌++◌, ℕ, Bool, true, false, List, [], ◌∷◌, length, take, filter}
use Rattle.page_numbers.proofs.Common.{get_or, cond, map, sum, sym, ap, ◌∙◌, append-nil, flat_map, take_more}
use Rattle.page_numbers.proofs.Common.{flat_map-append, filter-append}
use Rattle.std.specs.List.{sum_by}
use Rattle.std.proofs.lemmas.List.Sums.{sum-map, sum_by_push}

-- ---- the items that pass a test, with one item more

passing : {X : Type 0} (w : X → Bool) (x : X) → w x ≡ true → filter w (x ∷ []) ≡ x ∷ []
passing w x e = ap (λ b. cond b (x ∷ []) []) e

failing : {X : Type 0} (w : X → Bool) (x : X) → w x ≡ false → filter w (x ∷ []) ≡ []
failing w x e = ap (λ b. cond b (x ∷ []) []) e

filter_passed : {X : Type 0} (w : X → Bool) (xs : List X) (i : ℕ) (x : X) → i < length xs → x ≡ get_or xs i x
    → w x ≡ true → filter w (take (i + 1) xs) ≡ filter w (take i xs) ++ x ∷ []
filter_passed w xs i x within is e =
    ap (filter w) (take_more xs i x within ∙ ap (λ y. take i xs ++ y ∷ []) (sym is))
    ∙ filter-append w (take i xs) (x ∷ []) ∙ ap (λ v. filter w (take i xs) ++ v) (passing w x e)

filter_failed : {X : Type 0} (w : X → Bool) (xs : List X) (i : ℕ) (x : X) → i < length xs → x ≡ get_or xs i x
    → w x ≡ false → filter w (take (i + 1) xs) ≡ filter w (take i xs)
filter_failed w xs i x within is e =
    ap (filter w) (take_more xs i x within ∙ ap (λ y. take i xs ++ y ∷ []) (sym is))
    ∙ filter-append w (take i xs) (x ∷ []) ∙ ap (λ v. filter w (take i xs) ++ v) (failing w x e)
    ∙ append-nil (filter w (take i xs))

-- ---- sums and lists

module _ {X : Type 0} (p : X → Bool) (xs : List X) (i : ℕ) (x : X) (below : i < length xs) (is : x
    ≡ get_or xs i x) where
  pub sum_kept : (f : X → ℕ) (count more : ℕ) → p x ≡ true → count ≡ sum (map f (filter p (take i xs))) → more ≡ f x
      → count + more ≡ sum (map f (filter p (take (i + 1) xs)))
  sum_kept f count more e so one =
      ap (λ n. n + more) (so ∙ sum-map f (filter p (take i xs)))
      ∙ ap (λ n. sum_by f (filter p (take i xs)) + n) one
      ∙ sym (sum_by_push f (filter p (take i xs)) x)
      ∙ ap (sum_by f) (sym (filter_passed p xs i x below is e))
      ∙ sym (sum-map f (filter p (take (i + 1) xs)))

  pub sum_passed : (f : X → ℕ) (count : ℕ) → p x ≡ false → count ≡ sum (map f (filter p (take i xs)))
      → count ≡ sum (map f (filter p (take (i + 1) xs)))
  sum_passed f count e so = so ∙ ap (λ ys. sum (map f ys)) (sym (filter_failed p xs i x below is e))

  pub list_kept : {A : Type 0} (f : X → List A) (before piece after : List A) → p x ≡ true
      → before ≡ flat_map f (filter p (take i xs)) → piece ≡ f x → after ≡ before ++ piece
      → after ≡ flat_map f (filter p (take (i + 1) xs))
  list_kept f before piece after e so one more =
      more ∙ ap (λ v. v ++ piece) so ∙ ap (λ v. flat_map f (filter p (take i xs)) ++ v) (one ∙ sym (append-nil (f x)))
      ∙ sym (flat_map-append f (filter p (take i xs)) (x ∷ []))
      ∙ ap (flat_map f) (sym (filter_passed p xs i x below is e))

  pub list_passed : {A : Type 0} (f : X → List A) (before : List A) → p x ≡ false
      → before ≡ flat_map f (filter p (take i xs)) → before ≡ flat_map f (filter p (take (i + 1) xs))
  list_passed f before e so = so ∙ ap (flat_map f) (sym (filter_failed p xs i x below is e))
