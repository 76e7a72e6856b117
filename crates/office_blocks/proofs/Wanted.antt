-- The wanted blocks of a list, block by block.
use Rattle.office_blocks.proofs.Common.{◌≡◌, ℕ, ◌+◌, ◌<◌, ◌&&◌, Bool, true, false, List, [], ◌∷◌, ◌++◌, length, take}
use Rattle.office_blocks.proofs.Common.{get_or, cond, map, sym, ap, ◌∙◌, append-nil, refl, filter}
use Rattle.std.proofs.Common.{sum}
use Rattle.std.specs.List.{sum_by}
use Rattle.std.proofs.lemmas.List.{map-append}
use Rattle.std.proofs.lemmas.List.Elements.{filter-append, filter_more}
use Rattle.office_types.proofs.Least.{both_true}
use Rattle.std.proofs.lemmas.List.Sums.{sum-map, sum_by_push}

module _ {X : Type 0} (p : X → Bool) (xs : List X) (i : ℕ) (x : X)
    (below : i < length xs) (is : x ≡ get_or xs i x) where
  filter_further : filter p (take (i + 1) xs) ≡ filter p (take i xs) ++ cond (p x) (x ∷ []) []
  filter_further =
      filter_more p xs i x below ∙ ap (λ (y : X). filter p (take i xs) ++ cond (p y) (y ∷ []) []) (sym is)

  filter_kept : p x ≡ true → filter p (take (i + 1) xs) ≡ filter p (take i xs) ++ x ∷ []
  filter_kept e = filter_further ∙ ap (λ b. filter p (take i xs) ++ cond b (x ∷ []) []) e

  filter_passed : p x ≡ false → filter p (take (i + 1) xs) ≡ filter p (take i xs)
  filter_passed e =
      filter_further ∙ ap (λ b. filter p (take i xs) ++ cond b (x ∷ []) []) e ∙ append-nil (filter p (take i xs))

  -- the row of a wanted block more
  pub row_kept : {A : Type 0} (f : X → A) (before after : List A) (row : A) → p x ≡ true
      → before ≡ map f (filter p (take i xs)) → row ≡ f x → after ≡ before ++ row ∷ []
      → after ≡ map f (filter p (take (i + 1) xs))
  row_kept f before after row e so one more =
      more ∙ ap (λ v. v ++ row ∷ []) so ∙ ap (λ r. map f (filter p (take i xs)) ++ r ∷ []) one
      ∙ sym (map-append f (filter p (take i xs)) (x ∷ []))
      ∙ ap (map f) (sym (filter_kept e))

  pub row_passed : {A : Type 0} (f : X → A) (before : List A) → p x ≡ false → before ≡ map f (filter p (take i xs))
      → before ≡ map f (filter p (take (i + 1) xs))
  row_passed f before e so = so ∙ ap (map f) (sym (filter_passed e))

  module _ (q : X → Bool) (f : X → ℕ) where
    twice_kept : p x ≡ true → q x ≡ true
        → filter q (filter p (take (i + 1) xs)) ≡ filter q (filter p (take i xs)) ++ x ∷ []
    twice_kept e d = ap (filter q) (filter_kept e) ∙ filter-append q (filter p (take i xs)) (x ∷ [])
        ∙ ap (λ b. filter q (filter p (take i xs)) ++ cond b (x ∷ []) []) d

    twice_passed : (b : Bool) → p x ≡ b → (b && q x) ≡ false
        → filter q (filter p (take (i + 1) xs)) ≡ filter q (filter p (take i xs))
    twice_passed true e d = ap (filter q) (filter_kept e) ∙ filter-append q (filter p (take i xs)) (x ∷ [])
        ∙ ap (λ b. filter q (filter p (take i xs)) ++ cond b (x ∷ []) []) d
        ∙ append-nil (filter q (filter p (take i xs)))
    twice_passed false e d = ap (filter q) (filter_passed e)

    pub sum_kept : (count more : ℕ) → (p x && q x) ≡ true → count ≡ sum (map f (filter q (filter p (take i xs))))
        → more ≡ f x → count + more ≡ sum (map f (filter q (filter p (take (i + 1) xs))))
    sum_kept count more e so one =
        let both = both_true (p x) (q x) e in
        ap (λ n. n + more) (so ∙ sum-map f (filter q (filter p (take i xs))))
        ∙ ap (λ n. sum_by f (filter q (filter p (take i xs))) + n) one
        ∙ sym (sum_by_push f (filter q (filter p (take i xs))) x)
        ∙ ap (sum_by f) (sym (twice_kept both.0 both.1))
        ∙ sym (sum-map f (filter q (filter p (take (i + 1) xs))))

    pub sum_passed : (count : ℕ) → (p x && q x) ≡ false → count ≡ sum (map f (filter q (filter p (take i xs))))
        → count ≡ sum (map f (filter q (filter p (take (i + 1) xs))))
    sum_passed count e so = so ∙ ap (λ ys. sum (map f ys)) (sym (twice_passed (p x) refl e))
