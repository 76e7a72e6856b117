-- Names that are sorted, each once.
use Rattle.std.proofs.Common.{◌≡◌, ◌||◌, ◌∙◌, ℕ, Bool, true, false, cond, List, [], ◌∷◌, map, filter, Bor, refl, sym, ap, subst}
use Rattle.std.specs.Cmp.Lexicographic.{slice_cmp}
use Rattle.std.specs.List.{AllByRecursion, dedup, dedup_from, list_any}
use Rattle.std.specs.List.Retain.{DiffersFromLast, IsFiltered}
use Rattle.std.specs.List.Sorted.{IsPermutation, IsSorted, IsStrictlySortedBy}
use Rattle.std.specs.Ordering.{nat_cmp}
use Rattle.std.specs.Str.{bytes_eq}
use Rattle.std.specs.declared.cmp.Ordering.TheVariants.{Less}
use Rattle.std.proofs.lemmas.Bool.{cond_both}
use Rattle.std.proofs.lemmas.Cmp.{nat_list_cmp_total, on_total}
use Rattle.std.proofs.lemmas.List.Filters.{dedup_is}
use Rattle.std.proofs.lemmas.List.Kept.{IsStrictlySortedBy-dedup}
use Rattle.std.proofs.lemmas.List.Sorted.{list_any-IsPermutation}
use Rattle.std.proofs.lemmas.Map.Text.{is_eq-slice_cmp}
use Rattle.std.proofs.lemmas.Slice.Eq.{bytes_eq-Decides}
use Rattle.base.specs.Keyed.{text_cmp}
use Rattle.page_parts.specs.Names.{AreAscending, HaveSame, is_name}

-- ---- some item of a list without doubles

either_twice : (a b : Bool) → (a || (a || b)) ≡ (a || b)
either_twice true b = refl
either_twice false b = refl

module _ {X : Type 0} (alike : X → X → Bool) (test : X → Bool) (same : (x y : X) → alike x y ≡ true → test x ≡ test y) where
  any_from : (k : X) (xs : List X) → list_any test (dedup_from alike k xs) ≡ (test k || list_any test xs)
  any_from k [] = refl
  any_from k (x ∷ xs) = cond_both (alike x k) (dedup_from alike k xs) (k ∷ dedup_from alike x xs)
      (λ v. list_any test v ≡ (test k || (test x || list_any test xs)))
      (λ e. any_from k xs ∙ sym (ap (λ b. test k || (b || list_any test xs)) (same x k e)
      ∙ either_twice (test k) (list_any test xs)))
      (λ e. ap (λ b. test k || b) (any_from x xs))

  pub any_once : (xs : List X) → list_any test (dedup alike xs) ≡ list_any test xs
  any_once [] = refl
  any_once (x ∷ xs) = any_from x xs

pub any_mapped : {X Y : Type 0} (test : Y → Bool) (f : X → Y) (xs : List X)
    → list_any test (map f xs) ≡ list_any (λ x. test (f x)) xs
any_mapped test f [] = refl
any_mapped test f (x ∷ xs) = ap (λ b. test (f x) || b) (any_mapped test f xs)

pub filter_mapped : {X Y : Type 0} (test : Y → Bool) (f : X → Y) (xs : List X)
    → map f (filter (λ x. test (f x)) xs) ≡ filter test (map f xs)
filter_mapped test f [] = refl
filter_mapped test f (x ∷ xs) = elim (test (f x)) as
    (λ b. map f (cond b (x ∷ filter (λ x. test (f x)) xs) (filter (λ x. test (f x)) xs))
    ≡ cond b (f x ∷ filter test (map f xs)) (filter test (map f xs))) [
      | true ↦ ap (λ ys. f x ∷ ys) (filter_mapped test f xs)
      | false ↦ filter_mapped test f xs
    ]

-- ---- names

abbrev text : Bor (List ℕ) → List ℕ
text one = one.now

abbrev alike_texts : Bor (List ℕ) → Bor (List ℕ) → Bool
alike_texts a b = bytes_eq a.now b.now

above : (x : Bor (List ℕ)) (ys : List (Bor (List ℕ))) → AllByRecursion (λ y. slice_cmp nat_cmp x.now y.now ≡ Less) ys
    → AllByRecursion (λ y. text_cmp x.now y ≡ Less) (map text ys)
above x [] h = tt
above x (y ∷ ys) h = (h.0, above x ys h.1)

texts_ascend : (xs : List (Bor (List ℕ))) → IsStrictlySortedBy (λ a b. slice_cmp nat_cmp a.now b.now) xs
    → AreAscending (map text xs)
unfolding IsStrictlySortedBy
texts_ascend [] h = tt
texts_ascend (x ∷ xs) h = (above x xs h.0, texts_ascend xs h.1)

pub once : (xs ys : List (Bor (List ℕ))) → IsFiltered (DiffersFromLast alike_texts) [] xs ys
    → IsSorted (λ a b. slice_cmp nat_cmp a.now b.now) xs → AreAscending (map text ys)
once xs ys filtered sorted =
    subst (λ (zs : List (Bor (List ℕ))). AreAscending (map text zs)) (sym (dedup_is alike_texts xs ys filtered))
    (texts_ascend (dedup alike_texts xs)
    (IsStrictlySortedBy-dedup (on_total text nat_list_cmp_total) (λ x y. sym (is_eq-slice_cmp x.now y.now)) xs sorted))

pub same_once : (given xs ys : List (Bor (List ℕ))) → IsPermutation given xs
    → IsFiltered (DiffersFromLast alike_texts) [] xs ys → HaveSame (map text ys) (map text given)
same_once given xs ys moved filtered = λ name.
    let test = λ (one : Bor (List ℕ)). is_name name one.now in
    let same : (x y : Bor (List ℕ)) → alike_texts x y ≡ true → test x ≡ test y = λ x y e.
    ap (is_name name) ((bytes_eq-Decides x.now y.now).0 e) in
    any_mapped (is_name name) text ys ∙ ap (list_any test) (dedup_is alike_texts xs ys filtered)
    ∙ any_once alike_texts test same xs ∙ sym (list_any-IsPermutation test given xs moved)
    ∙ sym (any_mapped (is_name name) text given)
