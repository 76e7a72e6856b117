-- Items of a list that are changed in place, one after the other, by what is left of something.
use Rattle.dbc_read.proofs.Common.{◌≡◌, ◌<◌, ◌+◌, ◌∙◌, ◌++◌, ℕ, zero, suc, List, [], ◌∷◌, length, map, slice_index_or}
use Rattle.dbc_read.proofs.Common.{slice_set, refl, sym, ap, subst, append_assoc, arith, AllByRecursion, drop_more}
use Rattle.dbc_read.proofs.Common.{map-append, take_more_set}
use Rattle.std.proofs.Common.{map-id}
use Rattle.std.specs.Prelude.{drop, take}
use Rattle.std.proofs.lemmas.List.{drop-set-lt}
use Rattle.dbc_read.specs.Refusal.{Unless}
use Rattle.dbc_read.specs.declared.refusal.Refusal.{Refusal}
use Rattle.dbc_read.proofs.Refused.{each_middle, unless}

-- what the change leaves
pub set_leaves : {A B : Type 0} (see : A → B) (xs : List A) (i : ℕ) (d y : A) → see y ≡ see (slice_index_or xs i d)
    → map see (slice_set xs i y) ≡ map see xs
set_leaves see [] i d y e = refl
set_leaves see (x ∷ xs) zero d y e = ap (λ s. s ∷ map see xs) e
set_leaves see (x ∷ xs) (suc i) d y e = ap (λ l. see x ∷ l) (set_leaves see xs i d y e)

-- one item more: it has what comes of the first of what is left
module _ {A F : Type 0} (rest : A → F → F) (xs : List A) (i : ℕ) (d y : A) (f g : F) (lt : i < length xs)
    (is_rest : g ≡ rest (slice_index_or xs i d) f) where
  pub one_fed : {B : Type 0} (out : A → B) (one : A → F → B) (from : List A → F → List B)
      → ((z : A) (zs : List A) (h : F) → from (z ∷ zs) h ≡ one z h ∷ from zs (rest z h))
      → out y ≡ one (slice_index_or xs i d) f
      → map out (take (i + 1) (slice_set xs i y)) ++ from (drop (i + 1) (slice_set xs i y)) g ≡ map out (take i xs)
      ++ from (drop i xs) f
  one_fed out one from steps is_out =
      let x = slice_index_or xs i d in
      let left = drop (i + 1) xs in
      let front = map out (take i xs) in
      (λ k. map out (take_more_set xs i y lt k) ++ from (drop-set-lt (i + 1) xs i y (omega arith) k) (is_rest k))
      ∙ ap (λ l. l ++ from left (rest x f)) (map-append out (take i xs) (y ∷ []))
      ∙ append_assoc front (out y ∷ []) (from left (rest x f))
      ∙ ap (λ o. front ++ o ∷ from left (rest x f)) is_out
      ∙ ap (λ l. front ++ l) (sym (steps x left f) ∙ ap (λ l. from l f) (sym (drop_more xs i d lt)))

  pub one_fed_itself : (one : A → F → A) (from : List A → F → List A)
      → ((z : A) (zs : List A) (h : F) → from (z ∷ zs) h ≡ one z h ∷ from zs (rest z h))
      → y ≡ one (slice_index_or xs i d) f
      → take (i + 1) (slice_set xs i y) ++ from (drop (i + 1) (slice_set xs i y)) g ≡ take i xs ++ from (drop i xs) f
  one_fed_itself one from steps is =
      ap (λ l. l ++ from (drop (i + 1) (slice_set xs i y)) g) (sym (map-id (take (i + 1) (slice_set xs i y))))
      ∙ one_fed (λ x. x) one from steps is ∙ ap (λ l. l ++ from (drop i xs) f) (map-id (take i xs))

  pub one_left : (after : List A → F → F) → ((z : A) (zs : List A) (h : F) → after (z ∷ zs) h ≡ after zs (rest z h))
      → after (drop (i + 1) (slice_set xs i y)) g ≡ after (drop i xs) f
  one_left after steps =
      let x = slice_index_or xs i d in
      let left = drop (i + 1) xs in
      (λ k. after (drop-set-lt (i + 1) xs i y (omega arith) k) (is_rest k)) ∙ sym (steps x left f)
      ∙ ap (λ l. after l f) (sym (drop_more xs i d lt))

-- one that hasn't what all have
pub one_refused : {A : Type 0} (P : A → Type 0) (before : List A) (x : A) (after whole : List A) (refusal : Refusal)
    → before ++ x ∷ after ≡ whole
    → Unless refusal (P x → ⊥) → Unless refusal (AllByRecursion P whole → ⊥)
one_refused P before x after whole refusal e h =
    unless refusal _ _ (λ all. each_middle P before x after (subst (AllByRecursion P) (sym e) all)) h
