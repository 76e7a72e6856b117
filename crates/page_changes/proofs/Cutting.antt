-- A list, cut where neighbours aren't alike.
use Rattle.page_changes.proofs.Common.{◌≡◌, ◌+◌, ◌++◌, ◌∙◌, Bool, true, false, cond, ℕ, suc, List, [], ◌∷◌, take, drop}
use Rattle.page_changes.proofs.Common.{refl, sym, ap, arith, append_assoc, flat_map, prefix_len, cond-false, cond-true}
use Rattle.page_changes.specs.Parts.{parts_by, with_alike}

agree : {X : Type 0} (p q : X → Bool) → ((x : X) → p x ≡ q x) → (xs : List X) → prefix_len p xs ≡ prefix_len q xs
agree p q e [] = refl
agree p q e (x ∷ xs) =
    ap (λ b. cond b (1 + prefix_len p xs) 0) (e x) ∙ ap (λ n. cond (q x) (1 + n) 0) (agree p q e xs)

module _ {X : Type 0} (same : X → X → Bool) (alike : (x y : X) → same x y ≡ true → (z : X) → same x z ≡ same y z) where
  -- so many of the others are in the first part
  abbrev pub Cut : X → List X → ℕ → List (List X)
  Cut x xs n = (x ∷ take n xs) ∷ parts_by same (drop n xs)

  one_more : (x y : X) (ys : List X) (b : Bool) → same x y ≡ b
      → parts_by same (y ∷ ys) ≡ Cut y ys (prefix_len (same y) ys)
      → parts_by same (x ∷ y ∷ ys) ≡ Cut x (y ∷ ys) (prefix_len (same x) (y ∷ ys))
  one_more x y ys true t rest =
      let k : ℕ = prefix_len (same y) ys in
      let parts = parts_by same (drop k ys) in
      let next : 1 + k ≡ suc k = omega arith in
      let count : prefix_len (same x) (y ∷ ys) ≡ suc k =
      cond-true (same x y) (1 + prefix_len (same x) ys) 0 t
      ∙ ap (λ n. 1 + n) (agree (same x) (same y) (alike x y t) ys) ∙ next in
      ap (with_alike same x) rest
      ∙ cond-true (same x y) ((x ∷ y ∷ take k ys) ∷ parts) ((x ∷ []) ∷ (y ∷ take k ys) ∷ parts) t
      ∙ ap (Cut x (y ∷ ys)) (sym count)
  one_more x y ys false f rest =
      let k : ℕ = prefix_len (same y) ys in
      let parts = parts_by same (drop k ys) in
      let count : prefix_len (same x) (y ∷ ys) ≡ 0 = cond-false (same x y) (1 + prefix_len (same x) ys) 0 f in
      ap (with_alike same x) rest
      ∙ cond-false (same x y) ((x ∷ y ∷ take k ys) ∷ parts) ((x ∷ []) ∷ (y ∷ take k ys) ∷ parts) f
      ∙ ap (λ v. (x ∷ []) ∷ v) (sym rest)
      ∙ ap (Cut x (y ∷ ys)) (sym count)

  pub front : (x : X) (xs : List X) → parts_by same (x ∷ xs) ≡ Cut x xs (prefix_len (same x) xs)
  front x [] = refl
  front x (y ∷ ys) = one_more x y ys (same x y) refl (front y ys)

  -- the first part is taken from the front
  pub cut : (count : ℕ) (rest later own after : List X) (x : X) → rest ≡ x ∷ later → count ≡ prefix_len (same x) later
      → own ≡ take (1 + count) rest → after ≡ drop (1 + count) rest
      → parts_by same rest ≡ own ∷ parts_by same after
  cut count rest later own after x e is own_is after_is =
      let next : 1 + count ≡ suc count = omega arith in
      let taken : own ≡ x ∷ take count later =
      own_is ∙ ap (λ n. take n rest) next ∙ ap (take (suc count)) e in
      let left : after ≡ drop count later = after_is ∙ ap (λ n. drop n rest) next ∙ ap (drop (suc count)) e in
      ap (parts_by same) e ∙ front x later ∙ ap (Cut x later) (sym is)
      ∙ ap (λ v. v ∷ parts_by same (drop count later)) (sym taken)
      ∙ ap (λ v. own ∷ parts_by same v) (sym left)

  -- each part adds something
  pub part_added : {A : Type 0} (f : List X → List A) (count : ℕ) (rest later own after : List X) (x : X)
      (old new all : List A) → rest ≡ x ∷ later → count ≡ prefix_len (same x) later
      → own ≡ take (1 + count) rest → after ≡ drop (1 + count) rest → new ≡ old ++ f own
      → old ++ flat_map f (parts_by same rest) ≡ all → new ++ flat_map f (parts_by same after) ≡ all
  part_added f count rest later own after x old new all e is own_is after_is new_is before =
      ap (λ v. v ++ flat_map f (parts_by same after)) new_is
      ∙ append_assoc old (f own) (flat_map f (parts_by same after))
      ∙ ap (λ v. old ++ flat_map f v) (sym (cut count rest later own after x e is own_is after_is))
      ∙ before
