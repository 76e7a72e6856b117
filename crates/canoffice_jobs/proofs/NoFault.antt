-- Steps that report no fault, and the elements of a list.
use Rattle.canoffice_jobs.proofs.Common.{◌≡◌, ◌⊎◌, ◌∙◌, ◌&&◌, ◌||◌, Bool, cond, true, false, refl, sym, ap, inl, inr}
use Rattle.canoffice_jobs.proofs.Common.{List, [], ◌∷◌, Some, true≢false, find, unwrap_or, list_all, list_any, Kinds}
use Rattle.canoffice_jobs.proofs.Common.{or_else, both}

-- ---- tests

pub or_true : (a b : Bool) → b ≡ true → (a || b) ≡ true
or_true true b e = refl
or_true false b e = e

pub both_true : (a b : Bool) → a ≡ true → b ≡ true → (a && b) ≡ true
both_true true b e f = f
both_true false b e f = absurd (true≢false (sym e))

-- ---- kinds: none comes of two steps where none comes of either

pub none_first : (a b : Kinds) → or_else a b ≡ [] → a ≡ []
none_first [] b e = refl
none_first (k ∷ ks) b e = e

pub none_next : (a b : Kinds) → or_else a b ≡ [] → b ≡ []
none_next [] b e = e
none_next (k ∷ ks) b e = cc

-- ---- elements of a list

abbrev pub Among : {X : Type 0} → X → List X → Type 0
Among x [] = ⊥
Among x (y ∷ ys) = (x ≡ y) ⊎ Among x ys

pub found_among : {X : Type 0} (p : X → Bool) (xs : List X) (x : X) → find p xs ≡ Some x → Among x xs
found_among p [] x e = cc
found_among p (y ∷ ys) x e = go (p y) e (found_among p ys x)
  where
    go : (b : Bool) → cond b (Some y) (find p ys) ≡ Some x → (find p ys ≡ Some x → Among x ys) → (x ≡ y) ⊎ Among x ys
    go true e rest = inl (sym (ap (λ o. unwrap_or o y) e))
    go false e rest = inr (rest e)

pub found_passes : {X : Type 0} (p : X → Bool) (xs : List X) (x : X) → find p xs ≡ Some x → p x ≡ true
found_passes p [] x e = cc
found_passes p (y ∷ ys) x e = go (p y) refl e (found_passes p ys x)
  where
    go : (b : Bool) → p y ≡ b → cond b (Some y) (find p ys) ≡ Some x → (find p ys ≡ Some x → p x ≡ true) → p x ≡ true
    go true t e rest = ap p (sym (ap (λ o. unwrap_or o y) e)) ∙ t
    go false t e rest = rest e

pub all_among : {X : Type 0} (q : X → Bool) (xs : List X) (x : X) → list_all q xs ≡ true → Among x xs → q x ≡ true
all_among q [] x e h = absurd h
all_among q (y ∷ ys) x e (inl same) = ap q same ∙ (both _ _ e).0
all_among q (y ∷ ys) x e (inr h) = all_among q ys x (both _ _ e).1 h

pub any_among : {X : Type 0} (q : X → Bool) (xs : List X) (x : X) → Among x xs → q x ≡ true → list_any q xs ≡ true
any_among q [] x h e = absurd h
any_among q (y ∷ ys) x (inl same) e = rw (sym (ap q same) ∙ e) refl
any_among q (y ∷ ys) x (inr h) e = or_true (q y) _ (any_among q ys x h e)
