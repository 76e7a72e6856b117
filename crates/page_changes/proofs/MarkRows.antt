-- A row for each thing of a list.
use Rattle.page_changes.proofs.Common.{◌≡◌, ◌+◌, ◌<◌, ◌++◌, ℕ, List, [], ◌∷◌, length, take, get_or, sym, subst}
use Rattle.std.specs.List.{AllZip}
use Rattle.std.proofs.lemmas.List.{take_more}

zip_push : {A B : Type 0} (R : A → B → Type 0) (xs : List A) (ys : List B) (x : A) (y : B) → AllZip R xs ys → R x y
    → AllZip R (xs ++ x ∷ []) (ys ++ y ∷ [])
zip_push R [] [] x y h r = (r, tt)
zip_push R [] (b ∷ ys) x y h r = absurd h
zip_push R (a ∷ xs) [] x y h r = absurd h
zip_push R (a ∷ xs) (b ∷ ys) x y h r = (h.0, zip_push R xs ys x y h.1 r)

pub zip_more : {A B : Type 0} (R : A → B → Type 0) (xs : List A) (ys new : List B) (i : ℕ) (x : A) (y : B)
    → i < length xs → x ≡ get_or xs i x → new ≡ ys ++ y ∷ [] → AllZip R (take i xs) ys → R x y
    → AllZip R (take (i + 1) xs) new
zip_more R xs ys new i x y within is new_is before here =
    subst (λ v. AllZip R v new) (sym (take_more xs i x within))
    (subst (λ v. AllZip R (take i xs ++ get_or xs i x ∷ []) v) (sym new_is)
    (zip_push R (take i xs) ys (get_or xs i x) y before (subst (λ v. R v y) is here)))
