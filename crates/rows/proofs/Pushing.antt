-- Rows that are added.
use Rattle.rows.proofs.Common.{◌≡◌, ◌++◌, ℕ, List, [], ◌∷◌, length, take, map, refl, sym, ap, ◌∙◌}
use Rattle.std.proofs.Common.{◌+◌, ◌<◌, get_or}
use Rattle.std.proofs.lemmas.List.{map-append, take_more}

-- the row of one item more
pub row_more : {X A : Type 0} (f : X → A) (xs : List X) (i : ℕ) (x : X) (before after : List A) (row : A)
    → i < length xs → x ≡ get_or xs i x → before ≡ map f (take i xs) → row ≡ f x → after ≡ before ++ row ∷ []
    → after ≡ map f (take (i + 1) xs)
row_more f xs i x before after row h here so is more =
    more ∙ ap (λ v. v ++ row ∷ []) so
    ∙ ap (λ r. map f (take i xs) ++ r ∷ []) (is ∙ ap f here)
    ∙ sym (map-append f (take i xs) (get_or xs i x ∷ []))
    ∙ ap (map f) (sym (take_more xs i x h))

-- one after the other
pub map_twice : {X Y Z : Type 0} (f : Y → Z) (g : X → Y) (xs : List X) → map f (map g xs) ≡ map (λ x. f (g x)) xs
map_twice f g [] = refl
map_twice f g (x ∷ xs) = ap (λ v. f (g x) ∷ v) (map_twice f g xs)
