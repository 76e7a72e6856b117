-- Whether a team has a block.
use Rattle.std.proofs.Common.{◌≡◌, Bool, true, false, cond, not, ◌||◌, List, [], ◌∷◌, map, filter, refl}
use Rattle.std.specs.List.{list_any}
use Rattle.office_rules.specs.Lists.{none_of}

some_at : {A B : Type 0} (f : A → B) (p : A → Bool) (x : A) (xs : List A) (b : Bool)
    → list_any p xs ≡ not (none_of (map f (filter p xs)))
    → (b || list_any p xs) ≡ not (none_of (map f (cond b (x ∷ filter p xs) (filter p xs))))
some_at f p x xs true h = refl
some_at f p x xs false h = h

-- some item passes a test where those that pass it are not none, whatever is made of them
pub list_any-some : {A B : Type 0} (f : A → B) (p : A → Bool) (xs : List A)
    → list_any p xs ≡ not (none_of (map f (filter p xs)))
list_any-some f p [] = refl
list_any-some f p (x ∷ xs) = some_at f p x xs (p x) (list_any-some f p xs)
