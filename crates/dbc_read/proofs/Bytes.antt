-- Equality of bytes goes both ways.
use Rattle.dbc_read.proofs.Common.{◌≡◌, ◌&&◌, ℕ, List, [], ◌∷◌, refl, bytes_eq, nat_flip}

pub bytes_flip : (xs ys : List ℕ) → bytes_eq xs ys ≡ bytes_eq ys xs
bytes_flip [] [] = refl
bytes_flip [] (y ∷ ys) = refl
bytes_flip (x ∷ xs) [] = refl
bytes_flip (x ∷ xs) (y ∷ ys) = λ i. nat_flip x y i && bytes_flip xs ys i
