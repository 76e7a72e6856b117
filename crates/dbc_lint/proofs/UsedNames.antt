-- The names of a list of borrowed ones.
use Rattle.dbc_lint.proofs.Common.{◌≡◌, ◌||◌, ◌∷◌, ℕ, List, [], Bor, ap, map, refl, bytes_eq, has_name}
use Rattle.dbc_lint.specs.OfNode.{has_text}
use Rattle.dbc_lint.specs.Whole.{text_of}

pub has_borrowed : (names : List (Bor (List ℕ))) (n : List ℕ) → has_name text_of names n ≡ has_text (map text_of names) n
has_borrowed [] n = refl
has_borrowed (name ∷ names) n = ap (λ rest. bytes_eq name.now n || rest) (has_borrowed names n)
