-- What is remembered, computed: of texts of 3, 2, 4 and 1 bytes, those that are within a limit.
use Rattle.store_looks.proofs.Common.{◌≡◌, ℕ, List, [], ◌∷◌, refl, arith, text_bytes}
use Rattle.std.proofs.Common.{codes}
use Rattle.store_bodies.specs.ReadText.{IsLongestWithin}

abbrev texts : List (List ℕ)
texts = codes "abc" ∷ codes "de" ∷ codes "fghi" ∷ codes "j" ∷ []

all_bytes : text_bytes texts ≡ 10
all_bytes = refl

two_are_within : IsLongestWithin 8 texts 2
two_are_within = record { fits = omega (arith); longest = λ _. omega (arith) }

all_are_within : IsLongestWithin 10 texts 4
all_are_within = record { fits = omega (arith); longest = λ more. omega (arith, more) }

none_is_within : IsLongestWithin 2 texts 0
none_is_within = record { fits = omega (arith); longest = λ _. omega (arith) }
