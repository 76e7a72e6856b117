-- Written values, in which `%` and two hexadecimal digits stand for a byte.
use Rattle.std.specs.Prelude.{◌≢◌, ◌==◌, if◌then◌else◌, ◌&&◌, ◌+◌, ◌*◌, ◌<◌, nat_lt, ℕ, List, [], ◌∷◌, Option, Some}
use Rattle.std.specs.Prelude.{None}
use Rattle.std.specs.Option.{option_map}
use Rattle.std.specs.Char.{digit_value}

-- what a written value stands for: a byte other than `%` (37) stands for itself, and `%` with two hexadecimal digits,
-- in upper or lower case, for the byte that they write
pub data StandsFor : List ℕ → List ℕ → Type 0 where
  nothing : StandsFor [] []
  itself : {b : ℕ} {written bytes : List ℕ} → b ≢ 37 → StandsFor written bytes → StandsFor (b ∷ written) (b ∷ bytes)
  escape : {high low : ℕ} {written bytes : List ℕ} → digit_value high < 16 → digit_value low < 16
      → StandsFor written bytes
      → StandsFor (37 ∷ high ∷ low ∷ written) ((16 * digit_value high + digit_value low) ∷ bytes)

abbrev mutual
  -- the bytes that a written value stands for, if it stands for any
  pub unescaped : List ℕ → Option (List ℕ)
  unescaped [] = Some []
  unescaped (b ∷ written) = if b == 37 then unescaped_digits written else option_map (λ bytes. b ∷ bytes)
      (unescaped written)

  -- the same of what follows a `%`
  pub unescaped_digits : List ℕ → Option (List ℕ)
  unescaped_digits [] = None
  unescaped_digits (high ∷ []) = None
  unescaped_digits (high ∷ low ∷ written) =
      if nat_lt (digit_value high) 16 && nat_lt (digit_value low) 16
      then option_map (λ bytes. (16 * digit_value high + digit_value low) ∷ bytes) (unescaped written)
      else None
