-- The number that digits write, by the test of digits.
use Rattle.std.proofs.Common.{◌≡◌, ◌<◌, ◌^◌, ◌∷◌, [], ◌&&◌, ℕ, Bool, true, false, List, length, Option, Some, None}
use Rattle.std.proofs.Common.{refl, ap, arith, Decides, SomeIff}
use Rattle.std.specs.Prelude.{nat_lt, if◌then◌else◌}
use Rattle.std.specs.List.{list_all}
use Rattle.std.specs.Char.{digit_value}
use Rattle.std.specs.Str.Parse.{AllDigits, IsNumeral, digits_value}
use Rattle.std.proofs.lemmas.Bool.{false≢true}
use Rattle.std.proofs.lemmas.Bool.Decides.{Decides-ltb}
use Rattle.base.specs.WholeNumber.{is_numeral, whole_of}

both : {P Q : Type 0} (a b : Bool) → Decides a P → Decides b Q → Decides (a && b) (P × Q)
both true b f g = (λ e. (f.0 refl, g.0 e), λ h. g.1 h.1)
both false b f g = (λ e. absurd (false≢true e), λ h. absurd (false≢true (f.1 h.0)))

digits : (bytes : List ℕ) → Decides (list_all (λ b. nat_lt (digit_value b) 10) bytes) (AllDigits 10 bytes)
digits [] = (λ _. tt, λ _. refl)
digits (b ∷ bytes) = both _ _ (Decides-ltb (digit_value b) 10) (digits bytes)

pub numeral : (bytes : List ℕ) → Decides (is_numeral bytes) (IsNumeral 10 bytes)
numeral [] = (λ e. absurd (false≢true e), λ h. absurd (let few : 0 < length {A = ℕ} [] = h.0 in omega arith))
numeral (b ∷ bytes) =
    let all = digits (b ∷ bytes) in
    (λ e. (omega arith, all.0 e), λ h. all.1 h.1)

chosen : {P : Type 0} (b : Bool) (o : Option ℕ) (v : ℕ) → Decides b P → SomeIff o P v → o ≡ (if b then Some v else None)
chosen true None v f h = absurd (h (f.0 refl))
chosen false None v f h = refl
chosen true (Some x) v f h = ap Some h.1
chosen false (Some x) v f h = absurd (false≢true (f.1 h.0))

pub whole_of-is : (bytes : List ℕ) (o : Option ℕ)
    → SomeIff o (IsNumeral 10 bytes × (digits_value 10 bytes < 2 ^ 32)) (digits_value 10 bytes) → o ≡ whole_of bytes
whole_of-is bytes o h =
    chosen (is_numeral bytes && nat_lt (digits_value 10 bytes) (2 ^ 32)) o (digits_value 10 bytes)
    (both (is_numeral bytes) _ (numeral bytes) (Decides-ltb (digits_value 10 bytes) (2 ^ 32))) h
