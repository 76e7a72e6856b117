-- Worked rows: what the definitions give for spellings of DBC files.
use Rattle.decimal.proofs.Common.{◌≡◌, ℕ, ◌+◌, ◌-◌, ◌^◌, pos, negsuc, Bool, true, false, List, [], ◌∷◌, refl, Result}
use Rattle.decimal.proofs.Common.{Ok, Err}
use Rattle.std.proofs.Common.{map}
use Rattle.std.specs.Fmt.{digits}
use Rattle.std.specs.Prelude.{◌==◌, if◌then◌else◌, codes}
use Rattle.decimal.specs.Number.{Number}
use Rattle.decimal.specs.Cutting.{cut}
use Rattle.decimal.specs.Words.{of_words, high_word, low_word}
use Rattle.decimal.specs.Reading.{reading}
use Rattle.decimal.specs.Printing.{text_of, unsigned_text}
use Rattle.decimal.specs.declared.fault.DecimalFault.{DecimalFault}
use Rattle.decimal.specs.declared.fault.DecimalFault.TheVariants.{NotNumber, TooManyDigits, ExponentRange}

abbrev text_of_answer : Result Number DecimalFault → Result (List ℕ) DecimalFault
text_of_answer (Ok n) = Ok (text_of n)
text_of_answer (Err fault) = Err fault

-- the text of what the bytes read as
abbrev printed : Bool → List ℕ → Result (List ℕ) DecimalFault
printed negative bytes = text_of_answer (reading negative bytes)

one_hundred_thousandth : printed false (codes "1E-005") ≡ Ok (codes "0.00001")
unfolding reading cut unsigned_text digits
one_hundred_thousandth = refl

trailing_zero : printed false (codes "0.1250") ≡ Ok (codes "0.125")
unfolding reading cut unsigned_text digits
trailing_zero = refl

negative_zero : printed true (codes "0") ≡ Ok (codes "0")
unfolding reading cut unsigned_text digits
negative_zero = refl

greatest_double : printed false (codes "1.7E+308") ≡ Ok (codes "17E307")
unfolding reading cut unsigned_text digits
greatest_double = refl

celsius : printed true (codes "273.") ≡ Ok (codes "-273")
unfolding reading cut unsigned_text digits
celsius = refl

greatest_exponent : printed false (codes "1E400") ≡ Ok (codes "1E400")
unfolding reading cut unsigned_text digits
greatest_exponent = refl

past_the_greatest : reading false (codes "1E401") ≡ Err ExponentRange
unfolding reading cut
past_the_greatest = refl

nines_36 : printed false (codes "999999999999999999999999999999999999")
    ≡ Ok (codes "999999999999999999999999999999999999")
unfolding reading cut unsigned_text digits
nines_36 = refl

nines_37 : reading false (codes "9999999999999999999999999999999999999") ≡ Err TooManyDigits
unfolding reading cut
nines_37 = refl

long_zero : printed false (codes "0E99999999999999999999") ≡ Ok (codes "0")
unfolding reading cut unsigned_text digits
long_zero = refl

no_digit_before_the_point : reading false (codes ".5") ≡ Err NotNumber
unfolding reading cut
no_digit_before_the_point = refl

-- the same where a minus in front is no part of the bytes
abbrev spelled : List ℕ → Result (List ℕ) DecimalFault
spelled [] = printed false []
spelled (b ∷ bytes) = if b == 45 then printed true bytes else printed false (b ∷ bytes)

scales : map spelled (codes "0.03125" ∷ codes "0.125" ∷ codes "-273" ∷ codes "1.72E-003" ∷ codes "-1.72e-25" ∷ [])
    ≡ Ok (codes "0.03125") ∷ Ok (codes "0.125") ∷ Ok (codes "-273") ∷ Ok (codes "0.00172") ∷ Ok (codes "-172E-27") ∷ []
unfolding reading cut unsigned_text digits
scales = refl

greatest_of_32_and_64_bits : map spelled (codes "4294967295" ∷ codes "18446744073709551615" ∷ [])
    ≡ Ok (codes "4294967295") ∷ Ok (codes "18446744073709551615") ∷ []
unfolding reading cut unsigned_text digits
greatest_of_32_and_64_bits = refl

points_and_zeros : map spelled
    (codes "1." ∷ codes "1.E5" ∷ codes "0012.3400" ∷ codes "-0.000E-99999999999999999999" ∷ [])
    ≡ Ok (codes "1") ∷ Ok (codes "100000") ∷ Ok (codes "12.34") ∷ Ok (codes "0") ∷ []
unfolding reading cut unsigned_text digits
points_and_zeros = refl

zeros_at_both_ends : map spelled
    (codes "0.000999999999999999999999999999999999999000" ∷ codes "1000000000000000000000000000000000000" ∷ [])
    ≡ Ok (codes "999999999999999999999999999999999999E-39") ∷ Ok (codes "1E36") ∷ []
unfolding reading cut unsigned_text digits
zeros_at_both_ends = refl

least_and_greatest_exponents : map spelled (codes "1E-400" ∷ codes "10E-401" ∷ codes "0.1E401" ∷ [])
    ≡ Ok (codes "1E-400") ∷ Ok (codes "1E-400") ∷ Ok (codes "1E400") ∷ []
unfolding reading cut unsigned_text digits
least_and_greatest_exponents = refl

-- plain digits for the exponents -20 to 20
plain_or_not : map spelled (codes "1E-20" ∷ codes "1E-21" ∷ codes "1E20" ∷ codes "1E21" ∷ [])
    ≡ Ok (codes "0.00000000000000000001") ∷ Ok (codes "1E-21") ∷ Ok (codes "100000000000000000000") ∷ Ok (codes "1E21")
    ∷ []
unfolding reading cut unsigned_text digits
plain_or_not = refl

no_numbers : map spelled ([] ∷ codes "--1" ∷ codes "1E" ∷ codes "1E+" ∷ codes "1E401 " ∷ codes "0x10" ∷ [])
    ≡ Err NotNumber ∷ Err NotNumber ∷ Err NotNumber ∷ Err NotNumber ∷ Err NotNumber ∷ Err NotNumber ∷ []
unfolding reading cut unsigned_text digits
no_numbers = refl

-- an exponent that is out of range too
digits_37 : spelled (codes "1.000000000000000000000000000000000001E999") ≡ Err TooManyDigits
unfolding reading cut unsigned_text digits
digits_37 = refl

exponents_out_of_range : map spelled
    (codes "10E400" ∷ codes "1E-401" ∷ codes "1E99999999999999999999" ∷ codes "1E-99999999999999999999" ∷ [])
    ≡ Err ExponentRange ∷ Err ExponentRange ∷ Err ExponentRange ∷ Err ExponentRange ∷ []
unfolding reading cut unsigned_text digits
exponents_out_of_range = refl

-- ---- the words of a mantissa

high_words : map high_word (pos 0 ∷ pos (2 ^ 64) ∷ negsuc 0 ∷ negsuc (2 ^ 64) ∷ []) ≡ pos 0 ∷ pos 1 ∷ negsuc 0
    ∷ negsuc 1 ∷ []
high_words = refl

low_words : map low_word (pos 5 ∷ pos (2 ^ 64) ∷ negsuc 0 ∷ negsuc (2 ^ 64) ∷ []) ≡ 5 ∷ 0 ∷ (2 ^ 64 - 1) ∷ (2 ^ 64 - 1)
    ∷ []
low_words = refl

of_their_words : of_words (pos 1) 5 ≡ pos (2 ^ 64 + 5)
of_their_words = refl

of_negative_words : of_words (negsuc 0) (2 ^ 64 - 125) ≡ negsuc 124
of_negative_words = refl

-- a digit or a point more than a word has room for
longest_plain : map spelled
    (codes "9999999999999999999" ∷ codes "-10000000000000000000" ∷ codes "99999999999999999.9"
    ∷ codes "0.00000000000000000010" ∷ [])
    ≡ Ok (codes "9999999999999999999") ∷ Ok (codes "-10000000000000000000") ∷ Ok (codes "99999999999999999.9")
    ∷ Ok (codes "0.0000000000000000001") ∷ []
unfolding reading cut unsigned_text digits
longest_plain = refl
