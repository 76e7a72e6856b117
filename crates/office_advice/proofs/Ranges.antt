-- The ranges are those of the values.
use Rattle.std.proofs.Common.{◌≡◌, ◌^◌, ℕ, nat_lt, ◌&&◌, Bool, true, false, Option, Some, None, refl, sym, ◌∙◌, arith}
use Rattle.std.proofs.lemmas.Bool.Decides.{nat_tests}
use Rattle.std.specs.Prelude.{IfSome, if◌then◌else◌, is_some, nat_le}
use Rattle.std.specs.Str.Parse.{digits_value}
use Rattle.base.specs.WholeNumber.{is_numeral, whole_of}
use Rattle.dbc_words.specs.Limits.{length_limit, size_limit, start_limit}
use Rattle.office_fields.specs.Value.{at_least, at_most, where_true, ◌>>=◌}
use Rattle.office_fields.specs.declared.field.FieldKind.{FieldKind}
use Rattle.office_fields.specs.declared.field.FieldKind.TheVariants as kind
use Rattle.office_advice.specs.Phrase.{IsRangeOf, is_within, range_of}
use Rattle.office_advice.specs.declared.phrases.NumberRange.{NumberRange}

abbrev range : ℕ → ℕ → NumberRange
range least greatest = record { least = least; greatest = greatest }

-- a value where a test holds
where_some : (test : Bool) (n : ℕ) → is_some (where_true test (Some n)) ≡ test
where_some true n = refl
where_some false n = refl

from_zero : (n limit : ℕ) → nat_le n limit ≡ (nat_le 0 n && nat_le n limit)
from_zero n limit = grind (arith, nat_tests)

up_to : (limit : ℕ) (found : Option ℕ) → is_some (found >>= at_most limit) ≡ is_within (range 0 limit) found
up_to limit None = refl
up_to limit (Some n) = where_some (nat_le n limit) n ∙ from_zero n limit

-- a test, and another that passes or fails
and_yes : (test : Bool) → test ≡ (test && true)
and_yes true = refl
and_yes false = refl

and_no : (test : Bool) → false ≡ (test && false)
and_no true = refl
and_no false = refl

-- a value where two tests hold, one after the other
both : (most : Bool) (least n : ℕ) → is_some (where_true most (Some n) >>= at_least least) ≡ (nat_le least n && most)
both true least n = where_some (nat_le least n) n ∙ and_yes (nat_le least n)
both false least n = and_no (nat_le least n)

between : (least greatest : ℕ) (found : Option ℕ) → is_some (found >>= at_most greatest >>= at_least least)
    ≡ is_within (range least greatest) found
between least greatest None = refl
between least greatest (Some n) = both (nat_le n greatest) least n

-- a whole number has 32 bits
fits : (n : ℕ) (test : Bool) → nat_lt n (2 ^ 32) ≡ test
    → is_some (if test then Some n else None) ≡ is_within (range 0 4294967295) (if test then Some n else None)
fits n true e = let within : (nat_le 0 n && nat_le n 4294967295) ≡ true = grind (arith, nat_tests) in sym within
fits n false e = refl

all_numbers : (numeral : Bool) (n : ℕ) → is_some (if numeral && nat_lt n (2 ^ 32) then Some n else None)
    ≡ is_within (range 0 4294967295) (if numeral && nat_lt n (2 ^ 32) then Some n else None)
all_numbers false n = refl
all_numbers true n = fits n (nat_lt n (2 ^ 32)) refl

pub ranges_exact : (k : FieldKind) → IfSome (range_of k) (IsRangeOf k)
ranges_exact kind.Number = λ bytes. all_numbers (is_numeral bytes) (digits_value 10 bytes)
ranges_exact kind.Reviews = λ bytes. up_to 9 (whole_of bytes)
ranges_exact kind.Length = λ bytes. up_to length_limit (whole_of bytes)
ranges_exact kind.Priority = λ bytes. up_to 7 (whole_of bytes)
ranges_exact kind.Address = λ bytes. up_to 255 (whole_of bytes)
ranges_exact kind.Size = λ bytes. between 1 size_limit (whole_of bytes)
ranges_exact kind.Start = λ bytes. up_to start_limit (whole_of bytes)
ranges_exact k = tt
