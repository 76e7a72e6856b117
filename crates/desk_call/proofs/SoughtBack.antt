-- The word that looks for something is read as that.
use Rattle.desk_call.proofs.Common.{◌≡◌, ◌≤◌, ◌<◌, ◌^◌, ◌+◌, ◌∙◌, ℕ, Bool, true, false, ◌&&◌, nat_le, List, [], ◌∷◌}
use Rattle.desk_call.proofs.Common.{◌++◌, length, Option, Some, None, codes, refl, sym, arith, decimal, list_all}
use Rattle.desk_call.proofs.Common.{bytes_eq, nat_tests, word_of}
use Rattle.std.proofs.Common.{◌*◌, ◌==◌, not, take, nat_lt, nat_eq}
use Rattle.std.specs.Char.{digit_value}
use Rattle.std.specs.Fmt.{digits}
use Rattle.std.specs.Str.Parse.{AllDigits, digits_value_after}
use Rattle.std.specs.Prelude.{if◌then◌else◌}
use Rattle.std.proofs.lemmas.Bool.{and_parts, false≢true}
use Rattle.std.proofs.lemmas.Fmt.{decimal_is_IsNumeral, digits_is_IsNumeral, length-decimal-le}
use Rattle.base.specs.WholeNumber.{whole_of}
use Rattle.base.proofs.WholeNumbers.{whole_of-is}
use Rattle.dbc_words.specs.Name.{IsName, continues_identifier, starts_identifier}
use Rattle.office_types.specs.Sought.{hexadecimal_after, plain_sought, short_decimal, sought_of}
use Rattle.office_types.specs.declared.sought.Sought.{Sought}
use Rattle.office_types.specs.declared.sought.Sought.TheVariants as sought
use Rattle.desk_head.specs.Asked.{IsSought}
use Rattle.desk_head.proofs.Parameters.{Lacks, no_split}
use Rattle.desk_head.proofs.TargetParts.{all_weaker, few_digits, tests_of_name}
use Rattle.desk_call.specs.Asked.{CanBeSought}

-- a word without `=`
plain_word : (word : List ℕ) → Lacks 61 word → sought_of word ≡ plain_sought word
plain_word word h = rw (no_split 61 word h, sought_of) refl

-- ---- numbers

no_equals : (b : ℕ) → digit_value b < 36 → not (b == 61) ≡ true
no_equals b h = grind (arith, nat_tests, h)

digits_lack : (radix : ℕ) (bytes : List ℕ) → radix ≤ 36 → AllDigits radix bytes → Lacks 61 bytes
digits_lack radix [] small h = refl
digits_lack radix (b ∷ bytes) small h = rw (no_equals b (omega (arith, h.0, small))) (digits_lack radix bytes small h.1)

pub whole_decimal : (n : ℕ) → n < 2 ^ 32 → whole_of (decimal n) ≡ Some n
whole_decimal n h =
    let back = decimal_is_IsNumeral n (omega (arith, h)) in
    sym (whole_of-is (decimal n) (Some n) ((back.0, rw back.1 h), sym back.1))

short_back : (most n : ℕ) → 1 ≤ most → n < 10 ^ most → n < 2 ^ 32 → short_decimal most (decimal n) ≡ Some n
short_back most n some few h =
    let size : nat_le (length (decimal n)) most ≡ true =
    grind (arith, nat_tests, length-decimal-le most n some few (omega (arith, h))) in
    rw size (whole_decimal n h)

hexadecimal_back : (m : ℕ) (bytes : List ℕ) → AllDigits 16 bytes
    → hexadecimal_after m bytes ≡ Some (digits_value_after 16 m bytes)
hexadecimal_back m [] h = refl
hexadecimal_back m (b ∷ bytes) h =
    let digit : nat_lt (digit_value b) 16 ≡ true = grind (arith, nat_tests, h.0) in
    rw digit (hexadecimal_back (m * 16 + digit_value b) bytes h.1)

-- no decimal number begins as a hexadecimal one
no_x : (b : ℕ) → digit_value b < 10 → nat_eq b 120 ≡ false
no_x b h = grind (arith, nat_tests, h)

and_false : (a : Bool) → (a && false) ≡ false
and_false true = refl
and_false false = refl

not_hexadecimal : (bytes : List ℕ) → AllDigits 10 bytes → bytes_eq (take 2 bytes) (codes "0x") ≡ false
not_hexadecimal [] h = refl
not_hexadecimal (a ∷ []) h = and_false (nat_eq a 48)
not_hexadecimal (a ∷ b ∷ bytes) h = rw (no_x b h.1.0) (and_false (nat_eq a 48))

hexadecimal_word : (n : ℕ) → n < 2 ^ 32 → sought_of (codes "0x" ++ digits 16 false n) ≡ Some (sought.Hexadecimal n)
hexadecimal_word n h =
    let text = digits 16 false n in
    let back = digits_is_IsNumeral 16 false (omega arith) (omega arith) n (omega (arith, h)) in
    let whole : Lacks 61 (codes "0x" ++ text) = digits_lack 16 text (omega arith) back.0.1 in
    let some : nat_le 1 (length text) ≡ true = grind (arith, nat_tests, back.0.0) in
    let few : nat_le (length text) 8 ≡ true = grind (arith, nat_tests, few_digits n h) in
    plain_word (codes "0x" ++ text) whole ∙ rw (some, few, hexadecimal_back 0 text back.0.1, back.1) refl

decimal_word : (n : ℕ) → n < 2 ^ 32 → sought_of (decimal n) ≡ Some (sought.Decimal n)
decimal_word n h =
    let digits = (decimal_is_IsNumeral n (omega (arith, h))).0.1 in
    let whole : Lacks 61 (decimal n) = digits_lack 10 (decimal n) (omega arith) digits in
    plain_word (decimal n) whole
    ∙ rw (not_hexadecimal (decimal n) digits, short_back 10 n (omega arith) (omega (arith, h)) h) refl

-- ---- names

name_byte : (b : ℕ) → continues_identifier b ≡ true → not (b == 61) ≡ true
name_byte b h = grind (arith, nat_tests, h)

first_byte : (b : ℕ) → starts_identifier b ≡ true → not (b == 61) ≡ true
first_byte b h = grind (arith, nat_tests, h)

first_no_zero : (b : ℕ) → starts_identifier b ≡ true → nat_eq b 48 ≡ false
first_no_zero b h = grind (arith, nat_tests, h)

first_no_digit : (b : ℕ) → starts_identifier b ≡ true → nat_lt (digit_value b) 10 ≡ false
first_no_digit b h = grind (arith, nat_tests, h)

-- both choices are the same
same : {A : Type 0} (test : Bool) (x : A) → (if test then x else x) ≡ x
same true x = refl
same false x = refl

name_word : (name : List ℕ) → IsName name → sought_of name ≡ Some (sought.Name name)
name_word [] is = absurd (false≢true (tests_of_name [] is).0)
name_word (b ∷ name) is =
    let parts = and_parts (starts_identifier b) (list_all continues_identifier name) (tests_of_name (b ∷ name) is).0 in
    let whole : Lacks 61 (b ∷ name) =
    rw (first_byte b parts.0) (all_weaker continues_identifier (λ x. not (x == 61)) name_byte name parts.1) in
    let no_whole : whole_of (b ∷ name) ≡ None = rw (first_no_digit b parts.0) refl in
    plain_word (b ∷ name) whole
    ∙ rw (
      first_no_zero b parts.0,
      no_whole,
      same {A = Option ℕ} (nat_le (length (b ∷ name)) 10) None,
      is,
    )
    refl

-- ---- all words

pub word_back : (wanted : Sought) → IsSought wanted → CanBeSought wanted → sought_of (word_of wanted) ≡ Some wanted
word_back (sought.Name name) is can = name_word name is
word_back (sought.Hexadecimal n) is can = hexadecimal_word n is
word_back (sought.Decimal n) is can = decimal_word n is
word_back (sought.Group n) is can = rw (short_back 6 n (omega arith) can is) refl
word_back (sought.Spn n) is can = rw (short_back 6 n (omega arith) can is) refl
