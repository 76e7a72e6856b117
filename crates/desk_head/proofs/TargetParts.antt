-- Names, numbers and words are parts of a target: visible ASCII other than a slash, and not too long.
use Rattle.std.proofs.Common.{◌≡◌, ◌≤◌, ◌<◌, ◌^◌, ◌+◌, ◌*◌, ℕ, zero, suc, Bool, true, false, ◌&&◌, not, ◌==◌, List, []}
use Rattle.std.proofs.Common.{◌∷◌, ◌++◌, length, codes, refl, arith, length-append, nat_le, ◌/◌, ◌%◌}
use Rattle.std.specs.Prelude.{if◌then◌else◌}
use Rattle.std.specs.Char.{digit_value}
use Rattle.std.specs.Fmt.{decimal, digits, digits_onto, digit_glyph}
use Rattle.std.specs.List.{list_all}
use Rattle.std.specs.Str.{bytes_eq}
use Rattle.std.specs.Str.Parse.{AllDigits}
use Rattle.std.proofs.lemmas.Bool.{and_parts, false≢true}
use Rattle.std.proofs.lemmas.Bool.Decides.{nat_tests}
use Rattle.std.proofs.lemmas.Fmt.{decimal_is_IsNumeral, digits_is_IsNumeral, length-decimal-le}
use Rattle.std.proofs.lemmas.List.Folds.{list_all-append}
use Rattle.dbc_words.specs.Keyword.{is_keyword}
use Rattle.dbc_words.specs.Limits.{name_limit}
use Rattle.dbc_words.specs.Name.{IsName, continues_identifier, is_c_identifier, is_name, no_node, starts_identifier}
use Rattle.office_types.specs.PlainName.{IsPlainName, is_plain_byte}
use Rattle.office_types.specs.declared.sought.Sought.{Sought}
use Rattle.office_types.specs.declared.sought.Sought.TheVariants as sought
use Rattle.desk_head.specs.Asked.{IsSought, word_of}

-- visible ASCII other than a slash
abbrev pub is_part_byte : ℕ → Bool
is_part_byte b = (nat_le 33 b && nat_le b 126) && not (b == 47)

pub record IsPart (bytes : List ℕ) : Type 0 where
  pub some : 0 < length bytes
  pub short : length bytes ≤ 128
  pub seen : list_all is_part_byte bytes ≡ true

pub all_weaker : (p q : ℕ → Bool) → ((b : ℕ) → p b ≡ true → q b ≡ true) → (bytes : List ℕ) → list_all p bytes ≡ true
    → list_all q bytes ≡ true
all_weaker p q w [] h = refl
all_weaker p q w (b ∷ bytes) h =
    let parts = and_parts (p b) (list_all p bytes) h in
    rw (w b parts.0) (all_weaker p q w bytes parts.1)

-- ---- names

plain_byte : (b : ℕ) → is_plain_byte b ≡ true → is_part_byte b ≡ true
plain_byte b h = grind (arith, nat_tests, h)

pub plain_part : (name : List ℕ) → IsPlainName name → IsPart name
plain_part name is =
    let all : list_all is_plain_byte name ≡ true = grind (arith, nat_tests, is) in
    record {
      some = grind (arith, nat_tests, is);
      short = grind (arith, nat_tests, is);
      seen = all_weaker is_plain_byte is_part_byte plain_byte name all;
    }

identifier_byte : (b : ℕ) → continues_identifier b ≡ true → is_part_byte b ≡ true
identifier_byte b h = grind (arith, nat_tests, h)

starting_byte : (b : ℕ) → starts_identifier b ≡ true → is_part_byte b ≡ true
starting_byte b h = grind (arith, nat_tests, h)

-- the first two tests of a name
pub tests_of_name : (bytes : List ℕ) → IsName bytes
    → (is_c_identifier bytes ≡ true) × (nat_le (length bytes) name_limit ≡ true)
unfolding is_name
tests_of_name bytes is =
    let sized = is_c_identifier bytes && nat_le (length bytes) name_limit in
    let known = and_parts (sized && not (is_keyword bytes)) (not (bytes_eq bytes no_node)) is in
    and_parts (is_c_identifier bytes) (nat_le (length bytes) name_limit)
    (and_parts sized (not (is_keyword bytes)) known.0).0

pub name_part : (name : List ℕ) → IsName name → IsPart name
name_part [] is = absurd (false≢true (tests_of_name [] is).0)
name_part (b ∷ name) is =
    let tests = tests_of_name (b ∷ name) is in
    let parts = and_parts (starts_identifier b) (list_all continues_identifier name) tests.0 in
    record {
      some = omega arith;
      short = grind (arith, nat_tests, tests.1);
      seen =
          rw (starting_byte b parts.0)
          (all_weaker continues_identifier is_part_byte identifier_byte name parts.1);
    }

-- ---- numbers

digit_byte : (b : ℕ) → digit_value b < 36 → is_part_byte b ≡ true
digit_byte b h = grind (arith, nat_tests, h)

digits_seen : (radix : ℕ) (bytes : List ℕ) → radix ≤ 36 → AllDigits radix bytes → list_all is_part_byte bytes ≡ true
digits_seen radix [] small h = refl
digits_seen radix (b ∷ bytes) small h =
    rw (digit_byte b (omega (arith, h.0, small))) (digits_seen radix bytes small h.1)

pub decimal_part : (n : ℕ) → n < 2 ^ 32 → IsPart (decimal n)
decimal_part n h =
    let numeral = (decimal_is_IsNumeral n (omega (arith, h))).0 in
    record {
      some = numeral.0;
      short = omega (arith, length-decimal-le 10 n (omega (arith, h)) (omega (arith, h)) (omega arith));
      seen = digits_seen 10 (decimal n) (omega arith) numeral.1;
    }

-- 16 to the power of this
abbrev sixteens : ℕ → ℕ
sixteens zero = 1
sixteens (suc j) = 16 * sixteens j

either : (b : Bool) (x y : List ℕ) (most : ℕ) → length x ≤ most → length y ≤ most
    → length (if b then x else y) ≤ most
either true x y most h k = h
either false x y most h k = k

few_onto : (k j n : ℕ) (bytes : List ℕ) → n < sixteens (suc j)
    → length (digits_onto k 16 false n bytes) ≤ suc j + length bytes
few_onto zero j n bytes h = omega arith
few_onto (suc k) zero n bytes h =
    let none : n / 16 ≡ 0 = omega (arith, h) in
    rw none (omega arith)
few_onto (suc k) (suc j) n bytes h =
    let more = digit_glyph false (n % 16) ∷ bytes in
    let left : n / 16 < sixteens (suc j) = omega (arith, h) in
    either (n / 16 == 0) more (digits_onto k 16 false (n / 16) more) (suc (suc j) + length bytes) (omega arith)
    (omega (arith, few_onto k j (n / 16) more left))

pub few_digits : (n : ℕ) → n < 2 ^ 32 → length (digits 16 false n) ≤ 8
unfolding digits
few_digits n h = omega (arith, few_onto 64 7 n [] (omega (arith, h)))

hexadecimal_part : (n : ℕ) → n < 2 ^ 32 → IsPart (codes "0x" ++ digits 16 false n)
hexadecimal_part n h =
    let numeral = (digits_is_IsNumeral 16 false (omega arith) (omega arith) n (omega (arith, h))).0 in
    record {
      some = omega arith;
      short = omega (arith, few_digits n h);
      seen = digits_seen 16 (digits 16 false n) (omega arith) numeral.1;
    }

-- ---- words

-- a kind before a number
kind_part : (kind : List ℕ) (n : ℕ) → length kind ≤ 4 → list_all is_part_byte kind ≡ true → n < 2 ^ 32
    → IsPart (kind ++ decimal n)
kind_part kind n few seen h =
    let part = decimal_part n h in
    record {
      some = omega (arith, length-append kind (decimal n), part.some);
      short = omega (
        arith,
        length-append kind (decimal n),
        length-decimal-le 10 n (omega (arith, h)) (omega (arith, h)) (omega arith),
        few,
      );
      seen = rw (list_all-append is_part_byte kind (decimal n), seen) part.seen;
    }

pub word_part : (wanted : Sought) → IsSought wanted → IsPart (word_of wanted)
word_part (sought.Name name) h = name_part name h
word_part (sought.Hexadecimal n) h = hexadecimal_part n h
word_part (sought.Decimal n) h = decimal_part n h
word_part (sought.Group n) h = kind_part (codes "pgn=") n (omega arith) refl h
word_part (sought.Spn n) h = kind_part (codes "spn=") n (omega arith) refl h
