-- An escaped text reads back as what is shown.
use Rattle.std.proofs.Common.{◌≡◌, ◌+◌, ◌-◌, ◌*◌, ◌/◌, ◌%◌, ◌^◌, ◌<◌, ◌≤◌, ◌==◌, ◌++◌, ℕ, zero, suc, Bool, true, false}
use Rattle.std.proofs.Common.{List, [], ◌∷◌, Option, Some, None, if◌then◌else◌, refl, sym, ap, ◌∙◌, arith, append_assoc}
use Rattle.std.specs.Prelude.{decimal, option_map, slice_index}
use Rattle.std.specs.List.{cons_option, filter_map, flat_map}
use Rattle.std.proofs.lemmas.Bool.{false≢true, ne_eqb}
use Rattle.std.proofs.lemmas.Bool.Decides.{nat_tests}
use Rattle.std.proofs.lemmas.Fmt.{decimal_by_steps_wide}
use Rattle.html.specs.declared.characters.Character.{Character}
use Rattle.html.specs.Characters.{char_at, chars_after, chars_of, first_of, four, longer, number_of_four}
use Rattle.html.specs.Characters.{number_of_three, three, two}
use Rattle.html.specs.Text.{characters, escaped, is_control, is_plain, is_unshown, reference, shown, written}
use Rattle.html.specs.Reading.{AreBytes, AreReadBack, between, after_ampersand, after_digits, after_hash, is_digit}
use Rattle.html.specs.Reading.{read_from, text_read}

-- ---- a reference

first_digit : (d : ℕ) (r : List ℕ) → d < 10 → read_from after_hash ((48 + d) ∷ r) ≡ read_from (after_digits d) r
first_digit d r h =
    let digit : is_digit (48 + d) ≡ true = grind (arith, nat_tests) in
    let value : (48 + d) - 48 ≡ d = omega arith in
    rw (digit, value) refl

one_digit : (n d : ℕ) (r : List ℕ) → d < 10
    → read_from (after_digits n) ((48 + d) ∷ r) ≡ read_from (after_digits (n * 10 + d)) r
one_digit n d r h =
    let differs : (48 + d) == 59 ≡ false = grind (arith, nat_tests) in
    let digit : is_digit (48 + d) ≡ true = grind (arith, nat_tests) in
    let value : (48 + d) - 48 ≡ d = omega arith in
    rw (differs, digit, value) refl

abbrev ReadsAs : ℕ → List ℕ → Type 0
ReadsAs n ds = (r : List ℕ) → read_from after_hash (ds ++ r) ≡ read_from (after_digits n) r

more_digits : (n : ℕ) (ds : List ℕ) → 10 ≤ n → ReadsAs (n / 10) ds → ReadsAs n (ds ++ ((48 + n % 10) ∷ []))
more_digits n ds le front r =
    let low : n % 10 < 10 = omega arith in
    let value : n / 10 * 10 + n % 10 ≡ n = omega arith in
    ap (read_from after_hash) (append_assoc ds ((48 + n % 10) ∷ []) r)
    ∙ front ((48 + n % 10) ∷ r) ∙ one_digit (n / 10) (n % 10) r low
    ∙ ap (λ k. read_from (after_digits k) r) value

decimal_read : (n : ℕ) → n < 10 ^ 64 → ReadsAs n (decimal n)
decimal_read n h = decimal_by_steps_wide ReadsAs (λ d low r. first_digit d r low) more_digits n h

abbrev and_then : ℕ → List ℕ → Option (List ℕ)
and_then c r = option_map (λ cs. c ∷ cs) (read_from between r)

reference_read : (c : ℕ) (r : List ℕ) → c < 10 ^ 64 → read_from between (reference c ++ r) ≡ and_then c r
reference_read c r h =
    ap (read_from after_hash) (append_assoc (decimal c) (59 ∷ []) r) ∙ decimal_read c h (59 ∷ r)

-- ---- a character

plain_read : (c : ℕ) (r : List ℕ) → is_plain c ≡ true → read_from between (c ∷ r) ≡ and_then c r
plain_read c r plain =
    let differs : c == 38 ≡ false = ne_eqb c 38 (λ e. false≢true (sym (ap is_plain e) ∙ plain)) in
    ap (λ t. if t then read_from after_ampersand r else (if is_plain c then and_then c r else None)) differs
    ∙ ap (λ t. if t then and_then c r else None) plain

either_read : (c : ℕ) (r : List ℕ) (b : Bool) → is_plain c ≡ b → c < 10 ^ 64
    → read_from between ((if b then c ∷ [] else reference c) ++ r) ≡ and_then c r
either_read c r true plain h = plain_read c r plain
either_read c r false plain h = reference_read c r h

written_read : (c : ℕ) (r : List ℕ) → c < 10 ^ 64 → read_from between (written c ++ r) ≡ and_then c r
written_read c r h = either_read c r (is_plain c) refl h

-- ---- how great the characters are

-- above each character, and each picture of one
abbrev bound : ℕ
bound = 33554432

abbrev AreBelow : ℕ → List ℕ → Type 0
AreBelow n [] = Unit {0}
AreBelow n (c ∷ cs) = (c < n) × AreBelow n cs

abbrev IsBelow : ℕ → Option ℕ → Type 0
IsBelow n None = Unit {0}
IsBelow n (Some c) = c < n

all_read : (cs : List ℕ) → AreBelow bound cs → read_from between (flat_map written cs) ≡ Some cs
all_read [] h = refl
all_read (c ∷ cs) h =
    let small : c < 10 ^ 64 = omega (arith, h.0) in
    written_read c (flat_map written cs) small ∙ ap (option_map (λ xs. c ∷ xs)) (all_read cs h.1)

either_below : (n : ℕ) (b : Bool) (x y : Option ℕ) → IsBelow n x → IsBelow n y → IsBelow n (if b then x else y)
either_below n true x y h k = h
either_below n false x y h k = k

byte_at : (bs : List ℕ) (k : ℕ) → AreBytes bs → slice_index bs k < 256
byte_at [] k h = omega arith
byte_at (b ∷ bs) zero h = h.0
byte_at (b ∷ bs) (suc k) h = byte_at bs k h.1

two_below : (a b : ℕ) → a < 256 → b < 256 → IsBelow 16777216 (two a b)
two_below a b p q =
    let small : (a - 192) * 64 + (b - 128) < 16777216 = omega arith in
    either_below 16777216 _ (Some ((a - 192) * 64 + (b - 128))) None small tt

three_below : (a b c : ℕ) → a < 256 → b < 256 → c < 256 → IsBelow 16777216 (three a b c)
three_below a b c p q r =
    let small : number_of_three a b c < 16777216 = omega arith in
    either_below 16777216 _ (Some (number_of_three a b c)) None small tt

four_below : (a b c d : ℕ) → a < 256 → b < 256 → c < 256 → d < 256 → IsBelow 16777216 (four a b c d)
four_below a b c d p q r s =
    let small : number_of_four a b c d < 16777216 = omega arith in
    either_below 16777216 _ (Some (number_of_four a b c d)) None small tt

first_below : (x y z : Option ℕ) (a : ℕ) → IsBelow 16777216 x → IsBelow 16777216 y → IsBelow 16777216 z → a < 256
    → (first_of x y z a).number < 16777216
first_below (Some n) y z a h k l m = h
first_below None (Some n) z a h k l m = k
first_below None None (Some n) a h k l m = l
first_below None None None a h k l m = omega arith

char_below_if : (b : Bool) (x y : Character) → x.number < 16777216 → y.number < 16777216
    → (if b then x else y).number < 16777216
char_below_if true x y h k = h
char_below_if false x y h k = k

char_below : (a : ℕ) (bs : List ℕ) → a < 256 → AreBytes bs → (char_at a bs).number < 16777216
char_below a bs h bytes =
    let b = slice_index bs 0 in
    let c = slice_index bs 1 in
    let d = slice_index bs 2 in
    let small : a < 16777216 = omega arith in
    char_below_if _ (record { number = a; more = 0 }) (longer a b c d) small
    (first_below (two a b) (three a b c) (four a b c d) a (two_below a b h (byte_at bs 0 bytes))
    (three_below a b c h (byte_at bs 0 bytes) (byte_at bs 1 bytes))
    (four_below a b c d h (byte_at bs 0 bytes) (byte_at bs 1 bytes) (byte_at bs 2 bytes)) h)

chars_below : (skip : ℕ) (bs : List ℕ) → AreBytes bs → AreBelow 16777216 (chars_after skip bs)
chars_below skip [] h = tt
chars_below zero (b ∷ bs) h = (char_below b bs h.0 h.1, chars_below (char_at b bs).more bs h.1)
chars_below (suc skip) (b ∷ bs) h = chars_below skip bs h.1

shown_below : (c : ℕ) → c < 16777216 → IsBelow bound (shown c)
shown_below c h =
    let picture : 9216 + c < bound = omega arith in
    let itself : c < bound = omega arith in
    let unshown : Option ℕ = if is_unshown c then Some 65533 else Some c in
    either_below bound (c == 13) None (if is_control c then Some (9216 + c) else unshown) tt
    (either_below bound (is_control c) (Some (9216 + c)) unshown picture
    (either_below bound (is_unshown c) (Some 65533) (Some c) (omega arith) itself))

cons_below : (o : Option ℕ) (cs : List ℕ) → IsBelow bound o → AreBelow bound cs → AreBelow bound (cons_option o cs)
cons_below None cs h k = k
cons_below (Some c) cs h k = (h, k)

all_below : (cs : List ℕ) → AreBelow 16777216 cs → AreBelow bound (filter_map shown cs)
all_below [] h = tt
all_below (c ∷ cs) h = cons_below (shown c) (filter_map shown cs) (shown_below c h.0) (all_below cs h.1)

-- ---- the law

pub read_back : (bytes : List ℕ) → AreBytes bytes → text_read (escaped bytes) ≡ Some (characters bytes)
read_back bytes h = all_read (characters bytes) (all_below (chars_of bytes) (chars_below 0 bytes h))

same_shown : (a b : List ℕ) → AreBytes a → AreBytes b → escaped a ≡ escaped b → characters a ≡ characters b
same_shown a b h k e =
    let same : Some (characters a) ≡ Some (characters b) =
    sym (read_back a h) ∙ ap text_read e ∙ read_back b k in cc

pub are_read_back : AreReadBack
are_read_back = record { read = read_back; apart = same_shown }
