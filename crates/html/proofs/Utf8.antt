-- Well-formed UTF-8 has the characters that it encodes.
use Rattle.std.proofs.Common.{◌≡◌, ◌+◌, ◌-◌, ◌*◌, ◌/◌, ◌%◌, ◌<◌, ◌≤◌, ◌++◌, ◌&&◌, not, ℕ, Bool, true, false, cond}
use Rattle.std.proofs.Common.{List, [], ◌∷◌, Some, None, refl, ap, ◌∙◌, arith, inl, inr, ◌⊎◌}
use Rattle.std.specs.Prelude.{nat_le, nat_lt, slice_index}
use Rattle.std.specs.Char.{encode_utf8}
use Rattle.std.specs.Str.{all_scalars, encode_utf8_all}
use Rattle.std.proofs.lemmas.Bool.{false≢true}
use Rattle.std.proofs.lemmas.Bool.Decides.{nat_tests}
use lib.Utf8.{scalar, scalar_cases}
use Rattle.html.specs.declared.characters.Character.{Character}
use Rattle.html.specs.Characters.{char_at, chars_after, chars_of, first_of, four, is_between, is_later, longer}
use Rattle.html.specs.Characters.{number_of_four, number_of_three, three, two, written_by}

both : {x y : Bool} → x ≡ true → y ≡ true → (x && y) ≡ true
both {x} {y} h k = ap (λ b. b && y) h ∙ k

not_first : {x : Bool} (y : Bool) → x ≡ false → (x && y) ≡ false
not_first y h = ap (λ b. b && y) h

-- ---- which characters bytes are

some_if : {t : Bool} (n m : ℕ) → t ≡ true → n ≡ m → cond t (Some n) None ≡ Some m
some_if n m h e = ap (λ b. cond b (Some n) None) h ∙ ap Some e

none_if : {t : Bool} (n : ℕ) → t ≡ false → cond t (Some n) None ≡ None
none_if n h = ap (λ b. cond b (Some n) None) h

two_is : (c : ℕ) → 128 ≤ c → c < 2048 → two (192 + c / 64) (128 + c % 64) ≡ Some c
two_is c l h =
    let first : is_between 194 223 (192 + c / 64) ≡ true = grind (arith, nat_tests) in
    let later : is_later (128 + c % 64) ≡ true = grind (arith, nat_tests) in
    let value : (192 + c / 64 - 192) * 64 + (128 + c % 64 - 128) ≡ c = omega arith in
    some_if _ c (both first later) value

no_two : (a b : ℕ) → 224 ≤ a → two a b ≡ None
no_two a b h =
    let first : is_between 194 223 a ≡ false = grind (arith, nat_tests) in
    none_if _ (not_first (is_later b) first)

three_is : (c : ℕ) → 2048 ≤ c → c < 65536 → (c < 55296) ⊎ (57344 ≤ c)
    → three (224 + c / 4096) (128 + (c / 64) % 64) (128 + c % 64) ≡ Some c
three_is c l h apart =
    let n = number_of_three (224 + c / 4096) (128 + (c / 64) % 64) (128 + c % 64) in
    let first : is_between 224 239 (224 + c / 4096) ≡ true = grind (arith, nat_tests) in
    let second : is_later (128 + (c / 64) % 64) ≡ true = grind (arith, nat_tests) in
    let third : is_later (128 + c % 64) ≡ true = grind (arith, nat_tests) in
    let value : number_of_three (224 + c / 4096) (128 + (c / 64) % 64) (128 + c % 64) ≡ c = omega arith in
    let least : nat_le 2048 c ≡ true = grind (arith, nat_tests) in
    let none : is_between 55296 57343 c ≡ false =
    elim apart [ inl below ↦ grind (arith, nat_tests) | inr above ↦ grind (arith, nat_tests) ] in
    some_if _ c
    (both (both first (both second third))
    (both (ap (nat_le 2048) value ∙ least) (ap (λ k. not (is_between 55296 57343 k)) value ∙ ap not none))) value

no_three : (a b c : ℕ) → 240 ≤ a → three a b c ≡ None
no_three a b c h =
    let first : is_between 224 239 a ≡ false = grind (arith, nat_tests) in
    none_if _ (not_first _ (not_first _ first))

four_is : (c : ℕ) → 65536 ≤ c → c < 1114112
    → four (240 + c / 262144) (128 + (c / 4096) % 64) (128 + (c / 64) % 64) (128 + c % 64) ≡ Some c
four_is c l h =
    let first : is_between 240 244 (240 + c / 262144) ≡ true = grind (arith, nat_tests) in
    let second : is_later (128 + (c / 4096) % 64) ≡ true = grind (arith, nat_tests) in
    let third : is_later (128 + (c / 64) % 64) ≡ true = grind (arith, nat_tests) in
    let fourth : is_later (128 + c % 64) ≡ true = grind (arith, nat_tests) in
    let value : number_of_four (240 + c / 262144) (128 + (c / 4096) % 64) (128 + (c / 64) % 64) (128 + c % 64) ≡ c =
    omega arith in
    let range : is_between 65536 1114111 c ≡ true = grind (arith, nat_tests) in
    some_if _ c
    (both (both first (both second (both third fourth))) (ap (is_between 65536 1114111) value ∙ range)) value

-- ---- a character read

from_char : (a : ℕ) (later : List ℕ) (x : Character) → char_at a later ≡ x
    → chars_after 0 (a ∷ later) ≡ x.number ∷ chars_after x.more later
from_char a later x e = ap (λ (y : Character). y.number ∷ chars_after y.more later) e

long_char : (a : ℕ) (later : List ℕ) → 128 ≤ a
    → char_at a later ≡ longer a (slice_index later 0) (slice_index later 1) (slice_index later 2)
long_char a later h =
    let test : nat_lt a 128 ≡ false = grind (arith, nat_tests) in
    ap (λ b. cond b (written_by 0 a) (longer a (slice_index later 0) (slice_index later 1) (slice_index later 2))) test

one_read : (c : ℕ) (r : List ℕ) → c < 128 → chars_after 0 (c ∷ r) ≡ c ∷ chars_after 0 r
one_read c r h =
    let test : nat_lt c 128 ≡ true = grind (arith, nat_tests) in
    from_char c r (written_by 0 c)
    (ap (λ b. cond b (written_by 0 c) (longer c (slice_index r 0) (slice_index r 1) (slice_index r 2))) test)

two_read : (c : ℕ) (r : List ℕ) → 128 ≤ c → c < 2048
    → chars_after 0 ((192 + c / 64) ∷ (128 + c % 64) ∷ r) ≡ c ∷ chars_after 0 r
two_read c r l h =
    let a = 192 + c / 64 in
    let b = 128 + c % 64 in
    let big : 128 ≤ 192 + c / 64 = omega arith in
    from_char a (b ∷ r) (written_by 1 c)
    (long_char a (b ∷ r) big
    ∙ ap (λ o. first_of o (three a b (slice_index r 0)) (four a b (slice_index r 0) (slice_index r 1)) a)
    (two_is c l h))

three_read : (c : ℕ) (r : List ℕ) → 2048 ≤ c → c < 65536 → (c < 55296) ⊎ (57344 ≤ c)
    → chars_after 0 ((224 + c / 4096) ∷ (128 + (c / 64) % 64) ∷ (128 + c % 64) ∷ r) ≡ c ∷ chars_after 0 r
three_read c r l h apart =
    let a = 224 + c / 4096 in
    let b = 128 + (c / 64) % 64 in
    let d = 128 + c % 64 in
    let big : 128 ≤ 224 + c / 4096 = omega arith in
    let long : 224 ≤ 224 + c / 4096 = omega arith in
    from_char a (b ∷ d ∷ r) (written_by 2 c)
    (long_char a (b ∷ d ∷ r) big
    ∙ ap (λ o. first_of o (three a b d) (four a b d (slice_index r 0)) a) (no_two a b long)
    ∙ ap (λ o. first_of None o (four a b d (slice_index r 0)) a) (three_is c l h apart))

four_read : (c : ℕ) (r : List ℕ) → 65536 ≤ c → c < 1114112
    → chars_after 0 ((240 + c / 262144) ∷ (128 + (c / 4096) % 64) ∷ (128 + (c / 64) % 64) ∷ (128 + c % 64) ∷ r)
    ≡ c ∷ chars_after 0 r
four_read c r l h =
    let a = 240 + c / 262144 in
    let b = 128 + (c / 4096) % 64 in
    let d = 128 + (c / 64) % 64 in
    let e = 128 + c % 64 in
    let big : 128 ≤ 240 + c / 262144 = omega arith in
    let long : 224 ≤ 240 + c / 262144 = omega arith in
    let longest : 240 ≤ 240 + c / 262144 = omega arith in
    from_char a (b ∷ d ∷ e ∷ r) (written_by 3 c)
    (long_char a (b ∷ d ∷ e ∷ r) big
    ∙ ap (λ o. first_of o (three a b d) (four a b d e) a) (no_two a b long)
    ∙ ap (λ o. first_of None o (four a b d e) a) (no_three a b d longest)
    ∙ ap (λ o. first_of None None o a) (four_is c l h))

-- by how many bytes write it
by_length : (x y z : Bool) (c : ℕ) (r : List ℕ) → nat_lt c 128 ≡ x → nat_lt c 2048 ≡ y → nat_lt c 65536 ≡ z
    → (c < 55296) ⊎ ((57344 ≤ c) × (c < 1114112))
    → chars_after 0 (cond x (c ∷ []) (cond y ((192 + c / 64) ∷ (128 + c % 64) ∷ [])
    (cond z ((224 + c / 4096) ∷ (128 + (c / 64) % 64) ∷ (128 + c % 64) ∷ [])
    ((240 + c / 262144) ∷ (128 + (c / 4096) % 64) ∷ (128 + (c / 64) % 64) ∷ (128 + c % 64) ∷ []))) ++ r)
    ≡ c ∷ chars_after 0 r
by_length true y z c r is_x is_y is_z fits =
    let h : c < 128 = grind (arith, nat_tests) in one_read c r h
by_length false true z c r is_x is_y is_z fits =
    let l : 128 ≤ c = grind (arith, nat_tests) in
    let h : c < 2048 = grind (arith, nat_tests) in two_read c r l h
by_length false false true c r is_x is_y is_z fits =
    let l : 2048 ≤ c = grind (arith, nat_tests) in
    let h : c < 65536 = grind (arith, nat_tests) in
    three_read c r l h (elim fits [ inl below ↦ inl below | inr above ↦ inr above.0 ])
by_length false false false c r is_x is_y is_z fits =
    let l : 65536 ≤ c = grind (arith, nat_tests) in
    let h : c < 1114112 = elim fits [ inl below ↦ omega arith | inr above ↦ above.1 ] in
    four_read c r l h

one_encoded : (c : ℕ) (r : List ℕ) → scalar c ≡ true → chars_after 0 (encode_utf8 c ++ r) ≡ c ∷ chars_after 0 r
unfolding encode_utf8
one_encoded c r h =
    by_length (nat_lt c 128) (nat_lt c 2048) (nat_lt c 65536) c r refl refl refl (scalar_cases c h)

first_true : (x y : Bool) → (x && y) ≡ true → x ≡ true
first_true true y h = refl
first_true false y h = h

second_true : (x y : Bool) → (x && y) ≡ true → y ≡ true
second_true true y h = h
second_true false y h = absurd (false≢true h)

pub all_encoded : (cs : List ℕ) → all_scalars cs ≡ true → chars_of (encode_utf8_all cs) ≡ cs
all_encoded [] h = refl
all_encoded (c ∷ cs) h =
    one_encoded c (encode_utf8_all cs) (first_true (scalar c) (all_scalars cs) h)
    ∙ ap (λ v. c ∷ v) (all_encoded cs (second_true (scalar c) (all_scalars cs) h))
