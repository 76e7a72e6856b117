-- What is shown of a path has no control character, and is the path where that has none.
use Rattle.dbc_advice.proofs.Common.{◌≡◌, ◌<◌, ℕ, Bool, true, false, List, [], ◌∷◌, ◌++◌, refl, sym, ap, ◌∙◌, arith}
use Rattle.dbc_advice.proofs.Common.{encode_utf8_all, nat_tests, is_control, NoCharPasses}
use Rattle.std.proofs.Common.{◌/◌, ◌%◌, chars, if◌then◌else◌}
use Rattle.std.proofs.lemmas.Str.{chars_from_encodes}
use Rattle.std.specs.Char.{digit_char}
use Rattle.std.specs.Str.{IsUtf8, NonePass}
use Rattle.dbc_advice.specs.ShownPath.{escaped, shown_character, shown_characters, shown_path}

none_append : (xs ys : List ℕ) → NonePass is_control xs → NonePass is_control ys → NonePass is_control (xs ++ ys)
none_append [] ys first rest = rest
none_append (x ∷ xs) ys first rest = (first.0, none_append xs ys first.1 rest)

-- a control character's code has two hexadecimal digits
control_is_small : (c : ℕ) → is_control c ≡ true → c < 256
control_is_small c is = grind (arith, nat_tests)

digit_is_plain : (d : ℕ) → d < 16 → is_control (digit_char d) ≡ false
digit_is_plain d small = grind (arith, nat_tests)

escaped_is_plain : (c : ℕ) → c < 256 → NonePass is_control (escaped c)
escaped_is_plain c small =
    (refl, (refl, (digit_is_plain (c / 16) (omega (arith, small)), (digit_is_plain (c % 16) (omega arith), tt))))

character_is_plain : (c : ℕ) → NonePass is_control (shown_character c)
character_is_plain c = by_kind (is_control c) refl
  where
    by_kind : (b : Bool) → is_control c ≡ b → NonePass is_control (if b then escaped c else c ∷ [])
    by_kind true is = escaped_is_plain c (control_is_small c is)
    by_kind false is = (is, tt)

characters_are_plain : (cs : List ℕ) → NonePass is_control (shown_characters cs)
characters_are_plain [] = tt
characters_are_plain (c ∷ cs) = none_append (shown_character c) (shown_characters cs) (character_is_plain c)
    (characters_are_plain cs)

pub shown_is_plain : (path : List ℕ) → NoCharPasses is_control (shown_path path)
shown_is_plain path = (shown_characters (chars path), refl, characters_are_plain (chars path))

same_characters : (cs : List ℕ) → NonePass is_control cs → shown_characters cs ≡ cs
same_characters [] none = refl
same_characters (c ∷ cs) none =
    ap (λ (b : Bool). (if b then escaped c else c ∷ []) ++ shown_characters cs) none.0
    ∙ ap (λ rest. c ∷ rest) (same_characters cs none.1)

pub plain_is_same : (path : List ℕ) → IsUtf8 path → NoCharPasses is_control path → shown_path path ≡ path
plain_is_same path text plain =
    let all : plain.0 ≡ chars path = chars_from_encodes plain.0 path text plain.1 in
    ap (λ cs. encode_utf8_all (shown_characters cs)) (sym all) ∙ ap encode_utf8_all (same_characters plain.0 plain.2)
    ∙ plain.1
