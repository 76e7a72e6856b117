-- An escaped text read as a browser reads it (the HTML Standard, tokenization: the data state and the decimal character
-- reference state), and refused where it has anything else.
use Rattle.std.specs.Prelude.{◌≡◌, ℕ, ◌+◌, ◌-◌, ◌*◌, ◌<◌, ◌==◌, Bool, List, [], ◌∷◌, Option, Some, None, option_map}
use Rattle.std.specs.Prelude.{true, if◌then◌else◌}
use Rattle.std.specs.List.{list_all}
use Rattle.std.specs.Str.{all_scalars, encode_utf8_all}
use Rattle.html.specs.Characters.{chars_of, is_between}
use Rattle.html.specs.Text.{characters, escaped, is_plain}

-- where the reading is: between characters, after `&`, after `&#`, or after digits of this value
pub data Place : Type 0 where
  between : Place
  after_ampersand : Place
  after_hash : Place
  after_digits : ℕ → Place

abbrev pub is_digit : ℕ → Bool
is_digit b = is_between 48 57 b

-- The characters that are read from a place on; none where the text has a `<`, `>`, `"` or `'`, an `&` that begins no
-- decimal reference, or a byte that is neither visible ASCII nor a space, tab or line feed.
abbrev pub read_from : Place → List ℕ → Option (List ℕ)
read_from between [] = Some []
read_from after_ampersand [] = None
read_from after_hash [] = None
read_from (after_digits n) [] = None
read_from between (b ∷ bs) =
    if b == 38 then read_from after_ampersand bs
    else (if is_plain b then option_map (λ cs. b ∷ cs) (read_from between bs) else None)
read_from after_ampersand (b ∷ bs) = if b == 35 then read_from after_hash bs else None
read_from after_hash (b ∷ bs) = if is_digit b then read_from (after_digits (b - 48)) bs else None
read_from (after_digits n) (b ∷ bs) =
    if b == 59 then option_map (λ cs. n ∷ cs) (read_from between bs)
    else (if is_digit b then read_from (after_digits (n * 10 + (b - 48))) bs else None)

abbrev pub text_read : List ℕ → Option (List ℕ)
text_read text = read_from between text

-- each number is below 256
abbrev pub AreBytes : List ℕ → Type 0
AreBytes [] = Unit {0}
AreBytes (b ∷ bs) = (b < 256) × AreBytes bs

-- What is read of an escaped text is what is shown of the bytes. So it has nothing that ends a text or an attribute,
-- and nothing but ASCII; and two texts that show other characters are escaped to other texts.
pub record AreReadBack : Type 0 where
  pub read : (bytes : List ℕ) → AreBytes bytes → text_read (escaped bytes) ≡ Some (characters bytes)
  pub apart : (a b : List ℕ) → AreBytes a → AreBytes b → escaped a ≡ escaped b → characters a ≡ characters b

-- The characters of well-formed UTF-8 are those that it encodes.
abbrev pub IsDecoded : Type 0
IsDecoded = (cs : List ℕ) → all_scalars cs ≡ true → chars_of (encode_utf8_all cs) ≡ cs

-- A text in which each byte is written as it is, is escaped to itself.
abbrev pub IsKept : Type 0
IsKept = (bytes : List ℕ) → list_all is_plain bytes ≡ true → escaped bytes ≡ bytes
