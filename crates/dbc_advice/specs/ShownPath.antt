-- How a path is shown.
use Rattle.std.specs.Prelude.{ℕ, ◌/◌, ◌%◌, List, [], ◌∷◌, ◌++◌, codes, if◌then◌else◌}
use Rattle.std.specs.Char.{digit_char, is_control}
use Rattle.std.specs.List.{flat_map}
use Rattle.std.specs.Str.{chars, encode_utf8_all}

-- `\x` and the two hexadecimal digits of a code below 256
abbrev pub escaped : ℕ → List ℕ
escaped code = codes "\\x" ++ digit_char (code / 16) ∷ digit_char (code % 16) ∷ []

-- a character as it is, but a control character escaped, since a terminal would carry it out
abbrev pub shown_character : ℕ → List ℕ
shown_character c = if is_control c then escaped c else c ∷ []

abbrev pub shown_characters : List ℕ → List ℕ
shown_characters cs = flat_map shown_character cs

abbrev pub shown_path : List ℕ → List ℕ
shown_path path = encode_utf8_all (shown_characters (chars path))
