-- The characters of bytes: those of well-formed UTF-8 (the Unicode Standard, Table 3-7), and for each other byte the
-- character of its number (ISO 8859-1).
use Rattle.std.specs.Prelude.{ℕ, zero, suc, ◌+◌, ◌-◌, ◌*◌, ◌&&◌, not, nat_le, nat_lt, Bool, List, [], ◌∷◌, slice_index}
use Rattle.std.specs.Prelude.{Option, Some, None, if◌then◌else◌}
use Rattle.html.specs.declared.characters.Character.{Character}

abbrev pub is_between : ℕ → ℕ → ℕ → Bool
is_between low high n = nat_le low n && nat_le n high

-- the byte may be a later one of a character
abbrev pub is_later : ℕ → Bool
is_later b = is_between 128 191 b

-- the character of two bytes
abbrev pub two : ℕ → ℕ → Option ℕ
two a b = if is_between 194 223 a && is_later b then Some ((a - 192) * 64 + (b - 128)) else None

abbrev pub number_of_three : ℕ → ℕ → ℕ → ℕ
number_of_three a b c = (a - 224) * 4096 + (b - 128) * 64 + (c - 128)

-- of three bytes: not one that two bytes write, and no surrogate
abbrev pub three : ℕ → ℕ → ℕ → Option ℕ
three a b c =
    let n = number_of_three a b c in
    if (is_between 224 239 a && (is_later b && is_later c)) && (nat_le 2048 n && not (is_between 55296 57343 n))
    then Some n else None

abbrev pub number_of_four : ℕ → ℕ → ℕ → ℕ → ℕ
number_of_four a b c d = (a - 240) * 262144 + (b - 128) * 4096 + (c - 128) * 64 + (d - 128)

-- of four bytes: not one that three bytes write, and none past the last one
abbrev pub four : ℕ → ℕ → ℕ → ℕ → Option ℕ
four a b c d =
    let n = number_of_four a b c d in
    if (is_between 240 244 a && (is_later b && (is_later c && is_later d))) && is_between 65536 1114111 n
    then Some n else None

-- a character, and how many bytes after the first one write it
abbrev pub written_by : ℕ → ℕ → Character
written_by more n = record { number = n; more = more }

-- the first of these that there is, of two, three and four bytes; else the byte by itself
abbrev pub first_of : Option ℕ → Option ℕ → Option ℕ → ℕ → Character
first_of (Some n) three four a = written_by 1 n
first_of None (Some n) four a = written_by 2 n
first_of None None (Some n) a = written_by 3 n
first_of None None None a = written_by 0 a

-- the character that begins with byte a, which b, c and d follow
abbrev pub longer : ℕ → ℕ → ℕ → ℕ → Character
longer a b c d = first_of (two a b) (three a b c) (four a b c d) a

-- the same, where these bytes follow; past their end there are zeros, which are no later bytes
abbrev pub char_at : ℕ → List ℕ → Character
char_at a later = if nat_lt a 128 then written_by 0 a
    else longer a (slice_index later 0) (slice_index later 1) (slice_index later 2)

-- the characters after so many bytes
abbrev pub chars_after : ℕ → List ℕ → List ℕ
chars_after skip [] = []
chars_after zero (b ∷ bs) = (char_at b bs).number ∷ chars_after (char_at b bs).more bs
chars_after (suc skip) (b ∷ bs) = chars_after skip bs

abbrev pub chars_of : List ℕ → List ℕ
chars_of bytes = chars_after 0 bytes
