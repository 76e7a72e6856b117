-- Bytes as a text of HTML, in ASCII alone (the HTML Standard, decimal numeric character references). It may stand
-- between tags, and between the quotes of an attribute.
use Rattle.std.specs.Prelude.{ℕ, ◌+◌, ◌%◌, ◌==◌, ◌&&◌, ◌||◌, not, nat_le, nat_lt, Bool, List, [], ◌∷◌, ◌++◌, codes}
use Rattle.std.specs.Prelude.{decimal, Option, Some, None, if◌then◌else◌}
use Rattle.std.specs.List.{filter_map, flat_map}
use Rattle.html.specs.Characters.{chars_after, is_between}

-- the control characters without tab and line feed
abbrev pub is_control : ℕ → Bool
is_control c = nat_lt c 32 && not (c == 9 || c == 10)

-- the last two of each plane, and U+FDD0 to U+FDEF
abbrev pub is_noncharacter : ℕ → Bool
is_noncharacter c = nat_le 65534 (c % 65536) || is_between 64976 65007 c

-- what HTML has no reference for
abbrev pub is_unshown : ℕ → Bool
is_unshown c = is_between 127 159 c || is_noncharacter c

-- What is shown for a character: nothing for a carriage return, its picture for another control character, U+FFFD for
-- what HTML has no reference for, and else itself.
abbrev pub shown : ℕ → Option ℕ
shown c =
    if c == 13 then None
    else (if is_control c then Some (9216 + c) else (if is_unshown c then Some 65533 else Some c))

-- the characters that are shown of bytes, from those after so many on
abbrev pub shown_after : ℕ → List ℕ → List ℕ
shown_after skip bytes = filter_map shown (chars_after skip bytes)

abbrev pub characters : List ℕ → List ℕ
characters bytes = shown_after 0 bytes

-- `"`, `&`, `'`, `<` and `>`
abbrev pub is_mark : ℕ → Bool
is_mark c = (c == 34 || (c == 38 || c == 39)) || (c == 60 || c == 62)

-- what is written as it is: visible ASCII but for the marks, spaces, tabs and line feeds
abbrev pub is_plain : ℕ → Bool
is_plain c = (is_between 32 126 c || (c == 9 || c == 10)) && not (is_mark c)

-- `&#60;`
abbrev pub reference : ℕ → List ℕ
reference c = codes "&#" ++ (decimal c ++ codes ";")

abbrev pub written : ℕ → List ℕ
written c = if is_plain c then c ∷ [] else reference c

-- what is written for what is shown of a character
abbrev pub written_shown : Option ℕ → List ℕ
written_shown None = []
written_shown (Some c) = written c

abbrev pub written_after : ℕ → List ℕ → List ℕ
written_after skip bytes = flat_map written (shown_after skip bytes)

abbrev pub escaped : List ℕ → List ℕ
escaped bytes = written_after 0 bytes
