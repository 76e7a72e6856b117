-- How sentences name the values of a kind.
use Rattle.std.specs.Prelude.{◌≡◌, ℕ, ◌&&◌, nat_le, Bool, false, List, ◌++◌, Option, Some, None, is_some, codes}
use Rattle.std.specs.Prelude.{decimal}
use Rattle.std.specs.Option.{option_map_or}
use Rattle.base.specs.WholeNumber.{whole_of}
use Rattle.dbc_words.specs.Limits.{length_limit, size_limit, start_limit}
use Rattle.office_fields.specs.Value.{value_from}
use Rattle.office_fields.specs.declared.field.FieldKind.{FieldKind}
use Rattle.office_fields.specs.declared.field.FieldKind.TheVariants as kind
use Rattle.office_advice.specs.declared.phrases.NumberRange.{NumberRange}

abbrev pub from_to : ℕ → ℕ → Option NumberRange
from_to least greatest = Some (record { least = least; greatest = greatest })

-- the range of a kind whose values are whole numbers
abbrev pub range_of : FieldKind → Option NumberRange
range_of kind.Number = from_to 0 4294967295
range_of kind.Reviews = from_to 0 9
range_of kind.Length = from_to 0 length_limit
range_of kind.Priority = from_to 0 7
range_of kind.Address = from_to 0 255
range_of kind.Size = from_to 1 size_limit
range_of kind.Start = from_to 0 start_limit
range_of k = None

-- a whole number is there, and in the range
abbrev pub is_within : NumberRange → Option ℕ → Bool
is_within range None = false
is_within range (Some n) = nat_le range.least n && nat_le n range.greatest

-- the values of the kind are written by the bytes that write a whole number of the range, and by no others
abbrev pub IsRangeOf : FieldKind → NumberRange → Type 0
IsRangeOf k range = (bytes : List ℕ) → is_some (value_from k bytes) ≡ is_within range (whole_of bytes)

abbrev pub range_text : NumberRange → List ℕ
range_text range = codes "a whole number from " ++ (decimal range.least ++ (codes " to " ++ decimal range.greatest))

abbrev pub plain_phrase : FieldKind → List ℕ
plain_phrase kind.NetName = codes "1 to 32 bytes of a to z, 0 to 9 and -"
plain_phrase kind.Team = codes "1 to 32 bytes of a to z, 0 to 9 and -"
plain_phrase kind.Name = codes "a C identifier of 1 to 128 bytes, no DBC keyword and not Vector__XXX"
plain_phrase kind.Text = codes "a text with \\ before each \" and each \\"
plain_phrase kind.Path = codes "a path in UTF-8"
plain_phrase kind.NetKind = codes "can or j1939"
plain_phrase kind.IdentForm = codes "std or ext"
plain_phrase kind.BlockForm = codes "std, ext, pgn or spn"
plain_phrase kind.Addressing = codes "addressed or broadcast"
plain_phrase kind.ByteOrder = codes "intel or motorola"
plain_phrase kind.Truth = codes "true or false"
plain_phrase kind.Mark = codes "M, or m and a whole number from 0 to 4294967295"
plain_phrase kind.Decimal = codes "a number as in DBC files, with - before it or nothing"
plain_phrase kind.ValueText = codes "a number as in DBC files, : and a text with \\ before each \" and each \\"
plain_phrase k = codes "a whole number"

abbrev pub phrase_of : FieldKind → List ℕ
phrase_of k = option_map_or range_text (range_of k) (plain_phrase k)
