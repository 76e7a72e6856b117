-- Worked examples, computed from the definitions.
use Rattle.std.proofs.Common.{◌≡◌, ℕ, List, [], ◌∷◌, map, Some, None, true, false, codes, pos, negsuc, refl}
use Rattle.std.specs.Str.{chars, is_utf8}
use Rattle.bitlayout.specs.declared.place.Mux.TheVariants.{Multiplexor, Under}
use Rattle.decimal.specs.Cutting.{cut}
use Rattle.decimal.specs.Reading.{reading}
use Rattle.dbc_words.specs.Name.{is_name}
use Rattle.office_types.specs.declared.block.BlockForm.TheVariants as block
use Rattle.office_types.specs.declared.command.Pdu.TheVariants.{Addressed, Broadcast}
use Rattle.office_fields.specs.declared.field.Field.TheVariants as field
use Rattle.office_fields.specs.declared.field.FieldKind.TheVariants as kind
use Rattle.office_fields.specs.declared.kind.ActionKind.TheVariants as act
use Rattle.office_fields.specs.declared.kind.CommandKind.TheVariants.{Act, Import}
use Rattle.office_fields.specs.Requested.{requested_of}
use Rattle.office_fields.specs.Given.{NamedValue, are_known, given, values_of}
use Rattle.office_fields.specs.Kind.{kind_of_word, pdu_of, range_of}
use Rattle.office_fields.specs.Value.{value_from}

-- ---- words

words : map kind_of_word (codes "grant" ∷ codes "import" ∷ codes "release" ∷ codes "Grant" ∷ codes "gran" ∷ [] ∷ [])
    ≡ Some (Act act.Grant) ∷ Some Import ∷ Some (Act act.Release) ∷ None ∷ None ∷ None ∷ []
words = refl

-- ---- values by kind

numbers : map (value_from kind.Number)
    (codes "0" ∷ codes "007" ∷ codes "4294967295" ∷ codes "004294967295" ∷ codes "4294967296" ∷ [] ∷ codes "-1"
    ∷ codes "+1" ∷ codes "1 " ∷ codes "1.0" ∷ codes "0x10" ∷ [])
    ≡ Some 0 ∷ Some 7 ∷ Some 4294967295 ∷ Some 4294967295 ∷ None ∷ None ∷ None ∷ None ∷ None ∷ None ∷ None ∷ []
numbers = refl

ranges : value_from kind.Reviews (codes "9") ∷ value_from kind.Reviews (codes "10") ∷ value_from kind.Length
    (codes "1785") ∷ value_from kind.Length (codes "1786")
    ∷ value_from kind.Priority (codes "7") ∷ value_from kind.Priority (codes "8") ∷ value_from kind.Address
    (codes "255") ∷ value_from kind.Address (codes "256")
    ∷ value_from kind.Size (codes "1") ∷ value_from kind.Size (codes "0") ∷ value_from kind.Size (codes "64")
    ∷ value_from kind.Size (codes "65")
    ∷ value_from kind.Start (codes "65535") ∷ value_from kind.Start (codes "65536") ∷ []
    ≡ Some 9 ∷ None ∷ Some 1785 ∷ None ∷ Some 7 ∷ None ∷ Some 255 ∷ None ∷ Some 1 ∷ None ∷ Some 64 ∷ None ∷ Some 65535
    ∷ None ∷ []
ranges = refl

truths : map (value_from kind.Truth) (codes "true" ∷ codes "false" ∷ codes "1" ∷ codes "True" ∷ [] ∷ []) ≡ Some true
    ∷ Some false ∷ None ∷ None ∷ None ∷ []
truths = refl

marks : map (value_from kind.Mark)
    (codes "M" ∷ codes "m0" ∷ codes "m007" ∷ codes "m4294967295" ∷ codes "m4294967296" ∷ codes "m" ∷ codes "m0M" ∷ []
    ∷ [])
    ≡ Some Multiplexor ∷ Some (Under 0) ∷ Some (Under 7) ∷ Some (Under 4294967295) ∷ None ∷ None ∷ None ∷ None ∷ []
marks = refl

decimals : map (value_from kind.Decimal)
    (codes "1" ∷ codes "-40" ∷ codes "0.1250" ∷ codes "-0" ∷ codes "1e3" ∷ codes "+1" ∷ codes "--1" ∷ codes ".5"
    ∷ codes "1E401" ∷ codes "-" ∷ [] ∷ [])
    ≡ Some (record { mantissa = pos 1; exponent = pos 0 })
    ∷ Some (record { mantissa = negsuc 3; exponent = pos 1 })
    ∷ Some (record { mantissa = pos 125; exponent = negsuc 2 })
    ∷ Some (record { mantissa = pos 0; exponent = pos 0 })
    ∷ Some (record { mantissa = pos 1; exponent = pos 3 })
    ∷ None
    ∷ None
    ∷ None
    ∷ None
    ∷ None
    ∷ None
    ∷ []
unfolding reading cut
decimals = refl

value_texts : map (value_from kind.ValueText)
    (codes "0:Off" ∷ codes "-1:a:b" ∷ codes "2:" ∷ codes "3" ∷ codes ":On" ∷ codes "4:a\"b" ∷ [])
    ≡ Some (record { value = record { mantissa = pos 0; exponent = pos 0 }; text = codes "Off" })
    ∷ Some (record { value = record { mantissa = negsuc 0; exponent = pos 0 }; text = codes "a:b" })
    ∷ Some (record { value = record { mantissa = pos 2; exponent = pos 0 }; text = [] })
    ∷ None
    ∷ None
    ∷ None
    ∷ []
unfolding reading cut
value_texts = refl

names : map (value_from kind.Name) (codes "E1" ∷ codes "_a" ∷ codes "1E" ∷ codes "BO_" ∷ codes "Vector__XXX" ∷ [] ∷ [])
    ≡ Some (codes "E1") ∷ Some (codes "_a") ∷ None ∷ None ∷ None ∷ None ∷ []
unfolding is_name
names = refl

teams : map (value_from kind.Team) (codes "engine" ∷ codes "a-1" ∷ codes "Engine" ∷ [] ∷ [])
    ≡ Some (codes "engine") ∷ Some (codes "a-1") ∷ None ∷ None ∷ []
teams = refl

texts : map (value_from kind.Text) ([] ∷ codes "km/h" ∷ codes "a\\\"b" ∷ codes "a\"b" ∷ codes "a\\" ∷ [])
    ≡ Some [] ∷ Some (codes "km/h") ∷ Some (codes "a\\\"b") ∷ None ∷ None ∷ []
texts = refl

-- `ü`, and a byte that begins no character
paths : map (value_from kind.Path) (codes "a b.dbc" ∷ [] ∷ (195 ∷ 188 ∷ []) ∷ (195 ∷ []) ∷ (176 ∷ []) ∷ [])
    ≡ Some (codes "a b.dbc") ∷ Some [] ∷ Some (195 ∷ 188 ∷ []) ∷ None ∷ None ∷ []
unfolding is_utf8 chars lib.Utf8.encode
paths = refl

-- ---- what is given

abbrev named : List ℕ → List ℕ → NamedValue
named name value = record { name = name; value = value }

abbrev two_receivers : List NamedValue
two_receivers = named (codes "receiver") (codes "Dash") ∷ named (codes "unit") [] ∷ named (codes "receiver")
    (codes "ECU") ∷ named (codes "unit") [] ∷ []

under_a_name : map (values_of two_receivers) (codes "receiver" ∷ codes "unit" ∷ codes "receivers" ∷ [])
    ≡ (codes "Dash" ∷ codes "ECU" ∷ []) ∷ ([] ∷ [] ∷ []) ∷ [] ∷ []
under_a_name = refl

repeated_field : given field.Receiver two_receivers ≡ Some (codes "Dash" ∷ codes "ECU" ∷ [])
unfolding is_name
repeated_field = refl

no_repeated_field : given field.Receiver [] ≡ Some []
no_repeated_field = refl

doubled_field : given field.Unit two_receivers ≡ None
doubled_field = refl

missing_field : given field.Unit [] ≡ None
missing_field = refl

missing_optional_field : given field.Want [] ≡ Some None
missing_optional_field = refl

optional_field : given field.Want (named (codes "want") (codes "258") ∷ []) ≡ Some (Some 258)
optional_field = refl

wrong_optional_field : given field.Want (named (codes "want") [] ∷ []) ≡ None
wrong_optional_field = refl

doubled_optional_field : given field.Want (named (codes "want") (codes "1") ∷ named (codes "want") (codes "1") ∷ [])
    ≡ None
doubled_optional_field = refl

known : map (are_known (field.Net ∷ field.Unit ∷ field.Receiver ∷ []))
    (two_receivers ∷ [] ∷ (named (codes "Net") [] ∷ []) ∷ (named [] [] ∷ []) ∷ [])
    ≡ true ∷ true ∷ false ∷ false ∷ []
known = refl

-- ---- what can't be, though each field is right

blocks : range_of block.Std 0 2047 ∷ range_of block.Std 2047 2048 ∷ range_of block.Std 5 4 ∷ range_of block.Pgn 131071
    131071 ∷ range_of block.Spn 0 5 ∷ range_of block.Spn 1 524287 ∷ range_of block.Ext 0 536870912 ∷ []
    ≡ Some (record { form = block.Std; first = 0; last = 2047 })
    ∷ None
    ∷ None
    ∷ Some (record { form = block.Pgn; first = 131071; last = 131071 })
    ∷ None
    ∷ Some (record { form = block.Spn; first = 1; last = 524287 })
    ∷ None
    ∷ []
blocks = refl

abbrev to_seven : List NamedValue
to_seven = named (codes "destination") (codes "7") ∷ []

destinations : map pdu_of
    ((named (codes "pdu") (codes "addressed") ∷ to_seven) ∷ (named (codes "pdu") (codes "addressed") ∷ [])
    ∷ (named (codes "pdu") (codes "broadcast") ∷ []) ∷ (named (codes "pdu") (codes "broadcast") ∷ to_seven) ∷ to_seven
    ∷ [])
    ≡ Some (Addressed (Some 7)) ∷ Some (Addressed None) ∷ Some Broadcast ∷ None ∷ None ∷ []
destinations = refl

another_field : requested_of (Act act.Submit)
    (named (codes "net") (codes "truck") ∷ named (codes "message") (codes "E1") ∷ []) ≡ None
another_field = refl
