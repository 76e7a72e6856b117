-- The fields of a sheet and of its things, each with what it has, in the order in which they are shown.
use Rattle.std.specs.Prelude.{ℕ, Bool, true, false, not, ◌||◌, List, [], ◌∷◌, ◌++◌, Option, Some, None, codes}
use Rattle.std.specs.Prelude.{if◌then◌else◌}
use Rattle.bitlayout.specs.Mux.{indicator_of}
use Rattle.bitlayout.specs.Order.{order_word}
use Rattle.bitlayout.specs.Weight.{same_bits}
use Rattle.dbc_words.specs.declared.value_type.ValueType.{ValueType}
use Rattle.dbc_words.specs.declared.value_type.ValueType.TheVariants.{Integer, Float, Double}
use Rattle.dbc_sheet.specs.Messages.{number_of}
use Rattle.dbc_sheet.specs.declared.message.Message.{Message}
use Rattle.dbc_sheet.specs.declared.node.Node.{Node}
use Rattle.dbc_sheet.specs.declared.sheet.Sheet.{Sheet}
use Rattle.dbc_sheet.specs.declared.signal.Signal.{Signal}
use Rattle.dbc_sheet.specs.declared.value_table.ValueTable.{ValueTable}
use Rattle.dbc_compare.specs.Value.{Value, Whole, Word, WholeOrNone, Dec, Names, Texts}
use Rattle.dbc_compare.specs.declared.field.SheetField.{SheetField}
use Rattle.dbc_compare.specs.declared.field.SheetField.TheVariants as field

-- ---- their words

abbrev pub field_word : SheetField → List ℕ
field_word field.Version = codes "version"
field_word field.Comment = codes "comment"
field_word field.Values = codes "values"
field_word field.Number = codes "renumbered"
field_word field.Name = codes "renamed"
field_word field.Length = codes "length"
field_word field.Transmitter = codes "transmitter"
field_word field.Start = codes "start"
field_word field.Size = codes "size"
field_word field.Order = codes "order"
field_word field.Signed = codes "signed"
field_word field.ValueType = codes "type"
field_word field.Mux = codes "mux"
field_word field.Factor = codes "factor"
field_word field.Offset = codes "offset"
field_word field.Minimum = codes "minimum"
field_word field.Maximum = codes "maximum"
field_word field.Unit = codes "unit"
field_word field.Spn = codes "spn"
field_word field.Receivers = codes "receivers"

-- ---- which changes a receiver sees that was built for the old sheet

-- of a sheet, a node and a value table
abbrev pub none_breaks : SheetField → Bool
none_breaks f = false

-- of a message: the identifier and the length, by which it is taken
abbrev pub message_breaks : SheetField → Bool
message_breaks field.Number = true
message_breaks field.Length = true
message_breaks f = false

abbrev pub is_integer : ValueType → Bool
is_integer Integer = true
is_integer t = false

-- Of a signal: start, size and order where the bits are others; the sign of an integer, since a float has one of its
-- own; its type, when it is there, and its scale.
abbrev pub signal_breaks : Signal → Signal → SheetField → Bool
signal_breaks old new field.Start = not (same_bits old.layout new.layout)
signal_breaks old new field.Size = not (same_bits old.layout new.layout)
signal_breaks old new field.Order = not (same_bits old.layout new.layout)
signal_breaks old new field.Signed = is_integer old.value_type || is_integer new.value_type
signal_breaks old new field.ValueType = true
signal_breaks old new field.Mux = true
signal_breaks old new field.Factor = true
signal_breaks old new field.Offset = true
signal_breaks old new f = false

-- ---- words of a few choices

abbrev pub truth_word : Bool → List ℕ
truth_word b = if b then codes "true" else codes "false"

abbrev pub type_word : ValueType → List ℕ
type_word Integer = codes "integer"
type_word Float = codes "float"
type_word Double = codes "double"

-- at most one name
abbrev pub names_of : Option (List ℕ) → List (List ℕ)
names_of None = []
names_of (Some n) = n ∷ []

-- ---- the fields

-- a field, and what it has
abbrev pub Valued : Type 0
Valued = SheetField × Value

abbrev pub sheet_fields : Sheet → List Valued
sheet_fields s = (field.Version, Word s.version) ∷ (field.Comment, Word s.comment) ∷ []

abbrev pub node_fields : Node → List Valued
node_fields n = (field.Comment, Word n.comment) ∷ []

abbrev pub table_fields : ValueTable → List Valued
table_fields t = (field.Values, Texts t.entries) ∷ []

abbrev pub message_fields : Message → List Valued
message_fields m = (field.Number, Whole (number_of m))
    ∷ (field.Name, Word m.name)
    ∷ (field.Length, Whole m.length)
    ∷ (field.Transmitter, Names (names_of m.transmitter))
    ∷ (field.Comment, Word m.comment)
    ∷ []

-- where its bits are
abbrev pub layout_fields : Signal → List Valued
layout_fields s = (field.Start, Whole s.layout.start)
    ∷ (field.Size, Whole s.layout.size)
    ∷ (field.Order, Word (order_word s.layout.order))
    ∷ []

-- how they are read, and when
abbrev pub reading_fields : Signal → List Valued
reading_fields s = (field.Signed, Word (truth_word s.signed))
    ∷ (field.ValueType, Word (type_word s.value_type))
    ∷ (field.Mux, Word (indicator_of s.mux))
    ∷ []

abbrev pub scale_fields : Signal → List Valued
scale_fields s = (field.Factor, Dec s.factor)
    ∷ (field.Offset, Dec s.offset)
    ∷ (field.Minimum, Dec s.minimum)
    ∷ (field.Maximum, Dec s.maximum)
    ∷ []

abbrev pub meaning_fields : Signal → List Valued
meaning_fields s = (field.Unit, Word s.unit)
    ∷ (field.Spn, WholeOrNone s.spn)
    ∷ (field.Receivers, Names s.receivers)
    ∷ (field.Values, Texts s.values)
    ∷ (field.Comment, Word s.comment)
    ∷ []

abbrev pub signal_fields : Signal → List Valued
signal_fields s = layout_fields s ++ (reading_fields s ++ (scale_fields s ++ meaning_fields s))
