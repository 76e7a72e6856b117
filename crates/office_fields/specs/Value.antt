-- The kinds of values, and the value that bytes give: `None` where they are no value of the kind.
use Rattle.std.specs.Prelude.{ℕ, ◌==◌, nat_le, Bool, true, false, List, [], ◌∷◌, Option, Some, None, if◌then◌else◌}
use Rattle.std.specs.Prelude.{codes}
use Rattle.std.specs.Option.{option_and_then}
use Rattle.std.specs.Result.{result_ok}
use Rattle.std.specs.Str.{bytes_eq, is_utf8}
use Rattle.base.specs.Split.{split_once}
use Rattle.base.specs.WholeNumber.{whole_of}
use Rattle.bitlayout.specs.declared.layout.Order.{Order}
use Rattle.bitlayout.specs.declared.layout.Order.TheVariants.{Intel, Motorola}
use Rattle.bitlayout.specs.declared.place.Mux.{Mux}
use Rattle.can_id.specs.declared.form.IdentForm.{IdentForm}
use Rattle.can_id.specs.declared.form.IdentForm.TheVariants as ident
use Rattle.dbc_words.specs.Indicator.{mux_of_indicator}
use Rattle.dbc_words.specs.Limits.{length_limit, size_limit, start_limit}
use Rattle.dbc_words.specs.Name.{is_name}
use Rattle.dbc_words.specs.Text.{is_text}
use Rattle.dbc_sheet.specs.declared.value_texts.ValueText.{ValueText}
use Rattle.decimal.specs.Number.{Number}
use Rattle.decimal.specs.Reading.{reading}
use Rattle.office_types.specs.PlainName.{is_plain_name}
use Rattle.office_types.specs.declared.block.BlockForm.{BlockForm}
use Rattle.office_types.specs.declared.block.BlockForm.TheVariants as block
use Rattle.office_types.specs.declared.command.NetKind.{NetKind}
use Rattle.office_types.specs.declared.command.NetKind.TheVariants.{Can, J1939}
use Rattle.office_fields.specs.declared.field.FieldKind.{FieldKind}
use Rattle.office_fields.specs.declared.field.FieldKind.TheVariants as kind
use Rattle.office_fields.specs.declared.addressing.Addressing.{Addressing}
use Rattle.office_fields.specs.declared.addressing.Addressing.TheVariants.{Addressed, Broadcast}

infixl 10 ◌>>=◌
abbrev pub ◌>>=◌ : {A B : Type 0} → Option A → (A → Option B) → Option B
o >>= f = option_and_then f o

-- the value, where the test holds
abbrev pub where_true : {A : Type 0} → Bool → Option A → Option A
where_true test found = if test then found else None

-- ---- numbers

abbrev pub at_most : ℕ → ℕ → Option ℕ
at_most limit n = where_true (nat_le n limit) (Some n)

abbrev pub at_least : ℕ → ℕ → Option ℕ
at_least limit n = where_true (nat_le limit n) (Some n)

-- digits, up to a greatest number
abbrev pub whole_up_to : ℕ → List ℕ → Option ℕ
whole_up_to limit bytes = whole_of bytes >>= at_most limit

abbrev pub size_of : List ℕ → Option ℕ
size_of bytes = whole_up_to size_limit bytes >>= at_least 1

abbrev pub decimal_token : Bool → List ℕ → Option Number
decimal_token negative bytes = result_ok (reading negative bytes)

-- a number token, after one `-` or none
abbrev pub decimal_of : List ℕ → Option Number
decimal_of [] = None
decimal_of (b ∷ bytes) = if b == 45 then decimal_token true bytes else decimal_token false (b ∷ bytes)

-- ---- names and texts

-- the name of a team or a network
abbrev pub plain_name_of : List ℕ → Option (List ℕ)
plain_name_of bytes = where_true (is_plain_name bytes) (Some bytes)

-- the name of a message, a signal or a node
abbrev pub name_of : List ℕ → Option (List ℕ)
name_of bytes = where_true (is_name bytes) (Some bytes)

abbrev pub text_of : List ℕ → Option (List ℕ)
text_of bytes = where_true (is_text bytes) (Some bytes)

-- the path of a file
abbrev pub path_of : List ℕ → Option (List ℕ)
path_of bytes = where_true (is_utf8 bytes) (Some bytes)

-- a decimal, `:` and a text
abbrev pub value_text_of : List ℕ → Option ValueText
value_text_of bytes = do
  parts ← split_once 58 bytes
  value ← decimal_of parts.0
  text ← text_of parts.1
  Some (record { value = value; text = text })

-- ---- a word of a few

abbrev pub net_kind_of : List ℕ → Option NetKind
net_kind_of bytes =
    if bytes_eq bytes (codes "can") then Some Can
    else if bytes_eq bytes (codes "j1939") then Some J1939
    else None

abbrev pub ident_form_of : List ℕ → Option IdentForm
ident_form_of bytes =
    if bytes_eq bytes (codes "std") then Some ident.Standard
    else if bytes_eq bytes (codes "ext") then Some ident.Extended
    else None

abbrev pub block_form_of : List ℕ → Option BlockForm
block_form_of bytes =
    if bytes_eq bytes (codes "std") then Some block.Std
    else if bytes_eq bytes (codes "ext") then Some block.Ext
    else if bytes_eq bytes (codes "pgn") then Some block.Pgn
    else if bytes_eq bytes (codes "spn") then Some block.Spn
    else None

abbrev pub addressing_of : List ℕ → Option Addressing
addressing_of bytes =
    if bytes_eq bytes (codes "addressed") then Some Addressed
    else if bytes_eq bytes (codes "broadcast") then Some Broadcast
    else None

abbrev pub order_of : List ℕ → Option Order
order_of bytes =
    if bytes_eq bytes (codes "intel") then Some Intel
    else if bytes_eq bytes (codes "motorola") then Some Motorola
    else None

abbrev pub truth_of : List ℕ → Option Bool
truth_of bytes =
    if bytes_eq bytes (codes "true") then Some true
    else if bytes_eq bytes (codes "false") then Some false
    else None

-- ---- by kind

-- the values of a kind
abbrev pub Value : FieldKind → Type 0
Value kind.NetName = List ℕ
Value kind.Team = List ℕ
Value kind.Name = List ℕ
Value kind.Text = List ℕ
Value kind.Path = List ℕ
Value kind.NetKind = NetKind
Value kind.IdentForm = IdentForm
Value kind.BlockForm = BlockForm
Value kind.Addressing = Addressing
Value kind.ByteOrder = Order
Value kind.Truth = Bool
Value kind.Mark = Mux
Value kind.Number = ℕ
Value kind.Reviews = ℕ
Value kind.Length = ℕ
Value kind.Priority = ℕ
Value kind.Address = ℕ
Value kind.Size = ℕ
Value kind.Start = ℕ
Value kind.Decimal = Number
Value kind.ValueText = ValueText

-- the value of a kind that bytes give
abbrev pub value_from : (k : FieldKind) → List ℕ → Option (Value k)
value_from kind.NetName = plain_name_of
value_from kind.Team = plain_name_of
value_from kind.Name = name_of
value_from kind.Text = text_of
value_from kind.Path = path_of
value_from kind.NetKind = net_kind_of
value_from kind.IdentForm = ident_form_of
value_from kind.BlockForm = block_form_of
value_from kind.Addressing = addressing_of
value_from kind.ByteOrder = order_of
value_from kind.Truth = truth_of
value_from kind.Mark = mux_of_indicator
value_from kind.Number = whole_of
value_from kind.Reviews = whole_up_to 9
value_from kind.Length = whole_up_to length_limit
value_from kind.Priority = whole_up_to 7
value_from kind.Address = whole_up_to 255
value_from kind.Size = size_of
value_from kind.Start = whole_up_to start_limit
value_from kind.Decimal = decimal_of
value_from kind.ValueText = value_text_of
