-- The values of fields as bytes: what a script has after `=`. Each value is read from these bytes.
use Rattle.std.specs.Prelude.{ℕ, ◌≡◌, ◌≢◌, ◌<◌, ◌≤◌, ◌^◌, List, ◌∷◌, ◌++◌, Some, ⊤, IsTrue, codes, decimal, [], Option}
use Rattle.std.specs.Prelude.{None, is_some, true}
use Rattle.std.specs.Str.{is_utf8}
use Rattle.std.proofs.Common.{refl}
use Rattle.std.proofs.lemmas.Bool.{false≢true}
use Rattle.bitlayout.specs.Mux.{indicator_of}
use Rattle.bitlayout.specs.declared.place.Mux.TheVariants.{Always}
use Rattle.bitlayout.specs.Order.{order_word}
use Rattle.can_id.specs.declared.form.IdentForm.{IdentForm}
use Rattle.can_id.specs.Form.{ident_word}
use Rattle.dbc_words.specs.Limits.{length_limit, size_limit}
use Rattle.dbc_words.specs.Name.{IsName}
use Rattle.dbc_words.specs.Text.{IsText}
use Rattle.dbc_sheet.specs.Form.{IsMux, IsValueText}
use Rattle.dbc_sheet.specs.declared.value_texts.ValueText.{ValueText}
use Rattle.decimal.specs.Number.{IsDecimal}
use Rattle.decimal.specs.Printing as printed
use Rattle.office_types.specs.PlainName.{IsPlainName}
use Rattle.office_types.specs.declared.command.Pdu.{Pdu}
use Rattle.office_types.specs.declared.command.Pdu.TheVariants as pdu
use Rattle.office_fields.specs.Kind.{addressed_to}
use Rattle.office_types.specs.declared.block.BlockForm.{BlockForm}
use Rattle.office_types.specs.declared.command.NetKind.{NetKind}
use Rattle.office_types.specs.Block.{block_word}
use Rattle.office_types.specs.Command.{kind_word}
use Rattle.office_fields.specs.Value.{Value, value_from}
use Rattle.office_fields.specs.declared.field.FieldKind.{FieldKind}
use Rattle.office_fields.specs.declared.field.FieldKind.TheVariants as kind
use Rattle.desk_call.specs.Body.{truth_word}

-- ---- words

-- whether a message goes to one address or to all, by what the words are read as
abbrev the_value : {A : Type 0} → (o : Option A) → is_some o ≡ true → A
the_value (Some x) h = x
the_value None h = absurd (false≢true h)

abbrev pub addressing_of : Pdu → Value kind.Addressing
addressing_of (pdu.Addressed destination) = the_value (value_from kind.Addressing (codes "addressed")) refl
addressing_of pdu.Broadcast = the_value (value_from kind.Addressing (codes "broadcast")) refl

abbrev pub pdu_word : Option Pdu → List ℕ
pdu_word (Some (pdu.Addressed destination)) = codes "addressed"
pdu_word (Some pdu.Broadcast) = codes "broadcast"
pdu_word None = []

abbrev pub addressing_word : Value kind.Addressing → List ℕ
addressing_word v = pdu_word (addressed_to v None)

-- ---- by kind

-- a decimal, `:` and a text
abbrev pub value_text : ValueText → List ℕ
value_text v = printed.text_of v.value ++ 58 ∷ v.text

-- the bytes of a value of a kind
abbrev pub text_of : (k : FieldKind) → Value k → List ℕ
text_of kind.NetName v = v
text_of kind.Team v = v
text_of kind.Name v = v
text_of kind.Text v = v
text_of kind.Path v = v
text_of kind.NetKind v = kind_word v
text_of kind.IdentForm v = ident_word v
text_of kind.BlockForm v = block_word v
text_of kind.Addressing v = addressing_word v
text_of kind.ByteOrder v = order_word v
text_of kind.Truth v = truth_word v
text_of kind.Mark v = indicator_of v
text_of kind.Number n = decimal n
text_of kind.Reviews n = decimal n
text_of kind.Length n = decimal n
text_of kind.Priority n = decimal n
text_of kind.Address n = decimal n
text_of kind.Size n = decimal n
text_of kind.Start n = decimal n
text_of kind.Decimal v = printed.text_of v
text_of kind.ValueText v = value_text v

-- ---- which values there are

-- the values that a field of a kind may have; a signal that is always present has no mark
abbrev pub IsValue : (k : FieldKind) → Value k → Type 0
IsValue kind.NetName v = IsPlainName v
IsValue kind.Team v = IsPlainName v
IsValue kind.Name v = IsName v
IsValue kind.Text v = IsText v
IsValue kind.Path v = IsTrue (is_utf8 v)
IsValue kind.NetKind v = ⊤
IsValue kind.IdentForm v = ⊤
IsValue kind.BlockForm v = ⊤
IsValue kind.Addressing v = (p : Pdu) × (v ≡ addressing_of p)
IsValue kind.ByteOrder v = ⊤
IsValue kind.Truth v = ⊤
IsValue kind.Mark v = IsMux v × (v ≢ Always)
IsValue kind.Number n = n < 2 ^ 32
IsValue kind.Reviews n = n ≤ 9
IsValue kind.Length n = n ≤ length_limit
IsValue kind.Priority n = n ≤ 7
IsValue kind.Address n = n < 256
IsValue kind.Size n = (1 ≤ n) × (n ≤ size_limit)
IsValue kind.Start n = n < 2 ^ 16
IsValue kind.Decimal v = IsDecimal v
IsValue kind.ValueText v = IsValueText v

-- a law: a value is read from its bytes
abbrev pub ValuesComeBack : Type 0
ValuesComeBack = (k : FieldKind) (v : Value k) → IsValue k v → value_from k (text_of k v) ≡ Some v
