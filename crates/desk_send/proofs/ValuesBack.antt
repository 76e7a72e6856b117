-- A value of a field is read from its bytes.
use Rattle.desk_send.proofs.Common.{◌≡◌, ◌≢◌, ◌<◌, ◌≤◌, ◌^◌, ◌==◌, not, ℕ, Bool, true, false, List, Some, refl, arith}
use Rattle.desk_send.proofs.Common.{nat_le, decimal, subst, sym, nat_tests, Intel, Motorola, Mux, Always, Multiplexor}
use Rattle.desk_send.proofs.Common.{Under, IsMux, IsValueText, ValueText, BlockForm, Can, J1939, Value, value_from}
use Rattle.desk_send.proofs.Common.{Lacks, all_weaker, whole_decimal, Pdu}
use Rattle.can_id.specs.declared.form.IdentForm.{IdentForm}
use Rattle.can_id.specs.declared.form.IdentForm.TheVariants as ident
use Rattle.dbc_words.specs.Limits.{length_limit, size_limit}
use Rattle.dbc_words.specs.Text.{IsText, is_text}
use Rattle.dbc_words.proofs.Texts.{text-Decides}
use Rattle.decimal.specs.Printing as printed
use Rattle.office_types.specs.declared.block.BlockForm.TheVariants as block
use Rattle.office_types.specs.declared.command.NetKind.{NetKind}
use Rattle.office_fields.specs.Value.{whole_up_to}
use Rattle.office_fields.specs.declared.field.FieldKind.TheVariants as kind
use Rattle.desk_head.proofs.Parameters.{a_split}
use Rattle.office_types.specs.declared.command.Pdu.TheVariants as pdu
use Rattle.desk_send.specs.Texts.{addressing_of, addressing_word, ValuesComeBack, text_of, value_text}
use Rattle.desk_send.proofs.DecimalsBack.{decimal_back, decimal_passes, is_decimal_byte}

-- ---- numbers

within : (n limit : ℕ) → n ≤ limit → nat_le n limit ≡ true
within n limit h = grind (arith, nat_tests, h)

up_to : (n limit : ℕ) → n ≤ limit → limit < 2 ^ 32 → whole_up_to limit (decimal n) ≡ Some n
up_to n limit h small = rw (whole_decimal n (omega (arith, h, small)), within n limit h) refl

size_back : (n : ℕ) → (1 ≤ n) × (n ≤ size_limit) → value_from kind.Size (decimal n) ≡ Some n
size_back n h = rw (up_to n size_limit h.1 (omega arith), within 1 n h.0) refl

-- ---- words

net_kind_back : (v : NetKind) → value_from kind.NetKind (text_of kind.NetKind v) ≡ Some v
net_kind_back Can = refl
net_kind_back J1939 = refl

ident_form_back : (v : IdentForm) → value_from kind.IdentForm (text_of kind.IdentForm v) ≡ Some v
ident_form_back ident.Standard = refl
ident_form_back ident.Extended = refl

block_form_back : (v : BlockForm) → value_from kind.BlockForm (text_of kind.BlockForm v) ≡ Some v
block_form_back block.Std = refl
block_form_back b = refl

pdu_back : (p : Pdu) → value_from kind.Addressing (addressing_word (addressing_of p)) ≡ Some (addressing_of p)
pdu_back (pdu.Addressed destination) = refl
pdu_back pdu.Broadcast = refl

addressing_back : (v : Value kind.Addressing) (p : Pdu) → v ≡ addressing_of p
    → value_from kind.Addressing (addressing_word v) ≡ Some v
addressing_back v p e =
    subst (λ (x : Value kind.Addressing). value_from kind.Addressing (addressing_word x) ≡ Some x) (sym e) (pdu_back p)

order_back : (v : Value kind.ByteOrder) → value_from kind.ByteOrder (text_of kind.ByteOrder v) ≡ Some v
order_back Intel = refl
order_back Motorola = refl

truth_back : (v : Bool) → value_from kind.Truth (text_of kind.Truth v) ≡ Some v
truth_back true = refl
truth_back false = refl

mark_back : (v : Mux) → IsMux v × (v ≢ Always) → value_from kind.Mark (text_of kind.Mark v) ≡ Some v
mark_back Always is = absurd (is.1 refl)
mark_back Multiplexor is = refl
mark_back (Under n) is = rw (whole_decimal n is.0) refl

-- ---- texts

text_test : (v : List ℕ) → IsText v → is_text v ≡ true
text_test v is = (text-Decides v).1 is

no_colon : (b : ℕ) → is_decimal_byte b ≡ true → not (b == 58) ≡ true
no_colon b h = grind (arith, nat_tests, h)

pub decimal_lacks : (v : ValueText) → IsValueText v → Lacks 58 (printed.text_of v.value)
decimal_lacks v is =
    all_weaker is_decimal_byte (λ b. not (b == 58)) no_colon (printed.text_of v.value) (decimal_passes v.value is.value)

value_text_back : (v : ValueText) → IsValueText v → value_from kind.ValueText (value_text v) ≡ Some v
value_text_back v is =
    rw (
      a_split 58 (printed.text_of v.value) v.text (decimal_lacks v is),
      decimal_back v.value is.value,
      text_test v.text is.text,
    )
    refl

-- ---- all kinds

pub values_come_back : ValuesComeBack
values_come_back kind.Text v is = rw (text_test v is) refl
values_come_back kind.NetKind v is = net_kind_back v
values_come_back kind.IdentForm v is = ident_form_back v
values_come_back kind.BlockForm v is = block_form_back v
values_come_back kind.Addressing v is = addressing_back v is.0 is.1
values_come_back kind.ByteOrder v is = order_back v
values_come_back kind.Truth v is = truth_back v
values_come_back kind.Mark v is = mark_back v is
values_come_back kind.Number v is = whole_decimal v is
values_come_back kind.Reviews v is = up_to v 9 is (omega arith)
values_come_back kind.Length v is = up_to v length_limit is (omega arith)
values_come_back kind.Priority v is = up_to v 7 is (omega arith)
values_come_back kind.Address v is = up_to v 255 (omega (arith, is)) (omega arith)
values_come_back kind.Size v is = size_back v is
values_come_back kind.Start v is = up_to v 65535 (omega (arith, is)) (omega arith)
values_come_back kind.Decimal v is = decimal_back v is
values_come_back kind.ValueText v is = value_text_back v is
values_come_back k v is = rw is refl
