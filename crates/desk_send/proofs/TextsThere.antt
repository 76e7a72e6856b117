-- There is a body exactly where the texts of the command are UTF-8.
use Rattle.desk_send.proofs.Common.{◌≡◌, ◌∙◌, ◌&&◌, ℕ, Bool, true, false, List, [], ◌∷◌, Option, Some, None, refl}
use Rattle.desk_send.proofs.Common.{arith, codes, decimal, nat_lt, is_some, subst, sym, All, list_all, option_map}
use Rattle.desk_send.proofs.Common.{is_utf8, and_parts, nat_tests, All-head, All-tail, is_utf8-from_IsUtf8}
use Rattle.desk_send.proofs.Common.{IsUtf8-are_ascii, are_ascii, Intel, Motorola, Mux, Always, Multiplexor, Under}
use Rattle.desk_send.proofs.Common.{IsMux, IsValueText, ValueText, IsDecimal, Number, IsAction, IsPlainName, Action}
use Rattle.desk_send.proofs.Common.{Can, J1939, Task, Act, Import, Bundle, row_of, Readings, action_word, kind_of}
use Rattle.desk_send.proofs.Common.{Value, where_true, ◌>>=◌, FieldKind, Occurrence, Required, Optional, Repeated, Data}
use Rattle.desk_send.proofs.Common.{Members, array, item, no_members, object, put, string, compact_text, json_name}
use Rattle.desk_send.proofs.Common.{is_key_byte, IsPart, plain_part, Pdu}
use Rattle.bitlayout.specs.Mux.{indicator_of}
use Rattle.can_id.specs.declared.form.IdentForm.TheVariants as ident
use Rattle.decimal.specs.Printing as printed
use Rattle.office_types.specs.Command.{IsTask}
use Rattle.office_types.specs.declared.block.BlockForm.TheVariants as block
use Rattle.office_types.specs.declared.command.Action.TheVariants as act
use Rattle.office_fields.specs.declared.field.Field.TheVariants as field
use Rattle.office_fields.specs.declared.field.FieldKind.TheVariants as kind
use Rattle.desk_head.proofs.TargetParts.{name_part}
use Rattle.desk_send.specs.Body.{is_text_action, is_text_task, task_body}
use Rattle.desk_send.specs.Fields.{Entry, destination_of, entries_of, filled, mark_of}
use Rattle.desk_send.specs.Json.{action_data, bundle_data, data_of, items_by, pair_data, part_data, text_data, with_as}
use Rattle.desk_send.specs.Json.{with_entries, with_entry, with_list}
use Rattle.office_types.specs.declared.command.Pdu.TheVariants as pdu
use Rattle.desk_send.specs.Texts.{addressing_of, addressing_word, IsValue, text_of}
use Rattle.desk_send.proofs.DecimalsBack.{decimal_passes, is_decimal_byte}
use Rattle.desk_send.proofs.ActionsBack.{are_entries}
use Rattle.desk_send.proofs.Entries.{AreEntries, AreValues}
use Rattle.desk_send.proofs.JsonTexts.{decimal_ascii}
use Rattle.desk_send.proofs.TargetsBack.{part_seen}

-- ---- which values JSON can hold

-- the texts of the value are UTF-8
abbrev is_held : (k : FieldKind) → Value k → Bool
is_held kind.Text v = is_utf8 v
is_held kind.ValueText v = is_utf8 v.text
is_held k v = true

small_byte : (b : ℕ) → is_decimal_byte b ≡ true → nat_lt b 128 ≡ true
small_byte b h = grind (arith, nat_tests, h)

key_byte : (b : ℕ) → is_key_byte b ≡ true → nat_lt b 128 ≡ true
key_byte b h = grind (arith, nat_tests, h)

ascii_from : (test : ℕ → Bool) → ((b : ℕ) → test b ≡ true → nat_lt b 128 ≡ true) → (bytes : List ℕ)
    → list_all test bytes ≡ true → are_ascii bytes ≡ true
ascii_from test small [] h = refl
ascii_from test small (b ∷ bytes) h =
    let parts = and_parts (test b) (list_all test bytes) h in
    rw (small b parts.0) (ascii_from test small bytes parts.1)

ascii_utf8 : (bytes : List ℕ) → are_ascii bytes ≡ true → is_utf8 bytes ≡ true
ascii_utf8 bytes h = is_utf8-from_IsUtf8 bytes (IsUtf8-are_ascii bytes h)

part_utf8 : (bytes : List ℕ) → IsPart bytes → is_utf8 bytes ≡ true
part_utf8 bytes is = ascii_utf8 bytes (ascii_from is_key_byte key_byte bytes (part_seen bytes is))

decimal_utf8 : (n : Number) → IsDecimal n → is_utf8 (printed.text_of n) ≡ true
decimal_utf8 n is =
    ascii_utf8 (printed.text_of n) (ascii_from is_decimal_byte small_byte (printed.text_of n) (decimal_passes n is))

mark_utf8 : (m : Mux) → IsMux m → is_utf8 (indicator_of m) ≡ true
mark_utf8 Always is = ascii_utf8 [] refl
mark_utf8 Multiplexor is = ascii_utf8 (codes "M") refl
mark_utf8 (Under n) is = ascii_utf8 (109 ∷ decimal n) (decimal_ascii n (omega (arith, is)))

-- ---- values

some_where : {A : Type 0} (test : Bool) (x : A) → is_some (where_true test (Some x)) ≡ test
some_where true x = refl
some_where false x = refl

text_some : (bytes : List ℕ) → is_utf8 bytes ≡ true → is_some (text_data bytes) ≡ true
text_some bytes h = some_where (is_utf8 bytes) (string bytes) ∙ h

mapped : {A B : Type 0} (f : A → B) (o : Option A) → is_some (option_map f o) ≡ is_some o
mapped f None = refl
mapped f (Some x) = refl

then_some : {A B : Type 0} (o : Option A) (f : A → B) → is_some (o >>= λ x. Some (f x)) ≡ is_some o
then_some None f = refl
then_some (Some x) f = refl

pair_some : (v : ValueText) → IsValueText v → is_some (pair_data v) ≡ is_utf8 v.text
pair_some v is =
    rw (decimal_utf8 v.value is.value)
    (then_some (text_data v.text) _ ∙ some_where (is_utf8 v.text) (string v.text))

net_kind_utf8 : (v : Value kind.NetKind) → is_utf8 (text_of kind.NetKind v) ≡ true
net_kind_utf8 Can = ascii_utf8 (codes "can") refl
net_kind_utf8 J1939 = ascii_utf8 (codes "j1939") refl

ident_form_utf8 : (v : Value kind.IdentForm) → is_utf8 (text_of kind.IdentForm v) ≡ true
ident_form_utf8 ident.Standard = ascii_utf8 (codes "std") refl
ident_form_utf8 ident.Extended = ascii_utf8 (codes "ext") refl

block_form_utf8 : (v : Value kind.BlockForm) → is_utf8 (text_of kind.BlockForm v) ≡ true
block_form_utf8 block.Std = ascii_utf8 (codes "std") refl
block_form_utf8 block.Ext = ascii_utf8 (codes "ext") refl
block_form_utf8 block.Pgn = ascii_utf8 (codes "pgn") refl
block_form_utf8 block.Spn = ascii_utf8 (codes "spn") refl

pdu_utf8 : (p : Pdu) → is_utf8 (addressing_word (addressing_of p)) ≡ true
pdu_utf8 (pdu.Addressed destination) = ascii_utf8 (codes "addressed") refl
pdu_utf8 pdu.Broadcast = ascii_utf8 (codes "broadcast") refl

addressing_utf8 : (v : Value kind.Addressing) (p : Pdu) → v ≡ addressing_of p → is_utf8 (addressing_word v) ≡ true
addressing_utf8 v p e =
    subst (λ (x : Value kind.Addressing). is_utf8 (addressing_word x) ≡ true) (sym e) (pdu_utf8 p)

order_utf8 : (v : Value kind.ByteOrder) → is_utf8 (text_of kind.ByteOrder v) ≡ true
order_utf8 Intel = ascii_utf8 (codes "intel") refl
order_utf8 Motorola = ascii_utf8 (codes "motorola") refl

value_some : (k : FieldKind) (v : Value k) → IsValue k v → is_some (data_of k v) ≡ is_held k v
value_some kind.NetName v is = text_some v (part_utf8 v (plain_part v is))
value_some kind.Team v is = text_some v (part_utf8 v (plain_part v is))
value_some kind.Name v is = text_some v (part_utf8 v (name_part v is))
value_some kind.Text v is = some_where (is_utf8 v) (string v)
value_some kind.Path v is = text_some v is
value_some kind.NetKind v is = text_some (text_of kind.NetKind v) (net_kind_utf8 v)
value_some kind.IdentForm v is = text_some (text_of kind.IdentForm v) (ident_form_utf8 v)
value_some kind.BlockForm v is = text_some (text_of kind.BlockForm v) (block_form_utf8 v)
value_some kind.Addressing v is = text_some (addressing_word v) (addressing_utf8 v is.0 is.1)
value_some kind.ByteOrder v is = text_some (text_of kind.ByteOrder v) (order_utf8 v)
value_some kind.Mark v is = text_some (indicator_of v) (mark_utf8 v is.0)
value_some kind.Decimal v is = text_some (printed.text_of v) (decimal_utf8 v is)
value_some kind.ValueText v is = pair_some v is
value_some k v is = refl

-- ---- fields

abbrev are_held : {A : Type 0} → (o : Occurrence) → (A → Bool) → Readings o A → Bool
are_held Required test v = test v
are_held Optional test None = true
are_held Optional test (Some v) = test v
are_held Repeated test vs = list_all test vs

chained : {A B : Type 0} (o : Option A) (f : A → Option B) (b c : Bool) → is_some o ≡ b
    → ((x : A) → is_some (f x) ≡ c) → is_some (o >>= f) ≡ (b && c)
chained None f b c e each = rw (← e) refl
chained (Some x) f b c e each = rw (← e) (each x)

module _ {A : Type 0} (data_by : A → Option Data) (test : A → Bool) (Is : A → Type 0) where
  items_some : ((x : A) → Is x → is_some (data_by x) ≡ test x) → (vs : List A) → All Is vs
      → is_some (items_by data_by vs) ≡ list_all test vs
  items_some one [] is = refl
  items_some one (v ∷ vs) is =
      chained (data_by v) (λ d. option_map (λ ds. item d ds) (items_by data_by vs)) (test v) (list_all test vs)
      (one v (All-head Is v vs is))
      (λ d. mapped (λ ds. item d ds) (items_by data_by vs) ∙ items_some one vs (All-tail Is v vs is))

  as_some : ((x : A) → Is x → is_some (data_by x) ≡ test x) → (o : Occurrence) (name : List ℕ) (v : Readings o A)
      (ms : Members) → AreValues o Is v → is_some (with_as o name data_by v ms) ≡ are_held o test v
  as_some one Required name v ms is = mapped (λ d. put name d ms) (data_by v) ∙ one v is
  as_some one Optional name None ms is = refl
  as_some one Optional name (Some v) ms is = mapped (λ d. put name d ms) (data_by v) ∙ one v is
  as_some one Repeated name vs ms is =
      mapped (λ ds. put name (array ds) ms) (items_by data_by vs) ∙ items_some one vs is

abbrev is_held_entry : Entry → Bool
is_held_entry e = are_held (row_of e.of).occurrence (is_held (row_of e.of).kind) e.value

entries_some : (es : List Entry) (ms : Members) → AreEntries es
    → is_some (with_entries es ms) ≡ list_all is_held_entry es
entries_some [] ms are = refl
entries_some (e ∷ es) ms are =
    let k = (row_of e.of).kind in
    chained (with_entry e ms) (with_entries es) (is_held_entry e) (list_all is_held_entry es)
    (as_some (data_of k) (is_held k) (IsValue k) (value_some k) (row_of e.of).occurrence (json_name e.of) e.value ms
    are.0)
    (λ new. entries_some es new are.1)

-- ---- actions

any_option : {A : Type 0} (o : Option A) → are_held Optional (λ x. true) o ≡ true
any_option None = refl
any_option (Some x) = refl

any_list : {A : Type 0} (vs : List A) → list_all (λ x. true) vs ≡ true
any_list [] = refl
any_list (v ∷ vs) = any_list vs

and_true : (b : Bool) → (b && true) ≡ b
and_true true = refl
and_true false = refl

action_held : (a : Action) → list_all is_held_entry (entries_of a) ≡ is_text_action a
action_held (act.TakeIdent c) = rw (any_option c.message.node, any_option c.want) refl
action_held (act.TakePgn c) = rw (any_option c.message.node, any_option (destination_of c.pdu)) refl
action_held (act.TakeSpn c) = rw (any_option c.same) refl
action_held (act.TakeBits c) =
    rw (any_option (mark_of c.mux), any_list c.receivers, any_option c.start) (and_true (is_utf8 c.unit))
action_held (act.SetValues c) = and_true (list_all (λ v. is_utf8 v.text) c.values)
action_held a = refl

action_some : (net : List ℕ) (a : Action) → IsPlainName net → IsAction a
    → is_some (action_data net a) ≡ is_text_action a
action_some net a named is =
    let es = filled field.Net net ∷ entries_of a in
    mapped object (with_entries es no_members) ∙ entries_some es no_members (named, are_entries a is) ∙ action_held a

part_some : (a : Action) → IsAction a → is_some (part_data a) ≡ is_text_action a
part_some a is =
    let front = put (codes "command") (string (action_word (kind_of a))) no_members in
    mapped object (with_entries (entries_of a) front) ∙ entries_some (entries_of a) front (are_entries a is)
    ∙ action_held a

pub texts_there : (net : List ℕ) (t : Task) → IsPlainName net → IsTask t
    → is_some (task_body net t) ≡ is_text_task t
texts_there net (Act a) named is = mapped compact_text (action_data net a) ∙ action_some net a named is
texts_there net (Import file) named is = refl
texts_there net (Bundle parts) named is =
    mapped compact_text (bundle_data parts)
    ∙ mapped object (with_list (codes "commands") (items_by part_data parts) no_members)
    ∙ mapped (λ ds. put (codes "commands") (array ds) no_members) (items_by part_data parts)
    ∙ items_some part_data is_text_action IsAction part_some parts is.1
