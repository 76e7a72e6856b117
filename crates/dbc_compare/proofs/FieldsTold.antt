-- A thing is equal to another where none of its fields has changed.
use Rattle.dbc_compare.proofs.Common.{◌≡◌, ℕ, Bool, true, false, List, [], get_or, Option, Some, None, refl, ap, arith}
use Rattle.dbc_compare.proofs.Common.{Intel, Motorola, Always, Under, Integer, Float, Message, Node, Signal, ValueTable}
use Rattle.std.specs.Fmt.{decimal}
use Rattle.std.proofs.lemmas.Fmt.{decimal_injective}
use Rattle.bitlayout.specs.Mux.{indicator_of}
use Rattle.bitlayout.specs.declared.layout.Order.{Order}
use Rattle.bitlayout.specs.declared.place.Mux.{Mux}
use Rattle.bitlayout.specs.declared.place.Mux.TheVariants.{Multiplexor}
use Rattle.bitlayout.specs.Order.{order_word}
use Rattle.can_id.specs.Ident.{IsIdentifier, dbc_number}
use Rattle.can_id.specs.declared.ident.Ident.{Ident}
use Rattle.can_id.specs.declared.ident.Ident.TheVariants as id
use Rattle.dbc_words.specs.declared.value_type.ValueType.{ValueType}
use Rattle.dbc_words.specs.declared.value_type.ValueType.TheVariants.{Double}
use Rattle.dbc_sheet.specs.Form.{IsMux}
use Rattle.dbc_compare.specs.Differences.{message_changes, node_changes, signal_changes, table_changes}
use Rattle.dbc_compare.specs.Fields.{message_breaks, message_fields, names_of, node_fields, none_breaks, signal_breaks}
use Rattle.dbc_compare.specs.Fields.{signal_fields, table_fields, truth_word, type_word}
use Rattle.dbc_compare.specs.Value.{Whole, Word, WholeOrNone, Dec, Names, Texts}
use Rattle.dbc_compare.proofs.ChangeLists.{list_told}

-- ---- words of a few choices

first_byte : (a b : List ℕ) → a ≡ b → get_or a 0 0 ≡ get_or b 0 0
first_byte a b e = ap (λ bytes. get_or bytes 0 0) e

pub order_told : (a b : Order) → order_word a ≡ order_word b → a ≡ b
order_told Intel Intel e = refl
order_told Intel Motorola e = absurd (omega (arith, first_byte (order_word Intel) (order_word Motorola) e))
order_told Motorola Intel e = absurd (omega (arith, first_byte (order_word Motorola) (order_word Intel) e))
order_told Motorola Motorola e = refl

pub truth_told : (a b : Bool) → truth_word a ≡ truth_word b → a ≡ b
truth_told true true e = refl
truth_told true false e = absurd (omega (arith, first_byte (truth_word true) (truth_word false) e))
truth_told false true e = absurd (omega (arith, first_byte (truth_word false) (truth_word true) e))
truth_told false false e = refl

pub type_told : (a b : ValueType) → type_word a ≡ type_word b → a ≡ b
type_told Integer Integer e = refl
type_told Integer Float e = absurd (omega (arith, first_byte (type_word Integer) (type_word Float) e))
type_told Integer Double e = absurd (omega (arith, first_byte (type_word Integer) (type_word Double) e))
type_told Float Integer e = absurd (omega (arith, first_byte (type_word Float) (type_word Integer) e))
type_told Float Float e = refl
type_told Float Double e = absurd (omega (arith, first_byte (type_word Float) (type_word Double) e))
type_told Double Integer e = absurd (omega (arith, first_byte (type_word Double) (type_word Integer) e))
type_told Double Float e = absurd (omega (arith, first_byte (type_word Double) (type_word Float) e))
type_told Double Double e = refl

pub mux_told : (a b : Mux) → IsMux a → IsMux b → indicator_of a ≡ indicator_of b → a ≡ b
mux_told Always Always h k e = refl
mux_told Always Multiplexor h k e = cc e
mux_told Always (Under n) h k e = cc e
mux_told Multiplexor Always h k e = cc e
mux_told Multiplexor Multiplexor h k e = refl
mux_told Multiplexor (Under n) h k e =
    absurd (omega (arith, first_byte (indicator_of Multiplexor) (indicator_of (Under n)) e))
mux_told (Under m) Always h k e = cc e
mux_told (Under m) Multiplexor h k e =
    absurd (omega (arith, first_byte (indicator_of (Under m)) (indicator_of Multiplexor) e))
mux_told (Under m) (Under n) h k e =
    let digits : decimal m ≡ decimal n = cc e in
    ap Under (decimal_injective m n (omega (arith, h)) (omega (arith, k)) digits)

names_told : (a b : Option (List ℕ)) → names_of a ≡ names_of b → a ≡ b
names_told None None e = refl
names_told None (Some n) e = cc e
names_told (Some m) None e = cc e
names_told (Some m) (Some n) e = let same : m ≡ n = cc e in ap Some same

pub ident_told : (a b : Ident) → IsIdentifier a → IsIdentifier b → dbc_number a ≡ dbc_number b → a ≡ b
ident_told (id.Std m) (id.Std n) h k e = ap (λ v. id.Std v) e
ident_told (id.Std m) (id.Ext n) h k e = absurd (omega (arith, h, k, e))
ident_told (id.Ext m) (id.Std n) h k e = absurd (omega (arith, h, k, e))
ident_told (id.Ext m) (id.Ext n) h k e = ap (λ v. id.Ext v) (let same : m ≡ n = omega (arith, e) in same)

-- ---- values

pub whole_is : (m n : ℕ) → Whole m ≡ Whole n → m ≡ n
whole_is m n e = cc

pub word_is : (a b : List ℕ) → Word a ≡ Word b → a ≡ b
word_is a b e = cc

-- ---- things

pub node_told : (a b : Node) → a.name ≡ b.name → node_changes a b ≡ [] → a ≡ b
node_told a b named e =
    let told = list_told none_breaks (node_fields a) (node_fields b) e in
    let comment : a.comment ≡ b.comment = word_is a.comment b.comment told.0 in
    λ i. record { name = named i; comment = comment i }

pub table_told : (a b : ValueTable) → a.name ≡ b.name → table_changes a b ≡ []
    → a ≡ b
table_told a b named e =
    let told = list_told none_breaks (table_fields a) (table_fields b) e in
    let same : Texts a.entries ≡ Texts b.entries = told.0 in
    let entries : a.entries ≡ b.entries = cc same in
    λ i. record { name = named i; entries = entries i }

pub signal_told : (a b : Signal) → IsMux a.mux → IsMux b.mux → a.name ≡ b.name
    → signal_changes a b ≡ [] → a ≡ b
signal_told a b ha hb named e =
    let told = list_told (signal_breaks a b) (signal_fields a) (signal_fields b) e in
    let start : a.layout.start ≡ b.layout.start = whole_is _ _ told.0 in
    let size : a.layout.size ≡ b.layout.size = whole_is _ _ told.1.0 in
    let order : a.layout.order ≡ b.layout.order = order_told _ _ (word_is _ _ told.1.1.0) in
    let signed : a.signed ≡ b.signed = truth_told _ _ (word_is _ _ told.1.1.1.0) in
    let value_type : a.value_type ≡ b.value_type = type_told _ _ (word_is _ _ told.1.1.1.1.0) in
    let mux : a.mux ≡ b.mux = mux_told a.mux b.mux ha hb (word_is _ _ told.1.1.1.1.1.0) in
    let scale = told.1.1.1.1.1.1 in
    let factors : Dec a.factor ≡ Dec b.factor = scale.0 in
    let factor : a.factor ≡ b.factor = cc factors in
    let offsets : Dec a.offset ≡ Dec b.offset = scale.1.0 in
    let offset : a.offset ≡ b.offset = cc offsets in
    let minima : Dec a.minimum ≡ Dec b.minimum = scale.1.1.0 in
    let minimum : a.minimum ≡ b.minimum = cc minima in
    let maxima : Dec a.maximum ≡ Dec b.maximum = scale.1.1.1.0 in
    let maximum : a.maximum ≡ b.maximum = cc maxima in
    let meaning = scale.1.1.1.1 in
    let unit : a.unit ≡ b.unit = word_is _ _ meaning.0 in
    let spns : WholeOrNone a.spn ≡ WholeOrNone b.spn = meaning.1.0 in
    let spn : a.spn ≡ b.spn = cc spns in
    let names : Names a.receivers ≡ Names b.receivers = meaning.1.1.0 in
    let receivers : a.receivers ≡ b.receivers = cc names in
    let texts : Texts a.values ≡ Texts b.values = meaning.1.1.1.0 in
    let values : a.values ≡ b.values = cc texts in
    let comment : a.comment ≡ b.comment = word_is _ _ meaning.1.1.1.1.0 in
    λ i. record {
      name = named i;
      layout = record { start = start i; size = size i; order = order i };
      signed = signed i;
      value_type = value_type i;
      mux = mux i;
      spn = spn i;
      factor = factor i;
      offset = offset i;
      minimum = minimum i;
      maximum = maximum i;
      unit = unit i;
      receivers = receivers i;
      comment = comment i;
      values = values i;
    }

-- all of a message but its signals
pub message_told : (a b : Message) → IsIdentifier a.ident → IsIdentifier b.ident
    → message_changes a b ≡ [] → a.signals ≡ b.signals → a ≡ b
message_told a b ha hb e signals =
    let told = list_told message_breaks (message_fields a) (message_fields b) e in
    let ident : a.ident ≡ b.ident = ident_told a.ident b.ident ha hb (whole_is _ _ told.0) in
    let name : a.name ≡ b.name = word_is _ _ told.1.0 in
    let length : a.length ≡ b.length = whole_is _ _ told.1.1.0 in
    let transmitters : Names (names_of a.transmitter) ≡ Names (names_of b.transmitter) = told.1.1.1.0 in
    let names : names_of a.transmitter ≡ names_of b.transmitter = cc transmitters in
    let transmitter : a.transmitter ≡ b.transmitter = names_told a.transmitter b.transmitter names in
    let comment : a.comment ≡ b.comment = word_is _ _ told.1.1.1.1.0 in
    λ i. record {
      ident = ident i;
      name = name i;
      length = length i;
      transmitter = transmitter i;
      comment = comment i;
      signals = signals i;
    }
