-- Worked examples of the definitions: rows for each kind of remark, worked out by hand.
use Rattle.dbc_lint.proofs.Common.{◌≡◌, ◌++◌, true, false, ℕ, List, [], ◌∷◌, Option, Some, None, refl, Number, Message}
use Rattle.dbc_lint.proofs.Common.{Node, Sheet, Signal, ValueText}
use Rattle.std.proofs.Common.{replicate}
use Rattle.std.specs.Fmt.{digits}
use Rattle.std.specs.Prelude.{ℤ, codes, pos, neg_ℤ}
use Rattle.bitlayout.specs.declared.layout.Order.TheVariants.{Intel}
use Rattle.bitlayout.specs.declared.place.Mux.{Mux}
use Rattle.bitlayout.specs.declared.place.Mux.TheVariants.{Always, Multiplexor, Under}
use Rattle.can_id.specs.declared.ident.Ident.{Ident}
use Rattle.can_id.specs.declared.ident.Ident.TheVariants.{Std, Ext}
use Rattle.decimal.specs.Printing.{unsigned_text}
use Rattle.dbc_words.specs.declared.value_type.ValueType.{ValueType}
use Rattle.dbc_words.specs.declared.value_type.ValueType.TheVariants.{Integer, Float, Double}
use Rattle.dbc_lint.specs.Kind.{first_unknown, is_chosen}
use Rattle.dbc_lint.specs.Numbers.{has_range_outside, holds_value, is_above, written}
use Rattle.dbc_lint.specs.OfMessage.{of_message}
use Rattle.dbc_lint.specs.OfNode.{of_node}
use Rattle.dbc_lint.specs.OfSignal.{is_long, of_signal, signal_has}
use Rattle.dbc_lint.specs.OfSpn.{spn_twice}
use Rattle.dbc_lint.specs.OfTable.{of_table}
use Rattle.dbc_lint.specs.Remark.{remark}
use Rattle.dbc_lint.specs.declared.kind.Kind.TheVariants as kind
use Rattle.dbc_lint.specs.declared.remark.Remark.{Remark}

abbrev decimal : ℤ → ℤ → Number
decimal mantissa exponent = record { mantissa = mantissa; exponent = exponent }

abbrev number : ℕ → Number
number n = decimal (pos n) (pos 0)

abbrev minus : ℕ → Number
minus n = decimal (neg_ℤ (pos n)) (pos 0)

-- `n` tenths
abbrev tenths : ℕ → Number
tenths n = decimal (pos n) (neg_ℤ (pos 1))

-- `SG_ S : 0|8@1+ (1,0) [0|0] ""` of nobody
abbrev byte : Signal
byte = record {
  name = codes "S";
  layout = record { start = 0; size = 8; order = Intel };
  signed = false;
  value_type = Integer;
  mux = Always;
  spn = 0;
  factor = number 1;
  offset = number 0;
  minimum = number 0;
  maximum = number 0;
  unit = [];
  receivers = [];
  comment = [];
  values = [];
}

abbrev sized : ℕ → Signal
sized bits = record byte { layout = record { start = 0; size = bits; order = Intel } }

abbrev signed_byte : Signal
signed_byte = record byte { signed = true }

abbrev typed : ValueType → ℕ → Signal
typed value_type bits = record (sized bits) { value_type = value_type }

abbrev ranged : Signal → Number → Number → Number → Number → Signal
ranged s factor offset minimum maximum =
    record s { factor = factor; offset = offset; minimum = minimum; maximum = maximum }

abbrev muxed : Mux → ℕ → Signal
muxed mux bits = record (sized bits) { mux = mux }

abbrev numbered : List ℕ → ℕ → Signal
numbered name spn = record byte { name = name; spn = spn }

abbrev message : Ident → List ℕ → ℕ → Option (List ℕ) → List Signal → Message
message ident name length transmitter signals = record {
  ident = ident;
  name = name;
  length = length;
  transmitter = transmitter;
  comment = [];
  signals = signals;
}

-- `BO_ 256 M: 8 Vector__XXX` with these signals
abbrev of : List Signal → Message
of signals = message (Std 256) (codes "M") 8 None signals

abbrev node : List ℕ → Node
node name = record { name = name; comment = [] }

abbrev sheet : List Node → List Message → Sheet
sheet nodes messages = record { version = []; comment = []; nodes = nodes; tables = []; messages = messages }

abbrev text : Number → ValueText
text value = record { value = value; text = codes "x" }

-- ---- names that choose kinds

no_name_chooses_all : is_chosen [] kind.ZeroFactor ≡ true
no_name_chooses_all = refl

second_name : is_chosen (codes "LongName,ZeroFactor") kind.ZeroFactor ≡ true
second_name = refl

neither_name : is_chosen (codes "LongName,ZeroFactor") kind.ValueTwice ≡ false
neither_name = refl

part_of_a_name : is_chosen (codes "ZeroFactors") kind.ZeroFactor ≡ false
part_of_a_name = refl

known_names : first_unknown (codes "LongName,ZeroFactor") ≡ None
known_names = refl

small_letters : first_unknown (codes "LongName,zerofactor,None") ≡ Some (codes "zerofactor")
small_letters = refl

empty_name : first_unknown (codes "LongName,") ≡ Some []
empty_name = refl

-- ---- 80 LongName

name_of_32_bytes : is_long (replicate 32 65) ≡ false
name_of_32_bytes = refl

name_of_33_bytes : is_long (replicate 33 65) ≡ true
name_of_33_bytes = refl

node_of_32_bytes : of_node (sheet [] []) (replicate 32 65) 4 ≡ remark kind.IdleNode 4 (replicate 32 65) ∷ []
node_of_32_bytes = refl

node_of_33_bytes : of_node (sheet [] []) (replicate 33 65) 4 ≡ remark kind.LongName 4 (replicate 33 65)
    ∷ remark kind.IdleNode 4 (replicate 33 65) ∷ []
node_of_33_bytes = refl

table_of_32_bytes : of_table (replicate 32 65) [] 3 ≡ []
table_of_32_bytes = refl

table_of_33_bytes : of_table (replicate 33 65) [] 3 ≡ remark kind.LongName 3 (replicate 33 65) ∷ []
table_of_33_bytes = refl

message_of_32_bytes : of_message (sheet [] []) (message (Std 256) (replicate 32 65) 8 None []) 20 ≡ []
message_of_32_bytes = refl

message_of_33_bytes : of_message (sheet [] []) (message (Std 256) (replicate 33 65) 8 None []) 20
    ≡ remark kind.LongName 20 (replicate 33 65) ∷ []
message_of_33_bytes = refl

signal_of_32_bytes : of_signal (sheet [] []) (of []) (record byte { name = replicate 32 65 }) 40 ≡ []
signal_of_32_bytes = refl

-- `M`, a space and the name
signal_of_33_bytes : of_signal (sheet [] []) (of []) (record byte { name = replicate 33 65 }) 40
    ≡ remark kind.LongName 40 (codes "M " ++ replicate 33 65) ∷ []
signal_of_33_bytes = refl

-- ---- 81 ZeroFactor

factor_0 : signal_has kind.ZeroFactor (of []) (record byte { factor = number 0 }) ≡ true
factor_0 = refl

factor_tenth : signal_has kind.ZeroFactor (of []) (record byte { factor = tenths 1 }) ≡ false
factor_tenth = refl

-- ---- 82 RangeInverted

from_900_to_minus_3 : signal_has kind.RangeInverted (of []) (ranged byte (number 1) (number 0) (number 900) (minus 3))
    ≡ true
from_900_to_minus_3 = refl

from_2_to_2 : signal_has kind.RangeInverted (of []) (ranged byte (number 1) (number 0) (number 2) (number 2)) ≡ false
from_2_to_2 = refl

-- 1.1 and 1
above_by_a_tenth : is_above (tenths 11) (number 1) ≡ true
above_by_a_tenth = refl

-- -100 and -0.1
hundred_below_0 : is_above (decimal (neg_ℤ (pos 1)) (pos 2)) (decimal (neg_ℤ (pos 1)) (neg_ℤ (pos 1))) ≡ false
hundred_below_0 = refl

-- ---- 83 RangeOutside

-- 8 bits, factor 0.1, offset -10: -10 to 15.5
up_to_15_5 : has_range_outside (ranged byte (tenths 1) (minus 10) (minus 10) (tenths 155)) ≡ false
up_to_15_5 = refl

up_to_15_6 : has_range_outside (ranged byte (tenths 1) (minus 10) (minus 10) (tenths 156)) ≡ true
up_to_15_6 = refl

from_minus_11 : has_range_outside (ranged byte (tenths 1) (minus 10) (minus 11) (number 15)) ≡ true
from_minus_11 = refl

-- factor -1: -255 to 0
down_to_minus_255 : has_range_outside (ranged byte (minus 1) (number 0) (minus 255) (number 0)) ≡ false
down_to_minus_255 = refl

down_to_minus_256 : has_range_outside (ranged byte (minus 1) (number 0) (minus 256) (number 0)) ≡ true
down_to_minus_256 = refl

-- signed: -128 to 127
of_a_signed_byte : has_range_outside (ranged signed_byte (number 1) (number 0) (minus 128) (number 127)) ≡ false
of_a_signed_byte = refl

above_a_signed_byte : has_range_outside (ranged signed_byte (number 1) (number 0) (number 0) (number 128)) ≡ true
above_a_signed_byte = refl

-- `[0|0]` states no range, also where 0 is none of the values
without_range : has_range_outside (ranged byte (number 1) (number 5) (number 0) (number 0)) ≡ false
without_range = refl

of_a_float : has_range_outside (ranged (typed Float 32) (number 1) (number 0) (minus 1) (decimal (pos 1) (pos 30)))
    ≡ false
of_a_float = refl

-- 64 bits: 18446744073709551615
of_64_bits : has_range_outside (ranged (sized 64) (number 1) (number 0) (number 0) (number 18446744073709551615))
    ≡ false
of_64_bits = refl

above_64_bits : has_range_outside (ranged (sized 64) (number 1) (number 0) (number 0) (number 18446744073709551616))
    ≡ true
above_64_bits = refl

-- 10 to the 36 has 37 digits
too_long : written (decimal (pos 1) (pos 36)) (pos 0) ≡ None
too_long = refl

not_judged : has_range_outside (ranged byte (number 1) (number 0) (number 0) (decimal (pos 1) (pos 36))) ≡ false
not_judged = refl

-- ---- 84 FloatSize

float_of_16_bits : signal_has kind.FloatSize (of []) (typed Float 16) ≡ true
float_of_16_bits = refl

float_of_32_bits : signal_has kind.FloatSize (of []) (typed Float 32) ≡ false
float_of_32_bits = refl

double_of_32_bits : signal_has kind.FloatSize (of []) (typed Double 32) ≡ true
double_of_32_bits = refl

double_of_64_bits : signal_has kind.FloatSize (of []) (typed Double 64) ≡ false
double_of_64_bits = refl

integer_of_16_bits : signal_has kind.FloatSize (of []) (typed Integer 16) ≡ false
integer_of_16_bits = refl

-- ---- 85 MuxOutside

-- the values 3 and 4 of an `M` of 2 bits
value_3_of_2_bits : signal_has kind.MuxOutside (of (muxed Multiplexor 2 ∷ [])) (muxed (Under 3) 8) ≡ false
value_3_of_2_bits = refl

value_4_of_2_bits : signal_has kind.MuxOutside (of (muxed Multiplexor 2 ∷ [])) (muxed (Under 4) 8) ≡ true
value_4_of_2_bits = refl

value_4_of_no_bits : signal_has kind.MuxOutside (of (byte ∷ [])) (muxed (Under 4) 8) ≡ false
value_4_of_no_bits = refl

-- ---- 86 MuxUnused

nothing_under_it : signal_has kind.MuxUnused (of (byte ∷ muxed Multiplexor 2 ∷ [])) (muxed Multiplexor 2) ≡ true
nothing_under_it = refl

something_under_it : signal_has kind.MuxUnused (of (muxed (Under 0) 8 ∷ muxed Multiplexor 2 ∷ []))
    (muxed Multiplexor 2) ≡ false
something_under_it = refl

no_multiplexor : signal_has kind.MuxUnused (of (byte ∷ [])) byte ≡ false
no_multiplexor = refl

-- ---- 87 SpnTwice

-- the signals A and B of these numbers
abbrev two : Ident → List ℕ → ℕ → ℕ → Message
two ident name a b = message ident name 8 None (numbered (codes "A") a ∷ numbered (codes "B") b ∷ [])

abbrev twice : Message
twice = two (Std 256) (codes "M") 190 190

second_of_two : spn_twice (sheet [] (twice ∷ [])) twice (numbered (codes "B") 190) (codes "M B") 40
    ≡ remark kind.SpnTwice 40 (codes "M B M A") ∷ []
second_of_two = refl

first_of_two : spn_twice (sheet [] (twice ∷ [])) twice (numbered (codes "A") 190) (codes "M A") 30 ≡ []
first_of_two = refl

abbrev apart : Message
apart = two (Std 256) (codes "M") 190 191

two_spns : spn_twice (sheet [] (apart ∷ [])) apart (numbered (codes "B") 191) (codes "M B") 40 ≡ []
two_spns = refl

abbrev without : Message
without = two (Std 256) (codes "M") 0 0

no_spn_twice : spn_twice (sheet [] (without ∷ [])) without (numbered (codes "B") 0) (codes "M B") 40 ≡ []
no_spn_twice = refl

-- N follows M, and both have 190
abbrev second_message : Ident → Ident → List Remark
second_message first second =
    spn_twice (sheet [] (two first (codes "M") 190 191 ∷ two second (codes "N") 192 190 ∷ []))
    (two second (codes "N") 192 190) (numbered (codes "B") 190) (codes "N B") 60

-- 18FEF005 is of the parameter group FEF0, and 18FEF105 of FEF1
other_group : second_message (Ext 419360773) (Ext 419361029) ≡ remark kind.SpnTwice 60 (codes "N B M A") ∷ []
other_group = refl

-- 18FEF103 and 18FEF105 are of FEF1
same_group : second_message (Ext 419361027) (Ext 419361029) ≡ []
same_group = refl

-- 18EF0305 and 18EF0405 are of EF00, to 03 and to 04
other_destination : second_message (Ext 418317061) (Ext 418317317) ≡ []
other_destination = refl

-- two of 11 bits
two_short_idents : second_message (Std 256) (Std 257) ≡ remark kind.SpnTwice 60 (codes "N B M A") ∷ []
two_short_idents = refl

one_short_ident : second_message (Std 256) (Ext 419361029) ≡ remark kind.SpnTwice 60 (codes "N B M A") ∷ []
one_short_ident = refl

-- ---- 88 ValueOutside

value_3 : holds_value (sized 2) (number 3) ≡ true
value_3 = refl

value_4 : holds_value (sized 2) (number 4) ≡ false
value_4 = refl

value_minus_1 : holds_value (sized 2) (minus 1) ≡ false
value_minus_1 = refl

value_1_5 : holds_value (sized 2) (tenths 15) ≡ false
value_1_5 = refl

-- 40 as a decimal is 4 times ten
value_40 : holds_value (sized 6) (decimal (pos 4) (pos 1)) ≡ true
value_40 = refl

value_minus_128 : holds_value signed_byte (minus 128) ≡ true
value_minus_128 = refl

value_128 : holds_value signed_byte (number 128) ≡ false
value_128 = refl

any_value_of_a_float : holds_value (typed Float 32) (tenths 15) ≡ true
any_value_of_a_float = refl

value_9_of_2_bits : of_signal (sheet [] []) (of []) (record (sized 2) { values = text (number 2) ∷ text (number 9) ∷ [] })
    40 ≡ remark kind.ValueOutside 40 (codes "M S 9") ∷ []
unfolding digits unsigned_text
value_9_of_2_bits = refl

-- ---- 89 ValueTwice

-- the third text is for the value of the first
value_twice : of_signal (sheet [] []) (of [])
    (record byte { values = text (number 1) ∷ text (number 2) ∷ text (number 1) ∷ [] }) 40
    ≡ remark kind.ValueTwice 40 (codes "M S 1") ∷ []
unfolding digits unsigned_text
value_twice = refl

value_of_a_table_twice : of_table (codes "T") (text (tenths 5) ∷ text (tenths 5) ∷ []) 3
    ≡ remark kind.ValueTwice 3 (codes "T 0.5") ∷ []
unfolding digits unsigned_text
value_of_a_table_twice = refl

-- ---- 90 UnknownNode

receiver_that_is_no_node : of_signal (sheet (node (codes "A") ∷ []) []) (of [])
    (record byte { receivers = codes "A" ∷ codes "B" ∷ [] }) 40
    ≡ remark kind.UnknownNode 40 (codes "M S B") ∷ []
receiver_that_is_no_node = refl

transmitter_that_is_no_node : of_message (sheet (node (codes "A") ∷ []) [])
    (message (Std 256) (codes "M") 8 (Some (codes "B")) []) 20 ≡ remark kind.UnknownNode 20 (codes "M B") ∷ []
transmitter_that_is_no_node = refl

transmitter_that_is_a_node : of_message (sheet (node (codes "A") ∷ []) [])
    (message (Std 256) (codes "M") 8 (Some (codes "A")) []) 20 ≡ []
transmitter_that_is_a_node = refl

-- ---- 91 LongFrame

abbrev long : ℕ → Ident → Message
long bytes ident = message ident (codes "L") bytes None []

nine_bytes : of_message (sheet [] (of [] ∷ long 9 (Std 257) ∷ [])) (long 9 (Std 257)) 20
    ≡ remark kind.LongFrame 20 (codes "L") ∷ []
nine_bytes = refl

eight_bytes : of_message (sheet [] (long 8 (Std 257) ∷ [])) (long 8 (Std 257)) 20 ≡ []
eight_bytes = refl

nine_bytes_beside_64 : of_message (sheet [] (long 9 (Std 257) ∷ long 64 (Ext 0) ∷ [])) (long 9 (Std 257)) 20 ≡ []
nine_bytes_beside_64 = refl

nine_bytes_of_29_bits : of_message (sheet [] (long 9 (Ext 257) ∷ [])) (long 9 (Ext 257)) 20 ≡ []
nine_bytes_of_29_bits = refl

-- ---- 92 AddressTwice

-- 0CF00405 is from 05, 18FEF105 too
abbrev engine : Message
engine = message (Ext 217056261) (codes "E") 8 (Some (codes "A")) []

abbrev vehicle : List ℕ → Message
vehicle sender = message (Ext 419361029) (codes "V") 8 (Some sender) []

abbrev both : List ℕ → Sheet
both sender = sheet (node (codes "A") ∷ node (codes "B") ∷ []) (engine ∷ vehicle sender ∷ [])

second_node_at_5 : of_message (both (codes "B")) (vehicle (codes "B")) 60
    ≡ remark kind.AddressTwice 60 (codes "V A") ∷ []
second_node_at_5 = refl

first_node_at_5 : of_message (both (codes "B")) engine 20 ≡ []
first_node_at_5 = refl

same_node_at_5 : of_message (both (codes "A")) (vehicle (codes "A")) 60 ≡ []
same_node_at_5 = refl

-- 18FEF1FE and 0CF004FE are from no address
abbrev unaddressed : ℕ → List ℕ → Message
unaddressed number sender = message (Ext number) (codes "V") 8 (Some sender) []

null_address : of_message (sheet (node (codes "A") ∷ node (codes "B") ∷ [])
    (unaddressed 217056510 (codes "A") ∷ unaddressed 419361278 (codes "B") ∷ []))
    (unaddressed 419361278 (codes "B")) 60 ≡ []
null_address = refl

-- ---- 93 IdleNode

abbrev one_way : Sheet
one_way = sheet (node (codes "A") ∷ node (codes "B") ∷ node (codes "C") ∷ [])
    (message (Std 256) (codes "M") 8 (Some (codes "A")) (record byte { receivers = codes "B" ∷ [] } ∷ []) ∷ [])

sender : of_node one_way (codes "A") 4 ≡ []
sender = refl

receiver : of_node one_way (codes "B") 6 ≡ []
receiver = refl

neither : of_node one_way (codes "C") 8 ≡ remark kind.IdleNode 8 (codes "C") ∷ []
neither = refl
