-- The definitions computed on small payloads and sheets.
use Rattle.dbc_decode.proofs.Common.{◌≡◌, ℕ, List, [], ◌∷◌, None, Some, refl, true, false, Option, pos, count_by, Intel}
use Rattle.dbc_decode.proofs.Common.{Motorola, Always, Multiplexor, Under, Message, Sheet, Signal, Integer, Float}
use Rattle.dbc_decode.proofs.Common.{differences, breaks}
use Rattle.std.proofs.Common.{codes}
use Rattle.std.specs.Prelude.{negsuc}
use Rattle.dbc_compare.specs.Differences.{differences_about, field_changes, pair_differences, thing_differences}
use Rattle.bitlayout.specs.Bits.{walk}
use Rattle.bitlayout.specs.Weight.{by_weight}
use Rattle.can_id.specs.declared.ident.Ident.TheVariants.{Ext, Std}
use Rattle.decimal.specs.Number.{Number}
use Rattle.dbc_sheet.specs.Sheet.{empty_sheet}
use Rattle.dbc_compare.specs.Fields.{signal_breaks}
use Rattle.dbc_compare.specs.declared.field.SheetField.TheVariants as field
use Rattle.dbc_decode.specs.Decoding.{Decoded, Whole, bits_number, decode, Signed, payload_bit, raw_by, read, reading}
use Rattle.dbc_decode.specs.Decoding.{twos_complement}

abbrev whole : ℕ → Number
whole n = record { mantissa = pos n; exponent = pos 0 }

abbrev speed : Signal
speed = record {
  name = codes "Speed";
  layout = record { start = 0; size = 16; order = Intel };
  signed = false;
  value_type = Integer;
  mux = Always;
  spn = 84;
  factor = whole 1;
  offset = whole 0;
  minimum = whole 0;
  maximum = whole 0;
  unit = codes "km/h";
  receivers = [];
  comment = [];
  values = [];
}

abbrev wheel : List ℕ → ℕ → Message
wheel name n = record {
  ident = Std n;
  name = name;
  length = 2;
  transmitter = None;
  comment = [];
  signals = speed ∷ [];
}

-- ---- bits: 0x12 0x34

intel_word : bits_number (18 ∷ 52 ∷ []) (by_weight (record { start = 0; size = 16; order = Intel })) ≡ 13330
unfolding walk bits_number payload_bit
intel_word = refl

motorola_word : bits_number (18 ∷ 52 ∷ []) (by_weight (record { start = 7; size = 16; order = Motorola })) ≡ 4660
unfolding walk bits_number payload_bit
motorola_word = refl

-- past the payload each bit is 0
last_bit : payload_bit (128 ∷ []) 7 ≡ 1
unfolding payload_bit
last_bit = refl

no_bit : payload_bit (128 ∷ []) 8 ≡ 0
unfolding payload_bit
no_bit = refl

three : twos_complement 3 3 ≡ pos 3
three = refl

minus_two : twos_complement 3 6 ≡ negsuc 1
minus_two = refl

signed_byte : raw_by Signed (254 ∷ []) (by_weight (record { start = 0; size = 8; order = Intel })) ≡ Whole (negsuc 1)
unfolding walk bits_number payload_bit
signed_byte = refl

-- one bit has no order
one_bit : by_weight (record { start = 3; size = 1; order = Intel })
    ≡ by_weight (record { start = 3; size = 1; order = Motorola })
unfolding walk
one_bit = refl

-- nor has a whole byte, or any bits of one byte: the start alone is written otherwise
whole_byte : by_weight (record { start = 8; size = 8; order = Intel })
    ≡ by_weight (record { start = 15; size = 8; order = Motorola })
unfolding walk
whole_byte = refl

part_of_a_byte : by_weight (record { start = 2; size = 4; order = Intel })
    ≡ by_weight (record { start = 5; size = 4; order = Motorola })
unfolding walk
part_of_a_byte = refl

-- the sign of a float says nothing
float_sign : reading (18 ∷ 52 ∷ []) (record speed { value_type = Float })
    ≡ reading (18 ∷ 52 ∷ []) (record speed { value_type = Float; signed = true })
float_sign = refl

-- ---- multiplexing: byte 0 says which

abbrev selector : Signal
selector = record speed {
  name = codes "Mux";
  layout = record { start = 0; size = 8; order = Intel };
  mux = Multiplexor;
}

abbrev chosen_by_3 : Signal
chosen_by_3 = record speed { layout = record { start = 8; size = 8; order = Intel }; mux = Under 3 }

there : read (selector ∷ chosen_by_3 ∷ []) (3 ∷ 7 ∷ []) chosen_by_3
    ≡ Some (record { raw = Whole (pos 7); factor = whole 1; offset = whole 0 })
unfolding walk bits_number payload_bit
there = refl

not_there : read (selector ∷ chosen_by_3 ∷ []) (4 ∷ 7 ∷ []) chosen_by_3 ≡ None
unfolding walk bits_number payload_bit
not_there = refl

-- ---- frames of two bytes

abbrev one_message : Sheet
one_message = record empty_sheet { messages = wheel (codes "Left") 1 ∷ [] }

decoded : decode one_message (record { ident = Std 1; payload = 18 ∷ 52 ∷ [] })
    ≡ Some (record {
      message = codes "Left";
      signals = record {
        signal = codes "Speed";
        value = Some (record { raw = Whole (pos 13330); factor = whole 1; offset = whole 0 });
      } ∷ [];
    })
unfolding walk bits_number payload_bit
decoded = refl

-- not of three bytes, nor the identifier of 29 bits
too_long : decode one_message (record { ident = Std 1; payload = 18 ∷ 52 ∷ 0 ∷ [] }) ≡ None
too_long = refl

other_form : decode one_message (record { ident = Ext 1; payload = 18 ∷ 52 ∷ [] }) ≡ None
other_form = refl

-- ---- two like messages exchange their identifiers: both are renumbered and marked, and a receiver gets the other
-- wheel

abbrev before : Sheet
before = record empty_sheet { messages = wheel (codes "Left") 1 ∷ wheel (codes "Right") 2 ∷ [] }

abbrev after : Sheet
after = record empty_sheet { messages = wheel (codes "Right") 1 ∷ wheel (codes "Left") 2 ∷ [] }

both_marked : count_by breaks (differences before after) ≡ 2
unfolding differences_about field_changes pair_differences thing_differences
both_marked = refl

abbrev message_said : Option Decoded → List ℕ
message_said None = []
message_said (Some d) = d.message

was_left : message_said (decode before (record { ident = Std 1; payload = 0 ∷ 0 ∷ [] })) ≡ codes "Left"
was_left = refl

is_right : message_said (decode after (record { ident = Std 1; payload = 0 ∷ 0 ∷ [] })) ≡ codes "Right"
is_right = refl

-- ---- what is marked of a signal

abbrev intel_byte : Signal
intel_byte = record speed { layout = record { start = 8; size = 8; order = Intel } }

abbrev motorola_byte : Signal
motorola_byte = record speed { layout = record { start = 15; size = 8; order = Motorola } }

start_unmarked : signal_breaks intel_byte motorola_byte field.Start ≡ false
unfolding walk
start_unmarked = refl

start_marked : signal_breaks speed (record speed { layout = record { start = 7; size = 16; order = Motorola } }) field.Order
    ≡ true
unfolding walk
start_marked = refl

sign_unmarked : signal_breaks (record speed { value_type = Float }) (record speed { value_type = Float; signed = true })
    field.Signed ≡ false
sign_unmarked = refl
