-- What a receiver that was built for a sheet reads from a frame on the bus (Vector's DBC File Format Documentation:
-- start, size, byte order, sign, extended value type and multiplexer indicator of a signal).
use Rattle.std.specs.Prelude.{ℕ, ◌+◌, ◌*◌, ◌/◌, ◌%◌, ◌^◌, ◌==◌, nat_lt, Bool, true, false, List, [], ◌∷◌, length, map}
use Rattle.std.specs.Prelude.{find, get_or, Option, Some, None, ℤ, pos, ◌-ℤ◌, if◌then◌else◌}
use Rattle.std.specs.Int.{bit_at}
use Rattle.bitlayout.specs.Weight.{by_weight}
use Rattle.bitlayout.specs.declared.place.Mux.{Mux}
use Rattle.bitlayout.specs.declared.place.Mux.TheVariants.{Under}
use Rattle.can_id.specs.Ident.{dbc_number}
use Rattle.can_id.specs.declared.ident.Ident.{Ident}
use Rattle.decimal.specs.Number.{Number}
use Rattle.dbc_words.specs.declared.value_type.ValueType.{ValueType}
use Rattle.dbc_words.specs.declared.value_type.ValueType.TheVariants.{Integer, Float, Double}
use Rattle.dbc_sheet.specs.Messages.{message_at}
use Rattle.dbc_sheet.specs.Signals.{signal_is_multiplexor}
use Rattle.dbc_sheet.specs.declared.message.Message.{Message}
use Rattle.dbc_sheet.specs.declared.sheet.Sheet.{Sheet}
use Rattle.dbc_sheet.specs.declared.signal.Signal.{Signal}

-- a frame on the bus: its identifier, of 11 or of 29 bits, and its bytes
pub record Frame : Type 0 where
  pub ident : Ident
  pub payload : List ℕ

-- ---- bits

-- the bit at a position: 0 or 1, and 0 at a position past the payload
unfoldable pub payload_bit : List ℕ → ℕ → ℕ
payload_bit payload p = bit_at (get_or payload (p / 8) 0) (p % 8)

-- the number that the bits at the positions write, the least significant first
unfoldable pub bits_number : List ℕ → List ℕ → ℕ
bits_number payload [] = 0
bits_number payload (p ∷ ps) = payload_bit payload p + 2 * bits_number payload ps

-- the number of so many bits in two's complement
abbrev pub twos_complement : ℕ → ℕ → ℤ
twos_complement size n = if nat_lt (2 * n) (2 ^ size) then pos n else pos n -ℤ pos (2 ^ size)

-- ---- values

-- how bits are taken; of floats, which have a sign of their own, the signal's sign says nothing
pub data Coding : Type 0 where
  Unsigned : Coding
  Signed : Coding
  Single : Coding
  Twofold : Coding

abbrev pub coding_by : ValueType → Bool → Coding
coding_by Integer false = Unsigned
coding_by Integer true = Signed
coding_by Float signed = Single
coding_by Double signed = Twofold

abbrev pub coding_of : Signal → Coding
coding_of s = coding_by s.value_type s.signed

-- a raw value: a whole number, or the bits of an IEEE 754 number of 32 or of 64 bits
pub data Raw : Type 0 where
  Whole : ℤ → Raw
  OfSingle : ℕ → Raw
  OfDouble : ℕ → Raw

abbrev pub raw_by : Coding → List ℕ → List ℕ → Raw
raw_by Unsigned payload ps = Whole (pos (bits_number payload ps))
raw_by Signed payload ps = Whole (twos_complement (length ps) (bits_number payload ps))
raw_by Single payload ps = OfSingle (bits_number payload ps)
raw_by Twofold payload ps = OfDouble (bits_number payload ps)

-- what is read: the physical value is raw * factor + offset, of exact decimals
pub record Reading : Type 0 where
  pub raw : Raw
  pub factor : Number
  pub offset : Number

abbrev pub reading : List ℕ → Signal → Reading
reading payload s = record {
  raw = raw_by (coding_of s) payload (by_weight s.layout);
  factor = s.factor;
  offset = s.offset;
}

-- ---- which signals are there

-- the number that a signal's bits write
abbrev pub pattern_in : List ℕ → Option Signal → Option ℕ
pattern_in payload None = None
pattern_in payload (Some m) = Some (bits_number payload (by_weight m.layout))

-- what the multiplexor says, where there is one
abbrev pub chosen : List Signal → List ℕ → Option ℕ
chosen signals payload = pattern_in payload (find signal_is_multiplexor signals)

-- whether a signal is there
abbrev pub is_there : Mux → Option ℕ → Bool
is_there (Under v) None = false
is_there (Under v) (Some w) = v == w
is_there mux value = true

-- what a receiver reads of one of the signals of a message; nothing where it isn't there
abbrev pub read : List Signal → List ℕ → Signal → Option Reading
read signals payload s = if is_there s.mux (chosen signals payload) then Some (reading payload s) else None

-- ---- frames

-- a signal, and what was read of it
pub record Read : Type 0 where
  pub signal : List ℕ
  pub value : Option Reading

pub record Decoded : Type 0 where
  pub message : List ℕ
  pub signals : List Read

abbrev pub decode_as : Frame → Option Message → Option Decoded
decode_as f None = None
decode_as f (Some m) = if length f.payload == m.length
    then Some (record {
      message = m.name;
      signals = map (λ s. record { signal = s.name; value = read m.signals f.payload s }) m.signals;
    })
    else None

-- the message of the identifier and of the length, and each of its signals
abbrev pub decode : Sheet → Frame → Option Decoded
decode sheet f = decode_as f (message_at sheet.messages (dbc_number f.ident))
