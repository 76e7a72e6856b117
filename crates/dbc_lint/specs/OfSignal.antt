-- The remarks on a signal: short tests, and remarks on each text for a value and on each receiver.
use Rattle.std.specs.Prelude.{ℕ, ◌^◌, ◌==◌, nat_le, nat_lt, Bool, false, not, ◌&&◌, List, [], ◌∷◌, ◌++◌, Option}
use Rattle.std.specs.Prelude.{Some, find, length, take}
use Rattle.std.specs.List.{enumerate_from, flat_map, list_any}
use Rattle.std.specs.Ordering.{int_eq}
use Rattle.bitlayout.specs.Mux.{is_under}
use Rattle.bitlayout.specs.declared.place.Mux.{Mux}
use Rattle.bitlayout.specs.declared.place.Mux.TheVariants.{Under}
use Rattle.decimal.specs.Number.{Number}
use Rattle.decimal.specs.Printing.{text_of}
use Rattle.dbc_words.specs.Named.{has_name}
use Rattle.dbc_words.specs.declared.value_type.ValueType.{ValueType}
use Rattle.dbc_words.specs.declared.value_type.ValueType.TheVariants.{Integer, Float, Double}
use Rattle.dbc_sheet.specs.Sheet.{node_name}
use Rattle.dbc_sheet.specs.Signals.{signal_is_multiplexor}
use Rattle.dbc_sheet.specs.declared.message.Message.{Message}
use Rattle.dbc_sheet.specs.declared.sheet.Sheet.{Sheet}
use Rattle.dbc_sheet.specs.declared.signal.Signal.{Signal}
use Rattle.dbc_sheet.specs.declared.value_texts.ValueText.{ValueText}
use Rattle.dbc_lint.specs.Numbers.{has_range_outside, holds_value, is_above, is_zero}
use Rattle.dbc_lint.specs.OfSpn.{spn_twice}
use Rattle.dbc_lint.specs.Remark.{remark, when, with_word}
use Rattle.dbc_lint.specs.declared.kind.Kind.{Kind}
use Rattle.dbc_lint.specs.declared.kind.Kind.TheVariants as kind
use Rattle.dbc_lint.specs.declared.remark.Remark.{Remark}

-- how many bytes of a name tools keep that cut it (Vector's DBC File Format Documentation keeps longer ones as
-- attributes)
abbrev pub short_name_limit : ℕ
short_name_limit = 32

abbrev pub is_long : List ℕ → Bool
is_long name = nat_lt short_name_limit (length name)

-- ---- short tests

-- the type is a float of another size
abbrev pub is_other_size : ValueType → ℕ → Bool
is_other_size Integer size = false
is_other_size Float size = not (size == 32)
is_other_size Double size = not (size == 64)

abbrev pub multiplexor_of : List Signal → Option Signal
multiplexor_of signals = find signal_is_multiplexor signals

-- it is present at a value that needs more bits than the multiplexor has
abbrev pub is_mux_outside : Option Signal → Mux → Bool
is_mux_outside (Some m) (Under n) = nat_le (2 ^ m.layout.size) n
is_mux_outside multiplexor mux = false

-- it is the multiplexor, and no signal depends on it
abbrev pub is_mux_unused : List Signal → Signal → Bool
is_mux_unused signals s = signal_is_multiplexor s && not (list_any (λ (o : Signal). is_under o.mux) signals)

-- the signal of the message has what the kind of remark is about
abbrev pub signal_has : Kind → Message → Signal → Bool
signal_has kind.LongName m s = is_long s.name
signal_has kind.ZeroFactor m s = is_zero s.factor
signal_has kind.RangeInverted m s = is_above s.minimum s.maximum
signal_has kind.RangeOutside m s = has_range_outside s
signal_has kind.FloatSize m s = is_other_size s.value_type s.layout.size
signal_has kind.MuxOutside m s = is_mux_outside (multiplexor_of m.signals) s.mux
signal_has kind.MuxUnused m s = is_mux_unused m.signals s
signal_has k m s = false

-- the names of the message and the signal
abbrev pub signal_words : Message → Signal → List ℕ
signal_words m s = with_word m.name s.name

-- ---- texts for values

-- the bits can't hold the value
abbrev pub value_outside : List ℕ → ℕ → Signal → ValueText → List Remark
value_outside words at s v =
    when (not (holds_value s v.value)) (remark kind.ValueOutside at (with_word words (text_of v.value)))

abbrev pub same_number : Number → Number → Bool
same_number a b = int_eq a.mantissa b.mantissa && int_eq a.exponent b.exponent

-- one of the texts is for the value
abbrev pub has_value : List ValueText → Number → Bool
has_value texts n = list_any (λ (w : ValueText). same_number w.value n) texts

abbrev pub remark_twice : List ℕ → ℕ → Bool → Number → List Remark
remark_twice words at twice n = when twice (remark kind.ValueTwice at (with_word words (text_of n)))

-- an earlier one of the texts is for the same value
abbrev pub value_twice : List ℕ → ℕ → List ValueText → ℕ × ValueText → List Remark
value_twice words at texts p = remark_twice words at (has_value (take p.0 texts) p.1.value) p.1.value

-- those of the index and after it
abbrev pub values_twice : List ℕ → ℕ → List ValueText → ℕ → List ValueText → List Remark
values_twice words at texts n rest = flat_map (value_twice words at texts) (enumerate_from n rest)

-- ---- receivers and transmitters

abbrev pub unknown_node : Sheet → List ℕ → ℕ → List ℕ → List Remark
unknown_node sheet words at name =
    when (not (has_name node_name sheet.nodes name)) (remark kind.UnknownNode at (with_word words name))

-- ---- all

-- the kinds of the short tests
abbrev pub signal_kinds : List Kind
signal_kinds =
    kind.LongName ∷ kind.ZeroFactor ∷ kind.RangeInverted ∷ kind.RangeOutside ∷ kind.FloatSize ∷ kind.MuxOutside
    ∷ kind.MuxUnused ∷ []

abbrev pub of_kind : Message → Signal → ℕ → Kind → List Remark
of_kind m s at k = when (signal_has k m s) (remark k at (signal_words m s))

-- the remarks on a signal of the message, in ascending order of their numbers
abbrev pub of_signal : Sheet → Message → Signal → ℕ → List Remark
of_signal sheet m s at =
    flat_map (of_kind m s at) signal_kinds
    ++ (spn_twice sheet m s (signal_words m s) at
    ++ (flat_map (value_outside (signal_words m s) at s) s.values
    ++ (values_twice (signal_words m s) at s.values 0 s.values
    ++ flat_map (unknown_node sheet (signal_words m s) at) s.receivers)))
