-- A worked example: rows of one live message with two signals. The place between theirs is free, as after a removal.
use Rattle.store_rows.proofs.Common.{◌≡◌, ◌∙◌, ℕ, pos, Bool, true, false, cond, List, [], ◌∷◌, Some, None, codes, refl}
use Rattle.store_rows.proofs.Common.{sym, subst, arith, ◌==◌, eq-eqb, eqb-true, false≢true, ints, IsPermutation-refl}
use Rattle.store_rows.proofs.Common.{Int, Text, Blob, Row, Signal, IsDecimal, Number, LiveMessage, Tables, no_rows}
use Rattle.store_rows.proofs.Common.{receivers_order, sigs_order, sigvalues_order}
use Rattle.std.proofs.Common.{negsuc}
use Rattle.std.specs.Fmt.{digits}
use Rattle.std.specs.List.Sorted.{IsStrictlySortedBy}
use lib.Ieee
use Rattle.sqlite_value.specs.Order.{value_cmp}
use Rattle.bitlayout.specs.declared.layout.Order.TheVariants.{Intel, Motorola}
use Rattle.bitlayout.specs.declared.place.Mux.TheVariants.{Always, Under}
use Rattle.can_id.specs.declared.ident.Ident.TheVariants.{Std}
use Rattle.dbc_words.specs.declared.value_type.ValueType.TheVariants.{Integer}
use Rattle.decimal.specs.Printing.{unsigned_text}
use Rattle.decimal.proofs.Readings.{zero_decimal}
use Rattle.store_rows.specs.Listed.{AreListed}
use Rattle.store_rows.specs.Live.{AreLiveRows, AreSignalsOf, IsReceiverRow, IsSigRow, IsSigValueRow, LiveRows}
use Rattle.store_rows.specs.Live.{live_rows, signals_numbered}
use Rattle.store_rows.specs.LiveWritten.{placed_named, with_spns, with_texts}
use Rattle.store_rows.proofs.LiveChanges.{AreOf, all_of, all_other, all_own, none_of}
use Rattle.store_rows.proofs.Listing.{none_listed}

-- ---- the message

abbrev zero : Number
zero = record { mantissa = pos 0; exponent = pos 0 }

abbrev one : Number
one = record { mantissa = pos 1; exponent = pos 0 }

abbrev eighth : Number
eighth = record { mantissa = pos 125; exponent = negsuc 2 }

abbrev two_hundred_fifty : Number
two_hundred_fifty = record { mantissa = pos 25; exponent = pos 1 }

-- two nodes receive it
abbrev speed : Signal
speed = record {
  name = codes "Speed";
  layout = record { start = 0; size = 16; order = Intel };
  signed = false;
  value_type = Integer;
  mux = Always;
  spn = 84;
  factor = eighth;
  offset = zero;
  minimum = zero;
  maximum = two_hundred_fifty;
  unit = codes "km/h";
  receivers = codes "Dash" ∷ codes "Brake" ∷ [];
  comment = [];
  values = [];
}

-- two of its values have texts
abbrev gear : Signal
gear = record speed {
  name = codes "Gear";
  layout = record { start = 23; size = 2; order = Motorola };
  signed = true;
  mux = Under 3;
  spn = 0;
  factor = one;
  maximum = one;
  unit = [];
  receivers = [];
  comment = codes "the selected one";
  values = record { value = zero; text = codes "off" } ∷ record { value = one; text = codes "on" } ∷ [];
}

abbrev engine : LiveMessage
engine = record {
  message = record {
    ident = Std 256;
    name = codes "E1";
    length = 8;
    transmitter = Some (codes "Ecu");
    comment = [];
    signals = speed ∷ gear ∷ [];
  };
  owner = codes "power";
}

-- ---- its rows

abbrev truck : List ℕ
truck = codes "truck"

abbrev speed_row : Row
speed_row =
    Text truck ∷ Int (pos 256) ∷ Int (pos 0) ∷ Text (codes "Speed") ∷ Int (pos 0) ∷ Int (pos 16) ∷ Int (pos 0)
    ∷ Int (pos 0) ∷ Int (negsuc 1)
    ∷ Text (codes "0.125") ∷ Text (codes "0") ∷ Text (codes "0") ∷ Text (codes "250") ∷ Blob (codes "km/h") ∷ Blob []
    ∷ Int (pos 84) ∷ Int (pos 0) ∷ []

abbrev gear_row : Row
gear_row =
    Text truck ∷ Int (pos 256) ∷ Int (pos 2) ∷ Text (codes "Gear") ∷ Int (pos 23) ∷ Int (pos 2) ∷ Int (pos 1)
    ∷ Int (pos 1) ∷ Int (pos 3)
    ∷ Text (codes "1") ∷ Text (codes "0") ∷ Text (codes "0") ∷ Text (codes "1") ∷ Blob []
    ∷ Blob (codes "the selected one") ∷ Int (pos 0) ∷ Int (pos 0) ∷ []

abbrev rows : LiveRows
rows = record {
  msg = (Text truck ∷ Int (pos 256) ∷ Text (codes "E1") ∷ Text (codes "power") ∷ Int (pos 8) ∷ Text (codes "Ecu")
      ∷ Blob [] ∷ []) ∷ [];
  sig = speed_row ∷ gear_row ∷ [];
  receiver = (Text truck ∷ Int (pos 256) ∷ Int (pos 0) ∷ Int (pos 0) ∷ Text (codes "Dash") ∷ [])
      ∷ (Text truck ∷ Int (pos 256) ∷ Int (pos 0) ∷ Int (pos 1) ∷ Text (codes "Brake") ∷ []) ∷ [];
  sigvalue = (Text truck ∷ Int (pos 256) ∷ Int (pos 2) ∷ Int (pos 0) ∷ Text (codes "0") ∷ Blob (codes "off") ∷ [])
      ∷ (Text truck ∷ Int (pos 256) ∷ Int (pos 2) ∷ Int (pos 1) ∷ Text (codes "1") ∷ Blob (codes "on") ∷ []) ∷ [];
}

-- a row of another network, and one of a number that no message has
abbrev row_of_bus : Row
row_of_bus = Text (codes "bus") ∷ Int (pos 256) ∷ Int (pos 0) ∷ Int (pos 0) ∷ Text (codes "Dash") ∷ []

abbrev stray : Row
stray =
    Text truck ∷ Int (negsuc 0) ∷ Int (pos 0) ∷ Text (codes "S") ∷ Int (pos 0) ∷ Int (pos 1) ∷ Int (pos 0) ∷ Int (pos 0)
    ∷ Int (negsuc 1)
    ∷ Text (codes "1") ∷ Text (codes "0") ∷ Text (codes "0") ∷ Text (codes "0") ∷ Blob [] ∷ Blob [] ∷ Int (pos 0)
    ∷ Int (pos 0) ∷ []

abbrev tables : Tables
tables = record no_rows {
  msg = rows.msg;
  sig = rows.sig;
  receiver = row_of_bus ∷ rows.receiver;
  sigvalue =
      rows.sigvalue;
}

of_truck : live_rows truck tables ≡ rows
unfolding value_cmp lib.Ieee.is_nan lib.Ieee.lt
of_truck = refl

with_stray : live_rows truck (record tables { sig = stray ∷ tables.sig }) ≡ record rows { sig = stray ∷ rows.sig }
unfolding value_cmp lib.Ieee.is_nan lib.Ieee.lt
with_stray = refl

-- ---- they stand for it

eighth_decimal : IsDecimal eighth
eighth_decimal = record {
  digits = omega arith;
  range =
      record { low = omega (arith, ints); high = omega (arith, ints) };
  stripped = λ h. absurd (omega (arith, h));
}

two_hundred_fifty_decimal : IsDecimal two_hundred_fifty
two_hundred_fifty_decimal =
    record {
      digits = omega arith;
      range = record { low = omega (arith, ints); high = omega (arith, ints) };
      stripped =
          λ h. absurd (omega (arith, h));
    }

one_decimal : IsDecimal one
one_decimal = record {
  digits = omega arith;
  range = record { low = omega (arith, ints); high = omega (arith, ints) };
  stripped = λ h. absurd (omega (arith, h));
}

sigs_of : AreOf 256 rows.sig
sigs_of = (refl, (refl, tt))

receivers_of : AreOf 256 rows.receiver
receivers_of = (refl, (refl, tt))

values_of : AreOf 256 rows.sigvalue
values_of = (refl, (refl, tt))

sigs_listed : AreListed sigs_order (IsSigRow truck 256) rows.sig ((0, speed) ∷ (2, gear) ∷ [])
unfolding IsStrictlySortedBy value_cmp lib.Ieee.is_nan lib.Ieee.lt digits unsigned_text
sigs_listed = record {
  found = rows.sig;
  same = IsPermutation-refl rows.sig;
  ascending = ((refl, tt), (tt, tt));
  each = (
    record {
      row_is = refl;
      decimals =
          record {
            factor = eighth_decimal;
            offset = zero_decimal;
            minimum = zero_decimal;
            maximum =
                two_hundred_fifty_decimal;
          };
    },
    (
      record {
        row_is = refl;
        decimals =
            record { factor = one_decimal; offset = zero_decimal; minimum = zero_decimal; maximum = one_decimal };
      },
      tt,
    ),
  );
}

receivers_listed : AreListed receivers_order (IsReceiverRow truck 256) rows.receiver
    ((0, codes "Dash") ∷ (0, codes "Brake") ∷ [])
unfolding IsStrictlySortedBy value_cmp lib.Ieee.is_nan lib.Ieee.lt
receivers_listed = record {
  found = rows.receiver;
  same = IsPermutation-refl rows.receiver;
  ascending = ((refl, tt), (tt, tt));
  each = (record { seat = 0; row_is = refl }, (record { seat = 1; row_is = refl }, tt));
}

values_listed : AreListed sigvalues_order (IsSigValueRow truck 256) rows.sigvalue
    ((2, record { value = zero; text = codes "off" }) ∷ (2, record { value = one; text = codes "on" }) ∷ [])
unfolding IsStrictlySortedBy value_cmp lib.Ieee.is_nan lib.Ieee.lt digits unsigned_text
values_listed = record {
  found = rows.sigvalue;
  same = IsPermutation-refl rows.sigvalue;
  ascending = ((refl, tt), (tt, tt));
  each = (
    record { seat = 0; row_is = refl; decimal = zero_decimal },
    (record { seat = 1; row_is = refl; decimal = one_decimal }, tt),
  );
}

its_signals : AreSignalsOf truck 256 rows (speed ∷ gear ∷ [])
its_signals = record {
  placed = (0, speed) ∷ (2, gear) ∷ [];
  are = refl;
  sigs = subst (λ l. AreListed sigs_order (IsSigRow truck 256) l ((0, speed) ∷ (2, gear) ∷ []))
      (sym (all_of 256 rows.sig (all_own 256 rows.sig sigs_of))) sigs_listed;
  receivers = subst (λ l. AreListed receivers_order (IsReceiverRow truck 256) l
      ((0, codes "Dash") ∷ (0, codes "Brake") ∷ []))
      (sym (all_of 256 rows.receiver (all_own 256 rows.receiver receivers_of))) receivers_listed;
  values = subst (λ l. AreListed sigvalues_order (IsSigValueRow truck 256) l
      ((2, record { value = zero; text = codes "off" }) ∷ (2, record { value = one; text = codes "on" }) ∷ []))
      (sym (all_of 256 rows.sigvalue (all_own 256 rows.sigvalue values_of))) values_listed;
}

-- no other number has one
none_of_another : (number : ℕ) → (256 ≡ number → ⊥) → AreSignalsOf truck number rows []
none_of_another number apart = record {
  placed = [];
  are = refl;
  sigs = subst (λ l. AreListed sigs_order (IsSigRow truck number) l [])
      (sym (none_of number rows.sig (all_other 256 number rows.sig apart sigs_of))) none_listed;
  receivers = subst (λ l. AreListed receivers_order (IsReceiverRow truck number) l [])
      (sym (none_of number rows.receiver (all_other 256 number rows.receiver apart receivers_of))) none_listed;
  values = subst (λ l. AreListed sigvalues_order (IsSigValueRow truck number) l [])
      (sym (none_of number rows.sigvalue (all_other 256 number rows.sigvalue apart values_of))) none_listed;
}

each_number : (number : ℕ) → AreSignalsOf truck number rows (signals_numbered (engine ∷ []) number)
each_number number = by_test (256 == number) refl
  where
    by_test : (b : Bool) → (256 == number) ≡ b
        → AreSignalsOf truck number rows (elim (cond b (Some engine) None) [ None ↦ [] | Some m ↦ m.message.signals ])
    by_test true is = subst (λ n. AreSignalsOf truck n rows (speed ∷ gear ∷ [])) (eqb-true 256 number is) its_signals
    by_test false is = none_of_another number (λ same. false≢true (sym is ∙ eq-eqb 256 number same))

rows_of_engine : AreLiveRows truck rows (engine ∷ [])
unfolding IsStrictlySortedBy
rows_of_engine = record {
  messages = record {
    found = rows.msg;
    same = IsPermutation-refl rows.msg;
    ascending = (tt, tt);
    each = (record { row_is = refl; identifier = omega arith; sent = λ same. absurd (cc) }, tt);
  };
  numbered = record {
    sigs = (record { number = 256; is = refl }, (record { number = 256; is = refl }, tt));
    receivers = (record { number = 256; is = refl }, (record { number = 256; is = refl }, tt));
    values = (record { number = 256; is = refl }, (record { number = 256; is = refl }, tt));
  };
  signals = each_number;
}

stands_for_engine : AreLiveRows truck (live_rows truck tables) (engine ∷ [])
stands_for_engine = subst (λ r. AreLiveRows truck r (engine ∷ [])) (sym of_truck) rows_of_engine

-- with a row of a number that no message has, they stand for no live messages
not_negative : (n : ℕ) → Int (negsuc 0) ≡ Int (pos n) → ⊥
not_negative n same = cc

stray_is_refused : (live : List LiveMessage)
    → AreLiveRows truck (live_rows truck (record tables { sig = stray ∷ tables.sig })) live → ⊥
stray_is_refused live h =
    let with_it : AreLiveRows truck (record rows { sig = stray ∷ rows.sig }) live =
    subst (λ r. AreLiveRows truck r live) with_stray h in
    not_negative with_it.numbered.sigs.0.number with_it.numbered.sigs.0.is

-- ---- the signals of a name, changed

abbrev at_their_places : List (ℕ × Signal)
at_their_places = (0, speed) ∷ (2, gear) ∷ []

-- the speed has another suspect parameter number, and stays at its place
numbered : (with_spns truck 256 520 (placed_named (codes "Speed") at_their_places) tables).sig ≡ gear_row
    ∷ (Text truck ∷ Int (pos 256) ∷ Int (pos 0) ∷ Text (codes "Speed") ∷ Int (pos 0) ∷ Int (pos 16) ∷ Int (pos 0)
    ∷ Int (pos 0) ∷ Int (negsuc 1)
    ∷ Text (codes "0.125") ∷ Text (codes "0") ∷ Text (codes "0") ∷ Text (codes "250") ∷ Blob (codes "km/h") ∷ Blob []
    ∷ Int (pos 520) ∷ Int (pos 0) ∷ []) ∷ []
unfolding value_cmp lib.Ieee.is_nan lib.Ieee.lt digits unsigned_text
numbered = refl

-- the gear has one text in place of its two
described : (with_texts truck 256 (record { value = one; text = codes "drive" } ∷ [])
    (placed_named (codes "Gear") at_their_places) tables).sigvalue
    ≡ (Text truck ∷ Int (pos 256) ∷ Int (pos 2) ∷ Int (pos 0) ∷ Text (codes "1") ∷ Blob (codes "drive") ∷ []) ∷ []
unfolding value_cmp lib.Ieee.is_nan lib.Ieee.lt digits unsigned_text
described = refl

-- no signal has the name
none_numbered : with_spns truck 256 520 (placed_named (codes "Brake") at_their_places) tables ≡ tables
unfolding value_cmp lib.Ieee.is_nan lib.Ieee.lt
none_numbered = refl
