-- Rows of changed lists and messages, computed.
use Rattle.dbc_sheet.proofs.Common.{◌≡◌, true, false, ℕ, List, [], ◌∷◌, Some, None, refl, codes, pos, put, Intel}
use Rattle.dbc_sheet.proofs.Common.{Always, Under, Std, Number, Integer}
use Rattle.std.specs.Prelude.{negsuc}
use Rattle.std.specs.Ordering.{nat_cmp}
use Rattle.dbc_sheet.specs.Same.{same_message}
use Rattle.dbc_sheet.specs.Signals.{at_signal, signal_named, without_signal}
use Rattle.dbc_sheet.specs.declared.message.Message.{Message}
use Rattle.dbc_sheet.specs.declared.signal.Signal.{Signal}

-- an item goes last, first, in place of one of its key, and after the last one that is not above it
row_last : put nat_cmp 7 (3 ∷ 5 ∷ []) ≡ 3 ∷ 5 ∷ 7 ∷ []
row_last = refl

row_first : put nat_cmp 1 (3 ∷ 5 ∷ []) ≡ 1 ∷ 3 ∷ 5 ∷ []
row_first = refl

row_in_place : put nat_cmp 3 (3 ∷ 5 ∷ []) ≡ 3 ∷ 5 ∷ []
row_in_place = refl

row_unsorted : put nat_cmp 4 (5 ∷ 3 ∷ 6 ∷ []) ≡ 5 ∷ 3 ∷ 4 ∷ 6 ∷ []
row_unsorted = refl

abbrev number : ℕ → Number
number n = record { mantissa = pos n; exponent = pos 0 }

abbrev half : Number
half = record { mantissa = pos 5; exponent = negsuc 0 }

abbrev plain : List ℕ → Signal
plain name = record {
  name = name;
  layout = record { start = 0; size = 8; order = Intel };
  signed = false;
  mux = Always;
  factor = number 1;
  offset = number 0;
  minimum = number 0;
  maximum = number 0;
  unit = [];
  receivers = [];
  comment = [];
  spn = 0;
  values = [];
  value_type = Integer;
}

abbrev both : List Signal
both = plain (codes "A") ∷ plain (codes "B") ∷ []

-- the signal of the name is changed, found, and taken out; where there is none, nothing is
row_changed : at_signal (λ s. record s { spn = 84 }) (codes "B") both ≡ plain (codes "A") ∷ record (plain (codes "B"))
    { spn = 84 } ∷ []
row_changed = refl

row_unchanged : at_signal (λ s. record s { spn = 84 }) (codes "C") both ≡ both
row_unchanged = refl

row_named : signal_named both (codes "B") ≡ Some (plain (codes "B"))
row_named = refl

row_unnamed : signal_named both (codes "C") ≡ None
row_unnamed = refl

row_without : without_signal both (codes "A") ≡ plain (codes "B") ∷ []
row_without = refl

abbrev with_signals : List Signal → Message
with_signals signals = record {
  ident = Std 256;
  name = codes "A";
  length = 8;
  transmitter = None;
  comment = [];
  signals = signals;
}

-- equal; and not, where a factor, a multiplexer indicator or a signal differs
row_equal : same_message (with_signals both) (with_signals both) ≡ true
row_equal = refl

row_factor : same_message (with_signals (plain (codes "A") ∷ []))
    (with_signals (record (plain (codes "A")) { factor = half } ∷ [])) ≡ false
row_factor = refl

row_mux : same_message (with_signals (plain (codes "A") ∷ []))
    (with_signals (record (plain (codes "A")) { mux = Under 1 } ∷ [])) ≡ false
row_mux = refl

row_fewer : same_message (with_signals both) (with_signals (plain (codes "A") ∷ [])) ≡ false
row_fewer = refl
