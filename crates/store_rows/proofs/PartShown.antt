-- A row shows a signal with any receivers and value texts: it has neither.
use Rattle.store_rows.proofs.Common.{◌≡◌, ℕ, sym, subst, Row, Signal}
use Rattle.store_rows.specs.SignalShowing.{ShowsPlaced}

abbrev pub Part : Type 0
Part = Signal → Signal

-- a part of a signal has all of it but its receivers and value texts
abbrev pub IsPart : Part → Type 0
IsPart part = (s : Signal) → part s ≡ record s { receivers = (part s).receivers; values = (part s).values }

abbrev pub placed_part : Part → ℕ × Signal → ℕ × Signal
placed_part part p = (p.0, part p.1)

pub one_shown : (part : Part) → IsPart part → (p : ℕ × Signal) (row : Row) → ShowsPlaced p row
    → ShowsPlaced (placed_part part p) row
one_shown part is p row shown =
    let s = shown.signal in subst (λ (t : Signal). ShowsPlaced (p.0, t) row) (sym (is p.1)) (record {
      place = shown.place;
      signal = record {
        named = s.named;
        layout = record { start = s.layout.start; size = s.layout.size; motorola = s.layout.motorola };
        signed = s.signed;
        mux = s.mux;
        factor = s.factor;
        shift = s.shift;
        least = s.least;
        most = s.most;
        unit = s.unit;
        comment = s.comment;
        spn = s.spn;
        label = s.label;
        decimals = record {
          factor = s.decimals.factor;
          offset = s.decimals.offset;
          minimum = s.decimals.minimum;
          maximum = s.decimals.maximum;
        };
      };
    })
