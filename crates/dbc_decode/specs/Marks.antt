-- Which changes of a signal a receiver sees: those that a comparison marks, no more and no less.
use Rattle.std.specs.Prelude.{◌≡◌, ℕ, Bool, false, List, Contains}
use Rattle.bitlayout.specs.Bits.{IsInside}
use Rattle.bitlayout.specs.Weight.{by_weight}
use Rattle.dbc_sheet.specs.Form.{IsSignal}
use Rattle.dbc_sheet.specs.declared.signal.Signal.{Signal}
use Rattle.dbc_compare.specs.Differences.{signal_changes}
use Rattle.dbc_compare.specs.declared.difference.Alteration.{Alteration}
use Rattle.dbc_compare.specs.declared.difference.Alteration.TheVariants as change
use Rattle.dbc_decode.specs.Decoding.{coding_of, reading}
use Rattle.dbc_decode.specs.Laws.{IsPayload}

-- the change of a field is marked
abbrev pub is_marked : Alteration → Bool
is_marked (change.Changed f breaks old new) = breaks
is_marked c = false

-- no change of the signal is marked
abbrev pub NoneMarked : Signal → Signal → Type 0
NoneMarked a b = (c : Alteration) → Contains (signal_changes a b) c → is_marked c ≡ false

-- the same bits, taken in the same way, there for the same values of the multiplexor, with the same factor and offset
pub record ReadsAs (s t : Signal) : Type 0 where
  pub bits : by_weight s.layout ≡ by_weight t.layout
  pub coding : coding_of s ≡ coding_of t
  pub mux : s.mux ≡ t.mux
  pub factor : s.factor ≡ t.factor
  pub offset : s.offset ≡ t.offset

-- two signals are read alike from each payload, and are there for the same values of the multiplexor
pub record AreReadAlike (a b : Signal) : Type 0 where
  pub mux : a.mux ≡ b.mux
  pub reading : (payload : List ℕ) → reading payload a ≡ reading payload b

-- where no change is marked, they are
abbrev pub UnmarkedSignalIsRead : Type 0
UnmarkedSignalIsRead = (a b : Signal) → IsSignal a → IsSignal b → NoneMarked a b → AreReadAlike a b

-- and where they are the same to a receiver, none is marked
abbrev pub ReadIsUnmarked : Type 0
ReadIsUnmarked = (a b : Signal) → ReadsAs a b → NoneMarked a b

-- Signals inside a payload that are read alike from each payload and are there for the same values of the multiplexor:
-- no change of them is marked. So a change that is marked is read from some payload.
abbrev pub MarkedIsRead : Type 0
MarkedIsRead =
    (a b : Signal) (bytes : ℕ) → IsSignal a → IsSignal b → IsInside a.layout bytes → IsInside b.layout bytes
    → a.mux ≡ b.mux
    → ((payload : List ℕ) → IsPayload bytes payload → reading payload a ≡ reading payload b)
    → NoneMarked a b
