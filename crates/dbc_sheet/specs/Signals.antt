-- The signals of a message (Vector's DBC File Format Documentation, signals and their multiplexer indicators).
use Rattle.std.specs.Prelude.{◌≡◌, ◌≤◌, ◌&&◌, ℕ, Bool, nat_le, List, [], ◌∷◌, length, map, Option}
use Rattle.std.specs.List.{IsDistinct, list_any}
use Rattle.base.specs.Refusing.{Test}
use Rattle.bitlayout.specs.Mux.{is_multiplexor}
use Rattle.bitlayout.specs.declared.place.Place.{Place}
use Rattle.dbc_words.specs.Limits.{signal_limit}
use Rattle.dbc_words.specs.Named.{AreNamedApart, at_named, has_name, thing_named, without_named}
use Rattle.dbc_words.specs.declared.fault.SheetCode.{SheetCode}
use Rattle.dbc_words.specs.declared.fault.SheetCode.TheVariants.{DoubleName, TooMany, TwoMultiplexors}
use Rattle.dbc_sheet.specs.Signal.{place_of}
use Rattle.dbc_sheet.specs.declared.signal.Signal.{Signal}

abbrev pub signal_name : Signal → List ℕ
signal_name s = s.name

-- the signal of a name
abbrev pub signal_named : List Signal → List ℕ → Option Signal
signal_named = thing_named signal_name

-- all but the one of this name
abbrev pub without_signal : List Signal → List ℕ → List Signal
without_signal = without_named signal_name

-- the signals, the one of this name changed
abbrev pub at_signal : (Signal → Signal) → List ℕ → List Signal → List Signal
at_signal = at_named signal_name

-- whether a signal is the multiplexor
abbrev pub signal_is_multiplexor : Signal → Bool
signal_is_multiplexor s = is_multiplexor s.mux

-- whether one of them is
abbrev pub has_multiplexor : List Signal → Bool
has_multiplexor signals = list_any signal_is_multiplexor signals

-- no two of them are
abbrev pub HaveOneMultiplexor : List Signal → Type 0
HaveOneMultiplexor signals = IsDistinct (λ a b. signal_is_multiplexor a && signal_is_multiplexor b) signals

-- The signals of one message: no two have the same name, no two are the multiplexor, and they are at most as many as
-- the limit.
pub record AreSignals (signals : List Signal) : Type 0 where
  pub apart : AreNamedApart signal_name signals
  pub one_multiplexor : HaveOneMultiplexor signals
  pub few : length signals ≤ signal_limit

-- why one more signal is refused
abbrev pub signal_tests : List Signal → Signal → List (Test SheetCode)
signal_tests signals s = record { holds = nat_le signal_limit (length signals); refusal = TooMany }
    ∷ record { holds = has_name signal_name signals s.name; refusal = DoubleName }
    ∷ record { holds = signal_is_multiplexor s && has_multiplexor signals; refusal = TwoMultiplexors } ∷ []

-- the places of the signals, in order
abbrev pub places_of : List Signal → List Place
places_of signals = map place_of signals

-- what the code keeps in addition to the signals: whether one of them is the multiplexor
pub record IsMultiplexorKnown (signals : List Signal) (multiplexed : Bool) : Type 0 where
  pub one_multiplexor : HaveOneMultiplexor signals
  pub known : multiplexed ≡ has_multiplexor signals
