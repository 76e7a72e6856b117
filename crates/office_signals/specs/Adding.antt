-- The signal that a command adds to its message.
use Rattle.std.specs.Prelude.{◌≡◌, ℕ, List, Some, None, Result, Ok, Err}
use Rattle.base.specs.Refusing.{first_refusal}
use Rattle.dbc_sheet.specs.Signals.{places_of, signal_tests}
use Rattle.dbc_sheet.specs.declared.signal.Signal.{Signal}
use Rattle.office_types.specs.declared.command.TakeBits.{TakeBits}
use Rattle.office_types.specs.declared.refusal.Refusal.{Refusal}
use Rattle.office_types.specs.declared.state.LiveMessage.{LiveMessage}
use Rattle.office_rules.specs.Facts.{MessageFacts}
use Rattle.office_rules.specs.Signals.{new_signal, start_given, take_bits_tests}

-- No test refuses the command. Its message is live and may have the signal, which is the new one from the start that is
-- given.
pub record AddsSignal (team : List ℕ) (facts : MessageFacts) (c : TakeBits) (s : Signal) : Type 0 where
  pub passed : first_refusal (take_bits_tests team facts c) ≡ None
  pub live : LiveMessage
  pub there : facts.found ≡ Some live
  pub given : start_given (places_of live.message.signals) live.message.length c ≡ Some s.layout.start
  pub new : s ≡ new_signal c s.layout.start
  pub fits : first_refusal (signal_tests live.message.signals s) ≡ None

-- the command adds this signal, or this is the first refusal
abbrev pub IsNewSignal : List ℕ → MessageFacts → TakeBits → Result Signal Refusal → Type 0
IsNewSignal team facts c (Ok s) = AddsSignal team facts c s
IsNewSignal team facts c (Err r) = first_refusal (take_bits_tests team facts c) ≡ Some r
