-- What the marks of a comparison say of receivers.
use Rattle.std.specs.Prelude.{◌≡◌, ◌<◌, ◌↔◌, ℕ, true, false, List, length, count_by, All, Contains, Some}
use Rattle.bitlayout.specs.Bits.{IsInside}
use Rattle.bitlayout.specs.Weight.{by_weight}
use Rattle.bitlayout.specs.declared.layout.Layout.{Layout}
use Rattle.dbc_compare.specs.Differences.{differences}
use Rattle.dbc_compare.specs.List.{breaks}
use Rattle.dbc_compare.specs.declared.difference.Difference.{Difference}
use Rattle.dbc_words.specs.Named.{has_name}
use Rattle.dbc_sheet.specs.Messages.{IsClearMessage, message_name}
use Rattle.dbc_sheet.specs.declared.message.Message.{Message}
use Rattle.dbc_sheet.specs.declared.sheet.Sheet.{Sheet}
use Rattle.dbc_sheet.specs.declared.signal.Signal.{Signal}
use Rattle.dbc_sheet.specs.Sheet.{IsClearSheet}
use Rattle.dbc_decode.specs.Decoding.{Decoded, Frame, Read, Reading, bits_number, decode, read}

-- no line is marked
abbrev pub NoneBreaks : Sheet → Sheet → Type 0
NoneBreaks old new = (d : Difference) → Contains (differences old new) d → breaks d ≡ false

-- that is what the last line prints as `breaking 0`
abbrev pub BreakingNone : Sheet → Sheet → Type 0
BreakingNone old new = count_by breaks (differences old new) ≡ 0 → NoneBreaks old new

-- From a frame with the new signals a receiver of the old signal reads what the new signal says, whatever the payload.
pub record IsReadAs (old new : Message) (s t : Signal) : Type 0 where
  pub named : t.name ≡ s.name
  -- what is read is what is meant
  pub meant : (payload : List ℕ) (r : Reading) → read old.signals payload s ≡ Some r
      → read new.signals payload t ≡ Some r
  -- and nothing is missed, where the old message is clear
  pub all : IsClearMessage old → (payload : List ℕ) → read old.signals payload s ≡ read new.signals payload t

-- The new message serves the receivers of the old one: they take its frames, and read each of their signals.
pub record Serves (old new : Message) : Type 0 where
  pub ident : new.ident ≡ old.ident
  pub length : new.length ≡ old.length
  pub signals : (s : Signal) → Contains old.signals s → (t : Signal) × Contains new.signals t × IsReadAs old new s t

-- The new message is the old one: it has its name, or the old name is gone and the new one is new.
pub record IsTheSame (old new : Sheet) (m p : Message) : Type 0 where
  pub renamed : (has_name message_name new.messages m.name ≡ true) → p.name ≡ m.name
  pub new_name : (has_name message_name old.messages p.name ≡ true) → p.name ≡ m.name

-- Where no line is marked, each message of the old sheet is served by the one that is its own.
abbrev pub UnmarkedIsRead : Sheet → Sheet → Type 0
UnmarkedIsRead old new = NoneBreaks old new → (m : Message) → Contains old.messages m
    → (p : Message) × Contains new.messages p × Serves m p × IsTheSame old new m p

-- The same of frames: what the old sheet's receiver reads from a frame is what the new sheet says of it. Each signal of
-- the message, by its name, has the same value, or is absent in both; the new sheet may say more.
pub record SaysAsMuch (before after : Decoded) : Type 0 where
  pub each : (r : Read) → Contains before.signals r → Contains after.signals r

abbrev pub UnmarkedFramesAreRead : Sheet → Sheet → Type 0
UnmarkedFramesAreRead old new =
    NoneBreaks old new → IsClearSheet old → (f : Frame) (before : Decoded) → decode old f ≡ Some before
    → (after : Decoded) × (decode new f ≡ Some after) × SaysAsMuch before after

-- ---- which changes of a layout are seen

-- the payload of a frame: so many bytes
pub record IsPayload (bytes : ℕ) (payload : List ℕ) : Type 0 where
  pub count : length payload ≡ bytes
  pub each : All (λ b. b < 256) payload

-- Two layouts in a payload have the same number in each payload if and only if they have the same positions by weight.
abbrev pub LayoutsTellApart : Type 0
LayoutsTellApart =
    (a b : Layout) (bytes : ℕ) → IsInside a bytes → IsInside b bytes
    → (by_weight a ≡ by_weight b) ↔ ((payload : List ℕ) → IsPayload bytes payload
    → bits_number payload (by_weight a) ≡ bits_number payload (by_weight b))
