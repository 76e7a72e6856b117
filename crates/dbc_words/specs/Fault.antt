-- The faults of sheets, with their numbers and names.
use Rattle.std.specs.Prelude.{◌≡◌, ⊤, ℕ, List, ◌++◌, Option, Some, None, codes}
use Rattle.std.specs.Fmt.{decimal}
use Rattle.bitlayout.specs.declared.clash.Clash.{Clash as BitClash}
use Rattle.bitlayout.specs.declared.clash.Clash.TheVariants as clash
use Rattle.dbc_words.specs.declared.fault.About.{About}
use Rattle.dbc_words.specs.declared.fault.About.TheVariants as about
use Rattle.dbc_words.specs.declared.fault.SheetCode.{SheetCode}
use Rattle.dbc_words.specs.declared.fault.SheetCode.TheVariants.{DoubleNumber, DoubleName, OutsidePayload, Clash}
use Rattle.dbc_words.specs.declared.fault.SheetCode.TheVariants.{NoMultiplexor, TwoMultiplexors, TooMany, Memory}

abbrev pub code_number : SheetCode → ℕ
code_number DoubleNumber = 20
code_number DoubleName = 21
code_number OutsidePayload = 22
code_number Clash = 23
code_number NoMultiplexor = 24
code_number TwoMultiplexors = 25
code_number TooMany = 26
code_number Memory = 71

abbrev pub code_name : SheetCode → List ℕ
code_name DoubleNumber = codes "DoubleNumber"
code_name DoubleName = codes "DoubleName"
code_name OutsidePayload = codes "OutsidePayload"
code_name Clash = codes "Clash"
code_name NoMultiplexor = codes "NoMultiplexor"
code_name TwoMultiplexors = codes "TwoMultiplexors"
code_name TooMany = codes "TooMany"
code_name Memory = codes "Memory"

-- the code of a clash of a message's signals
abbrev pub clash_code : BitClash → SheetCode
clash_code (clash.Outside i) = OutsidePayload
clash_code (clash.Overlap j i) = Clash
clash_code (clash.NoMultiplexor i) = NoMultiplexor
clash_code (clash.TwoMultiplexors i) = TwoMultiplexors

-- the number of the message that a fault is about
abbrev pub message_about : About → Option ℕ
message_about about.Sheet = None
message_about about.Node = None
message_about about.Table = None
message_about (about.Message number) = Some number
message_about (about.Signals number clash) = Some number

-- what a fault is about, in words
abbrev pub about_text : About → List ℕ
about_text about.Sheet = codes "the sheet"
about_text about.Node = codes "a node"
about_text about.Table = codes "a value table"
about_text (about.Message number) = codes "message " ++ decimal number
about_text (about.Signals number clash) = codes "signals of message " ++ decimal number

-- A call that is refused returns the first of its tests that holds, or out of memory instead.
abbrev pub IsRefusal : Option SheetCode → SheetCode → Type 0
IsRefusal refusal DoubleNumber = refusal ≡ Some DoubleNumber
IsRefusal refusal DoubleName = refusal ≡ Some DoubleName
IsRefusal refusal OutsidePayload = refusal ≡ Some OutsidePayload
IsRefusal refusal Clash = refusal ≡ Some Clash
IsRefusal refusal NoMultiplexor = refusal ≡ Some NoMultiplexor
IsRefusal refusal TwoMultiplexors = refusal ≡ Some TwoMultiplexors
IsRefusal refusal TooMany = refusal ≡ Some TooMany
IsRefusal refusal Memory = ⊤

-- what holds of a fault with this code, unless it is out of memory
abbrev pub IsMemoryOr : SheetCode → Type 0 → Type 0
IsMemoryOr Memory P = ⊤
IsMemoryOr DoubleNumber P = P
IsMemoryOr DoubleName P = P
IsMemoryOr OutsidePayload P = P
IsMemoryOr Clash P = P
IsMemoryOr NoMultiplexor P = P
IsMemoryOr TwoMultiplexors P = P
IsMemoryOr TooMany P = P
