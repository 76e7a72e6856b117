-- Why a part of a sheet isn't built.
use Rattle.std.specs.Prelude.{⊤}
use Rattle.dbc_words.specs.declared.fault.SheetCode.{SheetCode}
use Rattle.dbc_words.specs.declared.fault.SheetCode.TheVariants as sheets
use Rattle.dbc_read.specs.declared.refusal.Refusal.{Refusal}
use Rattle.dbc_read.specs.declared.refusal.Refusal.TheVariants.{Memory, NoSheet}

-- what holds of a refusal, unless it is out of memory
abbrev pub Unless : Refusal → Type 0 → Type 0
Unless Memory P = ⊤
Unless NoSheet P = P

abbrev pub refusal_of : SheetCode → Refusal
refusal_of sheets.DoubleNumber = NoSheet
refusal_of sheets.DoubleName = NoSheet
refusal_of sheets.OutsidePayload = NoSheet
refusal_of sheets.Clash = NoSheet
refusal_of sheets.NoMultiplexor = NoSheet
refusal_of sheets.TwoMultiplexors = NoSheet
refusal_of sheets.TooMany = NoSheet
refusal_of sheets.Memory = Memory
