-- The faults of reading a DBC text, with their numbers and names.
use Rattle.std.specs.Prelude.{◌≡◌, ℕ, List, codes}
use Rattle.dbc_grammar.specs.Lexing as lexing
use Rattle.dbc_lex.specs.declared.fault.ReadCode.{ReadCode}
use Rattle.dbc_lex.specs.declared.fault.ReadCode.TheVariants.{DoubleNumber, DoubleName, TwoMultiplexors, TooMany}
use Rattle.dbc_lex.specs.declared.fault.ReadCode.TheVariants.{UnclosedText, StrayByte, Unexpected, UnknownStatement}
use Rattle.dbc_lex.specs.declared.fault.ReadCode.TheVariants.{ExtendedMultiplexing, Number, Identifier, Name, Length}
use Rattle.dbc_lex.specs.declared.fault.ReadCode.TheVariants.{Size, Memory}
use Rattle.dbc_lex.specs.declared.fault.ReadFault.{ReadFault}

abbrev pub code_number : ReadCode → ℕ
code_number DoubleNumber = 20
code_number DoubleName = 21
code_number TwoMultiplexors = 25
code_number TooMany = 26
code_number UnclosedText = 30
code_number StrayByte = 31
code_number Unexpected = 32
code_number UnknownStatement = 33
code_number ExtendedMultiplexing = 34
code_number Number = 35
code_number Identifier = 36
code_number Name = 37
code_number Length = 38
code_number Size = 39
code_number Memory = 71

abbrev pub code_name : ReadCode → List ℕ
code_name DoubleNumber = codes "DoubleNumber"
code_name DoubleName = codes "DoubleName"
code_name TwoMultiplexors = codes "TwoMultiplexors"
code_name TooMany = codes "TooMany"
code_name UnclosedText = codes "UnclosedText"
code_name StrayByte = codes "StrayByte"
code_name Unexpected = codes "Unexpected"
code_name UnknownStatement = codes "UnknownStatement"
code_name ExtendedMultiplexing = codes "ExtendedMultiplexing"
code_name Number = codes "Number"
code_name Identifier = codes "Identifier"
code_name Name = codes "Name"
code_name Length = codes "Length"
code_name Size = codes "Size"
code_name Memory = codes "Memory"

-- what holds of a fault with this code, unless it is out of memory
abbrev pub UnlessMemory : ReadCode → Type 0 → Type 0
UnlessMemory code P = ¬ (code ≡ Memory) → P

-- the fault that the lexer returns: its code, and its offset
abbrev pub fault_of : lexing.LexFault → ReadFault
fault_of (lexing.UnclosedText offset) = record { code = UnclosedText; at = offset }
fault_of (lexing.StrayByte offset) = record { code = StrayByte; at = offset }
