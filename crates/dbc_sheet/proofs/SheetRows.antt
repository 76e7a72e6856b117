-- Rows of sheets, computed.
use Rattle.dbc_sheet.proofs.Common.{◌≡◌, false, ℕ, List, [], ◌∷◌, Some, None, refl, codes, pos, put, first_refusal}
use Rattle.dbc_sheet.proofs.Common.{Intel, Mux, Multiplexor, Under, Std, Ext, Number, DoubleNumber, DoubleName}
use Rattle.dbc_sheet.proofs.Common.{TwoMultiplexors, TooMany, Integer}
use Rattle.std.specs.Prelude.{replicate}
use Rattle.dbc_words.specs.Named.{roster_tests}
use Rattle.dbc_sheet.specs.Messages.{by_number, message_at, message_tests, without_number}
use Rattle.dbc_sheet.specs.Sheet.{node_name, table_name}
use Rattle.dbc_sheet.specs.Signals.{signal_tests}
use Rattle.dbc_sheet.specs.declared.message.Message.{Message}
use Rattle.dbc_sheet.specs.declared.node.Node.{Node}
use Rattle.dbc_sheet.specs.declared.signal.Signal.{Signal}
use Rattle.dbc_sheet.specs.declared.value_table.ValueTable.{ValueTable}

abbrev first : Message
first = record { ident = Std 256; name = codes "A"; length = 8; transmitter = None; comment = []; signals = [] }

abbrev second : ℕ → List ℕ → Message
second n name = record { ident = Std n; name = name; length = 8; transmitter = None; comment = []; signals = [] }

abbrev extended : ℕ → List ℕ → Message
extended n name = record { ident = Ext n; name = name; length = 8; transmitter = None; comment = []; signals = [] }

abbrev node : List ℕ → Node
node name = record { name = name; comment = [] }

-- a second message of the number, of the name, of both, and of neither
row_number : first_refusal (message_tests (first ∷ []) (second 256 (codes "B"))) ≡ Some DoubleNumber
row_number = refl

row_name : first_refusal (message_tests (first ∷ []) (second 257 (codes "A"))) ≡ Some DoubleName
row_name = refl

row_both : first_refusal (message_tests (first ∷ []) (second 256 (codes "A"))) ≡ Some DoubleNumber
row_both = refl

row_neither : first_refusal (message_tests (first ∷ []) (second 257 (codes "B"))) ≡ None
row_neither = refl

-- an identifier of 29 bits has another number than one of 11 bits
row_extended : first_refusal (message_tests (first ∷ []) (extended 256 (codes "B"))) ≡ None
row_extended = refl

-- where a message goes, and what is left without one
row_put : put by_number (second 7 (codes "C")) (first ∷ extended 0 (codes "B") ∷ []) ≡ second 7 (codes "C") ∷ first
    ∷ extended 0 (codes "B") ∷ []
row_put = refl

row_found : message_at (first ∷ extended 0 (codes "B") ∷ []) 2147483648 ≡ Some (extended 0 (codes "B"))
row_found = refl

row_without : without_number (second 7 (codes "C") ∷ first ∷ []) 7 ≡ first ∷ []
row_without = refl

-- four messages that came in another order, one of 29 bits
abbrev four : List Message
four = put by_number (second 0 (codes "A"))
    (put by_number (second 2047 (codes "C"))
    (put by_number (second 7 (codes "B")) (put by_number (extended 0 (codes "D")) [])))

row_ascending : four ≡ second 0 (codes "A") ∷ second 7 (codes "B") ∷ second 2047 (codes "C") ∷ extended 0 (codes "D")
    ∷ []
row_ascending = refl

row_least : message_at four 0 ≡ Some (second 0 (codes "A"))
row_least = refl

row_greatest : message_at four 2047 ≡ Some (second 2047 (codes "C"))
row_greatest = refl

row_absent : message_at four 8 ≡ None
row_absent = refl

row_taken : message_at four 7 ≡ Some (second 7 (codes "B"))
row_taken = refl

-- without the message 7 its name is free again
abbrev three : List Message
three = without_number four 7

row_three : three ≡ second 0 (codes "A") ∷ second 2047 (codes "C") ∷ extended 0 (codes "D") ∷ []
row_three = refl

row_gone : message_at three 7 ≡ None
row_gone = refl

row_free_again : first_refusal (message_tests three (second 9 (codes "B"))) ≡ None
row_free_again = refl

row_back : message_at (put by_number (second 9 (codes "B")) three) 9 ≡ Some (second 9 (codes "B"))
row_back = refl

-- sheets of as many messages as there may be, and of one less: too many comes before any other refusal
row_full : first_refusal (message_tests (replicate 16384 first) (second 1 (codes "A"))) ≡ Some TooMany
row_full = refl

row_full_of_the_number : first_refusal (message_tests (replicate 16384 first) first) ≡ Some TooMany
row_full_of_the_number = refl

-- a node of the name of another
row_node : first_refusal (roster_tests node_name (node (codes "ECU") ∷ node (codes "Dash") ∷ []) (codes "Dash"))
    ≡ Some DoubleName
row_node = refl

row_new_node : first_refusal (roster_tests node_name (node (codes "ECU") ∷ []) (codes "Dash")) ≡ None
row_new_node = refl

row_full_of_nodes : first_refusal (roster_tests node_name (replicate 4096 (node (codes "N0"))) (codes "N0"))
    ≡ Some TooMany
row_full_of_nodes = refl

abbrev table : ValueTable
table = record { name = codes "OnOff"; entries = [] }

row_table : first_refusal (roster_tests table_name (table ∷ []) (codes "OnOff")) ≡ Some DoubleName
row_table = refl

row_new_table : first_refusal (roster_tests table_name [] (codes "OnOff")) ≡ None
row_new_table = refl

-- signals
abbrev zero : Number
zero = record { mantissa = pos 0; exponent = pos 0 }

abbrev signal : List ℕ → Mux → Signal
signal name mux = record {
  name = name;
  layout = record { start = 40; size = 8; order = Intel };
  signed = false;
  mux = mux;
  factor = record { mantissa = pos 1; exponent = pos 0 };
  offset = zero;
  minimum = zero;
  maximum = zero;
  unit = [];
  receivers = [];
  comment = [];
  spn = 0;
  values = [];
  value_type = Integer;
}

abbrev multiplexed_signals : List Signal
multiplexed_signals = signal (codes "Sel") Multiplexor ∷ signal (codes "Val") (Under 1) ∷ []

row_second_signal : first_refusal
    (signal_tests (signal (codes "Sel") Multiplexor ∷ []) (signal (codes "Val") (Under 1))) ≡ None
row_second_signal = refl

-- a second multiplexor of the name of another, and of its own name
row_second_name : first_refusal (signal_tests multiplexed_signals (signal (codes "Val") Multiplexor)) ≡ Some DoubleName
row_second_name = refl

row_second_multiplexor : first_refusal (signal_tests multiplexed_signals (signal (codes "Other") Multiplexor))
    ≡ Some TwoMultiplexors
row_second_multiplexor = refl

row_full_of_signals : first_refusal
    (signal_tests (replicate 4096 (signal (codes "S0") (Under 1))) (signal (codes "S0") Multiplexor)) ≡ Some TooMany
row_full_of_signals = refl
