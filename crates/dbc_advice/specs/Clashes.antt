-- What is reported of messages that aren't clear: a line for each of the first reasons.
use Rattle.std.specs.Prelude.{◌≡◌, ◌≤◌, ℕ, List, ◌++◌, map, take, length, codes, Vec}
use Rattle.std.specs.declared.alloc.Global.{Global}
use Rattle.std.specs.List.{flat_map}
use Rattle.bitlayout.specs.declared.clash.Clash.{Clash}
use Rattle.dbc_words.specs.Fault.{clash_code, code_name, code_number}
use Rattle.dbc_sheet.specs.Signals.{places_of}
use Rattle.dbc_sheet.specs.declared.message.Message.{Message}
use Rattle.dbc_advice.specs.Limits.{clashes_reported}
use Rattle.dbc_advice.specs.Position.{position_at}
use Rattle.dbc_advice.specs.Reasons.{reasons_from}
use Rattle.dbc_advice.specs.ReportedLine.{AreLinesOf, code_label, more_line, more_text, reported_line}
use Rattle.dbc_advice.specs.Unclear.{reason_text}
use Rattle.dbc_advice.specs.declared.reasons.ClashReason.{ClashReason}

-- a message, and a reason why it isn't clear
abbrev pub Clashing : Type 0
Clashing = Message × ClashReason

-- all reasons of a message, in order
abbrev pub message_clashes : Message → List Clashing
message_clashes m = map (λ (r : ClashReason). (m, r)) (reasons_from m.length (places_of m.signals) 0)

abbrev pub clashes_of : List Message → List Clashing
clashes_of messages = flat_map message_clashes messages

-- the code of a clash, and its name
abbrev pub clash_label : Clash → List ℕ
clash_label clash = code_label (code_number (clash_code clash)) (code_name (clash_code clash))

abbrev pub bytes_of : Vec ℕ Global → List ℕ
bytes_of v = v.items

-- the name of the code, and what is stated of the reason
abbrev pub clash_sentence : Clashing → List ℕ
clash_sentence c = code_name (clash_code c.1.clash) ++ (codes ": " ++ reason_text c.0 c.1)

-- the line of a reason, at an offset in the file
pub record IsClashLine (file text : List ℕ) (c : Clashing) (line : List ℕ) : Type 0 where
  pub at : ℕ
  pub within : at ≤ length text
  pub is : line ≡ reported_line file (position_at text at) (clash_label c.1.clash) (reason_text c.0 c.1)

-- the lines of the first reasons, in order, and whether there are more
pub record AreClashLines (file text : List ℕ) (messages : List Message) (out : List ℕ) : Type 0 where
  pub lines : List ℕ
  pub are : AreLinesOf (IsClashLine file text) (take clashes_reported (clashes_of messages)) lines
  pub whole : out ≡ lines ++ more_text file clashes_reported (length (clashes_of messages)) (codes "clashes")

-- the lines of these reasons of a message, and that there are more
pub record AreCutLines (file text : List ℕ) (m : Message) (reasons : List ClashReason) (out : List ℕ) : Type 0 where
  pub lines : List ℕ
  pub are : AreLinesOf (λ (r : ClashReason). IsClashLine file text (m, r)) reasons lines
  pub whole : out ≡ lines ++ more_line file clashes_reported (codes "clashes")
