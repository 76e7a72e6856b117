-- What is first amiss in a file: its fault, or why its first message that isn't clear isn't.
use Rattle.std.specs.Prelude.{◌≡◌, ◌≤◌, ◌⊎◌, ℕ, List, [], ◌∷◌, Option, Some, None, drop, length, map, min}
use Rattle.dbc_grammar.specs.Lexing.{lexed}
use Rattle.dbc_grammar.specs.Reads.{ReadsAs}
use Rattle.dbc_lex.specs.Fault.{code_name, code_number}
use Rattle.dbc_read.specs.Passed.{start_and_keyword}
use Rattle.dbc_read.specs.declared.reading.Reading.{Reading}
use Rattle.dbc_advice.specs.Clashes.{Clashing, clash_label, clashes_of}
use Rattle.dbc_advice.specs.Findings.{IsReported}
use Rattle.dbc_advice.specs.Position.{position_at}
use Rattle.dbc_advice.specs.ReportedLine.{code_label}
use Rattle.dbc_advice.specs.Sentence.{sentence_of}
use Rattle.dbc_advice.specs.Tokens.{IsFound, keyword_at}
use Rattle.dbc_advice.specs.Unclear.{reason_text}
use Rattle.dbc_advice.specs.declared.findings.Reported.{Reported}
use Rattle.dbc_advice.specs.declared.first.Stated.{Stated}
use Rattle.dbc_advice.specs.declared.found.Found.{Found}

-- a fault: where it is, its code, and its sentence, as a line of the fault has them
pub record IsStatedFault (text : List ℕ) (t : Reported) (s : Stated) : Type 0 where
  pub found : Found
  pub is_found : IsFound text (lexed (min t.fault.at (length text)) (drop (min t.fault.at (length text)) text)) found
  pub position : s.position ≡ position_at text (min t.fault.at (length text))
  pub label : s.label.items ≡ code_label (code_number t.fault.code) (code_name t.fault.code)
  pub sentence : s.sentence.items
      ≡ sentence_of t.fault.code found t.wanted.items (keyword_at text (min t.lines.first (length text))) t.hint

-- a reason why a message isn't clear, at an offset in the file
pub record IsStatedClash (text : List ℕ) (c : Clashing) (s : Stated) : Type 0 where
  pub at : ℕ
  pub within : at ≤ length text
  pub position : s.position ≡ position_at text at
  pub label : s.label.items ≡ clash_label c.1.clash
  pub sentence : s.sentence.items ≡ reason_text c.0 c.1

-- the first of the reasons, if there are any
abbrev pub IsFirstClash : List ℕ → List Clashing → Option Stated → Type 0
IsFirstClash text [] None = Unit {0}
IsFirstClash text [] (Some s) = ⊥
IsFirstClash text (c ∷ clashes) None = ⊥
IsFirstClash text (c ∷ clashes) (Some s) = IsStatedClash text c s

abbrev pub IsFirstFault : List ℕ → Reported → Option Stated → Type 0
IsFirstFault text t None = ⊥
IsFirstFault text t (Some s) = IsStatedFault text t s

-- of a file that reads the first reason why a message isn't clear, and of another one its fault
abbrev pub IsFirst : List ℕ → Option Stated → Type 0
IsFirst text found =
    ((reading : Reading) × ReadsAs text reading.sheet (map start_and_keyword reading.passed)
    × IsFirstClash text (clashes_of reading.sheet.messages) found)
    ⊎ ((t : Reported) × IsReported text t × IsFirstFault text t found)
