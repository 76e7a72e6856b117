-- All that is reported of a file.
use Rattle.std.specs.Prelude.{◌≡◌, ℕ, ◌==◌, ◌++◌, List, [], drop, length, min, codes, decimal, if◌then◌else◌}
use Rattle.dbc_grammar.specs.Lexing.{lexed}
use Rattle.dbc_lex.specs.Fault.{code_name, code_number}
use Rattle.dbc_read.specs.declared.reading.Reading.{Reading}
use Rattle.dbc_advice.specs.Clashes.{AreClashLines}
use Rattle.dbc_advice.specs.LeftOut.{left_out}
use Rattle.dbc_advice.specs.Position.{position_at}
use Rattle.dbc_advice.specs.Sentence.{sentence_of}
use Rattle.dbc_advice.specs.Findings.{AreFindings}
use Rattle.dbc_advice.specs.Tokens.{IsFound, keyword_at}
use Rattle.dbc_advice.specs.ReportedLine.{AreLinesOf, code_label, reported_line}
use Rattle.dbc_advice.specs.declared.found.Found.{Found}
use Rattle.dbc_advice.specs.declared.findings.Ending.{Ending}
use Rattle.dbc_advice.specs.declared.findings.Ending.TheVariants.{Reads, Many, Long, Unchanged}
use Rattle.dbc_advice.specs.declared.findings.Findings.{Findings}
use Rattle.dbc_advice.specs.declared.findings.Reported.{Reported}

-- The line of a fault: at its offset in the file, with its code, and its sentence: for what is found there, for what
-- may be there, and for the keyword of the statement that begins with its lines.
pub record IsFaultLine (file text : List ℕ) (t : Reported) (line : List ℕ) : Type 0 where
  pub found : Found
  pub is_found : IsFound text (lexed (min t.fault.at (length text)) (drop (min t.fault.at (length text)) text)) found
  pub is : line ≡ reported_line file (position_at text (min t.fault.at (length text)))
      (code_label (code_number t.fault.code) (code_name t.fault.code))
      (sentence_of t.fault.code found t.wanted.items (keyword_at text (min t.lines.first (length text))) t.hint)

-- the lines of faults, in order
abbrev pub AreFaultLines : List ℕ → List ℕ → List Reported → List ℕ → Type 0
AreFaultLines file text reported lines = AreLinesOf (IsFaultLine file text) reported lines

-- why no more faults are reported
abbrev pub ending_text : Ending → List ℕ
ending_text (Reads reading) = codes "the rest is valid"
ending_text Many = codes "there may be more"
ending_text Long = codes "the file is too long to look for more"
ending_text Unchanged = codes "no more can be looked for"

-- one fault, or so many faults
abbrev pub fault_word : ℕ → List ℕ
fault_word count = if count == 1 then codes "fault" else codes "faults"

-- the last line: how many faults are shown, and why no more
abbrev pub count_line : List ℕ → ℕ → Ending → List ℕ
count_line file reported ending =
    file ++ (codes ": " ++ (decimal reported
    ++ (codes " " ++ (fault_word reported ++ (codes " shown; " ++ (ending_text ending ++ codes "\n"))))))

-- of a file that reads: why messages aren't clear, and what the sheet leaves out
pub record IsStatedOfSheet (file text : List ℕ) (reading : Reading) (out : List ℕ) : Type 0 where
  pub clashes : List ℕ
  pub are_clashes : AreClashLines file text reading.sheet.messages clashes
  pub whole : out ≡ clashes ++ left_out file text reading.sheet reading.passed

-- what comes after the lines of the faults: of a file that reads what is stated of its sheet, and else their count
abbrev pub IsRest : List ℕ → List ℕ → List Reported → Ending → List ℕ → Type 0
IsRest file text [] (Reads reading) rest = IsStatedOfSheet file text reading rest
IsRest file text reported ending rest = rest ≡ count_line file (length reported) ending

-- the lines of the faults of the text, one after the other, and then the rest
pub record IsExplained (file text out : List ℕ) : Type 0 where
  pub findings : Findings
  pub is : AreFindings text findings
  pub faults : List ℕ
  pub lines : AreFaultLines file text findings.reported.items faults
  pub rest : List ℕ
  pub is_rest : IsRest file text findings.reported.items findings.ending rest
  pub whole : out ≡ faults ++ rest
