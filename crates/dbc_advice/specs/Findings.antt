-- The faults of a text, reported one after the other.
use Rattle.std.specs.Prelude.{◌≡◌, ◌<◌, ◌≤◌, ◌*◌, ℕ, List, [], ◌∷◌, ◌++◌, length, map, All}
use Rattle.dbc_grammar.specs.Reads.{ReadsAs}
use Rattle.dbc_read.specs.Passed.{start_and_keyword}
use Rattle.dbc_read.specs.Reading.{IsReadFault}
use Rattle.dbc_advice.specs.Blanked.{blanked}
use Rattle.dbc_advice.specs.FaultyLines.{AreLines}
use Rattle.dbc_advice.specs.Limits.{bytes_read_again, faults_reported}
use Rattle.dbc_advice.specs.MayBeThere.{MayBeThere}
use Rattle.dbc_advice.specs.Pieces.{statement_before}
use Rattle.dbc_advice.specs.declared.faulty_lines.Lines.{Lines}
use Rattle.dbc_advice.specs.declared.findings.Ending.{Ending}
use Rattle.dbc_advice.specs.declared.findings.Ending.TheVariants.{Reads, Many, Long, Unchanged}
use Rattle.dbc_advice.specs.declared.findings.Next.{Next}
use Rattle.dbc_advice.specs.declared.findings.Next.TheVariants as next
use Rattle.dbc_advice.specs.declared.findings.Findings.{Findings}
use Rattle.dbc_advice.specs.declared.findings.Reported.{Reported}

abbrev pub without : Lines → List ℕ → List ℕ
without lines text = blanked lines.first lines.last text

-- the lines up to that of the offset are blank
abbrev pub IsBlankUpTo : List ℕ → ℕ → Type 0
IsBlankUpTo text at = blanked 0 at text ≡ text

-- The fault of the text, lines of it, and what may come after the statement that begins with them. The lines are blank
-- already only if all lines up to that of the fault are.
pub record IsReported (text : List ℕ) (t : Reported) : Type 0 where
  pub fault : IsReadFault text t.fault
  pub lines : AreLines text t.fault.at t.lines
  pub blank : without t.lines text ≡ text → IsBlankUpTo text t.fault.at
  pub wanted : All (MayBeThere (statement_before text t.lines.first t.fault.at)) t.wanted.items

-- what a text gives next: a fault, or an end
abbrev pub IsNext : List ℕ → Next → Type 0
IsNext text (next.Reads reading) = ReadsAs text reading.sheet (map start_and_keyword reading.passed)
IsNext text (next.Fault t) = IsReported text t

-- each is the fault of the text with the lines reported before it blanked; and what the text is at the end
abbrev pub AreReported : List ℕ → List Reported → List ℕ → Type 0
AreReported text [] left = text ≡ left
AreReported text (t ∷ reported) left = IsReported text t × AreReported (without t.lines text) reported left

-- the last of those reported is the fault of what is left, and its lines and all before them were blank already
pub record IsUnchanged (source : List ℕ) (reported : List Reported) (left : List ℕ) : Type 0 where
  pub earlier : List Reported
  pub last : Reported
  pub reported_is : reported ≡ earlier ++ last ∷ []
  pub before : AreReported source earlier left
  pub fault : IsReported left last
  pub blank : IsBlankUpTo left last.fault.at

-- Why no more are reported, of a text and after these: what is left reads as a sheet; enough are reported; the text
-- would be read again for more bytes than that; or blanking changes nothing more.
abbrev pub EndsBy : List ℕ → List Reported → List ℕ → Ending → Type 0
EndsBy source reported left (Reads reading) = ReadsAs left reading.sheet (map start_and_keyword reading.passed)
EndsBy source reported left Many = length reported ≡ faults_reported
EndsBy source reported left Long = bytes_read_again < length reported * length source
EndsBy source reported left Unchanged = IsUnchanged source reported left

pub record AreFindings (source : List ℕ) (t : Findings) : Type 0 where
  pub left : List ℕ
  pub reported : AreReported source t.reported.items left
  pub few : length t.reported.items ≤ faults_reported
  pub ends : EndsBy source t.reported.items left t.ending
