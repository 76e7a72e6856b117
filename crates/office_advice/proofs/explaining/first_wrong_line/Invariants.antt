use Rattle.std.proofs.Common.{◌+◌, ◌≤◌, ℕ, List, length}
use Rattle.office_script.specs.Lines.{lines_of}
use Rattle.office_advice.specs.Explained.{IsStatedOf}
use Rattle.office_advice.proofs.explaining.first_wrong_line.Given as goal

-- what is stated of the lines that are left is stated of all
abbrev pub invariant-loop-first : goal.invariant-loop-first
invariant-loop-first g l = record {
  stated : (stated : List ℕ) → IsStatedOf (g.F.FileSource.held l.files) l.name l.dash (l.number + 1) (lines_of l.rest)
      stated → IsStatedOf (g.F.FileSource.held l.files) l.name l.dash 1 (lines_of l.text) stated;
  room : l.number + length l.rest ≤ length l.text;
}

abbrev pub decreases-loop-first : goal.decreases-loop-first
decreases-loop-first g l = length l.rest
