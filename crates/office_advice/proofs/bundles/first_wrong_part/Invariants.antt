use Rattle.std.proofs.Common.{◌≡◌, ◌+◌, ◌≤◌, length}
use Rattle.office_script.specs.Lines.{lines_of}
use Rattle.office_advice.specs.Explained.{first_wrong_part}
use Rattle.office_advice.proofs.bundles.first_wrong_part.Given as goal

-- the lines before are right
abbrev pub invariant-loop-first : goal.invariant-loop-first
invariant-loop-first l = record {
  stated : first_wrong_part l.path 1 (lines_of l.bytes) ≡ first_wrong_part l.path (l.number + 1) (lines_of l.rest);
  room : l.number + length l.rest ≤ length l.bytes;
}

abbrev pub decreases-loop-first : goal.decreases-loop-first
decreases-loop-first l = length l.rest
