use Rattle.canoffice_cli.proofs.Common.{◌≡◌, ◌+◌, ◌≤◌, length, lines_of}
use Rattle.canoffice_cli.specs.Jobs.Sent.{requesting_line}
use Rattle.canoffice_cli.proofs.jobs.sending.line_of.Given as goal

-- the line is among the rest
abbrev pub invariant-loop-first : goal.invariant-loop-first
invariant-loop-first l = record {
  room : l.number + length l.rest ≤ length l.script;
  same : requesting_line 1 l.index (lines_of l.script) ≡ requesting_line (l.number + 1) l.left (lines_of l.rest);
}

abbrev pub decreases-loop-first : goal.decreases-loop-first
decreases-loop-first l = length l.rest
