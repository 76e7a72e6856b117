use Rattle.canoffice_cli.proofs.Common.{◌≡◌, ◌++◌, drop, flat_map}
use Rattle.canoffice_cli.specs.Reasons.{reason_line}
use Rattle.canoffice_cli.proofs.reasons.Reasons.text.Given as goal

-- the lines so far, and those that are left, are all
abbrev pub invariant-loop-line : goal.invariant-loop-line
invariant-loop-line l = l.text.items ++ flat_map (reason_line l.script) (drop l.line-index l.lines)
    ≡ flat_map (reason_line l.script) l.lines
