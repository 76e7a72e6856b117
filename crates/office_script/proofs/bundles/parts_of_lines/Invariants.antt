use Rattle.std.proofs.Common.{◌≡◌, ◌++◌, length}
use Rattle.std.specs.Option.{option_map}
use Rattle.office_script.specs.Bundles.{parts_of_lines}
use Rattle.office_script.specs.Lines.{lines_of}
use Rattle.office_script.proofs.bundles.parts_of_lines.Given as goal

-- the parts so far, and those of the lines that are left
abbrev pub invariant-loop-first : goal.invariant-loop-first
invariant-loop-first l = parts_of_lines (lines_of l.bytes) ≡ option_map (λ more. l.parts ++ more)
    (parts_of_lines (lines_of l.rest))

abbrev pub decreases-loop-first : goal.decreases-loop-first
decreases-loop-first l = length l.rest
