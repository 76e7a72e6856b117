use Rattle.std.proofs.Common.{◌≡◌, ◌++◌, length}
use Rattle.office_script.specs.Echoes.{part_lines}
use Rattle.office_script.proofs.echoes.add_parts.Given as goal

abbrev pub invariant-loop-parts : goal.invariant-loop-parts
invariant-loop-parts l = l.text.items ++ part_lines l.key l.net l.parts l.replies
    ≡ l.fn.text.items ++ part_lines l.key l.net l.fn.parts l.fn.replies

abbrev pub decreases-loop-parts : goal.decreases-loop-parts
decreases-loop-parts l = length l.parts
