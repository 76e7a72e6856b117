use Rattle.std.proofs.Common.{◌≡◌, take}
use Rattle.std.specs.List.{flat_map, enumerate_from}
use Rattle.office_views.specs.Text.{signal_line}
use Rattle.office_views.proofs.text.signal_lines.Given as goal

abbrev pub invariant-loop-index : goal.invariant-loop-index
invariant-loop-index l = l.lines.items ≡ flat_map (λ p. signal_line p.0 p.1) (enumerate_from 0 (take l.index l.signals))
