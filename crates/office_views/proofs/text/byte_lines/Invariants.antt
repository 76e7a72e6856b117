use Rattle.std.proofs.Common.{◌≡◌}
use Rattle.std.specs.List.{flat_map, range_with_len}
use Rattle.office_views.specs.Text.{byte_line}
use Rattle.office_views.proofs.text.byte_lines.Given as goal

abbrev pub invariant-loop-byte : goal.invariant-loop-byte
invariant-loop-byte l = l.lines.items ≡ flat_map (byte_line l.signals) (range_with_len 0 l.byte)
