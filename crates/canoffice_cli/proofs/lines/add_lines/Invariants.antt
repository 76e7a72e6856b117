use Rattle.canoffice_cli.proofs.Common.{◌≡◌, ◌++◌, drop, flat_map}
use Rattle.std.proofs.Common.{string_bytes}
use Rattle.canoffice_cli.proofs.lines.add_lines.Given as goal

abbrev pub invariant-loop-value : goal.invariant-loop-value
invariant-loop-value g l = string_bytes l.text ++ flat_map g.T.PrintedLine.line (drop l.value-index l.values)
    ≡ string_bytes l.fn.text ++ flat_map g.T.PrintedLine.line l.values
