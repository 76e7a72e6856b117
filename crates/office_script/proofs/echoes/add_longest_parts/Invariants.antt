use Rattle.std.proofs.Common.{◌≡◌, ◌++◌, drop}
use Rattle.office_script.specs.Echoes.{longest_parts}
use Rattle.office_script.proofs.echoes.add_longest_parts.Given as goal

abbrev pub invariant-loop-part : goal.invariant-loop-part
invariant-loop-part l = l.text.items ++ longest_parts l.key l.net (drop l.part-index l.parts)
    ≡ l.fn.text.items ++ longest_parts l.key l.net l.parts
