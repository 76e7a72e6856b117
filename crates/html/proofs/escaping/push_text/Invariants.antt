use Rattle.std.proofs.Common.{◌≡◌, ◌++◌, drop}
use Rattle.html.specs.Text.{escaped, written_after}
use Rattle.html.proofs.escaping.push_text.Given as goal

-- what is written so far, and what is left to write
abbrev pub invariant-loop-index : goal.invariant-loop-index
invariant-loop-index l = l.initial.text.items ++ escaped l.bytes
    ≡ l.text.items ++ written_after l.skip (drop l.index l.bytes)
