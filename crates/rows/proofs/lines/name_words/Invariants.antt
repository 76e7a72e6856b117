use Rattle.rows.proofs.Common.{◌≡◌, map, take}
use Rattle.rows.specs.Lines.{spaced}
use Rattle.rows.proofs.lines.name_words.Given as goal

abbrev pub invariant-loop-byte : goal.invariant-loop-byte
invariant-loop-byte l = l.text.items ≡ map spaced (take l.byte-index l.byte-items)
