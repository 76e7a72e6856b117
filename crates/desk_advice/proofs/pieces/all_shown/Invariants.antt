use Rattle.std.proofs.Common.{◌≡◌, take}
use Rattle.desk_advice.specs.Front.{all_shown}
use Rattle.desk_advice.proofs.pieces.all_shown.Given as goal

abbrev pub invariant-loop-byte : goal.invariant-loop-byte
invariant-loop-byte l = l.text.items ≡ all_shown (take l.byte-index l.bytes)
