use Rattle.std.proofs.Common.{◌≡◌, take}
use Rattle.columns.specs.Word.{later_words}
use Rattle.columns.proofs.escaping.later_words.Given as goal

abbrev pub invariant-loop-bytes : goal.invariant-loop-bytes
invariant-loop-bytes g l = l.text.items ≡ later_words (take l.bytes-index l.texts)
