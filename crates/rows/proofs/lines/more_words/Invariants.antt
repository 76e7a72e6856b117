use Rattle.rows.proofs.Common.{◌≡◌, ◌++◌, codes, take, flat_map, word}
use Rattle.rows.proofs.lines.more_words.Given as goal

abbrev pub invariant-loop-bytes : goal.invariant-loop-bytes
invariant-loop-bytes l = l.text.items ≡ flat_map (λ t. codes "," ++ word t.now) (take l.bytes-index l.texts)
