use Rattle.std.proofs.Common.{◌≡◌, ◌+◌, take}
use Rattle.store_bodies.specs.ReadText.{text_bytes}
use Rattle.store_bodies.proofs.read_texts.count_within.Given as goal

-- what the texts so far leave of the limit
abbrev pub invariant-loop-count : goal.invariant-loop-count
invariant-loop-count l = text_bytes (take l.count l.texts) + l.room ≡ l.limit
