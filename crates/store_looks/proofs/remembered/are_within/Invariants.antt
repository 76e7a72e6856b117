use Rattle.store_looks.proofs.Common.{◌≡◌, ◌+◌, take, text_bytes}
use Rattle.store_looks.proofs.remembered.are_within.Given as goal

-- what the texts so far leave of the limit
abbrev pub invariant-loop-text : goal.invariant-loop-text
invariant-loop-text l = text_bytes (take l.text-index l.texts) + l.room ≡ l.limit
