use Rattle.dbc_write.proofs.Common.{◌≡◌, ◌++◌, take, flat_map}
use Rattle.dbc_write.proofs.tokens.push_all.Given as goal

abbrev pub invariant-loop-part : goal.invariant-loop-part
invariant-loop-part l = l.text.items ≡ l.initial.text.items ++ flat_map (λ part. part.now) (take l.part-index l.parts)
