use Rattle.dbc_advice.proofs.Common.{◌≡◌, [], take}
use Rattle.dbc_advice.specs.Clashes.{clashes_of}
use Rattle.dbc_advice.proofs.clashes.first_unclear.Given as goal

-- no message so far has a reason
abbrev pub invariant-loop-message : goal.invariant-loop-message
invariant-loop-message l = clashes_of (take l.message-index l.sheet.messages) ≡ []
