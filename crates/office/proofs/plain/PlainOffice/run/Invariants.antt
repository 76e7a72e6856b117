use Rattle.office.proofs.Common.{take, HasRun}
use Rattle.office.proofs.plain.PlainOffice.run.Given as goal

abbrev pub invariant-loop-team : goal.invariant-loop-team
invariant-loop-team l = HasRun l.fn.self (take l.team-index l.requests) l.fn.replies.items l.replies.items l.self
