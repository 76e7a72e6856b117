use Rattle.std.proofs.Common.{arith}
use Rattle.std.proofs.lemmas.Bool.Decides.{nat_tests}
use Rattle.std.proofs.lemmas.Grind.{common_steps}
use Rattle.can_id.proofs.Groups.{pgn_decides}
use Rattle.can_id.proofs.j1939.is_pgn.Goals as goal

pub returns-then-not-is_pdu1-clause-pgn : goal.returns-then-not-is_pdu1-clause-pgn
returns-then-not-is_pdu1-clause-pgn c = pgn_decides c.args.number _ (grind (arith, nat_tests, common_steps))

pub returns-else-not-is_pdu1-clause-pgn : goal.returns-else-not-is_pdu1-clause-pgn
returns-else-not-is_pdu1-clause-pgn c = pgn_decides c.args.number _ (grind (arith, nat_tests, common_steps))
