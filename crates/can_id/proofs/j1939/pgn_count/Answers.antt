use Rattle.std.proofs.Common.{sym}
use Rattle.can_id.proofs.Counting.{pgn_count_is}
use Rattle.can_id.proofs.j1939.pgn_count.Goals as goal

pub returns : goal.returns
returns c = sym pgn_count_is
