use Rattle.std.proofs.Common.{refl, arith}
use Rattle.can_id.proofs.Packing.{packed_group}
use Rattle.can_id.proofs.Groups.{page_bit_below}
use Rattle.can_id.proofs.j1939.J1939.pgn.Goals as goal

pub returns-clause-value : goal.returns-clause-value
returns-clause-value c = grind (arith, packed_group, page_bit_below)

pub returns-clause-pgn : goal.returns-clause-pgn
returns-clause-pgn c = rw (returns-clause-value c)
    (c.args.self, record { ranges = rw c.self.view_is at c.self.invariant; pgn = refl })
