use Rattle.dbc_read.proofs.Building.{pairs_moved}
use Rattle.dbc_read.proofs.messages.by_number.Goals as goal

pub returns : goal.returns
returns c =
    pairs_moved c.args.lines.items _ c.args.comments _ c.in_ok-pairs.pairs.items c.sort_by_key.new.self.items
    c.in_ok-pairs.ensures c.in_ok-sort_by_key.ensures.permutation c.in_ok-apart.ensures.lines
    c.in_ok-apart.ensures.comments
