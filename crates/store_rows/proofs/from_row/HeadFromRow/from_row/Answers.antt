use Rattle.store_rows.proofs.Values.{one_number, whole_head}
use Rattle.store_rows.proofs.from_row.HeadFromRow.from_row.Goals as goal

pub returns : goal.returns
returns c other shows =
    whole_head c.in_ok-kind.kind c.in_ok-reviews.reviews c.in_ok-phase.phase c.in_ok-frame.frame other
    (c.in_ok-kind.ensures other.kind shows.kind)
    (one_number _ c.in_ok-reviews.reviews other.reviews c.in_ok-reviews.ensures shows.reviews)
    (c.in_ok-phase.ensures other.phase shows.phase)
    (c.in_ok-frame.ensures shows.text other.frame shows.frame shows.reads)
