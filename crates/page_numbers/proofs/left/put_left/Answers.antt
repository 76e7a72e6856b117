use Rattle.page_numbers.proofs.Common.{None, codes}
use Rattle.page_numbers.specs.Left.{left_body}
use Rattle.page_numbers.proofs.Closing.{part_closed}
use Rattle.page_numbers.proofs.left.put_left.Goals as goal

pub returns : goal.returns
returns c =
    part_closed c.args.page.now (codes "left") (codes "Numbers left") None (left_body c.args.view.now c.args.subject.now)
    c.open_part.ensures c.in_ok-put_body.ensures c.close.ensures
