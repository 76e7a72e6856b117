use Rattle.office.proofs.Common.{sym}
use Rattle.office.proofs.Kept.{first_came, none_came}
use Rattle.office.proofs.first.answer_at.Goals as goal

pub returns-in-None : goal.returns-in-None
returns-in-None c h same a team key =
    none_came c.args.pair.now a team key h c.args.firsts.now.entries same (sym c.in-None.ensures.value)

pub returns-in_ok-answer_again-in-Some : goal.returns-in_ok-answer_again-in-Some
returns-in_ok-answer_again-in-Some c h same a team key =
    let it = first_came c.args.pair.now a team key h c.args.firsts.now.entries same c.in-Some.first.now
    (sym c.in-Some.ensures.value) in
    (it.0, it.1, c.in_ok-answer_again-in-Some.ensures it.0 it.2 it.3)
