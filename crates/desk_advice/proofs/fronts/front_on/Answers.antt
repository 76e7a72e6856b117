use Rattle.desk_advice.proofs.FrontLemmas.{on_cut, on_head, on_wrong}
use Rattle.desk_advice.proofs.fronts.front_on.Goals as goal

pub returns-in_ok-whole-in-Complete : goal.returns-in_ok-whole-in-Complete
returns-in_ok-whole-in-Complete c =
    let found = c.in_ok-whole-in-Complete in
    on_head c.args.head.now c.args.status.now found.whole.items _ _ c.in-Complete.ensures found.ensures

pub returns-in_ok-cut-in-Incomplete : goal.returns-in_ok-cut-in-Incomplete
returns-in_ok-cut-in-Incomplete c =
    let found = c.in_ok-cut-in-Incomplete in
    on_cut c.args.head.now c.args.status.now found.cut.items c.in-Incomplete.ensures found.ensures

pub returns-in_ok-wrong-in-Impossible : goal.returns-in_ok-wrong-in-Impossible
returns-in_ok-wrong-in-Impossible c =
    let found = c.in_ok-wrong-in-Impossible in
    on_wrong c.args.head.now c.args.status.now found.wrong.items c.in-Impossible.ensures found.ensures
