use Rattle.office_decide.proofs.Common.{None, sym, subst, IfOk-weaker, Decides, acted}
use Rattle.office_decide.proofs.deciding.decide_without_net.Goals as goal

pub returns-in-OpenNet : goal.returns-in-OpenNet
returns-in-OpenNet c =
    let name = c.args.name.now in
    IfOk-weaker c.decide_open_net.result _ _
    (λ d h book. subst (λ a. Decides name (record { net = None; book = book }) (acted c.args.team.now name None book a)
    d) (sym c.in-OpenNet.is) (h book))
    c.decide_open_net.ensures
