use Rattle.std.proofs.Common.{None, sym, subst}
use Rattle.office_rules.specs.Change.{Decides}
use Rattle.office_rules.specs.Commands.{acted}
use Rattle.office_reasons.proofs.bundles.opened.Goals as goal

pub returns-in_ok-decide_open_net-in-OpenNet : goal.returns-in_ok-decide_open_net-in-OpenNet
returns-in_ok-decide_open_net-in-OpenNet c =
    let name = c.args.name.now in
    λ book. subst (λ a. Decides name (record { net = None; book = book }) (acted c.args.team.now name None book a)
    c.in_ok-decide_open_net-in-OpenNet.field-0)
    (sym c.in-OpenNet.is) (c.in_ok-decide_open_net-in-OpenNet.ensures book)
