use Rattle.office.proofs.CarriedThere.{keeps_name}
use Rattle.office.proofs.stepping.step_on_net.Goals as goal

pub returns-clause-name : goal.returns-clause-name
returns-clause-name c =
    keeps_name c.args.command.now.net c.in_ok-decision.decision.changes c.args.net.now c.apply_in_place.new.net
    c.args.book.now c.apply_in_place.new.book
    c.in_ok-apply_in_place.ensures.ok
