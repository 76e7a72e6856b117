use Rattle.office_history.proofs.Spns.{spns_are_given_once}
use Rattle.office_history.proofs.laws.spns_are_given_once.Goals as goal

pub returns : goal.returns
returns c = spns_are_given_once
