use Rattle.canoffice_cli.proofs.StillOffice.{still_office}
use Rattle.canoffice_cli.proofs.reasons.reason_in_tables.Goals as goal

pub returns-clause-office : goal.returns-clause-office
returns-clause-office g c =
    let seen = c.see.ensures in
    still_office g.S.Store c.args.office.now c.see.new.self c.see.result seen.call seen.held seen.lost seen.statistics
